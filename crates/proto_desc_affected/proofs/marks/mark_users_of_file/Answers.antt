use Rattle.std.proofs.Common.{ℕ, IfSome, List, [], get_or, length, slice_get, refl, ap, subst, ◌∙◌, arith, below_more, nat_eq}
use Rattle.std.proofs.lemmas.Option.{IfSome_then}
use Rattle.indexmap.specs.IndexMap.{get}
use Rattle.proto_base.proofs.Common.{slice_get-get_or}
use Rattle.proto_desc_affected.specs.Common.{AreUsersMarked, file_summaries_of}
use Rattle.proto_desc_affected.proofs.ToldMarks.{name_stays}
use Rattle.proto_desc_affected.proofs.marks.mark_users_of_file.Goals as goal

pub loop-place-init : goal.loop-place-init
loop-place-init c = record { stay = record { count = refl; set = λ file h. h }; marked = λ k n. absurd (omega (arith, n)) }

pub loop-place-preserved : goal.loop-place-preserved
loop-place-preserved c =
    let l = c.args.link.now in
    let ks = file_summaries_of c.args.kept.files.now in
    let still = get nat_eq c.args.kept.still.now in
    let was = c.loop-place.marks in
    let now = c.mark_users_at.new.marks in
    let rows = get_or l.rows c.args.file [] in
    let stay = c.loop-place.invariant.stay in
    let on = c.mark_users_at.ensures.stay in
    record {
      stay = record { count = on.count ∙ stay.count; set = λ file h. on.set file (stay.set file h) };
      marked = below_more (λ k. IfSome (slice_get rows k) (AreUsersMarked l ks still now)) c.loop-place.place
          (λ k n. IfSome_then (slice_get rows k) (c.loop-place.invariant.marked k n) (name_stays l ks still was now on))
          (subst (λ (xs : List ℕ). IfSome (slice_get xs c.loop-place.place) (AreUsersMarked l ks still now)) c.declared_in-names.ensures.exact c.mark_users_at.ensures.marked);
    }

pub returns-clause-stay : goal.returns-clause-stay
returns-clause-stay c = c.loop-place.invariant.stay

pub returns-clause-marked : goal.returns-clause-marked
returns-clause-marked c = λ k d n.
    (let rows = get_or c.args.link.now.rows c.args.file [] in
    let P = AreUsersMarked c.args.link.now (file_summaries_of c.args.kept.files.now) (get nat_eq c.args.kept.still.now) c.loop-place.marks in
    subst (λ o. IfSome o P) (slice_get-get_or rows k d n) (c.loop-place.invariant.marked k (omega (arith, n, c.loop-place-test.false, c.len-place-end.ensures, ap length c.declared_in-names.ensures.exact))))
