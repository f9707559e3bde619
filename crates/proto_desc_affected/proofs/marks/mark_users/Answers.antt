use Rattle.std.proofs.Common.{ℕ, List, All, [], get_or, take, refl, subst, ◌∙◌, take_all, nat_eq}
use Rattle.std.proofs.lemmas.List.Elements.{All-more, All-nil}
use Rattle.indexmap.specs.IndexMap.{get}
use Rattle.proto_desc_affected.specs.Common.{AreUsersMarked, AreUsersOfFilesMarked, file_summaries_of}
use Rattle.proto_desc_affected.proofs.ToldMarks.{files_stay}
use Rattle.proto_desc_affected.proofs.marks.mark_users.Goals as goal

pub loop-place-init : goal.loop-place-init
loop-place-init c = record {
  stay = record { count = refl; set = λ file h. h };
  marked = All-nil (λ (file : ℕ). All (AreUsersMarked c.args.link.now (file_summaries_of c.args.kept.files.now) (get nat_eq c.args.kept.still.now) c.args.marks.now) (get_or c.args.link.now.rows file []));
}

pub loop-place-preserved : goal.loop-place-preserved
loop-place-preserved c =
    let l = c.args.link.now in
    let ks = file_summaries_of c.args.kept.files.now in
    let still = get nat_eq c.args.kept.still.now in
    let now = c.mark_users_of_file.new.marks in
    let stay = c.loop-place.invariant.stay in
    let on = c.mark_users_of_file.ensures.stay in
    record {
      stay = record { count = on.count ∙ stay.count; set = λ file h. on.set file (stay.set file h) };
      marked = All-more (λ (file : ℕ). All (AreUsersMarked l ks still now) (get_or l.rows file [])) c.args.places.now c.loop-place.place-index 0 c.loop-place-test.true
          (files_stay l ks still c.loop-place.marks now on (take c.loop-place.place-index c.args.places.now) c.loop-place.invariant.marked) c.mark_users_of_file.ensures.marked;
    }

pub returns-clause-stay : goal.returns-clause-stay
returns-clause-stay c = c.loop-place.invariant.stay

pub returns-clause-marked : goal.returns-clause-marked
returns-clause-marked c =
    subst (λ (ps : List ℕ). AreUsersOfFilesMarked ps c.args.link.now (file_summaries_of c.args.kept.files.now) (get nat_eq c.args.kept.still.now) c.loop-place.marks)
    (take_all c.loop-place.place-index c.args.places.now c.loop-place-test.false) c.loop-place.invariant.marked
