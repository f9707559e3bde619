use Rattle.std.proofs.Common.{All, take, refl, subst, ◌∙◌, take_all, nat_eq}
use Rattle.std.proofs.lemmas.List.Elements.{All-more, All-nil}
use Rattle.indexmap.specs.IndexMap.{get}
use Rattle.proto_names.specs.Linking.{RefId}
use Rattle.proto_desc_affected.specs.Common.{IsUserMarked, file_summaries_of}
use Rattle.proto_desc_affected.proofs.ToldMarks.{users_stay}
use Rattle.proto_desc_affected.proofs.marks.mark_users_of_name.Goals as goal

abbrev none : RefId
none = record { file = 0; token = 0 }

pub loop-user-init : goal.loop-user-init
loop-user-init c = record { stay = record { count = refl; set = λ file h. h }; marked = All-nil (IsUserMarked c.args.link.now (file_summaries_of c.args.kept.files.now) (get nat_eq c.args.kept.still.now) c.args.marks.now c.args.name.row) }

pub loop-user-preserved : goal.loop-user-preserved
loop-user-preserved c =
    let l = c.args.link.now in
    let ks = file_summaries_of c.args.kept.files.now in
    let still = get nat_eq c.args.kept.still.now in
    let row = c.args.name.row in
    let now = c.mark_user.new.marks in
    let stay = c.loop-user.invariant.stay in
    let on = c.mark_user.ensures.stay in
    let users = c.references-user-items.result.now in
    record {
      stay = record { count = on.count ∙ stay.count; set = λ file h. on.set file (stay.set file h) };
      marked = All-more (IsUserMarked l ks still now row) users c.loop-user.user-index none c.loop-user-test.true
          (users_stay l ks still c.loop-user.marks now on row (take c.loop-user.user-index users) c.loop-user.invariant.marked) c.mark_user.ensures.marked;
    }

pub returns-clause-stay : goal.returns-clause-stay
returns-clause-stay c = c.loop-user.invariant.stay

pub returns-clause-marked : goal.returns-clause-marked
returns-clause-marked c =
    let P = IsUserMarked c.args.link.now (file_summaries_of c.args.kept.files.now) (get nat_eq c.args.kept.still.now) c.loop-user.marks c.args.name.row in
    subst (All P) c.references-user-items.ensures.exact (subst (All P) (take_all c.loop-user.user-index c.references-user-items.result.now c.loop-user-test.false) c.loop-user.invariant.marked)
