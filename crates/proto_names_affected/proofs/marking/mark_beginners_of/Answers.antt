use Rattle.std.proofs.Common.{ℕ, ◌<◌, List, length, map, take, sym, ◌∙◌, subst, arith, take_all, All}
use Rattle.std.specs.List.{Contains}
use Rattle.std.proofs.lemmas.List.Elements.{All-contains, All-more, All-nil, All-weaker}
use Rattle.proto_file_sets.proofs.Members.{file_is_listed, files_below, in_within}
use Rattle.proto_names_table.specs.declared.ids.Meant.{Meant}
use Rattle.proto_names_affected.specs.Marking.{IsBeginnerMarked}
use Rattle.proto_names_affected.proofs.Marks.{stay_more, stay_same}
use Rattle.proto_names_affected.proofs.marking.mark_beginners_of.Goals as goal

pub loop-file-init : goal.loop-file-init
loop-file-init c = record {
  stay = stay_same c.args.marks.now;
  marked = All-nil (IsBeginnerMarked c.args.marks.now (map (λ v. v.items) c.args.meant.now) c.args.key);
}

pub mark_beginner-requires-clause-count : goal.mark_beginner-requires-clause-count
mark_beginner-requires-clause-count c = omega (arith, c.requires.count, c.loop-file.invariant.stay.count)

pub mark_beginner-requires-clause-file : goal.mark_beginner-requires-clause-file
mark_beginner-requires-clause-file c =
    let files = c.args.files.now in
    let below = subst (All (λ (f : ℕ). f < length files)) (sym (c.deref-file-items.ensures.value ∙ c.in_ok-asked.ensures)) (files_below files) in
    omega (arith, below c.loop-file.file-index 0 c.loop-file-test.true, c.requires.files, c.loop-file.invariant.stay.count)

pub loop-file-preserved : goal.loop-file-preserved
loop-file-preserved c =
    let meant : List (List Meant) = map (λ v. v.items) c.args.meant.now in
    let was = c.loop-file.marks in
    let now = c.mark_beginner.new.marks in
    let stay = c.mark_beginner.ensures.stay in
    let i = c.loop-file.file-index in
    let asked = c.deref-file-items.result.now in
    record {
      stay = stay_more c.args.marks.now was now c.loop-file.invariant.stay stay;
      marked = All-more (IsBeginnerMarked now meant c.args.key) asked i 0 c.loop-file-test.true
          (All-weaker (IsBeginnerMarked was meant c.args.key) (IsBeginnerMarked now meant c.args.key) (λ file h m has is. stay.set file (h m has is)) (take i asked) c.loop-file.invariant.marked)
          c.mark_beginner.ensures.marked;
    }

pub returns-clause-stay : goal.returns-clause-stay
returns-clause-stay c = c.loop-file.invariant.stay

pub returns-clause-marked : goal.returns-clause-marked
returns-clause-marked c = λ file on.
    (let files = c.args.files.now in
    let asked = c.deref-file-items.result.now in
    let P = IsBeginnerMarked c.loop-file.marks (map (λ v. v.items) c.args.meant.now) c.args.key in
    let whole = take_all c.loop-file.file-index asked c.loop-file-test.false in
    let listed = subst (λ (fs : List ℕ). Contains fs file) (sym (c.deref-file-items.ensures.value ∙ c.in_ok-asked.ensures)) (file_is_listed files file (in_within files file on) on) in
    All-contains P asked file (subst (All P) whole c.loop-file.invariant.marked) listed)
