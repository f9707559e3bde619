use Rattle.std.proofs.Common.{ℕ, Bool, List, get_or, length, map, refl, take, sym, ap, subst, arith, take_all, All}
use Rattle.std.proofs.lemmas.List.{length-map}
use Rattle.std.proofs.lemmas.List.Elements.{All-contains, All-more, All-nil, All-weaker}
use Rattle.proto_names_table.specs.declared.ids.Meant.{Meant}
use Rattle.proto_names_affected.specs.Marking.{IsBeginnerMarked, IsMarked}
use Rattle.proto_names_affected.proofs.WordSets.{files_short, is_among}
use Rattle.proto_names_affected.proofs.Marks.{stay_more, stay_same}
use Rattle.proto_names_affected.proofs.marking.mark_beginners.Goals as goal

abbrev AreMarked : List Bool → List (List Meant) → ℕ → Type 0
AreMarked marks meant key = (file : ℕ) → IsBeginnerMarked marks meant key file

pub loop-key-init : goal.loop-key-init
loop-key-init c = record {
  stay = stay_same c.args.marks.now;
  marked = All-nil (AreMarked c.args.marks.now (map (λ v. v.items) c.args.meant.now));
}

pub mark_beginners_of-requires-clause-count : goal.mark_beginners_of-requires-clause-count
mark_beginners_of-requires-clause-count c = omega (arith, c.requires.count, c.loop-key.invariant.stay.count)

pub mark_beginners_of-requires-clause-files : goal.mark_beginners_of-requires-clause-files
mark_beginners_of-requires-clause-files c =
    let meant : List (List Meant) = map (λ v. v.items) c.args.meant.now in
    let key = get_or c.as_slice-key-items.result.now c.loop-key.key-index 0 in
    omega (arith, ap length c.files_of.ensures.files, files_short c.args.firsts.now meant c.requires.firsts key, length-map c.args.meant.now (λ v. v.items), c.requires.count, c.loop-key.invariant.stay.count)

pub loop-key-preserved : goal.loop-key-preserved
loop-key-preserved c =
    let meant : List (List Meant) = map (λ v. v.items) c.args.meant.now in
    let keys = c.args.keys.now.keys in
    let i = c.loop-key.key-index in
    let was = c.loop-key.marks in
    let now = c.mark_beginners_of.new.marks in
    let stay = c.in_ok-mark_beginners_of.ensures.stay in
    let own = c.as_slice-key-items.ensures.keys in
    let here : AreMarked now meant (get_or c.as_slice-key-items.result.now i 0) = λ file m has is.
    (c.in_ok-mark_beginners_of.ensures.marked file
    (subst (λ set. IsMarked set file) (sym c.files_of.ensures.files) (is_among c.args.firsts.now meant c.requires.firsts file (get_or c.as_slice-key-items.result.now i 0) m has is)) m has is) in
    record {
      stay = stay_more c.args.marks.now was now c.loop-key.invariant.stay stay;
      marked = All-more (AreMarked now meant) keys i 0 (omega (arith, c.loop-key-test.true, ap length own))
          (All-weaker (AreMarked was meant) (AreMarked now meant) (λ key h file m has is. stay.set file (h file m has is)) (take i keys) c.loop-key.invariant.marked)
          (subst (λ (xs : List ℕ). AreMarked now meant (get_or xs i 0)) own here);
    }

pub returns-clause-stay : goal.returns-clause-stay
returns-clause-stay c = c.loop-key.invariant.stay

pub returns-clause-marked : goal.returns-clause-marked
returns-clause-marked c = λ file m has key.
    (let meant : List (List Meant) = map (λ v. v.items) c.args.meant.now in
    let keys = c.args.keys.now.keys in
    let P = AreMarked c.loop-key.marks meant in
    let whole = take_all c.loop-key.key-index keys (omega (arith, c.loop-key-test.false, ap length c.as_slice-key-items.ensures.keys)) in
    All-contains P keys m.first (subst (All P) whole c.loop-key.invariant.marked) key file m has refl)
