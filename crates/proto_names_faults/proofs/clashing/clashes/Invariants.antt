use Rattle.std.proofs.Common.{◌≡◌, ◌||◌, ℕ, List, map, take}
use Rattle.std.specs.HashSet.{contains_text}
use Rattle.std.specs.List.{list_any}
use Rattle.proto_names_faults.specs.Common.{AreFlawsOf, IsClash, is_other_named, is_package_named, shown}
use Rattle.proto_names_faults.proofs.clashing.clashes.Given as goal

abbrev pub invariant-loop-one : goal.invariant-loop-one
invariant-loop-one l = record {
  names : (text : List ℕ) → contains_text l.taken text ≡ (list_any (is_package_named text) (map shown l.all) || list_any (is_other_named text) (take l.one-index (map shown l.all)));
  flaws : AreFlawsOf (IsClash (map shown l.all) (take l.one-index (map shown l.all))) l.found.items;
}
