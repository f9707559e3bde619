use Rattle.std.proofs.Common.{◌≡◌, ℕ, ◌≤◌, List, length, take}
use Rattle.proto_names_rules.proofs.Common.{joined, ArePlain, front}
use Rattle.proto_names_table.specs.Common.{names_of, NoneAbove}
use Rattle.proto_names_table.proofs.table.Table.search.Given as goal

abbrev pub invariant-loop-row : goal.invariant-loop-row
invariant-loop-row l = record {
  within : l.number ≤ length l.self.rows.items;
  fronts : (path : List (List ℕ)) → ArePlain path → front (names_of l.self) l.fn.scope ≡ joined path → (k : ℕ) × (k ≤ length path) × (front (names_of l.self) l.number ≡ joined (take k path)) × NoneAbove l.self l.seen l.word.wants l.word.is_last path l.word.text.now k;
}

abbrev pub decreases-loop-row : goal.decreases-loop-row
decreases-loop-row l = l.number
