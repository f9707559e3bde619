use Rattle.std.proofs.Common.{◌≡◌, ◌≤◌, length, IsUtf8}
use Rattle.proto_names_rules.specs.Forest.{under, front}
use Rattle.proto_names_table.specs.Tables.{names_of}
use Rattle.proto_names_table.proofs.table.Table.index_of_name.Given as goal

abbrev pub invariant-loop-word : goal.invariant-loop-word
invariant-loop-word l = record { within : l.number ≤ length l.self.rows.items; text : under (front (names_of l.self) l.number) l.rest ≡ l.text; utf8 : IsUtf8 l.rest }

abbrev pub decreases-loop-word : goal.decreases-loop-word
decreases-loop-word l = length l.rest
