use Rattle.std.proofs.Common.{length}
use Rattle.proto_journal_records.proofs.Lines.{IsReadBack}
use Rattle.proto_journal_records.proofs.journal.without_last.Given as goal

abbrev pub invariant-loop-byte : goal.invariant-loop-byte
invariant-loop-byte l = IsReadBack l.journal l.left

abbrev pub decreases-loop-byte : goal.decreases-loop-byte
decreases-loop-byte l = length l.left
