use Rattle.std.proofs.Common.{length}
use Rattle.proto_journal_records.proofs.JournalLists.{IsReadTo}
use Rattle.proto_journal_records.proofs.journal.read_all.Given as goal

abbrev pub invariant-loop-left : goal.invariant-loop-left
invariant-loop-left l = IsReadTo l.version l.bytes l.records.items l.left

abbrev pub decreases-loop-left : goal.decreases-loop-left
decreases-loop-left l = length l.left
