use Rattle.std.proofs.Common.{◌≡◌, take}
use Rattle.proto_journal_records.specs.Common.{Second, journal_text}
use Rattle.proto_journal_records.proofs.journal.second_text.Given as goal

abbrev pub invariant-loop-noted : goal.invariant-loop-noted
invariant-loop-noted l = l.bytes.items ≡ journal_text Second (take l.noted-index l.records)
