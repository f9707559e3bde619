use Rattle.std.proofs.Common.{List, ℕ, Option, Bor, drop}
use Rattle.json.specs.Print.{escape}
use Rattle.proto_journal_records.specs.Behind.{IsBehind}
use Rattle.proto_journal_records.proofs.matching.behind_escaped.Given as goal

abbrev pub invariant-loop-byte : goal.invariant-loop-byte
invariant-loop-byte l = (o : Option (Bor (List ℕ))) → IsBehind (escape (drop l.byte-index l.text)) l.rest o → IsBehind (escape l.text) l.fn.bytes o
