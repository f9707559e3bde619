use Rattle.std.proofs.Common.{take}
use Rattle.proto_names_affected.specs.KindRows.{HasLastWords}
use Rattle.proto_names_affected.proofs.kind_rows.last_word_keys.Given as goal

abbrev pub invariant-loop-row : goal.invariant-loop-row
invariant-loop-row l = HasLastWords l.table (take l.row-index l.rows) l.keys.keys
