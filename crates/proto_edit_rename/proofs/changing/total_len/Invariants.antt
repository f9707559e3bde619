use Rattle.std.proofs.Common.{◌≡◌, ◌+◌, drop}
use Rattle.proto_edit_rename.specs.MadeChanges.{bytes_in}
use Rattle.proto_edit_rename.proofs.changing.total_len.Given as goal

abbrev pub invariant-loop-token : goal.invariant-loop-token
invariant-loop-token l = l.total + bytes_in (drop l.token-index l.tokens) ≡ bytes_in l.tokens
