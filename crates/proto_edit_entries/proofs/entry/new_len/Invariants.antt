use Rattle.std.proofs.Common.{◌≡◌, take, sum_by}
use Rattle.proto_edit_entries.proofs.EntrySums.{new_of}
use Rattle.proto_edit_entries.proofs.entry.new_len.Given as goal

abbrev pub invariant-loop-splice : goal.invariant-loop-splice
invariant-loop-splice l = l.total ≡ sum_by new_of (take l.splice-index l.splices)
