use Rattle.std.proofs.Common.{◌≡◌, map, take}
use Rattle.proto_edit_entries.specs.Entries.{change_of, inverted}
use Rattle.proto_edit_entries.proofs.change.all_turned_round.Given as goal

abbrev pub invariant-loop-change : goal.invariant-loop-change
invariant-loop-change l = map change_of l.back.items ≡ inverted (map change_of (take l.change-index l.changes))
