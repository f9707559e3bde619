use Rattle.std.proofs.Common.{◌≡◌, take}
use Rattle.proto_option_files.proofs.option_files.copied_sets.Given as goal

abbrev pub invariant-loop-set : goal.invariant-loop-set
invariant-loop-set l = l.copy.items ≡ take l.set-index l.sets
