use Rattle.std.proofs.Common.{◌≡◌, ◌++◌, take, flat_map}
use Rattle.proto_desc_extensions.proofs.SeenExtensions.{outside_at}
use Rattle.proto_desc_extensions.proofs.flaws.add_outside.Given as goal

abbrev pub invariant-loop-extension : goal.invariant-loop-extension
invariant-loop-extension l = l.found.items ≡ l.initial.found.items ++ flat_map outside_at (take l.extension-index l.extensions)
