use Rattle.std.proofs.Common.{◌≡◌, map, take}
use Rattle.proto_names_imports.proofs.import.targets.Given as goal

abbrev pub invariant-loop-import : goal.invariant-loop-import
invariant-loop-import l = l.files.items ≡ map (λ i. i.to) (take l.import-index l.imports)
