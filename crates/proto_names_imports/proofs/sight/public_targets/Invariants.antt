use Rattle.std.proofs.Common.{◌≡◌, map, filter, take}
use Rattle.proto_names_imports.proofs.sight.public_targets.Given as goal

abbrev pub invariant-loop-import : goal.invariant-loop-import
invariant-loop-import l = l.files.items ≡ map (λ i. i.to) (filter (λ i. i.is_public) (take l.import-index l.imports))
