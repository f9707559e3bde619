use Rattle.std.proofs.Common.{map, ap, arith, ◌∙◌, take_all}
use Rattle.std.proofs.lemmas.Grind.{common_steps}
use Rattle.proto_names_imports.proofs.import.targets.Goals as goal

pub returns : goal.returns
returns c = c.loop-import.invariant ∙ ap (map (λ i. i.to)) (take_all c.loop-import.import-index c.args.imports.now c.loop-import-test.false)

pub loop-import-preserved : goal.loop-import-preserved
loop-import-preserved c = grind (arith, common_steps)
