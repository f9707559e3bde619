use Rattle.std.proofs.Common.{arith}
use Rattle.std.proofs.lemmas.Grind.{common_steps}
use Rattle.proto_desc_checks.proofs.options.add_option_flaws.Goals as goal

pub returns : goal.returns
returns c = grind (arith, common_steps)
