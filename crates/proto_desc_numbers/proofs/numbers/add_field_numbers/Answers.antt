use Rattle.std.proofs.Common.{arith}
use Rattle.std.proofs.lemmas.Grind.{common_steps}
use Rattle.proto_desc_numbers.proofs.numbers.add_field_numbers.Goals as goal

pub returns : goal.returns
returns c = grind (arith, common_steps)
