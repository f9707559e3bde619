use Rattle.std.proofs.Common.{arith}
use Rattle.std.proofs.lemmas.Grind.{common_steps}
use Rattle.proto_files.proofs.files.Files.tokens.Goals as goal

pub returns-clause-tokens : goal.returns-clause-tokens
returns-clause-tokens c = grind (arith, common_steps)

pub returns-clause-spans : goal.returns-clause-spans
returns-clause-spans c = grind (arith, common_steps)
