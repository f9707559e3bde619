use Rattle.std.proofs.Common.{rules}
use Rattle.proto_text.proofs.splice.apply_splices.Goals as goal

pub returns-in-None : goal.returns-in-None
returns-in-None c = search rules
