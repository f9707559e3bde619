use Rattle.proto_files.proofs.OneLeast.{neither_before}
use Rattle.proto_files.proofs.laws.least_is_one.Goals as goal

pub returns : goal.returns
returns c = neither_before
