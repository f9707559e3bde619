use Rattle.std.proofs.Common.{rules}
use Rattle.proto_desc_checks.proofs.file.file_flaws.Goals as goal

pub returns : goal.returns
returns c = search rules
