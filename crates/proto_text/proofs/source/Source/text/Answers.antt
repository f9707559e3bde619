use Rattle.std.proofs.Common.{rules}
use Rattle.proto_text.proofs.source.Source.text.Goals as goal

pub returns : goal.returns
returns c = search rules
