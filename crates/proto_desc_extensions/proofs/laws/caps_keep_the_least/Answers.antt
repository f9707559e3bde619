use Rattle.proto_desc_extensions.proofs.CappedExtensions.{caps_keep_the_least}
use Rattle.proto_desc_extensions.proofs.laws.caps_keep_the_least.Goals as goal

pub returns : goal.returns
returns c = caps_keep_the_least
