use Rattle.proto_desc_build.proofs.CappedDescriptors.{caps_keep_the_descriptor}
use Rattle.proto_desc_build.proofs.laws.caps_keep_the_descriptor.Goals as goal

pub returns : goal.returns
returns c = caps_keep_the_descriptor
