use Rattle.proto_desc_build.proofs.WrittenDescriptors.{descriptors_ask_no_language}
use Rattle.proto_desc_build.proofs.laws.descriptors_ask_no_language.Goals as goal

pub returns : goal.returns
returns c = descriptors_ask_no_language
