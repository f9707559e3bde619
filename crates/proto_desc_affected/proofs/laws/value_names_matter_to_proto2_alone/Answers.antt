use Rattle.proto_desc_affected.proofs.ValueDescriptors.{value_names_matter_to_no_descriptor}
use Rattle.proto_desc_affected.proofs.ValueExtensions.{value_names_matter_to_no_extension}
use Rattle.proto_desc_affected.proofs.ValueFlaws.{value_names_matter_to_no_proto3_flaws}
use Rattle.proto_desc_affected.proofs.laws.value_names_matter_to_proto2_alone.Goals as goal

pub returns-clause-flaws : goal.returns-clause-flaws
returns-clause-flaws c = value_names_matter_to_no_proto3_flaws

pub returns-clause-descriptors : goal.returns-clause-descriptors
returns-clause-descriptors c = value_names_matter_to_no_descriptor

pub returns-clause-extensions : goal.returns-clause-extensions
returns-clause-extensions c = value_names_matter_to_no_extension
