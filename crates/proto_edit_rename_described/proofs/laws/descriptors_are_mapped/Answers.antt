use Rattle.proto_edit_rename_described.proofs.Mapped.{descriptors_are_mapped}
use Rattle.proto_edit_rename_described.proofs.laws.descriptors_are_mapped.Goals as goal

pub returns : goal.returns
returns c = descriptors_are_mapped
