use Rattle.proto_edit_rename_described.proofs.EnumDefaults.{enum_defaults_fit}
use Rattle.proto_edit_rename_described.proofs.laws.enum_defaults_fit.Goals as goal

pub returns : goal.returns
returns c = enum_defaults_fit
