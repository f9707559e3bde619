use Rattle.proto_edit_rename_described.proofs.DefaultWords.{fields_have_roles}
use Rattle.proto_edit_rename_described.proofs.DefaultsFit.{all_defaults_fit}
use Rattle.proto_edit_rename_described.proofs.laws.all_defaults_fit.Goals as goal

pub returns : goal.returns
returns c = record { fields = fields_have_roles; fit = all_defaults_fit }
