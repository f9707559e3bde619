use Rattle.proto_desc_affected.proofs.Checked.{kept_files_tell_unaffected}
use Rattle.proto_desc_affected.proofs.laws.kept_files_tell_unaffected.Goals as goal

pub returns : goal.returns
returns c = kept_files_tell_unaffected
