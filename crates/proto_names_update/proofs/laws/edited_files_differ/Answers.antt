use Rattle.proto_names_update.proofs.Differing.{edited_files_differ}
use Rattle.proto_names_update.proofs.laws.edited_files_differ.Goals as goal

pub returns : goal.returns
returns c = edited_files_differ
