use Rattle.proto_answers.proofs.PutEdits.{edits_put_files}
use Rattle.proto_answers.proofs.laws.edits_put_files.Goals as goal

pub returns : goal.returns
returns c = edits_put_files
