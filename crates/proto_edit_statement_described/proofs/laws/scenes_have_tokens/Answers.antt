use Rattle.proto_edit_statement_described.proofs.DeletedExtensions.{other_scenes_stay}
use Rattle.proto_edit_statement_described.proofs.DeletedScenes.{scenes_have_tokens}
use Rattle.proto_edit_statement_described.proofs.laws.scenes_have_tokens.Goals as goal

pub returns : goal.returns
returns c = record { edited = scenes_have_tokens; others = other_scenes_stay }
