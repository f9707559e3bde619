use Rattle.proto_edit_statement_described.proofs.NamedFiles.{trees_are_named}
use Rattle.proto_edit_statement_described.proofs.Trees.{trees_are_deleted}
use Rattle.proto_edit_statement_described.proofs.laws.trees_are_deleted.Goals as goal

pub returns : goal.returns
returns c = record { deleted = trees_are_deleted; named = trees_are_named }
