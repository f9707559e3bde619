use Rattle.proto_edit_statement_laws.proofs.MovedNames.{imports_move_names, trees_move_imports, trees_move_names}
use Rattle.proto_edit_statement_laws.proofs.laws.trees_move_names.Goals as goal

pub returns : goal.returns
returns c = record { names = trees_move_names; imports = trees_move_imports; apart = imports_move_names }
