use Rattle.proto_edit_statement_described.proofs.MovedImports.{additions_are_mapped, drops_are_mapped}
use Rattle.proto_edit_statement_described.proofs.laws.imports_are_mapped.Goals as goal

pub returns : goal.returns
returns c = record { added = additions_are_mapped; dropped = drops_are_mapped }
