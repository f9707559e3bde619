use Rattle.proto_edit_statement_laws.proofs.Exchanged.{statements_are_exchanged}
use Rattle.proto_edit_statement_laws.proofs.LexemesMoved.{lexemes_are_moved}
use Rattle.proto_edit_statement_laws.proofs.Reversed.{exchanges_are_reversed}
use Rattle.proto_edit_statement_laws.proofs.laws.statements_are_exchanged.Goals as goal

pub returns : goal.returns
returns c = record { tree = statements_are_exchanged; tokens = lexemes_are_moved; back = exchanges_are_reversed }
