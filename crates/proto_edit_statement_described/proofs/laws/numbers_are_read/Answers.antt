use Rattle.proto_edit_statement_described.proofs.Decimals.{decimals_are_numbers}
use Rattle.proto_edit_statement_described.proofs.SmallNumbers.{numbers_are_small}
use Rattle.proto_edit_statement_described.proofs.laws.numbers_are_read.Goals as goal

pub returns : goal.returns
returns c = record { small = numbers_are_small; decimal = decimals_are_numbers }
