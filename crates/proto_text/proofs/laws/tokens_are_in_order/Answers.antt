use Rattle.proto_text.proofs.Order.{tokens_are_in_order, tokens_are_lexemes}
use Rattle.proto_text.proofs.laws.tokens_are_in_order.Goals as goal

pub returns : goal.returns
returns c = record { order = tokens_are_in_order; lexemes = tokens_are_lexemes }
