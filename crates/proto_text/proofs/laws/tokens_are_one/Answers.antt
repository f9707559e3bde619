use Rattle.proto_text.proofs.Once.{one_token_list, no_fault_with_tokens, no_fault_with_tokens_in}
use Rattle.proto_text.proofs.laws.tokens_are_one.Goals as goal

pub returns : goal.returns
returns c = record { one = one_token_list; no_fault = no_fault_with_tokens; no_fault_in = no_fault_with_tokens_in }
