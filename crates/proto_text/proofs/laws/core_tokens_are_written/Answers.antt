use Rattle.proto_text.proofs.CoreTokens.{core_tokens_have_no_colon, tokens_without_colon}
use Rattle.proto_text.proofs.Once.{tokens_are_written, tokens_of_text}
use Rattle.proto_text.proofs.laws.core_tokens_are_written.Goals as goal

pub returns : goal.returns
returns c = record { tokens = tokens_of_text; written = tokens_are_written; no_colon = core_tokens_have_no_colon; without = tokens_without_colon }
