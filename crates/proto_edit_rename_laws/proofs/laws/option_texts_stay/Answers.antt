use Rattle.proto_edit_rename_laws.proofs.CustomTokens.{option_texts_stay, option_tokens_stay}
use Rattle.proto_edit_rename_laws.proofs.laws.option_texts_stay.Goals as goal

pub returns : goal.returns
returns c = record { tokens = option_tokens_stay; texts = option_texts_stay }
