use Rattle.proto_edit_rename_described.proofs.OtherTokens.{labels_and_scalars_stay, other_tokens_stay}
use Rattle.proto_edit_rename_described.proofs.laws.other_tokens_stay.Goals as goal

pub returns : goal.returns
returns c = record { labels = labels_and_scalars_stay; tokens = other_tokens_stay }
