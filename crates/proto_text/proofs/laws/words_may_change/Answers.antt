use Rattle.proto_base.specs.declared.profile.Profile.TheVariants as profile
use Rattle.proto_text.proofs.CoreTokens.{words_may_change}
use Rattle.proto_text.proofs.laws.words_may_change.Goals as goal

pub returns : goal.returns
returns c = record { words = words_may_change profile.Core; words_in = words_may_change }
