use Rattle.proto_names.proofs.LinkLaws.{uses_are_words}
use Rattle.proto_names.proofs.laws.uses_are_words.Goals as goal

pub returns : goal.returns
returns c = uses_are_words
