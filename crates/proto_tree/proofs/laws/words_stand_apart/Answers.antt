use Rattle.proto_tree.proofs.SpacedWords.{words_stand_apart}
use Rattle.proto_tree.proofs.laws.words_stand_apart.Goals as goal

pub returns : goal.returns
returns c = words_stand_apart
