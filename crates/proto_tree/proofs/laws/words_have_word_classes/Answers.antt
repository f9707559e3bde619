use Rattle.proto_tree.proofs.WordLaws.{words_have_word_classes}
use Rattle.proto_tree.proofs.laws.words_have_word_classes.Goals as goal

pub returns : goal.returns
returns c = words_have_word_classes
