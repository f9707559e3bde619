use Rattle.proto_text.proofs.Texts.{words_are_put}
use Rattle.proto_text.proofs.OneEdit.{words_are_changed, other_words_stay, count_stays, one_word_is_one_edit}
use Rattle.proto_text.proofs.laws.words_are_put.Goals as goal

pub returns : goal.returns
returns c = record { put = words_are_put; words = words_are_changed; others = other_words_stay; count = count_stays; one = one_word_is_one_edit }
