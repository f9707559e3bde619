use Rattle.proto_text.proofs.WordTest.{word_test}
use Rattle.proto_text.proofs.word.is_word.Goals as goal

pub returns : goal.returns
returns c = rw c.as_bytes.ensures.value at (word_test _ _ c.are_word.ensures)
