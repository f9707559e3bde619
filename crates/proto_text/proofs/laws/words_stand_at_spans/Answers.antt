use Rattle.proto_text.proofs.OneEdit.{words_stand_at_spans}
use Rattle.proto_text.proofs.laws.words_stand_at_spans.Goals as goal

pub returns : goal.returns
returns c = words_stand_at_spans
