use Rattle.proto_text.proofs.Reading.{tokens_read_pieces}
use Rattle.proto_text.proofs.laws.tokens_read_pieces.Goals as goal

pub returns : goal.returns
returns c = tokens_read_pieces
