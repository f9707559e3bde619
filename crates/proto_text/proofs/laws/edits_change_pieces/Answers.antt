use Rattle.proto_text.proofs.PieceEdits.{edits_change_pieces}
use Rattle.proto_text.proofs.laws.edits_change_pieces.Goals as goal

pub returns : goal.returns
returns c = edits_change_pieces
