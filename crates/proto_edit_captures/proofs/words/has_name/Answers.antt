use Rattle.proto_edit_captures.proofs.Aims.{aim_inside}
use Rattle.proto_edit_captures.proofs.words.has_name.Goals as goal

pub word-requires : goal.word-requires
word-requires c = (aim_inside c.args.files.now c.are_read.ensures.0 c.are_read.ensures.1 c.args.target c.requires).0
