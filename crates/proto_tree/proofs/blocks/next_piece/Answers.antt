use Rattle.proto_tree.proofs.Nodes.{stuck_none}
use Rattle.proto_tree.proofs.blocks.next_piece.Goals as goal

pub returns-in-Err-Syntax : goal.returns-in-Err-Syntax
returns-in-Err-Syntax c = stuck_none c.args.context c.args.tokens.now (rw c.in-Err-Syntax.field-0-is at c.in-Err-Syntax.ensures) c.requires
