use Rattle.proto_tree.specs.declared.piece.Piece.TheVariants as piece
use Rattle.proto_tree.proofs.Nodes.{statement_item, not_here, close_item}
use Rattle.proto_tree.proofs.blocks.single.Goals as goal

pub next_piece-requires : goal.next_piece-requires
next_piece-requires g c = λ e. rw c.CONTEXT.ensures g.met.T.Single.ends

pub returns-in-Some : goal.returns-in-Some
returns-in-Some g c =
    statement_item g.T.Single.CONTEXT g.T.Single.tree c.in-Statement.statement c.in-Some.item c.args.tokens.now c.in_ok-piece.rest.now (rw (c.CONTEXT.ensures, c.in-Statement.is) at c.in_ok-piece.ensures) c.in-Some.ensures

pub returns-in-None : goal.returns-in-None
returns-in-None g c =
    not_here g.T.Single.CONTEXT (piece.Statement c.in-Statement.statement) c.args.tokens.now c.in_ok-piece.rest.now (rw (c.CONTEXT.ensures, c.in-Statement.is) at c.in_ok-piece.ensures) c.in-None.ensures (λ e. g.met.T.Single.ends)

pub returns-in-Open : goal.returns-in-Open
returns-in-Open g c =
    not_here g.T.Single.CONTEXT (piece.Open c.in-Open.header c.in-Open.field-1) c.args.tokens.now c.in_ok-piece.rest.now (rw (c.CONTEXT.ensures, c.in-Open.is) at c.in_ok-piece.ensures) (g.met.T.Single.holds_no_block c.in-Open.header) (λ e. g.met.T.Single.ends)

pub returns-in-Close : goal.returns-in-Close
returns-in-Close g c =
    close_item g.T.Single.CONTEXT c.in-Close.close c.args.tokens.now c.in_ok-piece.rest.now (rw (c.CONTEXT.ensures, c.in-Close.is) at c.in_ok-piece.ensures) g.met.T.Single.ends
