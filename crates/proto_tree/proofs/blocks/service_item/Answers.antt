use Rattle.std.proofs.Common.{refl}
use Rattle.std.proofs.lemmas.Result.{err_from_is_err_and}
use Rattle.proto_tree.specs.declared.context.Context.TheVariants as context
use Rattle.proto_tree.specs.declared.piece.Header.TheVariants as header
use Rattle.proto_tree.specs.declared.piece.Piece.TheVariants as piece
use Rattle.proto_tree.specs.File.{trees, method_item_tree, service_item_tree}
use Rattle.proto_tree.proofs.Nodes.{statement_item, not_here, close_item, block_item, fault_inside, no_other_in_service}
use Rattle.proto_tree.proofs.blocks.service_item.Goals as goal

pub returns-in-Some : goal.returns-in-Some
returns-in-Some c =
    statement_item context.Service service_item_tree c.in-Statement.statement c.in-Some.item c.args.tokens.now c.in_ok-piece.rest.now (rw c.in-Statement.is at c.in_ok-piece.ensures) c.in-Some.ensures

pub returns-in-None : goal.returns-in-None
returns-in-None c =
    not_here context.Service (piece.Statement c.in-Statement.statement) c.args.tokens.now c.in_ok-piece.rest.now (rw c.in-Statement.is at c.in_ok-piece.ensures) c.in-None.ensures (λ e. refl)

pub returns-in_default : goal.returns-in_default
returns-in_default c =
    not_here context.Service (piece.Open c.in-Open.header c.in-Open.«open») c.args.tokens.now c.in_ok-piece.rest.now (rw c.in-Open.is at c.in_ok-piece.ensures) (no_other_in_service c.in-Open.header c.in_default.not-Method) (λ e. refl)

pub returns-in_err-items-in-Method : goal.returns-in_err-items-in-Method
returns-in_err-items-in-Method c =
    let p = err_from_is_err_and c.from_residual-in_err-items-in-Method.result c.from_residual-in_err-items-in-Method.ensures.1 in
    let met = rw c.in-Open.is at c.in_ok-piece.ensures in
    let found = rw c.in-Method.is at met in
    rw (p.1, p.2) (fault_inside context.Service (header.Method c.in-Method.signature) c.in-Open.«open» c.args.tokens.now c.in_ok-piece.rest.now c.in_err-items-in-Method.field-0.0 found refl c.in_err-items-in-Method.ensures)

pub returns-in_ok-items-in-Method : goal.returns-in_ok-items-in-Method
returns-in_ok-items-in-Method c =
    let met = rw c.in-Open.is at c.in_ok-piece.ensures in
    let found = rw c.in-Method.is at met in
    block_item context.Service (header.Method c.in-Method.signature) c.in-Open.«open» (trees method_item_tree c.in_ok-items-in-Method.items.items) c.in_ok-items-in-Method.close c.args.tokens.now c.in_ok-piece.rest.now c.in_ok-items-in-Method.rest.now found refl
    c.in_ok-items-in-Method.ensures

pub returns-in-Close : goal.returns-in-Close
returns-in-Close c = close_item context.Service c.in-Close.close c.args.tokens.now c.in_ok-piece.rest.now (rw c.in-Close.is at c.in_ok-piece.ensures) refl
