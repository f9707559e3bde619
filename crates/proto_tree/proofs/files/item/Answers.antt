use Rattle.std.proofs.lemmas.Result.{err_from_is_err_and}
use Rattle.proto_tree.specs.File.{item_tree}
use Rattle.proto_tree.proofs.Nodes.{IsAllowed, refused_here, file_statement, file_block, file_inside}
use Rattle.proto_tree.proofs.files.item.Goals as goal

pub returns-then-not-allows : goal.returns-then-not-allows
returns-then-not-allows c = refused_here c.args.context c.in_ok-piece.piece c.args.tokens.now c.in_ok-piece.rest.now c.kind_of-kind.result c.in_ok-piece.ensures c.kind_of-kind.ensures c.if-not-allows.ensures c.requires.some

pub returns-in-Some : goal.returns-in-Some
returns-in-Some c =
    file_statement c.args.context c.after.result c.in_ok-piece.piece c.in-Statement.statement c.in-Some.item c.args.tokens.now c.in_ok-piece.rest.now c.kind_of-kind.result
    (record { met = c.in_ok-piece.ensures; kind = c.kind_of-kind.ensures; allowed = c.if-not-allows.ensures }) c.in-Statement.is c.in-Some.ensures c.after.ensures

pub returns-in_err-item-in-Open : goal.returns-in_err-item-in-Open
returns-in_err-item-in-Open c =
    let p = err_from_is_err_and c.from_residual-in_err-item-in-Open.result c.from_residual-in_err-item-in-Open.ensures.1 in
    let allowed : IsAllowed c.args.context c.args.tokens.now c.in_ok-piece.piece c.in_ok-piece.rest.now c.kind_of-kind.result = record { met = c.in_ok-piece.ensures; kind = c.kind_of-kind.ensures; allowed = c.if-not-allows.ensures } in
    rw (p.1, p.2) (file_inside c.args.context c.in_ok-piece.piece c.in-Open.header c.in-Open.«open» c.args.tokens.now c.in_ok-piece.rest.now c.kind_of-kind.result c.in_err-item-in-Open.field-0.0 allowed c.in-Open.is c.in_err-item-in-Open.ensures)

pub returns-in_ok-item-in-Open : goal.returns-in_ok-item-in-Open
returns-in_ok-item-in-Open c =
    let block = c.in_ok-item-in-Open.ensures in
    file_block c.args.context c.after-in-Open.result c.in_ok-piece.piece c.in-Open.header c.in-Open.«open» block.within (item_tree c.in_ok-item-in-Open.item) block.closes c.args.tokens.now c.in_ok-piece.rest.now c.in_ok-item-in-Open.rest.now c.kind_of-kind.result
    (record { met = c.in_ok-piece.ensures; kind = c.kind_of-kind.ensures; allowed = c.if-not-allows.ensures }) c.in-Open.is block.body block.is c.after-in-Open.ensures
