use Rattle.std.proofs.Common.{refl, ap, ◌∙◌, arith}
use Rattle.std.proofs.lemmas.Result.{err_from_is_err_and}
use Rattle.proto_tree.specs.declared.context.Context.TheVariants as context
use Rattle.proto_tree.specs.declared.piece.Header.TheVariants as header
use Rattle.proto_tree.specs.declared.piece.Piece.TheVariants as piece
use Rattle.proto_tree.specs.declared.tree.Member.TheVariants as member
use Rattle.proto_tree.specs.File.{trees, oneof_item_tree, oneof_tree, enum_item_tree, enum_tree, extension_tree, extend_tree, member_tree, message_tree}
use Rattle.proto_tree.proofs.Nodes.{statement_item, not_here, close_item, block_seen, fault_behind, fault_inside, opening_shorter, read_push, no_other_in_message, member_tree-Message, member_tree-Oneof, member_tree-Enum, member_tree-Extend}
use Rattle.proto_tree.proofs.blocks.+messages.Goals as goal

pub member-members-requires : goal.member-members-requires
member-members-requires t c =
    let met = rw c.in-Open.is at c.in_ok-piece.ensures in
    let found = rw c.in-Message.is at met in
    (omega (arith, c.decreases, opening_shorter context.Message (header.Message c.in-Message.heading) c.in-Open.«open» c.args.tokens.now c.in_ok-piece.rest.now found refl), tt)

pub member-returns-in_err-items-in-Message : goal.member-returns-in_err-items-in-Message
member-returns-in_err-items-in-Message t c =
    let p = err_from_is_err_and c.from_residual-in_err-items-in-Message.result c.from_residual-in_err-items-in-Message.ensures.1 in
    let met = rw c.in-Open.is at c.in_ok-piece.ensures in
    let found = rw c.in-Message.is at met in
    rw (p.1, p.2) (fault_inside context.Message (header.Message c.in-Message.heading) c.in-Open.«open» c.args.tokens.now c.in_ok-piece.rest.now c.in_err-items-in-Message.field-0.0 found refl c.in_err-items-in-Message.ensures)

pub member-returns-in_err-items-in-Oneof : goal.member-returns-in_err-items-in-Oneof
member-returns-in_err-items-in-Oneof t c =
    let p = err_from_is_err_and c.from_residual-in_err-items-in-Oneof.result c.from_residual-in_err-items-in-Oneof.ensures.1 in
    let met = rw c.in-Open.is at c.in_ok-piece.ensures in
    let found = rw c.in-Oneof.is at met in
    rw (p.1, p.2) (fault_inside context.Message (header.Oneof c.in-Oneof.heading) c.in-Open.«open» c.args.tokens.now c.in_ok-piece.rest.now c.in_err-items-in-Oneof.field-0.0 found refl c.in_err-items-in-Oneof.ensures)

pub member-returns-in_err-items-in-Enum : goal.member-returns-in_err-items-in-Enum
member-returns-in_err-items-in-Enum t c =
    let p = err_from_is_err_and c.from_residual-in_err-items-in-Enum.result c.from_residual-in_err-items-in-Enum.ensures.1 in
    let met = rw c.in-Open.is at c.in_ok-piece.ensures in
    let found = rw c.in-Enum.is at met in
    rw (p.1, p.2) (fault_inside context.Message (header.Enum c.in-Enum.heading) c.in-Open.«open» c.args.tokens.now c.in_ok-piece.rest.now c.in_err-items-in-Enum.field-0.0 found refl c.in_err-items-in-Enum.ensures)

pub member-returns-in_err-fields-in-Extend : goal.member-returns-in_err-fields-in-Extend
member-returns-in_err-fields-in-Extend t c =
    let p = err_from_is_err_and c.from_residual-in_err-fields-in-Extend.result c.from_residual-in_err-fields-in-Extend.ensures.1 in
    let met = rw c.in-Open.is at c.in_ok-piece.ensures in
    let found = rw c.in-Extend.is at met in
    rw (p.1, p.2) (fault_inside context.Message (header.Extend c.in-Extend.extending) c.in-Open.«open» c.args.tokens.now c.in_ok-piece.rest.now c.in_err-fields-in-Extend.field-0.0 found refl c.in_err-fields-in-Extend.ensures)

pub member-returns-in-Some : goal.member-returns-in-Some
member-returns-in-Some t c =
    statement_item context.Message member_tree c.in-Statement.statement c.in-Some.item c.args.tokens.now c.in_ok-piece.rest.now (rw c.in-Statement.is at c.in_ok-piece.ensures) c.in-Some.ensures

pub member-returns-in-None : goal.member-returns-in-None
member-returns-in-None t c =
    not_here context.Message (piece.Statement c.in-Statement.statement) c.args.tokens.now c.in_ok-piece.rest.now (rw c.in-Statement.is at c.in_ok-piece.ensures) c.in-None.ensures (λ e. refl)

pub member-returns-in_ok-items-in-Message : goal.member-returns-in_ok-items-in-Message
member-returns-in_ok-items-in-Message t c =
    let met = rw c.in-Open.is at c.in_ok-piece.ensures in
    let found = rw c.in-Message.is at met in
    block_seen context.Message (header.Message c.in-Message.heading) c.in-Open.«open» (trees member_tree c.in_ok-items-in-Message.items.items) (member_tree (member.Message c.block-message.result)) c.in_ok-items-in-Message.close c.args.tokens.now c.in_ok-piece.rest.now c.in_ok-items-in-Message.rest.now found refl c.in_ok-items-in-Message.ensures (member_tree-Message c.block-message.result ∙ ap message_tree c.block-message.ensures)

pub member-returns-in_ok-items-in-Oneof : goal.member-returns-in_ok-items-in-Oneof
member-returns-in_ok-items-in-Oneof t c =
    let met = rw c.in-Open.is at c.in_ok-piece.ensures in
    let found = rw c.in-Oneof.is at met in
    block_seen context.Message (header.Oneof c.in-Oneof.heading) c.in-Open.«open» (trees oneof_item_tree c.in_ok-items-in-Oneof.items.items) (member_tree (member.Oneof c.block-oneof.result)) c.in_ok-items-in-Oneof.close c.args.tokens.now c.in_ok-piece.rest.now c.in_ok-items-in-Oneof.rest.now found refl c.in_ok-items-in-Oneof.ensures (member_tree-Oneof c.block-oneof.result ∙ ap oneof_tree c.block-oneof.ensures)

pub member-returns-in_ok-items-in-Enum : goal.member-returns-in_ok-items-in-Enum
member-returns-in_ok-items-in-Enum t c =
    let met = rw c.in-Open.is at c.in_ok-piece.ensures in
    let found = rw c.in-Enum.is at met in
    block_seen context.Message (header.Enum c.in-Enum.heading) c.in-Open.«open» (trees enum_item_tree c.in_ok-items-in-Enum.items.items) (member_tree (member.Enum c.block-nested.result)) c.in_ok-items-in-Enum.close c.args.tokens.now c.in_ok-piece.rest.now c.in_ok-items-in-Enum.rest.now found refl c.in_ok-items-in-Enum.ensures (member_tree-Enum c.block-nested.result ∙ ap enum_tree c.block-nested.ensures)

pub member-returns-in_ok-fields-in-Extend : goal.member-returns-in_ok-fields-in-Extend
member-returns-in_ok-fields-in-Extend t c =
    let met = rw c.in-Open.is at c.in_ok-piece.ensures in
    let found = rw c.in-Extend.is at met in
    block_seen context.Message (header.Extend c.in-Extend.extending) c.in-Open.«open» (trees extension_tree c.in_ok-fields-in-Extend.fields.items) (member_tree (member.Extend c.extend-extended.result)) c.in_ok-fields-in-Extend.close c.args.tokens.now c.in_ok-piece.rest.now c.in_ok-fields-in-Extend.rest.now found refl c.in_ok-fields-in-Extend.ensures (member_tree-Extend c.extend-extended.result ∙ ap extend_tree c.extend-extended.ensures)

pub member-returns-in_default : goal.member-returns-in_default
member-returns-in_default t c =
    let found = rw c.in-Open.is at c.in_ok-piece.ensures in
    not_here context.Message (piece.Open c.in-Open.header c.in-Open.«open») c.args.tokens.now c.in_ok-piece.rest.now found
    (no_other_in_message c.in-Open.header c.in_default.not-Message c.in_default.not-Oneof c.in_default.not-Enum c.in_default.not-Extend) (λ e. refl)

pub member-returns-in-Close : goal.member-returns-in-Close
member-returns-in-Close t c = close_item context.Message c.in-Close.close c.args.tokens.now c.in_ok-piece.rest.now (rw c.in-Close.is at c.in_ok-piece.ensures) refl

pub members-returns-in_err-found : goal.members-returns-in_err-found
members-returns-in_err-found t c =
    let p = err_from_is_err_and c.from_residual.result c.from_residual.ensures.1 in
    rw (p.1, p.2) (fault_behind (trees member_tree c.loop-items.items.items) c.in_err-found.field-0.0 refl c.loop-items.invariant.read c.in_err-found.ensures)

pub members-loop-items-preserved : goal.members-loop-items-preserved
members-loop-items-preserved t c =
    let item = rw c.in-Item.is at c.in_ok-found.ensures in
    record {
      read = read_push member_tree c.loop-items.items.items c.push.new.items.items c.in-Item.item refl c.loop-items.invariant.read item c.in_ok-push-in-Item.ensures;
      short = omega (arith, item.shorter, c.loop-items.invariant.short);
    }
