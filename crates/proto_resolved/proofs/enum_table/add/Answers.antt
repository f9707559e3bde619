use Rattle.std.proofs.Common.{[], ◌∷◌, ◌++◌, sym, ap, subst}
use Rattle.proto_ast.specs.Parts.{BlockOf}
use Rattle.proto_resolved.specs.Common.{AreEnumsOf, block_of}
use Rattle.proto_resolved.proofs.EnumRows.{extend_added, message_added, oneof_added}
use Rattle.proto_resolved.proofs.enum_table.add.Goals as goal

pub returns-in-Message : goal.returns-in-Message
returns-in-Message c = λ blocks h.
    subst (λ (b : BlockOf). AreEnumsOf c.args.words.now c.args.is_proto3 (blocks ++ b ∷ []) c.args.rows.now) (sym (ap block_of c.in-Message.is))
    (message_added c.args.words.now c.args.is_proto3 blocks c.in-Message.field-0.now c.args.rows.now h)

pub returns-in-Oneof : goal.returns-in-Oneof
returns-in-Oneof c = λ blocks h.
    subst (λ (b : BlockOf). AreEnumsOf c.args.words.now c.args.is_proto3 (blocks ++ b ∷ []) c.args.rows.now) (sym (ap block_of c.in-Oneof.is))
    (oneof_added c.args.words.now c.args.is_proto3 blocks c.in-Oneof.field-0.now c.args.rows.now h)

pub returns-in-Extend : goal.returns-in-Extend
returns-in-Extend c = λ blocks h.
    subst (λ (b : BlockOf). AreEnumsOf c.args.words.now c.args.is_proto3 (blocks ++ b ∷ []) c.args.rows.now) (sym (ap block_of c.in-Extend.is))
    (extend_added c.args.words.now c.args.is_proto3 blocks c.in-Extend.field-0.now c.args.rows.now h)
