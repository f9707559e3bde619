use Rattle.std.proofs.Common.{[], ◌∷◌, ◌++◌, sym, ap, subst}
use Rattle.proto_ast.specs.Parts.{BlockOf}
use Rattle.proto_resolved.specs.Blocks.{block_of}
use Rattle.proto_desc_extensions.specs.Common.{AreRowsOf}
use Rattle.proto_desc_extensions.proofs.OpenRows.{enum_added, extend_added, oneof_added}
use Rattle.proto_desc_extensions.proofs.open_table.add.Goals as goal

pub returns-in-Oneof : goal.returns-in-Oneof
returns-in-Oneof c = λ blocks h.
    subst (λ (b : BlockOf). AreRowsOf c.args.scene.now (blocks ++ b ∷ []) c.args.rows.now) (sym (ap block_of c.in-Oneof.is)) (oneof_added c.args.scene.now blocks c.in-Oneof.field-0.now c.args.rows.now h)

pub returns-in-Enum : goal.returns-in-Enum
returns-in-Enum c = λ blocks h.
    subst (λ (b : BlockOf). AreRowsOf c.args.scene.now (blocks ++ b ∷ []) c.args.rows.now) (sym (ap block_of c.in-Enum.is)) (enum_added c.args.scene.now blocks c.in-Enum.field-0.now c.args.rows.now h)

pub returns-in-Extend : goal.returns-in-Extend
returns-in-Extend c = λ blocks h.
    subst (λ (b : BlockOf). AreRowsOf c.args.scene.now (blocks ++ b ∷ []) c.args.rows.now) (sym (ap block_of c.in-Extend.is)) (extend_added c.args.scene.now blocks c.in-Extend.field-0.now c.args.rows.now h)
