use Rattle.std.proofs.Common.{sym, ap, ◌∙◌}
use Rattle.proto_edit_rename.specs.MembersCommon.{block_of, reserves}
use Rattle.proto_edit_rename.proofs.UnreservedBlocks.{extend_reserves, oneof_reserves}
use Rattle.proto_edit_rename.proofs.reserved.reserves.Goals as goal

pub returns-in-Oneof : goal.returns-in-Oneof
returns-in-Oneof c =
    sym (ap (λ b. reserves c.args.scene.now c.args.token c.args.word.now (block_of b)) c.in-Oneof.is ∙ oneof_reserves c.args.scene.now c.args.token c.args.word.now c.in-Oneof.field-0.now)

pub returns-in-Extend : goal.returns-in-Extend
returns-in-Extend c =
    sym (ap (λ b. reserves c.args.scene.now c.args.token c.args.word.now (block_of b)) c.in-Extend.is ∙ extend_reserves c.args.scene.now c.args.token c.args.word.now c.in-Extend.field-0.now)
