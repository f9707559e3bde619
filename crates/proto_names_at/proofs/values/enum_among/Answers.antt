use Rattle.std.proofs.Common.{Some, sym, ap, ◌∙◌, arith}
use Rattle.proto_ast.specs.Parts.{BlockOf}
use Rattle.proto_resolved.specs.Blocks.{block_of, enum_block}
use Rattle.proto_resolved.specs.SceneOf.{is_enum_at}
use Rattle.proto_names_at.proofs.DefaultFields.{find_here, find_none, find_on}
use Rattle.proto_names_at.proofs.EnumValues.{if_none, if_some}
use Rattle.proto_names_at.proofs.values.enum_among.Goals as goal

pub loop-block-preserved : goal.loop-block-preserved
loop-block-preserved c =
    c.loop-block.invariant
    ∙ find_on (λ (b : BlockOf). is_enum_at c.args.token b.header) block_of c.args.blocks.now c.loop-block.block-index c.block-item.result c.block-item.result c.loop-block-test.true c.block-item.is
    (if_none (is_enum_at c.args.token (block_of c.block-item.result).header) (block_of c.block-item.result) c.in_default.ensures)

pub returns-in-Some : goal.returns-in-Some
returns-in-Some c =
    let q = if_some (is_enum_at c.args.token (block_of c.block-item.result).header) (block_of c.block-item.result) (enum_block c.in-Some.found.now) c.in-Some.ensures in
    ap (λ (b : BlockOf). Some b) q.1
    ∙ sym (c.loop-block.invariant
    ∙ find_here (λ (b : BlockOf). is_enum_at c.args.token b.header) block_of c.args.blocks.now c.loop-block.block-index c.block-item.result c.block-item.result c.loop-block-test.true c.block-item.is q.0)

pub returns : goal.returns
returns c = sym (c.loop-block.invariant ∙ find_none (λ (b : BlockOf). is_enum_at c.args.token b.header) block_of c.args.blocks.now c.loop-block.block-index (omega arith))
