use Rattle.std.proofs.Common.{option_map, sym, ap, ◌∙◌, arith}
use Rattle.proto_ast.specs.Scenes.{text}
use Rattle.proto_ast.specs.Views.{field_of}
use Rattle.proto_resolved.specs.Blocks.{block_of}
use Rattle.proto_names_at.proofs.DefaultFields.{block_here, block_on, no_block}
use Rattle.proto_names_at.proofs.fields.first_field.Goals as goal

pub loop-block-preserved : goal.loop-block-preserved
loop-block-preserved c =
    c.loop-block.invariant
    ∙ block_on (text c.args.scene.now) c.args.token block_of c.args.blocks.now c.loop-block.block-index c.block-item.result c.block-item.result c.loop-block-test.true c.block-item.is
    (sym c.in_ok-field.ensures ∙ ap (option_map field_of) c.in_default.is)

pub returns-in-Some : goal.returns-in-Some
returns-in-Some c =
    sym (c.loop-block.invariant
    ∙ block_here (text c.args.scene.now) c.args.token block_of c.args.blocks.now c.loop-block.block-index c.block-item.result c.block-item.result c.loop-block-test.true c.block-item.is (field_of c.in-Some.field)
    (sym c.in_ok-field.ensures ∙ ap (option_map field_of) c.in-Some.is))

pub returns : goal.returns
returns c = sym (c.loop-block.invariant ∙ no_block (text c.args.scene.now) c.args.token block_of c.args.blocks.now c.loop-block.block-index (omega arith))
