use Rattle.std.proofs.Common.{List, map, ap, subst, ◌∙◌, arith, take_all}
use Rattle.proto_tree.specs.File.{tree_of_file}
use Rattle.proto_ast.specs.Parts.{BlockOf}
use Rattle.proto_resolved.specs.Blocks.{block_of}
use Rattle.proto_desc_extensions.specs.Common.{AreRowsOf}
use Rattle.proto_desc_extensions.proofs.OpenRows.{rows_of_blocks}
use Rattle.proto_desc_extensions.proofs.open_table.rows_of.Goals as goal

pub returns : goal.returns
returns c =
    let all = c.deref-block-items.result.now in
    let whole = take_all c.loop-block.block-index all (omega (arith, c.loop-block-test.false)) in
    rows_of_blocks c.args.scene.now (tree_of_file c.args.file.now) c.loop-block.rows
    (subst (λ (bs : List BlockOf). AreRowsOf c.args.scene.now bs c.loop-block.rows) (ap (map block_of) (whole ∙ c.deref-block-items.ensures.value) ∙ c.in_ok-blocks.ensures) c.loop-block.invariant)
