use Rattle.std.proofs.Common.{List, map, ap, subst, ◌∙◌, arith, take_all}
use Rattle.proto_tree.specs.File.{tree_of_file}
use Rattle.proto_ast.specs.Parts.{BlockOf}
use Rattle.proto_resolved.specs.Common.{AreEnumsOf, block_of}
use Rattle.proto_resolved.proofs.EnumRows.{rows_of_blocks}
use Rattle.proto_resolved.proofs.enum_table.file_enums.Goals as goal

pub returns : goal.returns
returns c =
    let all = c.deref-block-items.result.now in
    let whole = take_all c.loop-block.block-index all (omega (arith, c.loop-block-test.false)) in
    rows_of_blocks c.args.words.now c.args.is_proto3 (tree_of_file c.args.file.now) c.loop-block.rows
    (subst (λ (bs : List BlockOf). AreEnumsOf c.args.words.now c.args.is_proto3 bs c.loop-block.rows)
    (ap (map block_of) (whole ∙ c.deref-block-items.ensures.value) ∙ c.in_ok-blocks.ensures) c.loop-block.invariant)
