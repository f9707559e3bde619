use Rattle.std.proofs.Common.{List, map, take, flat_map, sym, ap, subst, ◌∙◌, arith, take_all}
use Rattle.proto_tree.specs.File.{tree_of_file}
use Rattle.proto_tree.specs.Tree.{Tree}
use Rattle.proto_files.proofs.Common.{same_tree}
use Rattle.proto_ast.proofs.Common.{BlockOf, blocks_in}
use Rattle.proto_resolved.specs.Blocks.{block_of}
use Rattle.proto_resolved.specs.declared.blocks.BlockAt.{BlockAt}
use Rattle.proto_desc_extensions.specs.Common.{AreExtendedRows, Extending, block_extending}
use Rattle.proto_desc_extensions.proofs.ExtendedRows.{blocks_turn, from_holders, no_rows}
use Rattle.proto_desc_extensions.proofs.extended_table.rows_of.Goals as goal

pub tree-tree-requires : goal.tree-tree-requires
tree-tree-requires c = rw c.files.ensures.files c.requires

pub loop-block-init : goal.loop-block-init
loop-block-init c = λ reads are. no_rows c.new-rows.result c.new-rows.ensures.empty

pub loop-block-preserved : goal.loop-block-preserved
loop-block-preserved c = λ reads are.
    (let files = c.args.linked.now.files in
    let all = c.deref-block-items.result.now in
    let i = c.loop-block.block-index in
    subst (λ (xs : List Extending). AreExtendedRows xs c.add_block.new.rows) (blocks_turn files reads c.args.file all i c.block-item.result c.loop-block-test.true c.block-item.is)
    (c.in_ok-add_block.ensures reads are (flat_map (block_extending files reads c.args.file) (map block_of (take i all))) (c.loop-block.invariant reads are)))

pub returns : goal.returns
returns c = λ reads are.
    (let files = c.args.linked.now.files in
    let tree = tree_of_file c.tree-tree.result.now in
    let E = block_extending files reads c.args.file in
    let all = c.deref-block-items.result.now in
    let whole = take_all c.loop-block.block-index all (omega (arith, c.loop-block-test.false)) ∙ c.deref-block-items.ensures.value in
    subst (λ (xs : List Extending). AreExtendedRows xs c.loop-block.rows)
    (ap (λ (bs : List BlockAt). flat_map E (map block_of bs)) whole
    ∙ ap (λ (bs : List BlockOf). flat_map E bs) c.in_ok-blocks.ensures
    ∙ from_holders files reads c.args.file tree
    ∙ ap (λ (t : Tree). flat_map E (blocks_in t)) (sym (same_tree files reads c.args.file tree are c.requires (rw c.files.ensures.files at c.tree-tree.ensures))))
    (c.loop-block.invariant reads are))
