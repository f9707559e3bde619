use Rattle.std.proofs.Common.{List, Some, map, flat_map, sym, ap, ◌∙◌, arith, take_all}
use Rattle.proto_tree.specs.File.{tree_of_file}
use Rattle.proto_tree.specs.Tree.{Tree}
use Rattle.proto_files.proofs.Common.{same_tree}
use Rattle.proto_ast.proofs.Common.{BlockOf, blocks_in, past}
use Rattle.proto_resolved.specs.Blocks.{block_of}
use Rattle.proto_resolved.specs.declared.blocks.BlockAt.{BlockAt}
use Rattle.proto_desc_extensions.specs.Common.{block_extensions, told}
use Rattle.proto_desc_extensions.proofs.ToldExtensions.{from_holders, told_turn}
use Rattle.proto_desc_extensions.proofs.listed.extensions.Goals as goal

pub tree-tree-requires : goal.tree-tree-requires
tree-tree-requires c = rw c.files.ensures.files c.requires.file

pub loop-block-preserved : goal.loop-block-preserved
loop-block-preserved c = λ reads are.
    told_turn c.args.at.now.linked.now.files reads c.args.at.now.file c.deref-block-items.result.now c.loop-block.block-index c.block-item.result _ _ c.loop-block-test.true c.block-item.is (c.loop-block.invariant reads are) (c.in_ok-push_block.ensures reads are)

pub returns : goal.returns
returns c = λ reads are.
    (let files = c.args.at.now.linked.now.files in
    let tree = tree_of_file c.tree-tree.result.now in
    let E = block_extensions (Some past) files reads c.args.at.now.file in
    let all = c.deref-block-items.result.now in
    let whole = take_all c.loop-block.block-index all (omega (arith, c.loop-block-test.false)) ∙ c.deref-block-items.ensures.value in
    c.loop-block.invariant reads are
    ∙ ap (λ (bs : List BlockAt). map (told files reads) (flat_map E (map block_of bs))) whole
    ∙ ap (λ (bs : List BlockOf). map (told files reads) (flat_map E bs)) c.in_ok-blocks.ensures
    ∙ ap (map (told files reads)) (from_holders files reads c.args.at.now.file tree)
    ∙ ap (λ (t : Tree). map (told files reads) (flat_map E (blocks_in t))) (sym (same_tree files reads c.args.at.now.file tree are c.requires.file (rw c.files.ensures.files at c.tree-tree.ensures))))
