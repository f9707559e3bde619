use Rattle.std.proofs.Common.{◌≡◌, length, ap, ◌∙◌, sym, arith, eqb-true}
use Rattle.proto_base.proofs.Common.{nil_from_length}
use Rattle.proto_tree.specs.File.{tree_of_file}
use Rattle.proto_desc_build.specs.Described.{file_described}
use Rattle.proto_desc.proofs.CheckedFiles.{described_of_file, none_of_file}
use Rattle.proto_desc.proofs.renewing.check_again.Goals as goal

pub tree-tree-requires : goal.tree-tree-requires
tree-tree-requires c = rw c.files-files.ensures.files c.requires.file

pub path-requires : goal.path-requires
path-requires c = rw c.files-files.ensures.files c.requires.file

pub returns-clause-made : goal.returns-clause-made
returns-clause-made c =
    let files = c.args.linked.now.files in
    let file = c.args.file in
    let scene = c.in_ok-scene.scene in
    let tree = tree_of_file c.tree-tree.result.now in
    let flaws = c.in_ok-flaws.flaws.items in
    let none = eqb-true c.in_ok-flaws.flaws.len 0 (sym c.is_empty.ensures ∙ c.if-not-is_empty.false) in
    let count : length flaws ≡ 0 = omega (arith, c.in_ok-flaws.flaws.ok.0, none) in
    let of_options = c.in_ok-of_options.of_options in
    let right : length of_options.items ≡ 0 = omega (arith, of_options.ok.0, eqb-true of_options.len 0 (sym c.is_empty-2.ensures ∙ c.if-not-is_empty-2.false)) in
    record {
      flawless = λ reads are. none_of_file files file c.requires.file scene c.in_ok-scene.ensures tree (rw c.files-files.ensures.files at c.tree-tree.ensures) reads are (sym c.in_ok-flaws.ensures ∙ nil_from_length flaws count);
      options = λ reads are. sym (c.in_ok-of_options.ensures reads are) ∙ nil_from_length of_options.items right;
      described = λ reads are.
          (c.in_ok-descriptor.ensures
          ∙ ap (λ p. file_described scene p tree) (rw c.files-files.ensures.files at c.path.ensures)
          ∙ described_of_file files file c.requires.file scene c.in_ok-scene.ensures tree (rw c.files-files.ensures.files at c.tree-tree.ensures) reads are);
      kept = c.in_ok-kept.ensures;
    }
