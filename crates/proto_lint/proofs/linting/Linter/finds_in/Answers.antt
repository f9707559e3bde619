use Rattle.std.proofs.Common.{ℕ}
use Rattle.proto_tree.specs.File.{tree_of_file}
use Rattle.proto_files.proofs.Common.{paths_of, read_at}
use Rattle.proto_names_imports.specs.Links.{names_of_files}
use Rattle.proto_lint_names.proofs.Common.{reading_of}
use Rattle.proto_lint.specs.Imports.{imports_finds}
use Rattle.proto_lint.proofs.Linters.{finds_are, is_headed, moved, scope_is}
use Rattle.proto_lint.proofs.linting.Linter.finds_in.Goals as goal

pub add_head-requires : goal.add_head-requires
add_head-requires c = let linked = c.files-files.ensures.linked in is_headed c.args.self.now.linked.now.files linked.reads linked.read c.args.self.now.heads (c.requires.linter.heads_are linked.reads linked.read) c.args.file c.requires.file

pub get-requires : goal.get-requires
get-requires c = let linked = c.files-files.ensures.linked in is_headed c.args.self.now.linked.now.files linked.reads linked.read c.args.self.now.heads (c.requires.linter.heads_are linked.reads linked.read) c.args.file c.requires.file

pub add_blocks-requires : goal.add_blocks-requires
add_blocks-requires c =
    let l = c.args.self.now in
    let reads = c.files-files.ensures.linked.reads in
    let are = c.files-files.ensures.linked.read in
    scope_is l.linked.now.files reads are c.args.file c.requires.file (reading_of c.of-reading.result) (c.of-reading.ensures.read reads are) (tree_of_file c.tree.result.now) (rw c.files-files.ensures.files at c.tree.ensures)
    l.heads (c.requires.linter.heads_are reads are) c.get.result.now c.get.ensures c.package-scope.result.now c.package-scope.ensures

pub tree-requires : goal.tree-requires
tree-requires c = rw c.files-files.ensures.files c.requires.file

pub returns : goal.returns
returns c = λ reads are.
    (let l = c.args.self.now in
    finds_are l.linked.now.files reads are c.args.file c.requires.file (reading_of c.of-reading.result) (c.of-reading.ensures.read reads are) (tree_of_file c.tree.result.now) (rw c.files-files.ensures.files at c.tree.ensures)
    l.heads (c.requires.linter.heads_are reads are) l.rules.now.chosen l.messages (c.requires.linter.messages_are reads are) _ _ _ _ c.new-found.ensures c.in_ok-add_head.ensures (moved _ _ (λ (n : ℕ). imports_finds l.rules.now.chosen (names_of_files l.linked.now.files reads) (paths_of l.linked.now.files) (reading_of c.of-reading.result) n (read_at reads n).tree) _ _ c.of-reading.ensures.file (c.in_ok-add_imports.ensures reads are)) c.in_ok-add_blocks.ensures)
