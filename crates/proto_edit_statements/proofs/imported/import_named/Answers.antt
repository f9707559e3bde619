use Rattle.std.proofs.Common.{ℕ, Bool, Some, None, ◌∙◌, ap, arith}
use Rattle.proto_tree.specs.File.{tree_of_file}
use Rattle.proto_files.proofs.Common.{read_at, same_tree, string_at}
use Rattle.proto_text.specs.Values.{is_value}
use Rattle.proto_edit_statements.specs.Imported.{import_in}
use Rattle.proto_edit_statements.proofs.NamedImports.{at_item, behind_all_items, is_named}
use Rattle.proto_edit_statements.proofs.imported.import_named.Goals as goal

pub returns-in-Some : goal.returns-in-Some
returns-in-Some c = λ reads are. (
    let says : ℕ → Bool = λ i. is_value (string_at c.new-words.result i) c.args.path.now in
    let tree = same_tree c.args.files.now reads c.args.file (tree_of_file c.tree.result.now) are c.requires c.tree.ensures in
    is_named c.args.files.now reads are c.args.file c.requires c.args.path.now c.new-words.result (c.new-words.ensures.words (read_at reads c.args.file).tokens (are.tokens c.args.file c.requires)) (Some c.in-Some.import)
    (ap (import_in says) tree ∙ at_item says c.tree.result.now c.deref-item-items.result.now c.deref-item-items.ensures.value c.loop-item.item-index c.item-item.result c.in-Some.import c.loop-item-test.true c.item-item.is c.loop-item.invariant c.in-Some.ensures))

pub returns : goal.returns
returns c = λ reads are. (
    let says : ℕ → Bool = λ i. is_value (string_at c.new-words.result i) c.args.path.now in
    let tree = same_tree c.args.files.now reads c.args.file (tree_of_file c.tree.result.now) are c.requires c.tree.ensures in
    is_named c.args.files.now reads are c.args.file c.requires c.args.path.now c.new-words.result (c.new-words.ensures.words (read_at reads c.args.file).tokens (are.tokens c.args.file c.requires)) None
    (ap (import_in says) tree ∙ behind_all_items says c.tree.result.now c.deref-item-items.result.now c.deref-item-items.ensures.value c.loop-item.item-index (omega arith) c.loop-item.invariant))
