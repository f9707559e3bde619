use Rattle.std.proofs.Common.{◌≡◌, List, [], ℕ, false, flat_map, get_or, map, sym, ap, ◌∙◌}
use Rattle.std.specs.List.{list_any}
use Rattle.std.proofs.lemmas.Result.{IfOk-weaker}
use Rattle.proto_tree.specs.File.{tree_of_file}
use Rattle.proto_names_rules.specs.Joined.{joined}
use Rattle.proto_names.specs.Linking.{LinkOf, Meant, name_text}
use Rattle.proto_ast.specs.Scenes.{text}
use Rattle.proto_edit_rename.specs.Blocks.{block_of, holders_in}
use Rattle.proto_edit_rename.specs.Defaults.{defaults_in, is_found_name, type_means}
use Rattle.proto_edit_rename.proofs.DefaultTexts.{defaults_are, no_defaults}
use Rattle.proto_edit_rename.proofs.defaults.renamed_defaults_in.Goals as goal

pub returns-then-not-one_means : goal.returns-then-not-one_means
returns-then-not-one_means c = λ reads are (enum : List (List ℕ)) plain named.
    (let files = c.args.linked.now.files in
    let link = c.args.linked.now.link in
    let file = c.args.file in
    let old = c.args.old.now in
    let tree = tree_of_file c.tree-tree.result.now in
    let none : list_any (λ (m : Meant). is_found_name (joined enum) (name_text link m.row)) (get_or link.meant file []) ≡ false =
    ap (λ n. list_any (λ (m : Meant). is_found_name n (name_text link m.row)) (get_or link.meant file [])) named
    ∙ ap (list_any (λ (m : Meant). is_found_name c.args.enum_name.now (name_text link m.row))) (sym (rw c.link-link.ensures.link at c.meant_in.ensures.exact)) ∙ sym (rw c.link-link.ensures.link at c.one_means.ensures) ∙ c.if-not-one_means.true in
    c.new.ensures.items
    ∙ sym (no_defaults link file (joined enum) none (text c.scene-scene.result) old (holders_in tree))
    ∙ defaults_are files reads are link (c.files-files.ensures.clean.link reads are) file c.requires enum plain c.scene-scene.result ((rw c.files-files.ensures.files at c.scene-scene.ensures) reads are) tree (rw c.files-files.ensures.files at c.tree-tree.ensures) old)

pub returns : goal.returns
returns c =
    IfOk-weaker c.defaults.result _ _
    (λ found e. λ reads are (enum : List (List ℕ)) plain named.
    let files = c.args.linked.now.files in
    let link = c.args.linked.now.link in
    let file = c.args.file in
    let old = c.args.old.now in
    let scene = c.scene-scene.result in
    let tree = tree_of_file c.tree-tree.result.now in
    let blocks = ap (map block_of) c.deref.ensures.value ∙ c.in_ok-blocks.ensures in
    e
    ∙ ap (λ (l : LinkOf). flat_map (defaults_in (text c.scene-scene.result) (type_means l c.args.file c.args.enum_name.now) c.args.old.now) (map block_of c.deref.result.now)) c.link-link.ensures.link
    ∙ ap (flat_map (defaults_in (text c.scene-scene.result) (type_means c.args.linked.now.link c.args.file c.args.enum_name.now) c.args.old.now)) blocks
    ∙ ap (λ n. flat_map (defaults_in (text c.scene-scene.result) (type_means c.args.linked.now.link c.args.file n) c.args.old.now) (holders_in (tree_of_file c.tree-tree.result.now))) (sym named)
    ∙ defaults_are files reads are link (c.files-files.ensures.clean.link reads are) file c.requires enum plain scene ((rw c.files-files.ensures.files at c.scene-scene.ensures) reads are) tree (rw c.files-files.ensures.files at c.tree-tree.ensures) old)
    c.defaults.ensures
