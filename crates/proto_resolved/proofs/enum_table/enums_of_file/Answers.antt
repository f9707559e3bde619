use Rattle.std.proofs.Common.{◌≡◌, ℕ, List}
use Rattle.proto_base.proofs.Common.{IfOk-weaker}
use Rattle.proto_tree.specs.File.{tree_of_file}
use Rattle.proto_files.proofs.Common.{ReadOf, AreRead}
use Rattle.proto_names_rules.specs.Grown.{at}
use Rattle.proto_ast.proofs.Common.{blocks_in}
use Rattle.proto_resolved.specs.Common.{AreEnumsOf, enum_at, enum_row_at}
use Rattle.proto_resolved.proofs.ReadScenes.{rows_are}
use Rattle.proto_resolved.proofs.enum_table.enums_of_file.Goals as goal

pub returns : goal.returns
returns c =
    let files = c.args.files.now in
    let file = c.args.file in
    let words = c.new-words.result in
    let tree = tree_of_file c.tree-tree.result.now in
    let proto3 = c.is_proto3.result in
    IfOk-weaker c.file_enums.result (λ rows. AreEnumsOf words proto3 (blocks_in tree) rows)
    (λ rows. (reads : List ReadOf) → AreRead files reads → (token : ℕ) → enum_row_at rows token ≡ enum_at files reads (at file token))
    (λ rows h reads are token. rows_are files file c.requires words c.new-words.ensures.words tree c.tree-tree.ensures reads are proto3 c.is_proto3.ensures rows h token)
    c.file_enums.ensures
