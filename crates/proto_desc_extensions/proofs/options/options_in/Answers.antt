use Rattle.std.proofs.Common.{◌≡◌, List, map, sym, ap, ◌∙◌}
use Rattle.proto_base.proofs.Common.{IfOk-weaker}
use Rattle.proto_custom_options.specs.CustomOptions.{customs_in}
use Rattle.proto_custom_options.specs.Views.{custom_of}
use Rattle.proto_files.proofs.Common.{AreRead, ReadOf, read_at, same_tree}
use Rattle.proto_tree.specs.File.{tree_of_file}
use Rattle.proto_desc_extensions.proofs.options.options_in.Goals as goal

pub returns-in-AsWritten : goal.returns-in-AsWritten
returns-in-AsWritten c =
    let files = c.args.files.now in
    let file = c.args.file in
    let tree = tree_of_file c.tree.result.now in
    IfOk-weaker c.customs.result
    (λ found. map custom_of found.items ≡ customs_in tree)
    (λ found. (reads : List ReadOf) → AreRead files reads → map custom_of found.items ≡ customs_in (read_at reads file).tree)
    (λ found is reads are. is ∙ ap customs_in (sym (same_tree files reads file tree are c.requires c.tree.ensures)))
    c.customs.ensures
