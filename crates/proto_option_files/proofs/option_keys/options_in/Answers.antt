use Rattle.std.proofs.Common.{◌≡◌, map, ap, ◌∙◌}
use Rattle.proto_base.proofs.Common.{IfOk-weaker}
use Rattle.proto_custom_options.specs.CustomOptions.{customs_in}
use Rattle.proto_custom_options.specs.Views.{custom_of}
use Rattle.proto_files.proofs.Common.{ReadOf, file_at}
use Rattle.proto_tree.proofs.Common.{classed_in, one_tree}
use Rattle.proto_tree.specs.File.{tree_of_file}
use Rattle.proto_option_files.specs.OptionFiles.{IsReadOf}
use Rattle.proto_option_files.proofs.option_keys.options_in.Goals as goal

pub returns-in-AsWritten : goal.returns-in-AsWritten
returns-in-AsWritten c =
    let f = file_at c.args.files.now c.args.file in
    let tree = tree_of_file c.tree.result.now in
    IfOk-weaker c.customs.result
    (λ found. map custom_of found.items ≡ customs_in tree)
    (λ found. (r : ReadOf) → IsReadOf f r → map custom_of found.items ≡ customs_in r.tree)
    (λ found is r read.
    let same = one_tree tree r.tree (classed_in f.profile f.bytes r.tokens) (c.tree.ensures r.tokens read.tokens_are).spells read.spells in
    is ∙ ap customs_in same)
    c.customs.ensures
