use Rattle.std.proofs.Common.{◌≡◌, drop}
use Rattle.proto_files.specs.StringTokens.{string_at}
use Rattle.proto_text.specs.Values.{is_value}
use Rattle.proto_tree.specs.File.{item_tree, trees}
use Rattle.proto_edit_statements.specs.Imported.{import_in}
use Rattle.proto_edit_statements.proofs.imported.import_named.Given as goal

abbrev pub invariant-loop-item : goal.invariant-loop-item
invariant-loop-item l =
    import_in (λ i. is_value (string_at l.words i) l.path) (trees item_tree l.item-items)
    ≡ import_in (λ i. is_value (string_at l.words i) l.path) (trees item_tree (drop l.item-index l.item-items))
