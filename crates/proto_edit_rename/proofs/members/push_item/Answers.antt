use Rattle.std.proofs.Common.{[], ◌∷◌, ◌++◌, map, sym, ap, ◌∙◌}
use Rattle.proto_base.proofs.Common.{map-append}
use Rattle.proto_tree.specs.declared.tree.OneofItem.{OneofItem}
use Rattle.proto_tree.specs.File.{oneof_item_tree}
use Rattle.proto_ast.proofs.Common.{fields_in, field_of}
use Rattle.proto_edit_rename.proofs.members.push_item.Goals as goal

pub returns-in_ok-push-in-Field : goal.returns-in_ok-push-in-Field
returns-in_ok-push-in-Field c =
    let before = map field_of c.args.fields.now.items in
    ap (map field_of) c.in_ok-push-in-Field.ensures.items
    ∙ map-append field_of c.args.fields.now.items (c.field_at.result ∷ [])
    ∙ ap (λ f. before ++ f ∷ []) c.field_at.ensures
    ∙ ap (λ (x : OneofItem). before ++ fields_in (oneof_item_tree x)) (sym c.in-Field.is)
