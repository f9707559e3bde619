-- The fields of a oneof, whose items are fields and options.
use Rattle.std.proofs.Common.{◌≡◌, List, ◌∷◌, ◌++◌, refl}
use Rattle.proto_tree.specs.declared.tree.OneofItem.{OneofItem}
use Rattle.proto_tree.specs.declared.tree.OneofItem.TheVariants as oneof_item
use Rattle.proto_tree.specs.File.{oneof_item_tree, trees}
use Rattle.proto_ast.proofs.Common.{fields_in}

pub items_joined : (x : OneofItem) (xs : List OneofItem) → fields_in (trees oneof_item_tree (x ∷ xs)) ≡ fields_in (oneof_item_tree x) ++ fields_in (trees oneof_item_tree xs)
items_joined (oneof_item.Field f) xs = refl
items_joined (oneof_item.Option o) xs = refl
