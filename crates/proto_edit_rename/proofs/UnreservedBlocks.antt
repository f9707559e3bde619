-- Blocks that reserve nothing.
use Rattle.std.proofs.Common.{◌≡◌, ℕ, false, List, [], ◌∷◌, refl, ap}
use Rattle.std.proofs.lemmas.Bool.{and_right}
use Rattle.proto_tree.specs.declared.tree.Block.{Block as Braced}
use Rattle.proto_tree.specs.declared.tree.Extend.{Extend}
use Rattle.proto_tree.specs.declared.tree.Extension.{Extension}
use Rattle.proto_tree.specs.declared.tree.OneofItem.{OneofItem}
use Rattle.proto_tree.specs.File.{extension_tree, oneof_item_tree, trees}
use Rattle.proto_ast.proofs.Common.{fields_in, reserved_names_in, Scene}
use Rattle.proto_edit_rename.specs.MembersCommon.{extend_block, has_field, oneof_block, reserves, says_word}
use Rattle.proto_tree.specs.declared.tree.OneofItem.TheVariants as oneof_item

pub oneof_reserves_none : (xs : List OneofItem) → reserved_names_in (trees oneof_item_tree xs) ≡ []
oneof_reserves_none [] = refl
oneof_reserves_none (oneof_item.Field f ∷ xs) = oneof_reserves_none xs
oneof_reserves_none (oneof_item.Option o ∷ xs) = oneof_reserves_none xs

pub oneof_reserves : (scene : Scene) (token : ℕ) (word : List ℕ) (o : Braced OneofItem) → reserves scene token word (oneof_block o) ≡ false
oneof_reserves scene token word o =
    and_right (has_field token (fields_in (trees oneof_item_tree o.members.items))) (says_word scene word (reserved_names_in (trees oneof_item_tree o.members.items))) (ap (says_word scene word) (oneof_reserves_none o.members.items))

extend_reserves_none : (xs : List Extension) → reserved_names_in (trees extension_tree xs) ≡ []
extend_reserves_none [] = refl
extend_reserves_none (x ∷ xs) = extend_reserves_none xs

pub extend_reserves : (scene : Scene) (token : ℕ) (word : List ℕ) (e : Extend) → reserves scene token word (extend_block e) ≡ false
extend_reserves scene token word e =
    and_right (has_field token (fields_in (trees extension_tree e.fields.items))) (says_word scene word (reserved_names_in (trees extension_tree e.fields.items))) (ap (says_word scene word) (extend_reserves_none e.fields.items))
