-- What a reader sees of the types that a value may fill, where messages lose fields.
use Rattle.std.proofs.Common.{◌≡◌, ℕ, true, false, List, [], map, sym, ◌∙◌, ap, ap₂, subst, Contains, eqb-true}
use Rattle.std.specs.List.{filter}
use Rattle.proto_base.proofs.Common.{from_map}
use Rattle.proto_base.specs.Texts.{Text}
use Rattle.proto_ast.proofs.Common.{fields_in}
use Rattle.proto_ast.specs.Options.{is_one_of}
use Rattle.proto_ast.specs.Scenes.{Scene, text}
use Rattle.proto_tree.specs.Tree.{Tree}
use Rattle.proto_desc_build.specs.Described.{field_described, message_described}
use Rattle.proto_descriptors.specs.Descriptors.{FieldDesc, FileDesc, MessageDesc}
use Rattle.proto_names_rules.specs.Names.{Name}
use Rattle.proto_edit_rules.specs.DeleteField.{field_place, is_named_at, without_field}
use Rattle.proto_edit_rules.specs.OptionViews.{IsFilled, IsMessageOf, message_view, of_extension, of_field, seen_field}
use Rattle.proto_edit_rules.specs.Statements.{at_place}
use Rattle.proto_names_rules.specs.Names.{Name}
use Rattle.proto_option_statement_laws.proofs.Lists.{none_comes, none_goes, none_passes, passes_stays, placed_map, placed_so}

-- an old message of this full name, which has the fields of the new one
pub record WasThere (ds : List FileDesc) (name : Name) (n : MessageDesc) : Type 0 where
  pub m : MessageDesc
  pub is : IsMessageOf ds name m
  pub fields : (f : FieldDesc) → Contains n.field f → Contains m.field f

-- no other types are filled
pub filled_before : (these : List Text) (ds new : List FileDesc) (x : FieldDesc) → ((name : Name) (n : MessageDesc) → IsMessageOf new name n → WasThere ds name n) → (name : Name) → IsFilled these new x name → IsFilled these ds x name
filled_before these ds new x was _ (of_extension name e) = of_extension name e
filled_before these ds new x was _ (of_field name next n f d is has one type) =
    let w = was name n is in
    of_field name next w.m f (filled_before these ds new x was name d) w.is (w.fields f has) one type

-- ---- a message that loses a field

module _ (these : List Text) (scene : Scene) (full : Text) (own token : ℕ) (inner : Tree) (m : MessageDesc) (is : m ≡ message_described scene full own inner) (unaffected : is_one_of these (text scene token) ≡ false) where
  -- the field has the name of the token
  its_name : (f : FieldDesc) → Contains (at_place (field_place token inner) m.field) f → f.name ≡ text scene token
  its_name f c =
      let fs : List FieldDesc = map (field_described scene full) (fields_in inner) in
      let d : Contains (map (field_described scene full) (at_place (field_place token inner) (fields_in inner))) f =
      subst (λ ys. Contains ys f) (placed_map (field_described scene full) (field_place token inner) (fields_in inner)) (subst (λ (z : MessageDesc). Contains (at_place (field_place token inner) z.field) f) is c) in
      let g = from_map (field_described scene full) (at_place (field_place token inner) (fields_in inner)) f d in
      let at_token = placed_so (is_named_at token) (fields_in inner) g.0 g.1 in
      sym (ap (λ (z : FieldDesc). z.name) g.2) ∙ ap (text scene) (eqb-true g.0.name token at_token)

  none_has : filter (λ (f : FieldDesc). is_one_of these f.name) (at_place (field_place token inner) m.field) ≡ []
  none_has = none_passes (λ (f : FieldDesc). is_one_of these f.name) (at_place (field_place token inner) m.field) (λ f c. ap (is_one_of these) (its_name f c) ∙ unaffected)

  none_reserved : filter (is_one_of these) (map (λ (f : FieldDesc). f.name) (at_place (field_place token inner) m.field)) ≡ []
  none_reserved = none_passes (is_one_of these) (map (λ (f : FieldDesc). f.name) (at_place (field_place token inner) m.field)) (λ w c.
      let f = from_map (λ (f : FieldDesc). f.name) (at_place (field_place token inner) m.field) w c in
      ap (is_one_of these) (sym f.2 ∙ its_name f.0 f.1) ∙ unaffected)

  -- a field that one of the words names stays
  pub named_stays : (f : FieldDesc) → Contains m.field f → is_one_of these f.name ≡ true → Contains (without_field token inner m).field f
  named_stays f c t = passes_stays (λ (f : FieldDesc). is_one_of these f.name) (field_place token inner) m.field none_has f c t

  -- a reader sees the same
  pub same_view : message_view (λ t. t) these (without_field token inner m) ≡ message_view (λ t. t) these m
  same_view = ap₂ (λ (fs : List FieldDesc) (rs : List Text). (map (seen_field (λ t. t)) fs, rs))
      (none_goes (λ (f : FieldDesc). is_one_of these f.name) (field_place token inner) m.field none_has)
      (none_comes (is_one_of these) _ (map (λ (f : FieldDesc). f.name) (at_place (field_place token inner) m.field)) m.reserved_name none_reserved)
