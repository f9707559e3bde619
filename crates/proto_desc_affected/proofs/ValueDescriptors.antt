-- The descriptor of a file is the same without the names of values.
use Rattle.std.proofs.Common.{◌≡◌, ℕ, if◌then◌else◌, List, [], ◌∷◌, ◌++◌, map, Option, Some, None, option_map, refl, sym, ap, ◌∙◌}
use Rattle.proto_base.specs.Texts.{Text, or_nothing}
use Rattle.proto_case.specs.Camel.{entry_name}
use Rattle.proto_tree.specs.declared.piece.Header.TheVariants as header
use Rattle.proto_tree.specs.declared.piece.Statement.TheVariants as statement
use Rattle.proto_tree.specs.declared.tree.FieldType.{FieldType as WrittenType}
use Rattle.proto_tree.specs.declared.tree.FieldType.TheVariants as written_type
use Rattle.proto_tree.specs.declared.tree.MapField.{MapField}
use Rattle.proto_tree.specs.declared.tree.Reference.{Reference}
use Rattle.proto_tree.specs.declared.tree.Signature.{Signature}
use Rattle.proto_tree.specs.Tree.{Tree, End, Leaf, Block}
use Rattle.proto_names_outline.specs.FromTree.{items_in}
use Rattle.proto_names_rules.specs.Tree.{key_word, package_of, value_word}
use Rattle.proto_ast.proofs.Common.{FieldOf, MeantOf, OptionOf, Scene, fields_in, json_name_of, meant_by, options_in, text}
use Rattle.proto_descriptors.specs.declared.field.FieldType.TheVariants as field_type
use Rattle.proto_descriptors.specs.Descriptors.{NoMessages, Message}
use Rattle.proto_desc_build.specs.Described.{absolute, below, entry_described, entry_field, extension_described, extensions_described, field_described, field_with, file_described, is_map, message_described, messages_described, method_described, methods_described, package_named, package_prefix, scalar_type, service_described, services_described, type_name_of, type_of, type_text}
use Rattle.proto_desc_affected.specs.Values.{ValueNamesMatterToNoDescriptor, meant_without_names, without_value_names}
use Rattle.proto_desc_affected.proofs.ValueNames.{meant_nameless, some_nameless}

map_same : {A X : Type 0} (f g : A → X) → ((a : A) → f a ≡ g a) → (items : List A) → map f items ≡ map g items
map_same f g h [] = refl
map_same f g h (a ∷ items) = λ i. h a i ∷ map_same f g h items i

named_nameless : (o : Option MeantOf) → option_map (λ (m : MeantOf). absolute m.name) (option_map meant_without_names o) ≡ option_map (λ (m : MeantOf). absolute m.name) o
named_nameless None = refl
named_nameless (Some m) = refl

module _ (scene : Scene) where
  abbrev bare : Scene
  bare = without_value_names scene

  -- ---- types

  named_same : (r : Reference) → option_map (λ (m : MeantOf). absolute m.name) (meant_by bare r) ≡ option_map (λ (m : MeantOf). absolute m.name) (meant_by scene r)
  named_same r = ap (option_map (λ (m : MeantOf). absolute m.name)) (meant_nameless scene r) ∙ named_nameless (meant_by scene r)

  text_same : (r : Reference) → type_text bare r ≡ type_text scene r
  text_same r = ap or_nothing (named_same r)

  name_same : (t : WrittenType) → type_name_of bare t ≡ type_name_of scene t
  name_same (written_type.Scalar t) = refl
  name_same (written_type.Reference r) = named_same r

  type_same : (t : WrittenType) → type_of bare t ≡ type_of scene t
  type_same (written_type.Scalar t) = refl
  type_same (written_type.Reference r) = ap (λ b. if b then field_type.Enum else field_type.Message) (some_nameless scene r)

  -- ---- fields and extensions

  with_same : (full : Text) (extendee json_name : Option Text) (f : FieldOf) → field_with bare full extendee json_name f ≡ field_with scene full extendee json_name f
  with_same full extendee json_name f = λ i. record (field_with scene full extendee json_name f) {
    field_type = if is_map f then field_type.Message else type_same f.kind i;
    type_name = if is_map f then Some (below full (entry_name (text scene f.name))) else name_same f.kind i;
  }

  field_same : (full : Text) (f : FieldOf) → field_described bare full f ≡ field_described scene full f
  field_same full f = with_same full None (Some (json_name_of scene f)) f

  extension_same : (extendee : Reference) (f : FieldOf) → extension_described bare extendee f ≡ extension_described scene extendee f
  extension_same extendee f =
      with_same [] (Some (type_text bare extendee)) None f
      ∙ ap (λ (t : Text). field_with scene [] (Some t) None f) (text_same extendee)

  extensions_same : (tree : Tree) → extensions_described bare tree ≡ extensions_described scene tree
  extensions_same End = refl
  extensions_same (Leaf s rest) = extensions_same rest
  extensions_same (Block (header.Extend e) opens within closes rest) =
      λ i. map_same (extension_described bare e.extendee) (extension_described scene e.extendee) (extension_same e.extendee) (fields_in within) i ++ extensions_same rest i
  extensions_same (Block h opens within closes rest) = extensions_same rest

  -- ---- messages

  entry_same : (f : MapField) → entry_described bare f ≡ entry_described scene f
  entry_same f = λ i. record (entry_described scene f) {
    field =
        entry_field key_word 1 (scalar_type (text scene f.key)) None
        ∷ entry_field value_word 2 (type_same f.value i) (name_same f.value i) ∷ [];
  }

  message_same : (full : Text) (name : ℕ) (within : Tree) → message_described bare full name within ≡ message_described scene full name within
  message_same full name within = λ i. record (message_described scene full name within) {
    field = map_same (field_described bare full) (field_described scene full) (field_same full) (fields_in within) i;
    extension = extensions_same within i;
  }

  messages_same : (full : Text) (tree : Tree) → messages_described bare full tree ≡ messages_described scene full tree
  messages_same full End = refl
  messages_same full (Leaf (statement.MapField f) rest) = λ i. Message (entry_same f i) NoMessages (messages_same full rest i)
  messages_same full (Leaf s rest) = messages_same full rest
  messages_same full (Block (header.Message h) opens within closes rest) =
      let inner : Text = below full (text scene h.name) in
      λ i. Message (message_same inner h.name within i) (messages_same inner within i) (messages_same full rest i)
  messages_same full (Block h opens within closes rest) = messages_same full rest

  -- ---- services

  method_same : (s : Signature) (options : List OptionOf) → method_described bare s options ≡ method_described scene s options
  method_same s options = λ i. record (method_described scene s options) {
    input_type = text_same s.input.reference i;
    output_type = text_same s.output.reference i;
  }

  methods_same : (tree : Tree) → methods_described bare tree ≡ methods_described scene tree
  methods_same End = refl
  methods_same (Leaf (statement.Method s k) rest) = λ i. method_same s [] i ∷ methods_same rest i
  methods_same (Leaf s rest) = methods_same rest
  methods_same (Block (header.Method s) opens within closes rest) = λ i. method_same s (options_in within) i ∷ methods_same rest i
  methods_same (Block h opens within closes rest) = methods_same rest

  services_same : (tree : Tree) → services_described bare tree ≡ services_described scene tree
  services_same End = refl
  services_same (Leaf s rest) = services_same rest
  services_same (Block (header.Service h) opens within closes rest) =
      λ i. record (service_described scene h.name within) { method = methods_same within i } ∷ services_same rest i
  services_same (Block h opens within closes rest) = services_same rest

  -- ---- the file

  pub file_same : (path : Text) (tree : Tree) → file_described bare path tree ≡ file_described scene path tree
  file_same path tree = λ i. record (file_described scene path tree) {
    message_type = messages_same (package_prefix (package_named scene (package_of (items_in tree)))) tree i;
    service = services_same tree i;
    extension = extensions_same tree i;
  }

pub value_names_matter_to_no_descriptor : ValueNamesMatterToNoDescriptor
value_names_matter_to_no_descriptor a b same path tree =
    sym (file_same a path tree) ∙ ap (λ (s : Scene). file_described s path tree) same ∙ file_same b path tree
