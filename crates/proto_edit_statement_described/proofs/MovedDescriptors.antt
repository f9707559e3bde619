-- The descriptor of a file whose tokens are moved.
use Rattle.std.proofs.Common.{◌≡◌, ℕ, Bool, true, false, ◌&&◌, ◌||◌, if◌then◌else◌, List, [], ◌∷◌, ◌++◌, map, flat_map, find, Option, Some, None, option_map, is_some, codes, option_and_then, refl, sym, ◌∙◌, ap, ap₂}
use Rattle.proto_base.proofs.Common.{signed_decimal, or_nothing}
use Rattle.proto_tree.specs.declared.tree.Constant.{Constant}
use Rattle.proto_tree.specs.declared.tree.Constant.TheVariants as constant
use Rattle.proto_tree.specs.declared.tree.FieldType.{FieldType as WrittenType}
use Rattle.proto_tree.specs.declared.tree.FieldType.TheVariants as written_type
use Rattle.proto_tree.specs.declared.tree.MapField.{MapField}
use Rattle.proto_tree.specs.declared.tree.Range.{Range}
use Rattle.proto_tree.specs.declared.tree.Reference.{Reference}
use Rattle.proto_tree.specs.declared.tree.Signature.{Signature}
use Rattle.proto_tree.specs.declared.tree.Signed.{Signed}
use Rattle.proto_tree.specs.declared.tree.Value.{Value}
use Rattle.proto_tree.specs.declared.piece.Extending.{Extending}
use Rattle.proto_tree.specs.declared.piece.Statement.TheVariants as statement
use Rattle.proto_tree.specs.declared.piece.Header.TheVariants as header
use Rattle.proto_tree.proofs.Common.{Move, move_constant, move_map_field, move_option, move_range, move_reference, move_signature, move_signed, move_tree, move_type, move_value, Tree, End, Leaf, Block}
use Rattle.proto_case.specs.Camel.{entry_name}
use Rattle.proto_names_outline.proofs.Common.{imports_in, items_in, package_moved}
use Rattle.proto_names_rules.proofs.Common.{joined, key_word, package_of, value_word}
use Rattle.proto_ast.proofs.Common.{is_named, text_of_constant, text_option, truth_named, truth_option, value_named, word_of, word_option, FieldOf, OptionOf, enum_ranges, extension_ranges, fields_in, options_in, reserved_names_in, reserved_ranges, settings_of, statements, values_in, MeantOf, Scene, meant_by, text, value, has_label}
use Rattle.proto_desc_checks_laws.proofs.Common.{IsMoved, without_imports, enum_ranges_moved, extension_ranges_moved, fields_moved, file_options_moved, find_moved, flat_kept, given_moved, maps_kept, move_field_of, move_option_of, options_moved, reserved_names_moved, reserved_ranges_moved, settings_moved, some_kept, values_moved, enum_range_moved, json_name_moved, label_moved, named_moved, number_moved, range_moved, signed_moved, text_moved, word_moved}
use Rattle.proto_desc_numbers.specs.NumberFlaws.{enum_range_of, range_of}
use Rattle.proto_desc_build.specs.Described.{absolute, below, c_type_named, default_number, default_text, entry_described, entry_field, enum_described, enums_described, extension_described, extensions_described, field_described, field_with, field_number, field_type_name, field_type_of, file_described, file_options, is_map, label_of, message_described, messages_described, method_described, methods_described, mode_named, level_named, number_range, oneof_names, package_named, package_prefix, public_places, scalar_type, service_described, services_described, type_name_of, type_of, type_text, value_described, value_number, value_range, js_type_named, weak_places}
use Rattle.proto_descriptors.specs.declared.field.FieldType.{FieldType}
use Rattle.proto_descriptors.specs.declared.field.FieldType.TheVariants as field_type
use Rattle.proto_descriptors.specs.declared.field.Label.TheVariants as label
use Rattle.proto_descriptors.specs.declared.file.Syntax.TheVariants as syntax
use Rattle.proto_descriptors.specs.Descriptors.{EnumDesc, FieldDesc, MessageDesc, Messages, NoMessages, Message, MethodDesc, ServiceDesc}
use Rattle.proto_edit_statement_described.specs.Common.{with_dependencies, IsMovedScene}

and_then_map : {A B C : Type 0} (f : A → B) (h : B → Option C) (o : Option A) → option_and_then h (option_map f o) ≡ option_and_then (λ x. h (f x)) o
and_then_map f h None = refl
and_then_map f h (Some x) = refl

and_then_same : {A C : Type 0} (h k : A → Option C) → ((x : A) → h x ≡ k x) → (o : Option A) → option_and_then h o ≡ option_and_then k o
and_then_same h k e None = refl
and_then_same h k e (Some x) = e x

map_same : {A C : Type 0} (h k : A → C) → ((x : A) → h x ≡ k x) → (o : Option A) → option_map h o ≡ option_map k o
map_same h k e None = refl
map_same h k e (Some x) = ap Some (e x)

map_map : {A B C : Type 0} (f : A → B) (h : B → C) (o : Option A) → option_map h (option_map f o) ≡ option_map (λ x. h (f x)) o
map_map f h None = refl
map_map f h (Some x) = refl

module _ (g : Move) (a b : Scene) (all : IsMovedScene g a b) where
  is : IsMoved g a b
  is = all.same

  version : b.is_proto3 ≡ a.is_proto3
  version = sym all.same.version

  -- ---- options

  named : (w : List ℕ) (os : List OptionOf) → value_named (text b) w (map (move_option_of g) os) ≡ option_map (move_constant g) (value_named (text a) w os)
  named w os =
      ap (option_map (λ (o : OptionOf). o.value)) (find_moved (move_option_of g) (is_named (text a) w) (is_named (text b) w) (named_moved g a b all.same w) os)
      ∙ map_map (move_option_of g) (λ (o : OptionOf). o.value) (find (is_named (text a) w) os)
      ∙ sym (map_map (λ (o : OptionOf). o.value) (move_constant g) (find (is_named (text a) w) os))

  pub truths : (w : List ℕ) (os : List OptionOf) → truth_option (text b) w (map (move_option_of g) os) ≡ truth_option (text a) w os
  truths w os =
      ap (option_and_then (λ c. option_and_then truth_named (word_of (text b) c))) (named w os) ∙ and_then_map (move_constant g) (λ c. option_and_then truth_named (word_of (text b) c)) (value_named (text a) w os)
      ∙ and_then_same (λ c. option_and_then truth_named (word_of (text b) (move_constant g c))) (λ c. option_and_then truth_named (word_of (text a) c)) (λ c. ap (option_and_then truth_named) (word_moved g a b all.same c)) (value_named (text a) w os)

  words : (w : List ℕ) (os : List OptionOf) → word_option (text b) w (map (move_option_of g) os) ≡ word_option (text a) w os
  words w os =
      ap (option_and_then (word_of (text b))) (named w os) ∙ and_then_map (move_constant g) (word_of (text b)) (value_named (text a) w os)
      ∙ and_then_same (λ c. word_of (text b) (move_constant g c)) (word_of (text a)) (word_moved g a b all.same) (value_named (text a) w os)

  texts : (w : List ℕ) (os : List OptionOf) → text_option (text b) (value b) w (map (move_option_of g) os) ≡ text_option (text a) (value a) w os
  texts w os =
      ap (option_and_then (text_of_constant (value b))) (named w os) ∙ and_then_map (move_constant g) (text_of_constant (value b)) (value_named (text a) w os)
      ∙ and_then_same (λ c. text_of_constant (value b) (move_constant g c)) (text_of_constant (value a)) (text_moved g a b all.same) (value_named (text a) w os)

  truth : (w : List ℕ) (x : Tree) → truth_option (text b) w (options_in (move_tree g x)) ≡ truth_option (text a) w (options_in x)
  truth w x = ap (truth_option (text b) w) (options_moved g x) ∙ truths w (options_in x)

  -- ---- types

  type_moved : (t : WrittenType) → type_of b (move_type g t) ≡ type_of a t
  type_moved (written_type.Scalar t) = ap scalar_type (all.same.texts t)
  type_moved (written_type.Reference r) = ap (λ e. if is_some e then field_type.Enum else field_type.Message) (all.same.enums r)

  meant_name : (r : Reference) → option_map (λ m. absolute m.name) (meant_by b (move_reference g r)) ≡ option_map (λ m. absolute m.name) (meant_by a r)
  meant_name r =
      sym (map_map (λ (m : MeantOf). m.name) absolute (meant_by b (move_reference g r))) ∙ ap (option_map absolute) (all.names r) ∙ map_map (λ (m : MeantOf). m.name) absolute (meant_by a r)

  type_name_moved : (t : WrittenType) → type_name_of b (move_type g t) ≡ type_name_of a t
  type_name_moved (written_type.Scalar t) = refl
  type_name_moved (written_type.Reference r) = meant_name r

  type_text_same : (r : Reference) → type_text b (move_reference g r) ≡ type_text a r
  type_text_same r = ap or_nothing (meant_name r)

  -- ---- fields and extensions

  has_moved : (w : List ℕ) (f : FieldOf) → has_label b w (move_field_of g f) ≡ has_label a w f
  has_moved w f = label_moved g a b all.same w f.label

  map_moved : (f : FieldOf) → is_map (move_field_of g f) ≡ is_map f
  map_moved f = some_kept g f.map_key

  label_same : (f : FieldOf) → label_of b (move_field_of g f) ≡ label_of a f
  label_same f =
      ap₂ (λ (x y : Bool). if x then label.Repeated else (if y then label.Required else label.Optional)) (ap₂ (λ (x y : Bool). x || y) (map_moved f) (has_moved (codes "repeated") f)) (has_moved (codes "required") f)

  default_moved : (c : Constant) → default_text b (move_constant g c) ≡ default_text a c
  default_moved (constant.Number n) = ap (λ z. signed_decimal (default_number z)) (signed_moved g a b all.same n)
  default_moved (constant.Word w) = all.same.texts w
  default_moved (constant.Text j) = flat_kept g (value a) (value b) all.same.strings (j.first ∷ j.rest)

  -- with what is said of its message
  field_with_same : (full : List ℕ) {extendee extendee' json json' : Option (List ℕ)} (f : FieldOf) → extendee' ≡ extendee → json' ≡ json → field_with b full extendee' json' (move_field_of g f) ≡ field_with a full extendee json f
  field_with_same full f extendees names = λ i. record {
    name = all.same.texts f.name i;
    number = field_number (number_moved g a b all.same f.number i);
    label = label_same f i;
    field_type = types i;
    type_name = type_names i;
    extendee = extendees i;
    default_value = defaults i;
    oneof_index = f.oneof;
    json_name = names i;
    proto3_optional = version i && has_moved (codes "optional") f i;
    options = record {
      ctype = option_map c_type_named (words (codes "ctype") f.options i);
      packed = truths (codes "packed") f.options i;
      jstype = option_map js_type_named (words (codes "jstype") f.options i);
      lazy = truths (codes "lazy") f.options i;
      unverified_lazy = truths (codes "unverified_lazy") f.options i;
      deprecated = truths (codes "deprecated") f.options i;
      weak = truths (codes "weak") f.options i;
    };
  }
    where
      types : field_type_of b (move_field_of g f) ≡ field_type_of a f
      types = ap₂ (λ (x : Bool) (y : FieldType). if x then field_type.Message else y) (map_moved f) (type_moved f.kind)

      type_names : field_type_name b full (move_field_of g f) ≡ field_type_name a full f
      type_names =
          ap₂ (λ (x : Bool) (y : Option (List ℕ)). if x then Some (below full (entry_name (text b (g f.name)))) else y) (map_moved f) (type_name_moved f.kind)
          ∙ ap (λ (w : List ℕ). if is_map f then Some (below full (entry_name w)) else type_name_of a f.kind) (all.same.texts f.name)

      defaults : option_map (default_text b) (value_named (text b) (codes "default") (map (move_option_of g) f.options)) ≡ option_map (default_text a) (value_named (text a) (codes "default") f.options)
      defaults =
          ap (option_map (default_text b)) (named (codes "default") f.options) ∙ map_map (move_constant g) (default_text b) (value_named (text a) (codes "default") f.options)
          ∙ map_same (λ c. default_text b (move_constant g c)) (default_text a) default_moved (value_named (text a) (codes "default") f.options)

  pub field_same : (full : List ℕ) (f : FieldOf) → field_described b full (move_field_of g f) ≡ field_described a full f
  field_same full f = field_with_same full f refl (ap Some (json_name_moved g a b all.same f))

  extension_same : (r : Reference) (f : FieldOf) → extension_described b (move_reference g r) (move_field_of g f) ≡ extension_described a r f
  extension_same r f = field_with_same [] f (ap Some (type_text_same r)) refl

  -- ---- lists

  pub each_same : {A B : Type 0} (m : A → A) (f k : A → B) → ((x : A) → k (m x) ≡ f x) → (xs ys : List A) → ys ≡ map m xs → map k ys ≡ map f xs
  each_same m f k e xs ys y = ap (map k) y ∙ maps_kept m f k e xs

  -- the extensions of one block, and of all

  pub extend_same : (e : Extending) (x : Tree) → map (extension_described b (move_reference g e.extendee)) (fields_in (move_tree g x)) ≡ map (extension_described a e.extendee) (fields_in x)
  extend_same e x = each_same (move_field_of g) (extension_described a e.extendee) (extension_described b (move_reference g e.extendee)) (extension_same e.extendee) (fields_in x) (fields_in (move_tree g x)) (fields_moved g 0 x)

  pub extensions_same : (x : Tree) → extensions_described b (move_tree g x) ≡ extensions_described a x
  extensions_same End = refl
  extensions_same (Leaf s rest) = extensions_same rest
  extensions_same (Block (header.Extend e) i within j rest) = ap₂ (λ (y z : List FieldDesc). y ++ z) (extend_same e within) (extensions_same rest)
  extensions_same (Block whole i within j rest) = extensions_same rest

  -- ---- enums

  value_same : (v : Value) → value_described b (move_value g v) ≡ value_described a v
  value_same v = λ i. record {
    name = all.same.texts v.name i;
    number = value_number (signed_moved g a b all.same v.number i);
    options = record { deprecated = (ap (truth_option (text b) (codes "deprecated")) (settings_moved g v.settings) ∙ truths (codes "deprecated") (settings_of v.settings)) i };
  }

  pub ranges_same : (rs qs : List (Range ℕ)) → qs ≡ map (move_range g g) rs → map (λ r. number_range (range_of b r)) qs ≡ map (λ r. number_range (range_of a r)) rs
  ranges_same = each_same (move_range g g) (λ r. number_range (range_of a r)) (λ r. number_range (range_of b r)) (λ r. ap number_range (range_moved g a b all.same r))

  enum_ranges_same : (rs qs : List (Range Signed)) → qs ≡ map (move_range g (move_signed g)) rs → map (λ r. value_range (enum_range_of b r)) qs ≡ map (λ r. value_range (enum_range_of a r)) rs
  enum_ranges_same = each_same (move_range g (move_signed g)) (λ r. value_range (enum_range_of a r)) (λ r. value_range (enum_range_of b r)) (λ r. ap value_range (enum_range_moved g a b all.same r))

  pub names_same : (xs ys : List ℕ) → ys ≡ map g xs → map (value b) ys ≡ map (value a) xs
  names_same = each_same g (value a) (value b) all.same.strings

  pub enum_same : (name : ℕ) (x : Tree) → enum_described b (g name) (move_tree g x) ≡ enum_described a name x
  enum_same name x = λ i. record {
    name = all.same.texts name i;
    value = each_same (move_value g) (value_described a) (value_described b) value_same (values_in x) (values_in (move_tree g x)) (values_moved g x) i;
    reserved_range = enum_ranges_same (flat_map enum_ranges (statements x)) _ (enum_ranges_moved g x) i;
    reserved_name = names_same (reserved_names_in x) _ (reserved_names_moved g x) i;
    options = record { allow_alias = truth (codes "allow_alias") x i; deprecated = truth (codes "deprecated") x i };
  }

  pub enums_same : (x : Tree) → enums_described b (move_tree g x) ≡ enums_described a x
  enums_same End = refl
  enums_same (Leaf s rest) = enums_same rest
  enums_same (Block (header.Enum h) i within j rest) = ap₂ (λ (e : EnumDesc) (es : List EnumDesc). e ∷ es) (enum_same h.name within) (enums_same rest)
  enums_same (Block whole i within j rest) = enums_same rest

  -- ---- messages

  pub oneofs_same : (x : Tree) → oneof_names b (move_tree g x) ≡ oneof_names a x
  oneofs_same End = refl
  oneofs_same (Leaf s rest) = oneofs_same rest
  oneofs_same (Block (header.Oneof h) i within j rest) = ap₂ (λ (n : List ℕ) (ns : List (List ℕ)). n ∷ ns) (all.same.texts h.name) (oneofs_same rest)
  oneofs_same (Block whole i within j rest) = oneofs_same rest

  pub message_same : (full : List ℕ) (name : ℕ) (x : Tree) → message_described b full (g name) (move_tree g x) ≡ message_described a full name x
  message_same full name x = λ i. record {
    name = all.same.texts name i;
    field = each_same (move_field_of g) (field_described a full) (field_described b full) (field_same full) (fields_in x) (fields_in (move_tree g x)) (fields_moved g 0 x) i;
    extension = extensions_same x i;
    enum_type = enums_same x i;
    extension_range = ranges_same (flat_map extension_ranges (statements x)) _ (given_moved g (move_range g g) extension_ranges (extension_ranges_moved g) x) i;
    oneof_decl = oneofs_same x i;
    reserved_range = ranges_same (flat_map reserved_ranges (statements x)) _ (given_moved g (move_range g g) reserved_ranges (reserved_ranges_moved g) x) i;
    reserved_name = names_same (reserved_names_in x) _ (reserved_names_moved g x) i;
    options = record {
      deprecated = truth (codes "deprecated") x i;
      no_standard_descriptor_accessor = truth (codes "no_standard_descriptor_accessor") x i;
      map_entry = false;
    };
  }

  pub entry_same : (f : MapField) → entry_described b (move_map_field g f) ≡ entry_described a f
  entry_same f = λ i. record {
    name = entry_name (all.same.texts f.name i);
    field = entry_field key_word 1 (scalar_type (all.same.texts f.key i)) None ∷ entry_field value_word 2 (type_moved f.value i) (type_name_moved f.value i) ∷ [];
    extension = [];
    enum_type = [];
    extension_range = [];
    oneof_decl = [];
    reserved_range = [];
    reserved_name = [];
    options = record { deprecated = None; no_standard_descriptor_accessor = None; map_entry = true };
  }

  pub messages_same : (full : List ℕ) (x : Tree) → messages_described b full (move_tree g x) ≡ messages_described a full x
  messages_same full End = refl
  messages_same full (Leaf (statement.MapField f) rest) = ap₂ (λ (m : MessageDesc) (ms : Messages). Message m NoMessages ms) (entry_same f) (messages_same full rest)
  messages_same full (Leaf _ rest) = messages_same full rest
  messages_same full (Block (header.Message h) i within j rest) =
      ap₂ (λ (n : List ℕ) (ms : Messages). Message (message_described b (below full n) (g h.name) (move_tree g within)) (messages_described b (below full n) (move_tree g within)) ms) (all.same.texts h.name) (messages_same full rest)
      ∙ ap₂ (λ (m : MessageDesc) (ms : Messages). Message m ms (messages_described a full rest)) (message_same (below full (text a h.name)) h.name within) (messages_same (below full (text a h.name)) within)
  messages_same full (Block whole i within j rest) = messages_same full rest

  -- ---- services

  stream_same : (o : Option ℕ) → is_some (move_option g o) ≡ is_some o
  stream_same = some_kept g

  method_same : (s : Signature) (os ps : List OptionOf) → ps ≡ map (move_option_of g) os → method_described b (move_signature g s) ps ≡ method_described a s os
  method_same s os ps e = λ i. record {
    name = all.same.texts s.name i;
    input_type = type_text_same s.input.reference i;
    output_type = type_text_same s.output.reference i;
    options = record {
      deprecated = (ap (truth_option (text b) (codes "deprecated")) e ∙ truths (codes "deprecated") os) i;
      idempotency_level = option_map level_named ((ap (word_option (text b) (codes "idempotency_level")) e ∙ words (codes "idempotency_level") os) i);
    };
    client_streaming = stream_same s.input.stream i;
    server_streaming = stream_same s.output.stream i;
  }

  methods_same : (x : Tree) → methods_described b (move_tree g x) ≡ methods_described a x
  methods_same End = refl
  methods_same (Leaf (statement.Method s i) rest) = ap₂ (λ (m : MethodDesc) (ms : List MethodDesc). m ∷ ms) (method_same s [] [] refl) (methods_same rest)
  methods_same (Leaf _ rest) = methods_same rest
  methods_same (Block (header.Method s) i within j rest) = ap₂ (λ (m : MethodDesc) (ms : List MethodDesc). m ∷ ms) (method_same s (options_in within) (options_in (move_tree g within)) (options_moved g within)) (methods_same rest)
  methods_same (Block whole i within j rest) = methods_same rest

  pub service_same : (name : ℕ) (x : Tree) → service_described b (g name) (move_tree g x) ≡ service_described a name x
  service_same name x = λ i. record { name = all.same.texts name i; method = methods_same x i; options = record { deprecated = truth (codes "deprecated") x i } }

  pub services_same : (x : Tree) → services_described b (move_tree g x) ≡ services_described a x
  services_same End = refl
  services_same (Leaf s rest) = services_same rest
  services_same (Block (header.Service h) i within j rest) = ap₂ (λ (m : ServiceDesc) (ms : List ServiceDesc). m ∷ ms) (service_same h.name within) (services_same rest)
  services_same (Block whole i within j rest) = services_same rest

-- ---- imports are in none of these

no_messages : (a : Scene) (full : List ℕ) (x : Tree) → messages_described a full (without_imports x) ≡ messages_described a full x
no_messages a full End = refl
no_messages a full (Leaf (statement.Import i) rest) = no_messages a full rest
no_messages a full (Leaf (statement.MapField f) rest) = ap (Message (entry_described a f) NoMessages) (no_messages a full rest)
no_messages a full (Leaf _ rest) = no_messages a full rest
no_messages a full (Block (header.Message h) i within j rest) = ap (Message (message_described a (below full (text a h.name)) h.name within) (messages_described a (below full (text a h.name)) within)) (no_messages a full rest)
no_messages a full (Block whole i within j rest) = no_messages a full rest

no_enums : (a : Scene) (x : Tree) → enums_described a (without_imports x) ≡ enums_described a x
no_enums a End = refl
no_enums a (Leaf (statement.Import i) rest) = no_enums a rest
no_enums a (Leaf _ rest) = no_enums a rest
no_enums a (Block (header.Enum h) i within j rest) = ap (λ (es : List EnumDesc). enum_described a h.name within ∷ es) (no_enums a rest)
no_enums a (Block whole i within j rest) = no_enums a rest

no_extensions : (a : Scene) (x : Tree) → extensions_described a (without_imports x) ≡ extensions_described a x
no_extensions a End = refl
no_extensions a (Leaf (statement.Import i) rest) = no_extensions a rest
no_extensions a (Leaf _ rest) = no_extensions a rest
no_extensions a (Block (header.Extend e) i within j rest) = ap (λ (fs : List FieldDesc). map (extension_described a e.extendee) (fields_in within) ++ fs) (no_extensions a rest)
no_extensions a (Block whole i within j rest) = no_extensions a rest

no_services : (a : Scene) (x : Tree) → services_described a (without_imports x) ≡ services_described a x
no_services a End = refl
no_services a (Leaf (statement.Import i) rest) = no_services a rest
no_services a (Leaf _ rest) = no_services a rest
no_services a (Block (header.Service h) i within j rest) = ap (λ (es : List ServiceDesc). service_described a h.name within ∷ es) (no_services a rest)
no_services a (Block whole i within j rest) = no_services a rest

no_package : (x : Tree) → package_of (items_in (without_imports x)) ≡ package_of (items_in x)
no_package End = refl
no_package (Leaf (statement.Import i) rest) = no_package rest
no_package (Leaf (statement.Package p) rest) = refl
no_package (Leaf _ rest) = no_package rest
no_package (Block (header.Message h) i within j rest) = no_package rest
no_package (Block whole i within j rest) = no_package rest

pub package_same : (g : Move) (a b : Scene) → IsMovedScene g a b → (ts us : List ℕ) → us ≡ map g ts → package_named b us ≡ package_named a ts
package_same g a b all ts us e = ap (package_named b) e ∙ go ts
  where
    go : (ts : List ℕ) → package_named b (map g ts) ≡ package_named a ts
    go [] = refl
    go (t ∷ ts) = ap (λ (z : List (List ℕ)). Some (joined z)) (maps_kept g (text a) (text b) all.same.texts (t ∷ ts))

pub options_same : (g : Move) (a b : Scene) → IsMovedScene g a b → (os ps : List OptionOf) → ps ≡ map (move_option_of g) os → file_options b ps ≡ file_options a os
options_same g a b all os ps e = λ i. record {
  java_package = said (codes "java_package") i;
  java_outer_classname = said (codes "java_outer_classname") i;
  java_multiple_files = held (codes "java_multiple_files") i;
  optimize_for = option_map mode_named ((ap (word_option (text b) (codes "optimize_for")) e ∙ words g a b all (codes "optimize_for") os) i);
  go_package = said (codes "go_package") i;
  deprecated = held (codes "deprecated") i;
  cc_enable_arenas = held (codes "cc_enable_arenas") i;
  objc_class_prefix = said (codes "objc_class_prefix") i;
  csharp_namespace = said (codes "csharp_namespace") i;
  php_namespace = said (codes "php_namespace") i;
  java_generate_equals_and_hash = held (codes "java_generate_equals_and_hash") i;
  java_generic_services = held (codes "java_generic_services") i;
  ruby_package = said (codes "ruby_package") i;
  java_string_check_utf8 = held (codes "java_string_check_utf8") i;
  cc_generic_services = held (codes "cc_generic_services") i;
  py_generic_services = held (codes "py_generic_services") i;
  php_generic_services = held (codes "php_generic_services") i;
  swift_prefix = said (codes "swift_prefix") i;
  php_class_prefix = said (codes "php_class_prefix") i;
  php_metadata_namespace = said (codes "php_metadata_namespace") i;
}
  where
    said : (n : List ℕ) → text_option (text b) (value b) n ps ≡ text_option (text a) (value a) n os
    said n = ap (text_option (text b) (value b) n) e ∙ texts g a b all n os

    held : (n : List ℕ) → truth_option (text b) n ps ≡ truth_option (text a) n os
    held n = ap (truth_option (text b) n) e ∙ truths g a b all n os

-- all but the imports
pub imports_alone : (g : Move) (a b : Scene) (path : List ℕ) (s t : Tree) → IsMovedScene g a b → without_imports t ≡ move_tree g (without_imports s)
    → file_described b path t ≡ with_dependencies (map (λ w. value b w.path) (imports_in t)) (public_places 0 (imports_in t)) (weak_places 0 (imports_in t)) (file_described a path s)
imports_alone g a b path s t all e = λ i. record {
  name = path;
  «package» = pk i;
  dependency = map (λ w. value b w.path) (imports_in t);
  public_dependency = public_places 0 (imports_in t);
  weak_dependency = weak_places 0 (imports_in t);
  message_type = (ap (λ (p : Option (List ℕ)). messages_described b (package_prefix p) t) pk ∙ ms (package_prefix (package_named a (package_of (items_in s))))) i;
  enum_type = (sym (no_enums b t) ∙ ap (enums_described b) e ∙ enums_same g a b all (without_imports s) ∙ no_enums a s) i;
  service = (sym (no_services b t) ∙ ap (services_described b) e ∙ services_same g a b all (without_imports s) ∙ no_services a s) i;
  extension = (sym (no_extensions b t) ∙ ap (extensions_described b) e ∙ extensions_same g a b all (without_imports s) ∙ no_extensions a s) i;
  options = options_same g a b all (options_in s) (options_in t) (file_options_moved g s t e) i;
  syntax = if sym all.same.version i then syntax.Proto3 else syntax.Proto2;
}
  where
    pk : package_named b (package_of (items_in t)) ≡ package_named a (package_of (items_in s))
    pk = package_same g a b all (package_of (items_in s)) (package_of (items_in t)) (sym (no_package t) ∙ ap (λ (z : Tree). package_of (items_in z)) e ∙ package_moved g (without_imports s) ∙ ap (map g) (no_package s))

    ms : (full : List ℕ) → messages_described b full t ≡ messages_described a full s
    ms full = sym (no_messages b full t) ∙ ap (messages_described b full) e ∙ messages_same g a b all full (without_imports s) ∙ no_messages a full s
