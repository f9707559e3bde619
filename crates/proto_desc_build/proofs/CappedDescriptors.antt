-- The descriptor of a file is the same with one cap and another, each past every limit (for the crates above).
use Rattle.std.proofs.Common.{◌≡◌, ◌⊎◌, ℕ, ◌+◌, ◌-◌, ◌^◌, ℤ, pos, negsuc, nat_abs, true, false, if◌then◌else◌, List, [], ◌∷◌, ◌++◌, map, flat_map, Option, Some, None, option_map, codes, refl, sym, ◌∙◌, ap, inl, inr}
use Rattle.proto_base.proofs.Common.{signed_decimal, cases_Bool}
use Rattle.proto_tree.specs.declared.piece.Header.TheVariants as header
use Rattle.proto_tree.specs.declared.piece.Statement.TheVariants as statement
use Rattle.proto_tree.specs.declared.tree.Constant.{Constant}
use Rattle.proto_tree.specs.declared.tree.Constant.TheVariants as constant
use Rattle.proto_tree.specs.declared.tree.Range.{Range}
use Rattle.proto_tree.specs.declared.tree.Signed.{Signed}
use Rattle.proto_tree.specs.declared.tree.Value.{Value}
use Rattle.proto_tree.specs.Tree.{Tree, End, Leaf, Block}
use Rattle.proto_names_outline.specs.FromTree.{items_in}
use Rattle.proto_names_rules.specs.Tree.{package_of}
use Rattle.proto_ast.proofs.Common.{value_named, FieldOf, statements, fields_in, values_in, reserved_ranges, extension_ranges, enum_ranges, Scene, text, number_at, signed_value, json_name_of}
use Rattle.proto_desc_numbers.proofs.Common.{is_within, most_field, most_value, least_value, range_of, enum_range_of, end_of, Alike, AlikeCaps, is_near, within_alike, near_within, same_near, past_or_none, capped, alike_at, alike_signed, alike_end}
use Rattle.proto_desc_build.specs.Capped.{CapsKeepTheDescriptor}
use Rattle.proto_descriptors.specs.Descriptors.{NoMessages, Message}
use Rattle.proto_desc_build.specs.Described.{field_number, value_number, default_number, number_range, value_range, default_text, below, type_text, field_with, field_described, extension_described, extensions_described, value_described, enum_described, enums_described, entry_described, message_described, messages_described, package_named, package_prefix, file_described}

-- ---- numbers

-- a number in its limits is the same, and of another nothing is said
within_same : {X : Type 0} (least most : ℤ) → is_near least ≡ true → is_near most ≡ true → (f : ℤ → X) (other : X) (a b : ℤ) → Alike a b → (if is_within least most a then f a else other) ≡ (if is_within least most b then f b else other)
within_same least most l m f other a b h = ap (λ v. if v then f a else other) (within_alike least most a b l m h) ∙ go (cases_Bool (is_within least most b))
  where
    go : (is_within least most b ≡ true) ⊎ (is_within least most b ≡ false) → (if is_within least most b then f a else other) ≡ (if is_within least most b then f b else other)
    go (inl e) = ap (λ z. if is_within least most b then f z else other) (same_near a b h (near_within least most a l m (within_alike least most a b l m h ∙ e)))
    go (inr e) = ap (λ v. if v then f a else other) e ∙ sym (ap (λ v. if v then f b else other) e)

field_number_same : (a b : ℤ) → Alike a b → field_number a ≡ field_number b
field_number_same a b h = within_same (pos 0) most_field refl refl nat_abs 0 a b h

value_number_same : (a b : ℤ) → Alike a b → value_number a ≡ value_number b
value_number_same a b h = within_same least_value most_value refl refl (λ n. n) (pos 0) a b h

default_number_same : (a b : ℤ) → Alike a b → default_number a ≡ default_number b
default_number_same a b h = within_same (negsuc (2 ^ 63 - 1)) (pos (2 ^ 64 - 1)) refl refl (λ n. n) (pos 0) a b h

map_same : {A X : Type 0} (f g : A → X) → ((a : A) → f a ≡ g a) → (items : List A) → map f items ≡ map g items
map_same f g h [] = refl
map_same f g h (a ∷ items) = λ i. h a i ∷ map_same f g h items i

option_map_same : {A X : Type 0} (f g : A → X) → ((a : A) → f a ≡ g a) → (o : Option A) → option_map f o ≡ option_map g o
option_map_same f g h None = refl
option_map_same f g h (Some a) = ap Some (h a)

-- ---- what is described

module _ (scene : Scene) (c d : Option ℕ) (caps : AlikeCaps c d) where
  abbrev one : Scene
  one = capped scene c

  abbrev two : Scene
  two = capped scene d

  range_same : (r : Range ℕ) → number_range (range_of one r) ≡ number_range (range_of two r)
  range_same r = λ i. record {
    start = field_number_same (number_at one r.first) (number_at two r.first) (alike_at scene c d caps r.first) i;
    end = field_number_same (end_of most_field (number_at one) r.first r.up_to) (end_of most_field (number_at two) r.first r.up_to) (alike_end most_field (number_at one) (number_at two) (alike_at scene c d caps) r.first r.up_to) i + 1;
  }

  enum_range_same : (r : Range Signed) → value_range (enum_range_of one r) ≡ value_range (enum_range_of two r)
  enum_range_same r = λ i. record {
    start = value_number_same (signed_value one r.first) (signed_value two r.first) (alike_signed scene c d caps r.first) i;
    end = value_number_same (end_of most_value (signed_value one) r.first r.up_to) (end_of most_value (signed_value two) r.first r.up_to) (alike_end most_value (signed_value one) (signed_value two) (alike_signed scene c d caps) r.first r.up_to) i;
  }

  default_same : (v : Constant) → default_text one v ≡ default_text two v
  default_same (constant.Number n) = ap signed_decimal (default_number_same (signed_value one n) (signed_value two n) (alike_signed scene c d caps n))
  default_same (constant.Word w) = refl
  default_same (constant.Text j) = refl

  with_same : (full : List ℕ) (extendee json_name : Option (List ℕ)) (f : FieldOf) → field_with one full extendee json_name f ≡ field_with two full extendee json_name f
  with_same full extendee json_name f = λ i. record (field_with one full extendee json_name f) {
    number = field_number_same (number_at one f.number) (number_at two f.number) (alike_at scene c d caps f.number) i;
    default_value = option_map_same (default_text one) (default_text two) default_same (value_named (text scene) (codes "default") f.options) i;
  }

  field_same : (full : List ℕ) (f : FieldOf) → field_described one full f ≡ field_described two full f
  field_same full f = with_same full None (Some (json_name_of scene f)) f

  extensions_same : (tree : Tree) → extensions_described one tree ≡ extensions_described two tree
  extensions_same End = refl
  extensions_same (Leaf s rest) = extensions_same rest
  extensions_same (Block (header.Extend e) opens within closes rest) =
      λ i. map_same (extension_described one e.extendee) (extension_described two e.extendee) (with_same [] (Some (type_text scene e.extendee)) None) (fields_in within) i ++ extensions_same rest i
  extensions_same (Block h opens within closes rest) = extensions_same rest

  value_same : (v : Value) → value_described one v ≡ value_described two v
  value_same v = λ i. record (value_described one v) { number = value_number_same (signed_value one v.number) (signed_value two v.number) (alike_signed scene c d caps v.number) i }

  enum_same : (name : ℕ) (within : Tree) → enum_described one name within ≡ enum_described two name within
  enum_same name within = λ i. record (enum_described one name within) {
    value = map_same (value_described one) (value_described two) value_same (values_in within) i;
    reserved_range = map_same (λ r. value_range (enum_range_of one r)) (λ r. value_range (enum_range_of two r)) enum_range_same (flat_map enum_ranges (statements within)) i;
  }

  enums_same : (tree : Tree) → enums_described one tree ≡ enums_described two tree
  enums_same End = refl
  enums_same (Leaf s rest) = enums_same rest
  enums_same (Block (header.Enum h) opens within closes rest) = λ i. enum_same h.name within i ∷ enums_same rest i
  enums_same (Block h opens within closes rest) = enums_same rest

  message_same : (full : List ℕ) (name : ℕ) (within : Tree) → message_described one full name within ≡ message_described two full name within
  message_same full name within = λ i. record (message_described one full name within) {
    field = map_same (field_described one full) (field_described two full) (field_same full) (fields_in within) i;
    extension = extensions_same within i;
    enum_type = enums_same within i;
    extension_range = ranges (flat_map extension_ranges (statements within)) i;
    reserved_range = ranges (flat_map reserved_ranges (statements within)) i;
  }
    where
      ranges : (rs : List (Range ℕ)) → map (λ r. number_range (range_of one r)) rs ≡ map (λ r. number_range (range_of two r)) rs
      ranges = map_same (λ r. number_range (range_of one r)) (λ r. number_range (range_of two r)) range_same

  messages_same : (full : List ℕ) (tree : Tree) → messages_described one full tree ≡ messages_described two full tree
  messages_same full End = refl
  messages_same full (Leaf (statement.MapField f) rest) = ap (λ m. Message (entry_described scene f) NoMessages m) (messages_same full rest)
  messages_same full (Leaf s rest) = messages_same full rest
  messages_same full (Block (header.Message h) opens within closes rest) =
      let inner : List ℕ = below full (text scene h.name) in
      λ i. Message (message_same inner h.name within i) (messages_same inner within i) (messages_same full rest i)
  messages_same full (Block h opens within closes rest) = messages_same full rest

  pub file_same : (path : List ℕ) (tree : Tree) → file_described one path tree ≡ file_described two path tree
  file_same path tree = λ i. record (file_described one path tree) {
    message_type = messages_same (package_prefix (package_named scene (package_of (items_in tree)))) tree i;
    enum_type = enums_same tree i;
    extension = extensions_same tree i;
  }

pub caps_keep_the_descriptor : CapsKeepTheDescriptor
caps_keep_the_descriptor scene path tree e = file_same scene scene.cap None (past_or_none scene.cap e) path tree
