-- What stays of a scene but for names: numbers, labels, types and options.
use Rattle.std.proofs.Common.{option_to_list, ◌≡◌, ℕ, ℤ, pos, neg_ℤ, Bool, true, false, ◌&&◌, ◌||◌, if◌then◌else◌, List, [], ◌∷◌, ◌++◌, map, flat_map, find, Option, Some, None, option_map, is_some, codes, option_and_then, refl, sym, ◌∙◌, ap, ap₂, subst, Contains, bytes_eq}
use Rattle.proto_base.proofs.Common.{Contains-append_left, Contains-append_right, contains_head, contains_later, word_from_same}
use Rattle.proto_tree.specs.declared.tree.Constant.{Constant}
use Rattle.proto_tree.specs.declared.tree.FieldType.{FieldType as WrittenType}
use Rattle.proto_tree.specs.declared.tree.MapField.{MapField}
use Rattle.proto_tree.specs.declared.tree.Range.{Range}
use Rattle.proto_tree.specs.declared.tree.RangeEnd.{RangeEnd}
use Rattle.proto_tree.specs.declared.tree.Signed.{Signed}
use Rattle.proto_tree.specs.declared.tree.UpTo.{UpTo}
use Rattle.proto_tree.specs.declared.tree.Value.{Value}
use Rattle.proto_tree.specs.Tree.{Tree}
use Rattle.proto_tree.specs.declared.tree.Constant.TheVariants as constant
use Rattle.proto_tree.specs.declared.tree.FieldType.TheVariants as written_type
use Rattle.proto_tree.specs.declared.tree.RangeEnd.TheVariants as range_end
use Rattle.proto_names_rules.proofs.Common.{Renaming, map_agree}
use Rattle.proto_ast.proofs.Common.{number_value, is_named, text_of_constant as text_value, text_option, truth_named, truth_of, truth_option, value_named, word_of, word_option, FieldOf, OptionOf, closed_ranges, enum_ranges, extension_ranges, fields_in, map_field, options_in, reserved_ranges, settings_of, statements, values_in, EnumOf, Scene, enum_meant, number_at, signed_value, text, up_to_cap, value, is_label_word}
use Rattle.proto_desc_numbers.specs.NumberFlaws.{bound_of, end_of, enum_range_of, first_of_signed, most_field, most_value, range_of}
use Rattle.proto_desc_checks_laws.specs.Renamed.{DifferInNames, SameButValues, constant_tokens, end_tokens, enum_tokens, field_tokens, message_tokens, option_tokens, range_tokens, scalar_tokens, up_to_tokens, value_tokens}
use Rattle.proto_descriptors.specs.declared.field.FieldType.TheVariants as field_type
use Rattle.proto_descriptors.specs.declared.field.Label.TheVariants as label
use Rattle.proto_desc_build.specs.Described.{c_type_named, enum_options, field_number, js_type_named, file_options, is_map, level_named, message_options, method_options, mode_named, number_range, scalar_type, type_of, value_described, value_number, value_range}
use Rattle.proto_edit_rename_laws.proofs.Common.{from_flat_map, to_flat_map, find_agree, find_there}
use Rattle.proto_edit_rename_described.specs.Common.{Taken, FieldStays, service_options}

-- ---- options of a scene

through : (t : ℕ → List ℕ) (v : Option Constant) → option_and_then (truth_of t) v ≡ option_and_then truth_named (option_and_then (word_of t) v)
through t None = refl
through t (Some c) = refl

pub values_agree : (v w : ℕ → List ℕ) → ((t : ℕ) → v t ≡ w t) → (ts : List ℕ) → flat_map v ts ≡ flat_map w ts
values_agree v w h [] = refl
values_agree v w h (t ∷ ts) = ap₂ (λ (x y : List ℕ). x ++ y) (h t) (values_agree v w h ts)

pub text_agrees : (v w : ℕ → List ℕ) → ((t : ℕ) → v t ≡ w t) → (x : Constant) → text_value v x ≡ text_value w x
text_agrees v w h (constant.Text j) = ap Some (values_agree v w h (j.first ∷ j.rest))
text_agrees v w h (constant.Word i) = refl
text_agrees v w h (constant.Number n) = refl

pub option_agrees : (v w : ℕ → List ℕ) → ((t : ℕ) → v t ≡ w t) → (o : Option Constant) → option_and_then (text_value v) o ≡ option_and_then (text_value w) o
option_agrees v w h None = refl
option_agrees v w h (Some x) = text_agrees v w h x

some_same : (d e : Option EnumOf) → SameButValues d e → is_some d ≡ is_some e
some_same None None h = refl
some_same (Some d) (Some e) h = refl
some_same None (Some e) h = absurd h
some_same (Some d) None h = absurd h

module _ (e : Renaming) (taken : Taken) (named : ℕ → Bool) (a b : Scene) (differ : DifferInNames named a b) (strings : (t : ℕ) → value b t ≡ value a t) where
  -- none of the tokens is renamed
  abbrev Kept : List ℕ → Type 0
  Kept ts = (t : ℕ) → Contains ts t → named t ≡ false

  left : (xs ys : List ℕ) → Kept (xs ++ ys) → Kept xs
  left xs ys k t c = k t (Contains-append_left xs ys t c)

  right : (xs ys : List ℕ) → Kept (xs ++ ys) → Kept ys
  right xs ys k t c = k t (Contains-append_right xs ys t c)

  tail : (x : ℕ) (xs : List ℕ) → Kept (x ∷ xs) → Kept xs
  tail x xs k t c = k t (contains_later x t xs c)

  same : (t : ℕ) → named t ≡ false → text b t ≡ text a t
  same t h = sym (differ.texts t h)

  -- ---- options

  option_kept : (os : List OptionOf) → Kept (flat_map (option_tokens a) os) → (o : OptionOf) → Contains os o → Kept (option_tokens a o)
  option_kept os k o c t ct = k t (to_flat_map (option_tokens a) os o t c ct)

  name_same : (w : List ℕ) (o : OptionOf) → Kept (option_tokens a o) → is_named (text b) w o ≡ is_named (text a) w o
  name_same w o k = ap (λ v. bytes_eq v w) (same o.name (k o.name (contains_head o.name (if is_named (text a) (codes "default") o then [] else constant_tokens o.value))))

  pub value_same : (w : List ℕ) (os : List OptionOf) → Kept (flat_map (option_tokens a) os) → value_named (text b) w os ≡ value_named (text a) w os
  value_same w os k = ap (option_map (λ (o : OptionOf). o.value)) (find_agree (is_named (text b) w) (is_named (text a) w) os (λ o c. name_same w o (option_kept os k o c)))

  word_stays : (c : Constant) → Kept (constant_tokens c) → word_of (text b) c ≡ word_of (text a) c
  word_stays (constant.Word w) k = ap Some (same w (k w (contains_head w [])))
  word_stays (constant.Text j) k = refl
  word_stays (constant.Number n) k = refl

  not_default : (w : List ℕ) → bytes_eq w (codes "default") ≡ false → (o : OptionOf) → is_named (text a) w o ≡ true → Kept (option_tokens a o) → Kept (constant_tokens o.value)
  not_default w d o n k t c =
      let other : is_named (text a) (codes "default") o ≡ false = ap (λ v. bytes_eq v (codes "default")) (word_from_same (text a o.name) w n) ∙ d in
      k t (contains_later o.name t (if is_named (text a) (codes "default") o then [] else constant_tokens o.value) (subst (λ (v : Bool). Contains (if v then [] else constant_tokens o.value) t) (sym other) c))

  words_same : (w : List ℕ) → bytes_eq w (codes "default") ≡ false → (os : List OptionOf) → Kept (flat_map (option_tokens a) os) → word_option (text b) w os ≡ word_option (text a) w os
  words_same w d os k = ap (option_and_then (word_of (text b))) (value_same w os k) ∙ by (find (is_named (text a) w) os) refl
    where
      by : (o : Option OptionOf) → find (is_named (text a) w) os ≡ o → option_and_then (word_of (text b)) (option_map (λ (x : OptionOf). x.value) o) ≡ option_and_then (word_of (text a)) (option_map (λ (x : OptionOf). x.value) o)
      by None q = refl
      by (Some o) q = let there = find_there (is_named (text a) w) os o q in word_stays o.value (not_default w d o there.1 (option_kept os k o there.0))

  truth_same : (w : List ℕ) → bytes_eq w (codes "default") ≡ false → (os : List OptionOf) → Kept (flat_map (option_tokens a) os) → truth_option (text b) w os ≡ truth_option (text a) w os
  truth_same w d os k = through (text b) (value_named (text b) w os) ∙ ap (option_and_then truth_named) (words_same w d os k) ∙ sym (through (text a) (value_named (text a) w os))

  texts_same : (w : List ℕ) (os : List OptionOf) → Kept (flat_map (option_tokens a) os) → text_option (text b) (value b) w os ≡ text_option (text a) (value a) w os
  texts_same w os k = ap (option_and_then (text_value (value b))) (value_same w os k) ∙ option_agrees (value b) (value a) strings (value_named (text a) w os)

  pub message_options_stay : (os : List OptionOf) → Kept (flat_map (option_tokens a) os) → message_options b false os ≡ message_options a false os
  message_options_stay os k = λ i. record {
    deprecated = truth_same (codes "deprecated") refl os k i;
    no_standard_descriptor_accessor = truth_same (codes "no_standard_descriptor_accessor") refl os k i;
    map_entry = false;
  }

  pub enum_options_stay : (os : List OptionOf) → Kept (flat_map (option_tokens a) os) → enum_options b os ≡ enum_options a os
  enum_options_stay os k = λ i. record { allow_alias = truth_same (codes "allow_alias") refl os k i; deprecated = truth_same (codes "deprecated") refl os k i }

  pub method_options_stay : (os : List OptionOf) → Kept (flat_map (option_tokens a) os) → method_options b os ≡ method_options a os
  method_options_stay os k = λ i. record { deprecated = truth_same (codes "deprecated") refl os k i; idempotency_level = option_map level_named (words_same (codes "idempotency_level") refl os k i) }

  pub service_options_stay : (within : Tree) → Kept (flat_map (option_tokens a) (options_in within)) → service_options e taken a b b within ≡ service_options e taken a b a within
  service_options_stay within k = truth_same (codes "deprecated") refl (options_in within) k

  pub file_options_stay : (os : List OptionOf) → Kept (flat_map (option_tokens a) os) → file_options b os ≡ file_options a os
  file_options_stay os k = λ i. record {
    java_package = texts_same (codes "java_package") os k i;
    java_outer_classname = texts_same (codes "java_outer_classname") os k i;
    java_multiple_files = truth_same (codes "java_multiple_files") refl os k i;
    optimize_for = option_map mode_named (words_same (codes "optimize_for") refl os k i);
    go_package = texts_same (codes "go_package") os k i;
    deprecated = truth_same (codes "deprecated") refl os k i;
    cc_enable_arenas = truth_same (codes "cc_enable_arenas") refl os k i;
    objc_class_prefix = texts_same (codes "objc_class_prefix") os k i;
    csharp_namespace = texts_same (codes "csharp_namespace") os k i;
    php_namespace = texts_same (codes "php_namespace") os k i;
    java_generate_equals_and_hash = truth_same (codes "java_generate_equals_and_hash") refl os k i;
    java_generic_services = truth_same (codes "java_generic_services") refl os k i;
    ruby_package = texts_same (codes "ruby_package") os k i;
    java_string_check_utf8 = truth_same (codes "java_string_check_utf8") refl os k i;
    cc_generic_services = truth_same (codes "cc_generic_services") refl os k i;
    py_generic_services = truth_same (codes "py_generic_services") refl os k i;
    php_generic_services = truth_same (codes "php_generic_services") refl os k i;
    swift_prefix = texts_same (codes "swift_prefix") os k i;
    php_class_prefix = texts_same (codes "php_class_prefix") os k i;
    php_metadata_namespace = texts_same (codes "php_metadata_namespace") os k i;
  }

  -- ---- numbers

  pub number_stays : (t : ℕ) → named t ≡ false → number_at b t ≡ number_at a t
  number_stays t k = sym (ap₂ (λ cap w. pos (up_to_cap cap (number_value w))) differ.caps (differ.texts t k))

  pub signed_stays : (s : Signed) → named s.number ≡ false → signed_value b s ≡ signed_value a s
  signed_stays s k = ap (λ n. if is_some s.minus then neg_ℤ n else n) (number_stays s.number k)

  end_stays : {N : Type 0} (token : N → ℕ) (most : ℤ) (f g : N → ℤ) → ((n : N) → named (token n) ≡ false → f n ≡ g n) → (first : N) (u : Option (UpTo N)) → f first ≡ g first → Kept (up_to_tokens token u) → end_of most f first u ≡ end_of most g first u
  end_stays token most f g h first None q k = q
  end_stays {N} token most f g h first (Some u) q k = go u.end k
    where
      go : (r : RangeEnd N) → Kept (end_tokens token r) → bound_of most f r ≡ bound_of most g r
      go (range_end.Number n) k = h n (k (token n) (contains_head (token n) []))
      go (range_end.Max i) k = refl

  range_stays : (r : Range ℕ) → Kept (range_tokens (λ t. t) r) → range_of b r ≡ range_of a r
  range_stays r k =
      let q = number_stays r.first (k r.first (contains_head r.first (up_to_tokens (λ t. t) r.up_to))) in
      λ i. record { token = r.first; first = q i; last = end_stays (λ t. t) most_field (number_at b) (number_at a) number_stays r.first r.up_to q (tail r.first (up_to_tokens (λ t. t) r.up_to) k) i }

  enum_range_stays : (r : Range Signed) → Kept (range_tokens (λ (s : Signed). s.number) r) → enum_range_of b r ≡ enum_range_of a r
  enum_range_stays r k =
      let q = signed_stays r.first (k r.first.number (contains_head r.first.number (up_to_tokens (λ (s : Signed). s.number) r.up_to))) in
      λ i. record { token = first_of_signed r.first; first = q i; last = end_stays (λ (s : Signed). s.number) most_value (signed_value b) (signed_value a) signed_stays r.first r.up_to q (tail r.first.number (up_to_tokens (λ (s : Signed). s.number) r.up_to) k) i }

  -- ---- fields

  label_stays : (w : List ℕ) (o : Option ℕ) → Kept (option_to_list o) → is_label_word b w o ≡ is_label_word a w o
  label_stays w None k = refl
  label_stays w (Some t) k = ap (λ v. bytes_eq v w) (same t (k t (contains_head t [])))

  type_stays : (t : WrittenType) → Kept (scalar_tokens t) → type_of b t ≡ type_of a t
  type_stays (written_type.Scalar t) k = ap scalar_type (same t (k t (contains_head t [])))
  type_stays (written_type.Reference r) k = ap (λ v. if v then field_type.Enum else field_type.Message) (sym (some_same (enum_meant a r) (enum_meant b r) (differ.enums r)))

  module _ (f : FieldOf) (k : Kept (field_tokens a f)) where
    abbrev numbered : List ℕ
    numbered = f.number ∷ flat_map (option_tokens a) f.options

    keyed : Kept (option_to_list f.map_key ++ (scalar_tokens f.kind ++ (f.number ∷ flat_map (option_tokens a) f.options)))
    keyed = right (option_to_list f.label) (option_to_list f.map_key ++ (scalar_tokens f.kind ++ numbered)) k

    typed : Kept (scalar_tokens f.kind ++ (f.number ∷ flat_map (option_tokens a) f.options))
    typed = right (option_to_list f.map_key) (scalar_tokens f.kind ++ numbered) keyed

    pub label_kept : Kept (option_to_list f.label)
    label_kept = left (option_to_list f.label) (option_to_list f.map_key ++ (scalar_tokens f.kind ++ numbered)) k

    pub key_kept : Kept (option_to_list f.map_key)
    key_kept = left (option_to_list f.map_key) (scalar_tokens f.kind ++ numbered) keyed

    pub kind_kept : Kept (scalar_tokens f.kind)
    kind_kept = left (scalar_tokens f.kind) numbered typed

    pub options_kept : Kept (flat_map (option_tokens a) f.options)
    options_kept = tail f.number (flat_map (option_tokens a) f.options) (right (scalar_tokens f.kind) numbered typed)

    pub field_stays : FieldStays e taken a b f
    field_stays = record {
      number = ap field_number (number_stays f.number (right (scalar_tokens f.kind) numbered typed f.number (contains_head f.number (flat_map (option_tokens a) f.options))));
      label =
          ap₂ (λ x y. if is_map f || x then label.Repeated else (if y then label.Required else label.Optional)) (label_stays (codes "repeated") f.label label_kept) (label_stays (codes "required") f.label label_kept);
      kind = ap (λ z. if is_map f then field_type.Message else z) (type_stays f.kind kind_kept);
      optional = ap₂ (λ x y. x && y) (sym differ.version) (label_stays (codes "optional") f.label label_kept);
      options = λ i. record {
        ctype = option_map c_type_named (words_same (codes "ctype") refl f.options options_kept i);
        packed = truth_same (codes "packed") refl f.options options_kept i;
        jstype = option_map js_type_named (words_same (codes "jstype") refl f.options options_kept i);
        lazy = truth_same (codes "lazy") refl f.options options_kept i;
        unverified_lazy = truth_same (codes "unverified_lazy") refl f.options options_kept i;
        deprecated = truth_same (codes "deprecated") refl f.options options_kept i;
        weak = truth_same (codes "weak") refl f.options options_kept i;
      };
      json = texts_same (codes "json_name") f.options options_kept;
      default = value_same (codes "default") f.options options_kept;
    }

  -- the types of a map field's entry
  pub key_type_stays : (f : MapField) → Kept (field_tokens a (map_field f)) → scalar_type (text b f.key) ≡ scalar_type (text a f.key)
  key_type_stays f k = ap scalar_type (same f.key (key_kept (map_field f) k f.key (contains_head f.key [])))

  pub value_type_stays : (f : MapField) → Kept (field_tokens a (map_field f)) → type_of b f.value ≡ type_of a f.value
  value_type_stays f k = type_stays f.value (kind_kept (map_field f) k)

  -- ---- messages and enums

  module _ (within : Tree) (k : Kept (message_tokens a within)) where
    pub field_tokens_kept : (f : FieldOf) → Contains (fields_in within) f → Kept (field_tokens a f)
    field_tokens_kept f cf t ct =
        left (flat_map (field_tokens a) (fields_in within)) (flat_map (range_tokens (λ t. t)) (flat_map closed_ranges (statements within))) k t (to_flat_map (field_tokens a) (fields_in within) f t cf ct)

    pub closed_stays : (r : Range ℕ) → Contains (flat_map closed_ranges (statements within)) r → range_of b r ≡ range_of a r
    closed_stays r c =
        range_stays r (λ t ct. right (flat_map (field_tokens a) (fields_in within)) (flat_map (range_tokens (λ t. t)) (flat_map closed_ranges (statements within))) k t (to_flat_map (range_tokens (λ t. t)) (flat_map closed_ranges (statements within)) r t c ct))

    pub extensions_stay : map (λ r. number_range (range_of b r)) (flat_map extension_ranges (statements within)) ≡ map (λ r. number_range (range_of a r)) (flat_map extension_ranges (statements within))
    extensions_stay =
        map_agree (λ r. number_range (range_of b r)) (λ r. number_range (range_of a r)) (flat_map extension_ranges (statements within)) (λ r c. (
        let s = from_flat_map extension_ranges (statements within) r c in
        ap number_range (closed_stays r (to_flat_map closed_ranges (statements within) s.0 r s.1 (Contains-append_right (reserved_ranges s.0) (extension_ranges s.0) r s.2)))))

    pub reserved_stays : map (λ r. number_range (range_of b r)) (flat_map reserved_ranges (statements within)) ≡ map (λ r. number_range (range_of a r)) (flat_map reserved_ranges (statements within))
    reserved_stays =
        map_agree (λ r. number_range (range_of b r)) (λ r. number_range (range_of a r)) (flat_map reserved_ranges (statements within)) (λ r c. (
        let s = from_flat_map reserved_ranges (statements within) r c in
        ap number_range (closed_stays r (to_flat_map closed_ranges (statements within) s.0 r s.1 (Contains-append_left (reserved_ranges s.0) (extension_ranges s.0) r s.2)))))

  module _ (within : Tree) (k : Kept (enum_tokens a within)) where
    pub value_tokens_kept : (v : Value) → Contains (values_in within) v → Kept (value_tokens a v)
    value_tokens_kept v cv t ct =
        left (flat_map (value_tokens a) (values_in within)) (flat_map (range_tokens (λ (s : Signed). s.number)) (flat_map enum_ranges (statements within))) k t (to_flat_map (value_tokens a) (values_in within) v t cv ct)

    pub enum_reserved_stays : map (λ r. value_range (enum_range_of b r)) (flat_map enum_ranges (statements within)) ≡ map (λ r. value_range (enum_range_of a r)) (flat_map enum_ranges (statements within))
    enum_reserved_stays =
        map_agree (λ r. value_range (enum_range_of b r)) (λ r. value_range (enum_range_of a r)) (flat_map enum_ranges (statements within)) (λ r c.
        ap value_range (enum_range_stays r (λ t ct. right (flat_map (value_tokens a) (values_in within)) (flat_map (range_tokens (λ (s : Signed). s.number)) (flat_map enum_ranges (statements within))) k t (to_flat_map (range_tokens (λ (s : Signed). s.number)) (flat_map enum_ranges (statements within)) r t c ct))))

  module _ (v : Value) (k : Kept (value_tokens a v)) where
    pub value_number_stays : value_number (signed_value b v.number) ≡ value_number (signed_value a v.number)
    value_number_stays = ap value_number (signed_stays v.number (k v.number.number (contains_head v.number.number (flat_map (option_tokens a) (settings_of v.settings)))))

    pub value_options_stay : (value_described b v).options ≡ (value_described a v).options
    value_options_stay =
        λ i. record (value_described a v).options { deprecated = truth_same (codes "deprecated") refl (settings_of v.settings) (tail v.number.number (flat_map (option_tokens a) (settings_of v.settings)) k) i }
