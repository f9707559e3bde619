-- The flaws of a file in two scenes that differ in names: the same, but for those that names decide (for the crates above).
use Rattle.std.proofs.Common.{◌≡◌, ℕ, ℤ, pos, neg_ℤ, Bool, true, false, not, ◌&&◌, ◌||◌, if◌then◌else◌, List, [], ◌∷◌, ◌++◌, map, flat_map, find, Option, Some, None, is_some, is_none, codes, option_and_then, refl, sym, ◌∙◌, ap, ap₂, option_to_list, int_eq, bytes_eq}
use Rattle.proto_base.proofs.Common.{AllByRecursion, list_any, filter-append, recursion_from_All, word_from_same}
use Rattle.proto_base.specs.declared.fault.FaultKind.{FaultKind}
use Rattle.proto_base.specs.declared.fault.FaultKind.TheVariants as kind
use Rattle.proto_base.specs.declared.profile.Profile.{Profile}
use Rattle.proto_base.specs.declared.profile.Profile.TheVariants as language
use Rattle.proto_tree.specs.declared.piece.Header.{Header}
use Rattle.proto_tree.specs.declared.piece.Header.TheVariants as header
use Rattle.proto_tree.specs.declared.tree.Constant.{Constant}
use Rattle.proto_tree.specs.declared.tree.Constant.TheVariants as constant
use Rattle.proto_tree.specs.declared.tree.FieldType.{FieldType}
use Rattle.proto_tree.specs.declared.tree.FieldType.TheVariants as field_type
use Rattle.proto_tree.specs.declared.tree.Range.{Range}
use Rattle.proto_tree.specs.declared.tree.RangeEnd.{RangeEnd}
use Rattle.proto_tree.specs.declared.tree.RangeEnd.TheVariants as range_end
use Rattle.proto_tree.specs.declared.tree.Reference.{Reference}
use Rattle.proto_tree.specs.declared.tree.Signed.{Signed}
use Rattle.proto_tree.specs.declared.tree.UpTo.{UpTo}
use Rattle.proto_tree.specs.declared.tree.Value.{Value}
use Rattle.proto_tree.specs.Tree.{Tree}
use Rattle.proto_ast.proofs.Common.{c_types, number_value, fits_kind, idempotency_levels, is_allowed, is_named, is_word_of, js_types, optimize_modes, truth_named, truth_of, value_kind_as, word_of, is_true, BlockOf, FieldOf, OptionOf, blocks_in, closed_ranges, enum_ranges, extension_words, fields_in, options_in, reserved_names_in, settings_of, statements, values_in, EnumOf, Scene, enum_meant, meant_by, number_at, signed_value, text, up_to_cap, value, is_label_word, json_name_of, is_one_of}
use Rattle.proto_ast.specs.declared.options.Element.{Element}
use Rattle.proto_ast.specs.declared.options.Element.TheVariants as element
use Rattle.proto_ast.specs.declared.options.ValueKind.{ValueKind}
use Rattle.proto_ast.specs.declared.options.ValueKind.TheVariants as value_kind
use Rattle.proto_desc_numbers.specs.declared.flaw.Flaw.{Flaw}
use Rattle.proto_desc_numbers.specs.declared.numbers.NumberAt.{NumberAt}
use Rattle.proto_ast.specs.declared.ranges.RangeAt.{RangeAt}
use Rattle.proto_desc_numbers.proofs.Common.{after_earlier, flaw, flaw_if, marked, bound_of, broken_ranges, end_of, enum_range_of, first_of_signed, is_field_number, is_value_number, least_value, most_field, most_value, number_of_field, number_of_value, outside, overlaps, range_of, repeated_numbers, reserved_numbers, field_number_flaws}
use Rattle.proto_desc_checks.proofs.Common.{bars_extend, default_flaws, enum_of_type, extend_flaws, field_flaws, flaws_of_extension, is_packable_type, is_unpackable, map_key_flaws, may_default, no_map_keys, option_flaws, required_extensions, required_flaws, type_flaws, type_token, wrong_default, block_flaws, enum_flaws, file_flaws, first_value_flaws, json_clashes, message_flaws, name_flaws, value_number_flaws, value_option_flaws, aft, fore, asks_js_type, asks_lazy, is_long_type, is_message_type, long_types, other_js_types, lazy_options, is_misfit}
use Rattle.proto_desc_checks_laws.specs.Renamed.{DifferInNames, NamesDecideThreeKinds, OptionsMessagesStay, SameButValues, asked_tokens, block_tokens, but_names, constant_tokens, end_tokens, enum_tokens, field_tokens, header_tokens, is_of_names, message_tokens, option_tokens, range_tokens, scalar_tokens, up_to_tokens, value_tokens}

-- ---- flaws that are the same but for those of names

abbrev stays : Flaw → Bool
stays f = not (is_of_names f.kind)

-- a record, so that the lists are found from it
record SameBut (xs ys : List Flaw) : Type 0 where
  same : but_names xs ≡ but_names ys

equal : {xs ys : List Flaw} → xs ≡ ys → SameBut xs ys
equal e = record { same = ap but_names e }

join : {xs ys vs ws : List Flaw} → SameBut xs ys → SameBut vs ws → SameBut (xs ++ vs) (ys ++ ws)
join {xs} {ys} {vs} {ws} h k = record { same = filter-append stays xs vs ∙ ap₂ (λ (l m : List Flaw). l ++ m) h.same k.same ∙ sym (filter-append stays ys ws) }

-- both are of names alone
both_none : {xs ys : List Flaw} → SameBut xs [] → SameBut ys [] → SameBut xs ys
both_none h k = record { same = h.same ∙ sym k.same }

if_none : (k : FaultKind) → is_of_names k ≡ true → (b : Bool) (t : ℕ) → SameBut (flaw_if b k t) []
if_none k e true t = record { same = ap (λ v. if not v then flaw k t ∷ [] else []) e }
if_none k e false t = equal refl

marked_none : (k : FaultKind) → is_of_names k ≡ true → (ts : List ℕ) (bs : List Bool) → SameBut (marked k ts bs) []
marked_none k e [] bs = equal refl
marked_none k e (t ∷ ts) [] = equal refl
marked_none k e (t ∷ ts) (b ∷ bs) = join (if_none k e b t) (marked_none k e ts bs)

each_none : {A : Type 0} (f : A → List Flaw) → ((x : A) → SameBut (f x) []) → (xs : List A) → SameBut (flat_map f xs) []
each_none f h [] = equal refl
each_none f h (x ∷ xs) = join (h x) (each_none f h xs)

either_none : (b : Bool) (xs ys : List Flaw) → SameBut xs [] → SameBut ys [] → SameBut (if b then xs else ys) []
either_none true xs ys h k = h
either_none false xs ys h k = k

default_none : (s : Scene) (f : FieldOf) → SameBut (default_flaws s f) []
default_none s f = either_none s.is_proto3 [] (wrong_default s f (find (is_named (text s) (codes "default")) f.options)) (equal refl) (go (find (is_named (text s) (codes "default")) f.options))
  where
    go : (o : Option OptionOf) → SameBut (wrong_default s f o) []
    go None = equal refl
    go (Some o) = if_none kind.BadDefault refl (not (may_default s f o)) o.name

names_none : (s : Scene) (reserved names : List ℕ) → SameBut (name_flaws s reserved names) []
names_none s reserved names =
    join (each_none _ (λ t. if_none kind.ReservedName refl _ t) names) (marked_none kind.ReservedName refl reserved (after_earlier bytes_eq (map (value s) reserved)))

clashes_none : (s : Scene) (fs : List FieldOf) → SameBut (json_clashes s fs) []
clashes_none s fs =
    let tokens : List ℕ = map (λ (f : FieldOf). f.name) fs in
    let again : List Bool = after_earlier bytes_eq (map (json_name_of s) fs) in
    either_none s.is_proto3 (marked kind.JsonClash tokens again) [] (marked_none kind.JsonClash refl tokens again) (equal refl)

-- ---- numbers and ranges

abbrev pub numbered : ℕ → ℤ → NumberAt
numbered token number = record { token = token; number = number }

-- ---- enums that are the same but for their values

-- what is read of an enum besides its values
abbrev seen : {X : Type 0} → X → (Bool → Bool → X) → Option EnumOf → X
seen none some None = none
seen none some (Some e) = some e.is_proto3 e.starts_past_zero

seen_same : {X : Type 0} (none : X) (some : Bool → Bool → X) (d e : Option EnumOf) → SameButValues d e → seen none some d ≡ seen none some e
seen_same none some None None h = refl
seen_same none some (Some d) (Some e) h = ap₂ some h.0 h.1
seen_same none some None (Some e) h = absurd h
seen_same none some (Some d) None h = absurd h

module _ (named : ℕ → Bool) (a b : Scene) (differ : DifferInNames named a b) (stay : OptionsMessagesStay a b) where
  -- none of the tokens is renamed
  abbrev Kept : List ℕ → Type 0
  Kept ts = AllByRecursion (λ t. named t ≡ false) ts

  left : (xs ys : List ℕ) → Kept (xs ++ ys) → Kept xs
  left = fore (λ t. named t ≡ false)

  right : (xs ys : List ℕ) → Kept (xs ++ ys) → Kept ys
  right = aft (λ t. named t ≡ false)

  -- lists over parts, where it holds of each part whose tokens are kept
  maps : {A B : Type 0} (tokens : A → List ℕ) (f g : A → B) → ((x : A) → Kept (tokens x) → f x ≡ g x) → (xs : List A) → Kept (flat_map tokens xs) → map f xs ≡ map g xs
  maps tokens f g h [] k = refl
  maps tokens f g h (x ∷ xs) k = ap₂ (λ y ys. y ∷ ys) (h x (left (tokens x) (flat_map tokens xs) k)) (maps tokens f g h xs (right (tokens x) (flat_map tokens xs) k))

  each : {A : Type 0} (tokens : A → List ℕ) (f g : A → List Flaw) → ((x : A) → Kept (tokens x) → SameBut (f x) (g x)) → (xs : List A) → Kept (flat_map tokens xs) → SameBut (flat_map f xs) (flat_map g xs)
  each tokens f g h [] k = equal refl
  each tokens f g h (x ∷ xs) k = join (h x (left (tokens x) (flat_map tokens xs) k)) (each tokens f g h xs (right (tokens x) (flat_map tokens xs) k))

  anys : {A : Type 0} (tokens : A → List ℕ) (p q : A → Bool) → ((x : A) → Kept (tokens x) → p x ≡ q x) → (xs : List A) → Kept (flat_map tokens xs) → list_any p xs ≡ list_any q xs
  anys tokens p q h [] k = refl
  anys tokens p q h (x ∷ xs) k = ap₂ (λ y z. y || z) (h x (left (tokens x) (flat_map tokens xs) k)) (anys tokens p q h xs (right (tokens x) (flat_map tokens xs) k))

  -- ---- options

  word_same : (c : Constant) → Kept (constant_tokens c) → word_of (text a) c ≡ word_of (text b) c
  word_same (constant.Word w) k = ap Some (differ.texts w k.0)
  word_same (constant.Text j) k = refl
  word_same (constant.Number n) k = refl

  fits_same : (kind : Option ValueKind) (c : Constant) → word_of (text a) c ≡ word_of (text b) c → fits_kind (text a) kind c ≡ fits_kind (text b) kind c
  fits_same None c e = refl
  fits_same (Some value_kind.Text) c e = refl
  fits_same (Some value_kind.Truth) c e = ap (λ w. is_some (option_and_then truth_named w)) e
  fits_same (Some value_kind.OptimizeMode) c e = ap (is_word_of optimize_modes) e
  fits_same (Some value_kind.IdempotencyLevel) c e = ap (is_word_of idempotency_levels) e
  fits_same (Some value_kind.CType) c e = ap (is_word_of c_types) e
  fits_same (Some value_kind.JsType) c e = ap (is_word_of js_types) e
  fits_same (Some value_kind.Default) c e = refl

  fits_default : (p : Profile) (on : Element) (c : Constant) → fits_kind (text a) (value_kind_as p on (codes "default")) c ≡ fits_kind (text b) (value_kind_as p on (codes "default")) c
  fits_default language.Core element.File c = refl
  fits_default language.Core element.Message c = refl
  fits_default language.Core element.Service c = refl
  fits_default language.Core element.EnumValue c = refl
  fits_default language.Core element.Field c = refl
  fits_default language.Core element.Extension c = refl
  fits_default language.Core element.Enum c = refl
  fits_default language.Core element.Method c = refl
  fits_default language.AsWritten element.File c = refl
  fits_default language.AsWritten element.Message c = refl
  fits_default language.AsWritten element.Service c = refl
  fits_default language.AsWritten element.EnumValue c = refl
  fits_default language.AsWritten element.Field c = refl
  fits_default language.AsWritten element.Extension c = refl
  fits_default language.AsWritten element.Enum c = refl
  fits_default language.AsWritten element.Method c = refl

  -- what is asked of the name and the word of an option, but for the word of a default
  asked_same : {X : Type 0} (asked : (ℕ → List ℕ) → List ℕ → X) (o : OptionOf) → asked (text a) (codes "default") ≡ asked (text b) (codes "default") → ((w : List ℕ) → word_of (text a) o.value ≡ word_of (text b) o.value → asked (text a) w ≡ asked (text b) w)
      → Kept (option_tokens a o) → asked (text a) (text a o.name) ≡ asked (text b) (text b o.name)
  asked_same asked o at_default by_word k = go (bytes_eq (text a o.name) (codes "default")) (word_from_same (text a o.name) (codes "default")) k.1 ∙ ap (asked (text b)) (differ.texts o.name k.0)
    where
      go : (d : Bool) → (d ≡ true → text a o.name ≡ codes "default") → Kept (if d then [] else constant_tokens o.value) → asked (text a) (text a o.name) ≡ asked (text b) (text a o.name)
      go true e h = ap (asked (text a)) (e refl) ∙ at_default ∙ ap (asked (text b)) (sym (e refl))
      go false e h = by_word (text a o.name) (word_same o.value h)

  allowed_same : (on : Element) (o : OptionOf) → Kept (option_tokens a o) → is_allowed a.profile (text a) on o ≡ is_allowed b.profile (text b) on o
  allowed_same on o k =
      asked_same (λ t w. fits_kind t (value_kind_as a.profile on w) o.value) o (fits_default a.profile on o.value) (λ w. fits_same (value_kind_as a.profile on w) o.value) k
      ∙ ap (λ p. is_allowed p (text b) on o) differ.profile

  named_same : (w : List ℕ) (o : OptionOf) → Kept (option_tokens a o) → is_named (text a) w o ≡ is_named (text b) w o
  named_same w o k = ap (λ v. bytes_eq v w) (differ.texts o.name k.0)

  alias_same : (o : OptionOf) → Kept (option_tokens a o) → (is_named (text a) (codes "allow_alias") o && is_true (truth_of (text a) o.value)) ≡ (is_named (text b) (codes "allow_alias") o && is_true (truth_of (text b) o.value))
  alias_same o = asked_same (λ t w. bytes_eq w (codes "allow_alias") && is_true (truth_of t o.value)) o refl (λ w. ap (λ v. bytes_eq w (codes "allow_alias") && is_true (option_and_then truth_named v)))

  js_type_same : (o : OptionOf) → Kept (option_tokens a o) → asks_js_type (text a) o ≡ asks_js_type (text b) o
  js_type_same o = asked_same (λ t w. bytes_eq w (codes "jstype") && is_word_of other_js_types (word_of t o.value)) o refl (λ w. ap (λ v. bytes_eq w (codes "jstype") && is_word_of other_js_types v))

  lazy_same : (o : OptionOf) → Kept (option_tokens a o) → asks_lazy (text a) o ≡ asks_lazy (text b) o
  lazy_same o =
      asked_same (λ t w. is_one_of lazy_options w && is_true (truth_of t o.value)) o refl (λ w. ap (λ v. is_one_of lazy_options w && is_true (option_and_then truth_named v)))

  options_same : (on : Element) (os : List OptionOf) → Kept (flat_map (option_tokens a) os) → SameBut (option_flaws a on os) (option_flaws b on os)
  options_same on os k =
      join (each (option_tokens a) _ _ (λ o h. equal (ap (λ v. flaw_if (not v) kind.BadOption o.name) (allowed_same on o h))) os k)
      (equal (ap (λ (ws : List (List ℕ)). marked kind.BadOption (map (λ (o : OptionOf). o.name) os) (after_earlier bytes_eq ws)) (maps (option_tokens a) (λ o. text a o.name) (λ o. text b o.name) (λ o h. differ.texts o.name h.0) os k)))

  -- ---- fields

  required_same : (o : Option ℕ) → Kept (option_to_list o) → required_flaws a o ≡ required_flaws b o
  required_same None k = refl
  required_same (Some t) k = ap₂ (λ v w. flaw_if (v && bytes_eq w (codes "required")) kind.NotInProto3 t) differ.version (differ.texts t k.0)

  map_key_same : (o : Option ℕ) → Kept (option_to_list o) → map_key_flaws a o ≡ map_key_flaws b o
  map_key_same None k = refl
  map_key_same (Some t) k = ap (λ w. flaw_if (list_any (bytes_eq w) no_map_keys) kind.BadMap t) (differ.texts t k.0)

  label_same : (w : List ℕ) (o : Option ℕ) → Kept (option_to_list o) → is_label_word a w o ≡ is_label_word b w o
  label_same w None k = refl
  label_same w (Some t) k = ap (λ v. bytes_eq v w) (differ.texts t k.0)

  enums_same : (t : FieldType) → SameButValues (enum_of_type a t) (enum_of_type b t)
  enums_same (field_type.Scalar t) = tt
  enums_same (field_type.Reference r) = differ.enums r

  packable_same : (t : FieldType) → Kept (scalar_tokens t) → is_packable_type a t ≡ is_packable_type b t
  packable_same (field_type.Scalar t) k = ap (λ w. not (is_unpackable w)) (differ.texts t k.0)
  packable_same (field_type.Reference r) k = seen_same false (λ v w. true) (enum_meant a r) (enum_meant b r) (differ.enums r)

  long_same : (t : FieldType) → Kept (scalar_tokens t) → is_long_type a t ≡ is_long_type b t
  long_same (field_type.Scalar t) k = ap (is_one_of long_types) (differ.texts t k.0)
  long_same (field_type.Reference r) k = refl

  message_type_same : (t : FieldType) → is_message_type a t ≡ is_message_type b t
  message_type_same (field_type.Scalar t) = refl
  message_type_same (field_type.Reference r) = ap not (seen_same false (λ v w. true) (enum_meant a r) (enum_meant b r) (differ.enums r))

  misfit_same : (f : FieldOf) → Kept (option_to_list f.label) → Kept (scalar_tokens f.kind) → (o : OptionOf) → Kept (option_tokens a o) → is_misfit a f o ≡ is_misfit b f o
  misfit_same f l t o k = λ i.
      ((named_same (codes "packed") o k i && not (label_same (codes "repeated") f.label l i && packable_same f.kind t i))
      || (js_type_same o k i && not (is_none f.map_key && long_same f.kind t i)))
      || (lazy_same o k i && not (is_some f.map_key || message_type_same f.kind i))

  types_same : (f : FieldOf) → Kept (option_to_list f.label) → Kept (option_to_list f.map_key) → SameBut (type_flaws a f) (type_flaws b f)
  types_same f l k =
      let d = enum_of_type a f.kind in
      let e = enum_of_type b f.kind in
      join (equal (ap (λ v. flaw_if (not v && (is_none f.label && (is_none f.map_key && is_none f.oneof))) kind.Label (type_token f.kind)) differ.version))
      (join (equal (required_same f.label l))
      (join (equal (map_key_same f.map_key k))
      (join (equal (ap (λ v. flaw_if (is_some f.map_key && v) kind.FirstNotZero (type_token f.kind)) (seen_same false (λ v w. w) d e (enums_same f.kind))))
      (equal (ap₂ (λ v w. flaw_if (v && w) kind.ClosedEnum (type_token f.kind)) differ.version (seen_same false (λ v w. not v) d e (enums_same f.kind)))))))

  -- of its label, its key, its type, and its number with its options
  field_kept : (f : FieldOf) → Kept (field_tokens a f) → Kept (option_to_list f.label) × Kept (option_to_list f.map_key) × Kept (scalar_tokens f.kind) × Kept (f.number ∷ flat_map (option_tokens a) f.options)
  field_kept f k =
      let numbered : List ℕ = f.number ∷ flat_map (option_tokens a) f.options in
      let keyed = right (option_to_list f.label) (option_to_list f.map_key ++ (scalar_tokens f.kind ++ numbered)) k in
      let typed = right (option_to_list f.map_key) (scalar_tokens f.kind ++ numbered) keyed in (
        left (option_to_list f.label) (option_to_list f.map_key ++ (scalar_tokens f.kind ++ numbered)) k,
        left (option_to_list f.map_key) (scalar_tokens f.kind ++ numbered) keyed,
        left (scalar_tokens f.kind) numbered typed,
        right (scalar_tokens f.kind) numbered typed,
      )

  field_same : (on : Element) (f : FieldOf) → Kept (field_tokens a f) → SameBut (field_flaws a on f) (field_flaws b on f)
  field_same on f k =
      let kept = field_kept f k in
      let os = kept.3.1 in
      join (types_same f kept.0 kept.1)
      (join (options_same on f.options os)
      (join (each (option_tokens a) _ _ (λ o h. equal (ap (λ v. flaw_if v kind.BadOption o.name) (misfit_same f kept.0 kept.2 o h))) f.options os)
      (join (both_none (default_none a f) (default_none b f))
      (each (option_tokens a) _ _ (λ o h. equal (ap₂ (λ v w. flaw_if (v && w) kind.NotInProto3 o.name) differ.version (named_same (codes "default") o h))) f.options os))))

  -- ---- numbers

  number_same : (t : ℕ) → named t ≡ false → number_at a t ≡ number_at b t
  number_same t k = ap₂ (λ cap w. pos (up_to_cap cap (number_value w))) differ.caps (differ.texts t k)

  signed_same : (s : Signed) → named s.number ≡ false → signed_value a s ≡ signed_value b s
  signed_same s k = ap (λ n. if is_some s.minus then neg_ℤ n else n) (number_same s.number k)

  end_same : {N : Type 0} (token : N → ℕ) (most : ℤ) (f g : N → ℤ) → ((n : N) → named (token n) ≡ false → f n ≡ g n) → (first : N) (u : Option (UpTo N)) → f first ≡ g first → Kept (up_to_tokens token u) → end_of most f first u ≡ end_of most g first u
  end_same token most f g h first None e k = e
  end_same {N} token most f g h first (Some u) e k = go u.end k
    where
      go : (r : RangeEnd N) → Kept (end_tokens token r) → bound_of most f r ≡ bound_of most g r
      go (range_end.Number n) k = h n k.0
      go (range_end.Max i) k = refl

  range_same : (r : Range ℕ) → Kept (range_tokens (λ t. t) r) → range_of a r ≡ range_of b r
  range_same r k =
      let e = number_same r.first k.0 in
      λ i. record { token = r.first; first = e i; last = end_same (λ t. t) most_field (number_at a) (number_at b) number_same r.first r.up_to e k.1 i }

  enum_range_same : (r : Range Signed) → Kept (range_tokens (λ (s : Signed). s.number) r) → enum_range_of a r ≡ enum_range_of b r
  enum_range_same r k =
      let e = signed_same r.first k.0 in
      λ i. record { token = first_of_signed r.first; first = e i; last = end_same (λ (s : Signed). s.number) most_value (signed_value a) (signed_value b) signed_same r.first r.up_to e k.1 i }

  field_number_same : (f : FieldOf) → Kept (field_tokens a f) → number_of_field a f ≡ number_of_field b f
  field_number_same f k = ap (λ (n : ℤ). numbered f.number n) (number_same f.number (field_kept f k).3.0)

  value_number_same : (v : Value) → Kept (value_tokens a v) → number_of_value a v ≡ number_of_value b v
  value_number_same v k = ap (λ (n : ℤ). numbered (first_of_signed v.number) n) (signed_same v.number k.0)

  -- ---- blocks

  message_same : (within : Tree) → Kept (message_tokens a within) → Kept (flat_map (option_tokens a) (options_in within)) → SameBut (message_flaws a within) (message_flaws b within)
  message_same within k os =
      let fs : List FieldOf = fields_in within in
      let rs : List (Range ℕ) = flat_map closed_ranges (statements within) in
      let fields : List ℕ = flat_map (field_tokens a) fs in
      let ranges : List ℕ = flat_map (range_tokens (λ t. t)) rs in
      let f = left fields ranges k in
      join (each (field_tokens a) (field_flaws a element.Field) (field_flaws b element.Field) (field_same element.Field) fs f)
      (join (equal (ap₂ field_number_flaws (maps (range_tokens (λ t. t)) (range_of a) (range_of b) range_same rs (right fields ranges k)) (maps (field_tokens a) (number_of_field a) (number_of_field b) field_number_same fs f)))
      (join (both_none (names_none a (reserved_names_in within) (map (λ x. x.name) fs)) (names_none b (reserved_names_in within) (map (λ x. x.name) fs)))
      (join (both_none (clashes_none a fs) (clashes_none b fs))
      (join (equal (ap (λ v. flat_map (λ t. flaw_if v kind.NotInProto3 t) (flat_map extension_words (statements within))) differ.version))
      (options_same element.Message (options_in within) os)))))

  first_value_same : (ns : List NumberAt) → first_value_flaws a ns ≡ first_value_flaws b ns
  first_value_same [] = refl
  first_value_same (n ∷ ns) = ap (λ v. flaw_if (v && not (int_eq n.number (pos 0))) kind.FirstNotZero n.token) differ.version

  enum_same : (name : ℕ) (within : Tree) → Kept (enum_tokens a within) → Kept (flat_map (option_tokens a) (options_in within)) → SameBut (enum_flaws a name within) (enum_flaws b name within)
  enum_same name within k os =
      let vs : List Value = values_in within in
      let rs : List (Range Signed) = flat_map enum_ranges (statements within) in
      let values : List ℕ = flat_map (value_tokens a) vs in
      let ranges : List ℕ = flat_map (range_tokens (λ (s : Signed). s.number)) rs in
      let v = left values ranges k in
      join (equal refl)
      (join (value_numbers_same (maps (range_tokens (λ (s : Signed). s.number)) (enum_range_of a) (enum_range_of b) enum_range_same rs (right values ranges k)) (maps (value_tokens a) (number_of_value a) (number_of_value b) value_number_same vs v))
      (join (both_none (names_none a (reserved_names_in within) (map (λ x. x.name) vs)) (names_none b (reserved_names_in within) (map (λ x. x.name) vs)))
      (join (each (value_tokens a) (value_option_flaws a) (value_option_flaws b) (λ x h. options_same element.EnumValue (settings_of x.settings) h.1) vs v)
      (options_same element.Enum (options_in within) os))))
    where
      value_numbers_same : {ra rb : List RangeAt} {na nb : List NumberAt} → ra ≡ rb → na ≡ nb → SameBut (value_number_flaws a within ra na) (value_number_flaws b within rb nb)
      value_numbers_same {ra} {rb} {na} {nb} r n =
          join (equal (ap (outside is_value_number) n))
          (join (equal (ap (first_value_flaws a) n ∙ first_value_same nb))
          (join (equal (ap₂ (λ v (ns : List NumberAt). if v then [] else marked kind.AliasNotAllowed (map (λ x. x.token) ns) (repeated_numbers ns)) (anys (option_tokens a) _ _ alias_same (options_in within) os) n))
          (equal (ap₂ (λ ranges numbers. reserved_numbers ranges numbers ++ (broken_ranges least_value most_value ranges ++ overlaps ranges)) r n))))

  required_extension_same : (o : Option ℕ) → Kept (option_to_list o) → required_extensions a o ≡ required_extensions b o
  required_extension_same None k = refl
  required_extension_same (Some t) k = ap (λ w. flaw_if (bytes_eq w (codes "required")) kind.RequiredExtension t) (differ.texts t k.0)

  extension_same : (f : FieldOf) → Kept (field_tokens a f) → SameBut (flaws_of_extension a f) (flaws_of_extension b f)
  extension_same f k = join (equal (required_extension_same f.label (field_kept f k).0)) (field_same element.Extension f k)

  -- a file may have an `extend` block in both scenes or in neither
  bars_same : (r : Reference) → bars_extend a.profile a.is_proto3 (meant_by a r) ≡ bars_extend b.profile b.is_proto3 (meant_by b r)
  bars_same r = go a.profile refl ∙ ap₂ (λ p v. bars_extend p v (meant_by b r)) differ.profile differ.version
    where
      go : (p : Profile) → a.profile ≡ p → bars_extend p a.is_proto3 (meant_by a r) ≡ bars_extend p a.is_proto3 (meant_by b r)
      go language.Core e = refl
      go language.AsWritten e = ap (λ v. a.is_proto3 && not v) (stay e r)

  extend_same : (keyword : ℕ) (r : Reference) (within : Tree) → Kept (flat_map (field_tokens a) (fields_in within)) → SameBut (extend_flaws a keyword r within) (extend_flaws b keyword r within)
  extend_same keyword r within k =
      let fs : List FieldOf = fields_in within in
      join (equal (ap (λ v. flaw_if v kind.NotInProto3 keyword) (bars_same r)))
      (join (equal (ap (outside is_field_number) (maps (field_tokens a) (number_of_field a) (number_of_field b) field_number_same fs k)))
      (each (field_tokens a) (flaws_of_extension a) (flaws_of_extension b) extension_same fs k))

  block_same : (x : BlockOf) → Kept (block_tokens a x) → SameBut (block_flaws a x.header x.within) (block_flaws b x.header x.within)
  block_same x k = go x.header (left (header_tokens a x.header x.within) (flat_map (option_tokens a) (options_in x.within)) k)
    where
      os : Kept (flat_map (option_tokens a) (options_in x.within))
      os = right (header_tokens a x.header x.within) (flat_map (option_tokens a) (options_in x.within)) k

      go : (h : Header) → Kept (header_tokens a h x.within) → SameBut (block_flaws a h x.within) (block_flaws b h x.within)
      go (header.Message h) m = message_same x.within m os
      go (header.Oneof h) m = equal refl
      go (header.Enum h) m = enum_same h.name x.within m os
      go (header.Service h) m = options_same element.Service (options_in x.within) os
      go (header.Method s) m = options_same element.Method (options_in x.within) os
      go (header.Extend e) m = extend_same e.keyword e.extendee x.within m

  file_same : (tree : Tree) → Kept (asked_tokens a tree) → SameBut (file_flaws a tree) (file_flaws b tree)
  file_same tree k =
      let options : List ℕ = flat_map (option_tokens a) (options_in tree) in
      let blocks : List ℕ = flat_map (block_tokens a) (blocks_in tree) in
      join (options_same element.File (options_in tree) (left options blocks k)) (each (block_tokens a) _ _ block_same (blocks_in tree) (right options blocks k))

pub names_decide_three_kinds : NamesDecideThreeKinds
names_decide_three_kinds named a b tree differ stay kept = (file_same named a b differ stay tree (recursion_from_All (λ t. named t ≡ false) (asked_tokens a tree) kept)).same
