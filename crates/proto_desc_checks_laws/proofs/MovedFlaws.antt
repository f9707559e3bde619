-- The flaws of a file whose imports are others: the same, each at the token that its token became (for the crates above).
use Rattle.std.proofs.Common.{◌≡◌, ℕ, ℤ, pos, neg_ℤ, Bool, true, false, not, ◌&&◌, if◌then◌else◌, List, [], ◌∷◌, ◌++◌, map, flat_map, find, Option, Some, None, option_map, is_some, is_none, codes, option_and_then, refl, sym, ◌∙◌, ap, ap₂, int_eq, bytes_eq, ◌||◌}
use Rattle.proto_base.proofs.Common.{list_any, map-append}
use Rattle.proto_base.specs.declared.fault.FaultKind.{FaultKind}
use Rattle.proto_base.specs.declared.fault.FaultKind.TheVariants as kind
use Rattle.proto_base.specs.declared.profile.Profile.{Profile}
use Rattle.proto_base.specs.declared.profile.Profile.TheVariants as language
use Rattle.proto_tree.specs.declared.piece.Header.{Header}
use Rattle.proto_tree.specs.declared.piece.Header.TheVariants as header
use Rattle.proto_tree.specs.declared.tree.Constant.{Constant}
use Rattle.proto_tree.specs.declared.tree.Constant.TheVariants as constant
use Rattle.proto_tree.specs.declared.tree.FieldType.{FieldType}
use Rattle.proto_tree.specs.declared.tree.FieldType.TheVariants as field_type
use Rattle.proto_tree.specs.declared.tree.Range.{Range}
use Rattle.proto_tree.specs.declared.tree.RangeEnd.{RangeEnd}
use Rattle.proto_tree.specs.declared.tree.RangeEnd.TheVariants as range_end
use Rattle.proto_tree.specs.declared.tree.Reference.{Reference}
use Rattle.proto_tree.specs.declared.tree.Signed.{Signed}
use Rattle.proto_tree.specs.declared.tree.UpTo.{UpTo}
use Rattle.proto_tree.specs.declared.tree.Value.{Value}
use Rattle.proto_tree.proofs.Common.{Move, move_constant, move_header, move_option, move_range, move_range_end, move_reference, move_separated, move_signed, move_tree, move_type, move_up_to, move_value, Tree, first_of}
use Rattle.proto_ast.proofs.Common.{c_types, number_value, fits_kind, idempotency_levels, is_allowed, is_named, is_one_of, is_text_value, is_word_of, js_types, optimize_modes, text_of_constant, truth_named, value_kind_as, word_of, is_true, FieldOf, OptionOf, blocks_in, closed_ranges, enum_ranges, extension_words, fields_in, options_in, reserved_names_in, settings_of, statements, values_in, Scene, meant_by, number_at, signed_value, text, up_to_cap, value, is_label_word, json_name_of, written_or}
use Rattle.proto_ast.specs.declared.options.Element.{Element}
use Rattle.proto_ast.specs.declared.options.Element.TheVariants as element
use Rattle.proto_ast.specs.declared.options.ValueKind.{ValueKind}
use Rattle.proto_ast.specs.declared.options.ValueKind.TheVariants as value_kind
use Rattle.proto_desc_numbers.specs.declared.flaw.Flaw.{Flaw}
use Rattle.proto_desc_numbers.specs.declared.numbers.NumberAt.{NumberAt}
use Rattle.proto_ast.specs.declared.ranges.RangeAt.{RangeAt}
use Rattle.proto_desc_numbers.proofs.Common.{after_earlier, flaw_if, marked, bound_of, broken_ranges, end_of, enum_range_of, first_of_signed, is_field_number, is_inside, is_value_number, least_value, most_field, most_value, number_of_field, number_of_value, outside, overlaps, range_of, repeated_numbers, reserved_numbers, share, field_number_flaws}
use Rattle.proto_desc_checks.proofs.Common.{asks_js_type, asks_lazy, default_flaws, enum_of_type, extend_flaws, field_flaws, flaws_of_extension, holds_number, is_default_of, is_long_type, is_message_type, is_misfit, is_of_proto2, is_packable_type, is_past_zero, is_scalar_default, is_unpackable, is_value_of, lacks_label, long_types, map_key_flaws, may_be_packed, may_default, no_map_keys, option_flaws, other_js_types, required_extensions, required_flaws, type_flaws, type_token, wrong_default, allows_alias, bars_extend, block_flaws, enum_flaws, file_flaws, first_value_flaws, is_empty, json_clashes, message_flaws, name_flaws, value_number_flaws, value_option_flaws, lazy_options}
use Rattle.proto_desc_checks_laws.specs.Imports.{ImportsMoveFlaws, IsMoved, reindexed_flaw}
use Rattle.proto_desc_checks_laws.proofs.MovedParts.{any_kept, closed_ranges_moved, empty_kept, enum_ranges_moved, extension_words_moved, fields_moved, file_blocks_moved, file_options_moved, find_moved, flat_kept, flat_map_moved, maps_kept, maps_moved, move_block_of, move_field_of, move_option_of, none_kept, options_moved, reserved_names_moved, settings_moved, some_kept, values_moved}
use Rattle.proto_desc_checks.proofs.OptionNames.{earlier_map}
use Rattle.proto_desc_checks_laws.proofs.RenamedFlaws.{numbered}

-- ---- flaws that are others, moved

-- a record, so that the lists are found from it
pub record Moves (g : Move) (xs ys : List Flaw) : Type 0 where
  pub same : xs ≡ map (reindexed_flaw g) ys

none : {g : Move} → Moves g [] []
none = record { same = refl }

join : {g : Move} {xs ys vs ws : List Flaw} → Moves g xs ys → Moves g vs ws → Moves g (xs ++ vs) (ys ++ ws)
join {g} {xs} {ys} {vs} {ws} h k = record { same = ap₂ (λ (l m : List Flaw). l ++ m) h.same k.same ∙ sym (map-append (reindexed_flaw g) ys ws) }

if_at : (g : Move) (k : FaultKind) (t : ℕ) {u : ℕ} {c d : Bool} → u ≡ g t → c ≡ d → Moves g (flaw_if c k u) (flaw_if d k t)
if_at g k t {u} {c} {d} e h = record { same = ap₂ (λ v n. flaw_if v k n) h e ∙ go d }
  where
    go : (v : Bool) → flaw_if v k (g t) ≡ map (reindexed_flaw g) (flaw_if v k t)
    go true = refl
    go false = refl

pub if_moved : (g : Move) (k : FaultKind) (t : ℕ) {c d : Bool} → c ≡ d → Moves g (flaw_if c k (g t)) (flaw_if d k t)
if_moved g k t = if_at g k t refl

marked_moved : (g : Move) (k : FaultKind) (ts : List ℕ) {us : List ℕ} (bs : List Bool) {cs : List Bool} → us ≡ map g ts → cs ≡ bs → Moves g (marked k us cs) (marked k ts bs)
marked_moved g k ts {us} bs {cs} e h = record { same = ap₂ (marked k) e h ∙ go ts bs }
  where
    go : (vs : List ℕ) (ds : List Bool) → marked k (map g vs) ds ≡ map (reindexed_flaw g) (marked k vs ds)
    go [] ds = refl
    go (v ∷ vs) [] = refl
    go (v ∷ vs) (d ∷ ds) = ap₂ (λ (l m : List Flaw). l ++ m) (if_moved g k v {c = d} {d = d} refl).same (go vs ds) ∙ sym (map-append (reindexed_flaw g) (flaw_if d k v) (marked k vs ds))

pub each : {A B : Type 0} (g : Move) (h : A → B) (f : A → List Flaw) (k : B → List Flaw) → ((x : A) → Moves g (k (h x)) (f x)) → (xs : List A) {ys : List B} → ys ≡ map h xs → Moves g (flat_map k ys) (flat_map f xs)
each g h f k e xs y = record { same = ap (flat_map k) y ∙ flat_map_moved h (reindexed_flaw g) f k (λ x. (e x).same) xs }

either : {g : Move} {c d : Bool} {xs ys vs ws : List Flaw} → c ≡ d → Moves g xs ys → Moves g vs ws → Moves g (if c then xs else vs) (if d then ys else ws)
either {g} {c} {d} {xs} {ys} {vs} {ws} e h k = record { same = ap (λ v. if v then xs else vs) e ∙ go d }
  where
    go : (v : Bool) → (if v then xs else vs) ≡ map (reindexed_flaw g) (if v then ys else ws)
    go true = h.same
    go false = k.same

-- ---- numbers and ranges

abbrev pub move_number_at : Move → NumberAt → NumberAt
move_number_at g n = numbered (g n.token) n.number

abbrev pub move_range_at : Move → RangeAt → RangeAt
move_range_at g r = record { token = g r.token; first = r.first; last = r.last }

module _ (g : Move) where
  outside_moved : (limits : ℤ → Bool) (ns : List NumberAt) {ms : List NumberAt} → ms ≡ map (move_number_at g) ns → Moves g (outside limits ms) (outside limits ns)
  outside_moved limits = each g (move_number_at g) _ _ (λ n. if_moved g kind.NumberRange n.token refl)

  reserved_moved : (rs : List RangeAt) {qs : List RangeAt} (ns : List NumberAt) {ms : List NumberAt} → qs ≡ map (move_range_at g) rs → ms ≡ map (move_number_at g) ns → Moves g (reserved_numbers qs ms) (reserved_numbers rs ns)
  reserved_moved rs {qs} ns e = each g (move_number_at g) _ _ (λ n. if_moved g kind.ReservedNumber n.token (ap (list_any (is_inside n.number)) e ∙ any_kept (move_range_at g) (is_inside n.number) (is_inside n.number) (λ r. refl) rs)) ns

  broken_moved : (least most : ℤ) (rs : List RangeAt) {qs : List RangeAt} → qs ≡ map (move_range_at g) rs → Moves g (broken_ranges least most qs) (broken_ranges least most rs)
  broken_moved least most = each g (move_range_at g) _ _ (λ r. if_moved g kind.NumberRange r.token refl)

  overlaps_moved : (rs : List RangeAt) {qs : List RangeAt} → qs ≡ map (move_range_at g) rs → Moves g (overlaps qs) (overlaps rs)
  overlaps_moved rs e =
      marked_moved g kind.RangeOverlap (map (λ (r : RangeAt). r.token) rs) (after_earlier share rs)
      (ap (map (λ (r : RangeAt). r.token)) e ∙ maps_moved (move_range_at g) g (λ (r : RangeAt). r.token) (λ (r : RangeAt). r.token) (λ r. refl) rs)
      (ap (after_earlier share) e ∙ sym (earlier_map (move_range_at g) share [] rs))

  -- the tokens of moved numbers, and which of them come again
  tokens_moved : (ns : List NumberAt) {ms : List NumberAt} → ms ≡ map (move_number_at g) ns → map (λ (n : NumberAt). n.token) ms ≡ map g (map (λ (n : NumberAt). n.token) ns)
  tokens_moved ns e = ap (map (λ (n : NumberAt). n.token)) e ∙ maps_moved (move_number_at g) g (λ (n : NumberAt). n.token) (λ (n : NumberAt). n.token) (λ n. refl) ns

  repeated_kept : (ns : List NumberAt) {ms : List NumberAt} → ms ≡ map (move_number_at g) ns → repeated_numbers ms ≡ repeated_numbers ns
  repeated_kept ns e = ap repeated_numbers e ∙ ap (after_earlier int_eq) (maps_kept (move_number_at g) (λ (n : NumberAt). n.number) (λ (n : NumberAt). n.number) (λ n. refl) ns)

  pub field_numbers_moved : (rs : List RangeAt) {qs : List RangeAt} (ns : List NumberAt) {ms : List NumberAt} → qs ≡ map (move_range_at g) rs → ms ≡ map (move_number_at g) ns → Moves g (field_number_flaws qs ms) (field_number_flaws rs ns)
  field_numbers_moved rs ns r n =
      join (outside_moved is_field_number ns n)
      (join (marked_moved g kind.DuplicateNumber _ _ (tokens_moved ns n) (repeated_kept ns n))
      (join (reserved_moved rs ns r n)
      (join (broken_moved (pos 1) most_field rs r)
      (overlaps_moved rs r))))

module _ (g : Move) (a b : Scene) (is : IsMoved g a b) where
  version : b.is_proto3 ≡ a.is_proto3
  version = sym is.version

  pub number_moved : (t : ℕ) → number_at b (g t) ≡ number_at a t
  number_moved t = ap₂ (λ cap w. pos (up_to_cap cap (number_value w))) (sym is.caps) (is.texts t)

  pub signed_moved : (s : Signed) → signed_value b (move_signed g s) ≡ signed_value a s
  signed_moved s = ap₂ (λ v n. if v then neg_ℤ n else n) (some_kept g s.minus) (number_moved s.number)

  first_moved : (s : Signed) → first_of_signed (move_signed g s) ≡ g (first_of_signed s)
  first_moved s = go s.minus
    where
      go : (minus : Option ℕ) → first_of_signed (record { minus = move_option g minus; number = g s.number }) ≡ g (first_of_signed (record { minus = minus; number = s.number }))
      go None = refl
      go (Some t) = refl

  end_moved : {N : Type 0} (most : ℤ) (m : N → N) (f k : N → ℤ) → ((n : N) → k (m n) ≡ f n) → (first : N) (u : Option (UpTo N)) → end_of most k (m first) (move_option (move_up_to g m) u) ≡ end_of most f first u
  end_moved most m f k e first None = e first
  end_moved {N} most m f k e first (Some u) = go u.end
    where
      go : (r : RangeEnd N) → bound_of most k (move_range_end g m r) ≡ bound_of most f r
      go (range_end.Number n) = e n
      go (range_end.Max i) = refl

  pub range_moved : (r : Range ℕ) → range_of b (move_range g g r) ≡ move_range_at g (range_of a r)
  range_moved r = λ i. record { token = g r.first; first = number_moved r.first i; last = end_moved most_field g (number_at a) (number_at b) number_moved r.first r.up_to i }

  pub enum_range_moved : (r : Range Signed) → enum_range_of b (move_range g (move_signed g) r) ≡ move_range_at g (enum_range_of a r)
  enum_range_moved r =
      λ i. record { token = first_moved r.first i; first = signed_moved r.first i; last = end_moved most_value (move_signed g) (signed_value a) (signed_value b) signed_moved r.first r.up_to i }

  pub field_number_moved : (f : FieldOf) → number_of_field b (move_field_of g f) ≡ move_number_at g (number_of_field a f)
  field_number_moved f = ap (numbered (g f.number)) (number_moved f.number)

  value_number_moved : (v : Value) → number_of_value b (move_value g v) ≡ move_number_at g (number_of_value a v)
  value_number_moved v = ap₂ numbered (first_moved v.number) (signed_moved v.number)

  -- ---- options

  pub word_moved : (c : Constant) → word_of (text b) (move_constant g c) ≡ word_of (text a) c
  word_moved (constant.Word w) = ap Some (is.texts w)
  word_moved (constant.Text j) = refl
  word_moved (constant.Number n) = refl

  pub text_moved : (c : Constant) → text_of_constant (value b) (move_constant g c) ≡ text_of_constant (value a) c
  text_moved (constant.Text j) = ap Some (flat_kept g (value a) (value b) is.strings (j.first ∷ j.rest))
  text_moved (constant.Word w) = refl
  text_moved (constant.Number n) = refl

  is_text_moved : (c : Constant) → is_text_value (move_constant g c) ≡ is_text_value c
  is_text_moved (constant.Text j) = refl
  is_text_moved (constant.Word w) = refl
  is_text_moved (constant.Number n) = refl

  fits_moved : (kind : Option ValueKind) (c : Constant) → fits_kind (text b) kind (move_constant g c) ≡ fits_kind (text a) kind c
  fits_moved None c = refl
  fits_moved (Some value_kind.Text) c = is_text_moved c
  fits_moved (Some value_kind.Truth) c = ap (λ w. is_some (option_and_then truth_named w)) (word_moved c)
  fits_moved (Some value_kind.OptimizeMode) c = ap (is_word_of optimize_modes) (word_moved c)
  fits_moved (Some value_kind.IdempotencyLevel) c = ap (is_word_of idempotency_levels) (word_moved c)
  fits_moved (Some value_kind.CType) c = ap (is_word_of c_types) (word_moved c)
  fits_moved (Some value_kind.JsType) c = ap (is_word_of js_types) (word_moved c)
  fits_moved (Some value_kind.Default) c = refl

  allowed_moved : (on : Element) (o : OptionOf) → is_allowed b.profile (text b) on (move_option_of g o) ≡ is_allowed a.profile (text a) on o
  allowed_moved on o =
      ap (λ p. is_allowed p (text b) on (move_option_of g o)) (sym is.profile)
      ∙ ap (λ w. fits_kind (text b) (value_kind_as a.profile on w) (move_constant g o.value)) (is.texts o.name)
      ∙ fits_moved (value_kind_as a.profile on (text a o.name)) o.value

  pub named_moved : (w : List ℕ) (o : OptionOf) → is_named (text b) w (move_option_of g o) ≡ is_named (text a) w o
  named_moved w o = ap (λ v. bytes_eq v w) (is.texts o.name)

  pub option_flaws_moved : (on : Element) (os : List OptionOf) {ps : List OptionOf} → ps ≡ map (move_option_of g) os → Moves g (option_flaws b on ps) (option_flaws a on os)
  option_flaws_moved on os e =
      join (each g (move_option_of g) _ _ (λ o. if_moved g kind.BadOption o.name (ap not (allowed_moved on o))) os e)
      (marked_moved g kind.BadOption _ _
      (ap (map (λ (o : OptionOf). o.name)) e ∙ maps_moved (move_option_of g) g (λ (o : OptionOf). o.name) (λ (o : OptionOf). o.name) (λ o. refl) os)
      (ap (λ (ps : List OptionOf). after_earlier bytes_eq (map (λ (o : OptionOf). text b o.name) ps)) e
      ∙ ap (after_earlier bytes_eq) (maps_kept (move_option_of g) (λ (o : OptionOf). text a o.name) (λ (o : OptionOf). text b o.name) (λ o. is.texts o.name) os)))

  -- ---- fields

  type_token_moved : (t : FieldType) → type_token (move_type g t) ≡ g (type_token t)
  type_token_moved (field_type.Scalar t) = refl
  type_token_moved (field_type.Reference r) = go r.dot
    where
      go : (dot : Option ℕ) → first_of (move_option g dot) (move_separated g g r.words) ≡ g (first_of dot r.words)
      go None = refl
      go (Some t) = refl

  pub enum_moved : (t : FieldType) → enum_of_type b (move_type g t) ≡ enum_of_type a t
  enum_moved (field_type.Scalar t) = refl
  enum_moved (field_type.Reference r) = is.enums r

  required_moved : (o : Option ℕ) → Moves g (required_flaws b (move_option g o)) (required_flaws a o)
  required_moved None = none
  required_moved (Some t) = if_moved g kind.NotInProto3 t (ap₂ (λ v w. v && bytes_eq w (codes "required")) version (is.texts t))

  map_key_moved : (o : Option ℕ) → Moves g (map_key_flaws b (move_option g o)) (map_key_flaws a o)
  map_key_moved None = none
  map_key_moved (Some t) = if_moved g kind.BadMap t (ap (is_one_of no_map_keys) (is.texts t))

  pub label_moved : (w : List ℕ) (o : Option ℕ) → is_label_word b w (move_option g o) ≡ is_label_word a w o
  label_moved w None = refl
  label_moved w (Some t) = ap (λ v. bytes_eq v w) (is.texts t)

  lacks_moved : (f : FieldOf) → lacks_label b (move_field_of g f) ≡ lacks_label a f
  lacks_moved f = ap₂ (λ v w. not v && w) version (ap₂ (λ v w. v && (w && is_none f.oneof)) (none_kept g f.label) (none_kept g f.map_key))

  packable_moved : (t : FieldType) → is_packable_type b (move_type g t) ≡ is_packable_type a t
  packable_moved (field_type.Scalar t) = ap (λ w. not (is_unpackable w)) (is.texts t)
  packable_moved (field_type.Reference r) = ap is_some (is.enums r)

  types_moved : (f : FieldOf) → Moves g (type_flaws b (move_field_of g f)) (type_flaws a f)
  types_moved f =
      let at : type_token (move_type g f.kind) ≡ g (type_token f.kind) = type_token_moved f.kind in
      join (if_at g kind.Label (type_token f.kind) at (lacks_moved f))
      (join (required_moved f.label)
      (join (map_key_moved f.map_key)
      (join (if_at g kind.FirstNotZero (type_token f.kind) at (ap₂ (λ v e. v && is_past_zero e) (some_kept g f.map_key) (enum_moved f.kind)))
      (if_at g kind.ClosedEnum (type_token f.kind) at (ap₂ (λ v e. v && is_of_proto2 e) version (enum_moved f.kind))))))

  packed_moved : (f : FieldOf) → may_be_packed b (move_field_of g f) ≡ may_be_packed a f
  packed_moved f = ap₂ (λ v w. v && w) (label_moved (codes "repeated") f.label) (packable_moved f.kind)

  long_moved : (t : FieldType) → is_long_type b (move_type g t) ≡ is_long_type a t
  long_moved (field_type.Scalar t) = ap (is_one_of long_types) (is.texts t)
  long_moved (field_type.Reference r) = refl

  message_type_moved : (t : FieldType) → is_message_type b (move_type g t) ≡ is_message_type a t
  message_type_moved (field_type.Scalar t) = refl
  message_type_moved (field_type.Reference r) = ap (λ e. not (is_some e)) (is.enums r)

  js_type_moved : (o : OptionOf) → asks_js_type (text b) (move_option_of g o) ≡ asks_js_type (text a) o
  js_type_moved o = ap₂ (λ v w. v && is_word_of other_js_types w) (named_moved (codes "jstype") o) (word_moved o.value)

  lazy_moved : (o : OptionOf) → asks_lazy (text b) (move_option_of g o) ≡ asks_lazy (text a) o
  lazy_moved o = ap₂ (λ v w. is_one_of lazy_options v && is_true (option_and_then truth_named w)) (is.texts o.name) (word_moved o.value)

  misfit_moved : (f : FieldOf) (o : OptionOf) → is_misfit b (move_field_of g f) (move_option_of g o) ≡ is_misfit a f o
  misfit_moved f o = λ i.
      ((named_moved (codes "packed") o i && not (packed_moved f i))
      || (js_type_moved o i && not (none_kept g f.map_key i && long_moved f.kind i)))
      || (lazy_moved o i && not (some_kept g f.map_key i || message_type_moved f.kind i))

  scalar_default_moved : (scalar : List ℕ) (c : Constant) → is_scalar_default b scalar (move_constant g c) ≡ is_scalar_default a scalar c
  scalar_default_moved scalar (constant.Number n) = ap (holds_number scalar) (signed_moved n)
  scalar_default_moved scalar (constant.Word w) = ap (λ v. bytes_eq scalar (codes "bool") && is_some (option_and_then truth_named v)) (word_moved (constant.Word w))
  scalar_default_moved scalar (constant.Text j) = refl

  default_of_moved : (t : FieldType) (c : Constant) → is_default_of b (move_type g t) (move_constant g c) ≡ is_default_of a t c
  default_of_moved (field_type.Scalar t) c = ap (λ w. is_scalar_default b w (move_constant g c)) (is.texts t) ∙ scalar_default_moved (text a t) c
  default_of_moved (field_type.Reference r) c = ap₂ is_value_of (is.enums r) (word_moved c)

  may_default_moved : (f : FieldOf) (o : OptionOf) → may_default b (move_field_of g f) (move_option_of g o) ≡ may_default a f o
  may_default_moved f o = ap₂ (λ v w. not v && w) (label_moved (codes "repeated") f.label) (ap₂ (λ v w. v && w) (none_kept g f.map_key) (default_of_moved f.kind o.value))

  default_moved : (f : FieldOf) → Moves g (default_flaws b (move_field_of g f)) (default_flaws a f)
  default_moved f = either version none (record { same = ap (wrong_default b (move_field_of g f)) first ∙ (go (find (is_named (text a) (codes "default")) f.options)).same })
    where
      first : find (is_named (text b) (codes "default")) (map (move_option_of g) f.options) ≡ option_map (move_option_of g) (find (is_named (text a) (codes "default")) f.options)
      first = find_moved (move_option_of g) _ _ (named_moved (codes "default")) f.options

      go : (o : Option OptionOf) → Moves g (wrong_default b (move_field_of g f) (option_map (move_option_of g) o)) (wrong_default a f o)
      go None = none
      go (Some o) = if_moved g kind.BadDefault o.name (ap not (may_default_moved f o))

  pub field_moved : (on : Element) (f : FieldOf) → Moves g (field_flaws b on (move_field_of g f)) (field_flaws a on f)
  field_moved on f =
      join (types_moved f)
      (join (option_flaws_moved on f.options refl)
      (join (each g (move_option_of g) _ _ (λ o. if_moved g kind.BadOption o.name (misfit_moved f o)) f.options refl)
      (join (default_moved f)
      (each g (move_option_of g) _ _ (λ o. if_moved g kind.NotInProto3 o.name (ap₂ (λ v w. v && w) version (named_moved (codes "default") o))) f.options refl))))

  -- ---- names

  pub names_moved : (reserved : List ℕ) {others : List ℕ} (names : List ℕ) {renamed : List ℕ} → others ≡ map g reserved → renamed ≡ map g names → Moves g (name_flaws b others renamed) (name_flaws a reserved names)
  names_moved reserved {others} names r n =
      join (each g g _ _ (λ t. if_moved g kind.ReservedName t (ap₂ is_one_of values (is.texts t))) names n)
      (marked_moved g kind.ReservedName _ _ r (ap (after_earlier bytes_eq) values))
    where
      values : map (value b) others ≡ map (value a) reserved
      values = ap (map (value b)) r ∙ maps_kept g (value a) (value b) is.strings reserved

  pub json_name_moved : (f : FieldOf) → json_name_of b (move_field_of g f) ≡ json_name_of a f
  json_name_moved f = ap₂ written_or (ap written first ∙ go (find (is_named (text a) (codes "json_name")) f.options)) (is.texts f.name)
    where
      written : Option OptionOf → Option (List ℕ)
      written o = option_and_then (text_of_constant (value b)) (option_map (λ x. x.value) o)

      first : find (is_named (text b) (codes "json_name")) (map (move_option_of g) f.options) ≡ option_map (move_option_of g) (find (is_named (text a) (codes "json_name")) f.options)
      first = find_moved (move_option_of g) _ _ (named_moved (codes "json_name")) f.options

      go : (o : Option OptionOf) → option_and_then (text_of_constant (value b)) (option_map (λ (x : OptionOf). x.value) (option_map (move_option_of g) o)) ≡ option_and_then (text_of_constant (value a)) (option_map (λ (x : OptionOf). x.value) o)
      go None = refl
      go (Some o) = text_moved o.value

  pub clashes_moved : (fs : List FieldOf) {hs : List FieldOf} → hs ≡ map (move_field_of g) fs → Moves g (json_clashes b hs) (json_clashes a fs)
  clashes_moved fs e =
      either version
      (marked_moved g kind.JsonClash _ _
      (ap (map (λ (f : FieldOf). f.name)) e ∙ maps_moved (move_field_of g) g (λ (f : FieldOf). f.name) (λ (f : FieldOf). f.name) (λ f. refl) fs)
      (ap (λ (hs : List FieldOf). after_earlier bytes_eq (map (json_name_of b) hs)) e ∙ ap (after_earlier bytes_eq) (maps_kept (move_field_of g) (json_name_of a) (json_name_of b) json_name_moved fs)))
      none

  -- ---- messages

  message_moved : (within : Tree) → Moves g (message_flaws b (move_tree g within)) (message_flaws a within)
  message_moved within =
      let fs : List FieldOf = fields_in within in
      let rs : List (Range ℕ) = flat_map closed_ranges (statements within) in
      let f : fields_in (move_tree g within) ≡ map (move_field_of g) fs = fields_moved g 0 within in
      let r : flat_map closed_ranges (statements (move_tree g within)) ≡ map (move_range g g) rs = closed_ranges_moved g within in
      join (each g (move_field_of g) (field_flaws a element.Field) (field_flaws b element.Field) (field_moved element.Field) fs f)
      (join (field_numbers_moved g (map (range_of a) rs) (map (number_of_field a) fs)
      (ap (map (range_of b)) r ∙ maps_moved (move_range g g) (move_range_at g) (range_of a) (range_of b) range_moved rs)
      (ap (map (number_of_field b)) f ∙ maps_moved (move_field_of g) (move_number_at g) (number_of_field a) (number_of_field b) field_number_moved fs))
      (join (names_moved (reserved_names_in within) (map (λ (x : FieldOf). x.name) fs) (reserved_names_moved g within)
      (ap (map (λ (x : FieldOf). x.name)) f ∙ maps_moved (move_field_of g) g (λ (x : FieldOf). x.name) (λ (x : FieldOf). x.name) (λ x. refl) fs))
      (join (clashes_moved fs f)
      (join (each g g _ _ (λ t. if_moved g kind.NotInProto3 t version) (flat_map extension_words (statements within)) (extension_words_moved g within))
      (option_flaws_moved element.Message (options_in within) (options_moved g within))))))

  -- ---- enums

  alias_moved : (os : List OptionOf) {ps : List OptionOf} → ps ≡ map (move_option_of g) os → allows_alias b ps ≡ allows_alias a os
  alias_moved os e =
      ap (allows_alias b) e
      ∙ any_kept (move_option_of g) _ _ (λ o. ap₂ (λ v w. v && is_true (option_and_then truth_named w)) (named_moved (codes "allow_alias") o) (word_moved o.value)) os

  first_value_moved : (ns : List NumberAt) {ms : List NumberAt} → ms ≡ map (move_number_at g) ns → Moves g (first_value_flaws b ms) (first_value_flaws a ns)
  first_value_moved ns e = record { same = ap (first_value_flaws b) e ∙ (go ns).same }
    where
      go : (xs : List NumberAt) → Moves g (first_value_flaws b (map (move_number_at g) xs)) (first_value_flaws a xs)
      go [] = none
      go (n ∷ xs) = if_moved g kind.FirstNotZero n.token (ap (λ v. v && not (int_eq n.number (pos 0))) version)

  value_numbers_moved : (within : Tree) (rs : List RangeAt) {qs : List RangeAt} (ns : List NumberAt) {ms : List NumberAt} → qs ≡ map (move_range_at g) rs → ms ≡ map (move_number_at g) ns
      → Moves g (value_number_flaws b (move_tree g within) qs ms) (value_number_flaws a within rs ns)
  value_numbers_moved within rs ns r n =
      join (outside_moved g is_value_number ns n)
      (join (first_value_moved ns n)
      (join (either (alias_moved (options_in within) (options_moved g within)) none (marked_moved g kind.AliasNotAllowed _ _ (tokens_moved g ns n) (repeated_kept g ns n)))
      (join (reserved_moved g rs ns r n)
      (join (broken_moved g least_value most_value rs r)
      (overlaps_moved g rs r)))))

  enum_flaws_moved : (name : ℕ) (within : Tree) → Moves g (enum_flaws b (g name) (move_tree g within)) (enum_flaws a name within)
  enum_flaws_moved name within =
      let vs : List Value = values_in within in
      let rs : List (Range Signed) = flat_map enum_ranges (statements within) in
      let v : values_in (move_tree g within) ≡ map (move_value g) vs = values_moved g within in
      let r : flat_map enum_ranges (statements (move_tree g within)) ≡ map (move_range g (move_signed g)) rs = enum_ranges_moved g within in
      join (if_moved g kind.EmptyEnum name (ap is_empty v ∙ empty_kept (move_value g) vs))
      (join (value_numbers_moved within (map (enum_range_of a) rs) (map (number_of_value a) vs)
      (ap (map (enum_range_of b)) r ∙ maps_moved (move_range g (move_signed g)) (move_range_at g) (enum_range_of a) (enum_range_of b) enum_range_moved rs)
      (ap (map (number_of_value b)) v ∙ maps_moved (move_value g) (move_number_at g) (number_of_value a) (number_of_value b) value_number_moved vs))
      (join (names_moved (reserved_names_in within) (map (λ (x : Value). x.name) vs) (reserved_names_moved g within)
      (ap (map (λ (x : Value). x.name)) v ∙ maps_moved (move_value g) g (λ (x : Value). x.name) (λ (x : Value). x.name) (λ x. refl) vs))
      (join (each g (move_value g) (value_option_flaws a) (value_option_flaws b) (λ x. option_flaws_moved element.EnumValue (settings_of x.settings) (settings_moved g x.settings)) vs v)
      (option_flaws_moved element.Enum (options_in within) (options_moved g within)))))

  -- ---- `extend` blocks

  required_extension_moved : (o : Option ℕ) → Moves g (required_extensions b (move_option g o)) (required_extensions a o)
  required_extension_moved None = none
  required_extension_moved (Some t) = if_moved g kind.RequiredExtension t (ap (λ w. bytes_eq w (codes "required")) (is.texts t))

  extension_moved : (f : FieldOf) → Moves g (flaws_of_extension b (move_field_of g f)) (flaws_of_extension a f)
  extension_moved f = join (required_extension_moved f.label) (field_moved element.Extension f)

  -- a file may have an `extend` block in both scenes or in neither
  bars_moved : (r : Reference) → bars_extend b.profile b.is_proto3 (meant_by b (move_reference g r)) ≡ bars_extend a.profile a.is_proto3 (meant_by a r)
  bars_moved r = ap₂ (λ p v. bars_extend p v (meant_by b (move_reference g r))) (sym is.profile) version ∙ go a.profile
    where
      go : (p : Profile) → bars_extend p a.is_proto3 (meant_by b (move_reference g r)) ≡ bars_extend p a.is_proto3 (meant_by a r)
      go language.Core = refl
      go language.AsWritten = ap (λ v. a.is_proto3 && not v) (is.options r)

  extend_moved : (keyword : ℕ) (r : Reference) (within : Tree) → Moves g (extend_flaws b (g keyword) (move_reference g r) (move_tree g within)) (extend_flaws a keyword r within)
  extend_moved keyword r within =
      let fs : List FieldOf = fields_in within in
      let f : fields_in (move_tree g within) ≡ map (move_field_of g) fs = fields_moved g 0 within in
      join (if_moved g kind.NotInProto3 keyword (bars_moved r))
      (join (outside_moved g is_field_number (map (number_of_field a) fs)
      (ap (map (number_of_field b)) f ∙ maps_moved (move_field_of g) (move_number_at g) (number_of_field a) (number_of_field b) field_number_moved fs))
      (each g (move_field_of g) (flaws_of_extension a) (flaws_of_extension b) extension_moved fs f))

  -- ---- blocks, and the file

  pub block_moved : (h : Header) (within : Tree) → Moves g (block_flaws b (move_header g h) (move_tree g within)) (block_flaws a h within)
  block_moved (header.Message h) within = message_moved within
  block_moved (header.Oneof h) within = if_moved g kind.EmptyOneof h.name (ap is_empty (fields_moved g 0 within) ∙ empty_kept (move_field_of g) (fields_in within))
  block_moved (header.Enum h) within = enum_flaws_moved h.name within
  block_moved (header.Service h) within = option_flaws_moved element.Service (options_in within) (options_moved g within)
  block_moved (header.Method s) within = option_flaws_moved element.Method (options_in within) (options_moved g within)
  block_moved (header.Extend e) within = extend_moved e.keyword e.extendee within

  file_moved : (s t : Tree) → options_in t ≡ map (move_option_of g) (options_in s) → blocks_in t ≡ map (move_block_of g) (blocks_in s) → Moves g (file_flaws b t) (file_flaws a s)
  file_moved s t os bs = join (option_flaws_moved element.File (options_in s) os) (each g (move_block_of g) _ _ (λ x. block_moved x.header x.within) (blocks_in s) bs)

pub imports_move_flaws : ImportsMoveFlaws
imports_move_flaws g a b s t is e = (file_moved g a b is s t (file_options_moved g s t e) (file_blocks_moved g s t e)).same
