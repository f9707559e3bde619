-- The flaws of a file with one cap and another: the least is the same (for the crates above).
use Rattle.std.proofs.Common.{◌≡◌, ℕ, ◌<◌, ◌^◌, ◌-◌, ℤ, pos, negsuc, Bool, true, false, not, ◌&&◌, if◌then◌else◌, List, [], ◌∷◌, ◌++◌, map, flat_map, find, Option, Some, None, is_none, codes, refl, sym, ◌∙◌, ap, arith, Contains}
use Rattle.proto_base.proofs.Common.{Contains-append_left, Contains-append_right, kind_number}
use Rattle.proto_base.specs.declared.fault.FaultKind.{FaultKind}
use Rattle.proto_base.specs.declared.fault.FaultKind.TheVariants as kind
use Rattle.proto_tree.specs.declared.piece.Header.{Header}
use Rattle.proto_tree.specs.declared.piece.Header.TheVariants as header
use Rattle.proto_tree.specs.declared.tree.Constant.{Constant}
use Rattle.proto_tree.specs.declared.tree.Constant.TheVariants as constant
use Rattle.proto_tree.specs.declared.tree.FieldType.{FieldType}
use Rattle.proto_tree.specs.declared.tree.FieldType.TheVariants as field_type
use Rattle.proto_tree.specs.declared.tree.Range.{Range}
use Rattle.proto_tree.specs.declared.tree.Signed.{Signed}
use Rattle.proto_tree.specs.declared.tree.Value.{Value}
use Rattle.proto_tree.specs.declared.tree.Reference.{Reference}
use Rattle.proto_tree.specs.Tree.{Tree}
use Rattle.proto_ast.proofs.Common.{is_named, is_one_of, FieldOf, OptionOf, BlockOf, statements, fields_in, values_in, closed_ranges, enum_ranges, reserved_names_in, options_in, blocks_in, Scene, meant_by, text, number_at, signed_value, uncapped, has_label}
use Rattle.proto_ast.specs.declared.options.Element.{Element}
use Rattle.proto_ast.specs.declared.options.Element.TheVariants as element
use Rattle.proto_desc_numbers.specs.declared.flaw.Flaw.{Flaw}
use Rattle.proto_desc_checks.specs.Capped.{CapsKeepTheLeast}
use Rattle.proto_desc_numbers.proofs.Common.{flaw, flaw_if, marked, first_of_signed, number_of_field, number_of_value, range_of, enum_range_of, most_field, least_value, most_value, is_within, is_field_number, is_value_number, outside, is_sound_range, broken_ranges, reserved_numbers, overlaps, repeated_numbers, end_of, field_number_flaws, Alike, AlikeCaps, equal_alike, within_alike, caps_back, past_or_none, capped, alike_at, alike_signed, alike_end, field_limit, value_limit}
use Rattle.proto_desc_checks.specs.Common.{bars_extend, extend_flaws, flaws_of_extension, required_extensions, option_flaws, misfit_flaws, default_flaws, proto3_defaults, wrong_default, type_flaws, is_default_of, is_scalar_default, holds_number, signed_32, signed_64, unsigned_32, unsigned_64, field_flaws, name_flaws, json_clashes, extension_flaws, message_flaws, allows_alias, alias_flaws, first_value_flaws, value_number_flaws, value_option_flaws, is_empty, enum_flaws, block_flaws, file_flaws}
use Rattle.proto_desc_numbers.proofs.CappedCovers.{Beneath, Covered, covered_equal, covered_join, covered_more, covered_unless, covered_flat, least_kept}
use Rattle.proto_desc_numbers.proofs.CappedRanges.{outside_here, outside_same, covered_repeated, broken_here, broken_same, sound_same, inside_same, covered_overlaps, covered_reserved}
use Rattle.proto_desc_checks.proofs.KnownNames.{flat_map_same}

-- ---- fields: their flaws are the same

pub holds_same : (scalar : List ℕ) (a b : ℤ) → Alike a b → holds_number scalar a ≡ holds_number scalar b
holds_same scalar a b h =
    four (is_one_of signed_32 scalar) (is_one_of signed_64 scalar) (is_one_of unsigned_32 scalar) (is_one_of unsigned_64 scalar)
    (is_within least_value most_value a) (is_within (negsuc (2 ^ 63 - 1)) (pos (2 ^ 63 - 1)) a) (is_within (pos 0) (pos (2 ^ 32 - 1)) a) (is_within (pos 0) (pos (2 ^ 64 - 1)) a)
    (is_within least_value most_value b) (is_within (negsuc (2 ^ 63 - 1)) (pos (2 ^ 63 - 1)) b) (is_within (pos 0) (pos (2 ^ 32 - 1)) b) (is_within (pos 0) (pos (2 ^ 64 - 1)) b)
    (within_alike least_value most_value a b refl refl h)
    (within_alike (negsuc (2 ^ 63 - 1)) (pos (2 ^ 63 - 1)) a b refl refl h)
    (within_alike (pos 0) (pos (2 ^ 32 - 1)) a b refl refl h)
    (within_alike (pos 0) (pos (2 ^ 64 - 1)) a b refl refl h)
  where
    four : (i j k l s t u v s' t' u' v' : Bool) → s ≡ s' → t ≡ t' → u ≡ u' → v ≡ v'
        → (if i then s else (if j then t else (if k then u else (if l then v else false)))) ≡ (if i then s' else (if j then t' else (if k then u' else (if l then v' else false))))
    four true j k l s t u v s' t' u' v' a b c d = a
    four false true k l s t u v s' t' u' v' a b c d = b
    four false false true l s t u v s' t' u' v' a b c d = c
    four false false false true s t u v s' t' u' v' a b c d = d
    four false false false false s t u v s' t' u' v' a b c d = refl

-- where a number is outside its limits, a flaw with a greater number has no effect
under_range : (zs : List Flaw) (k : FaultKind) (t : ℕ) → kind_number kind.NumberRange < kind_number k → Contains zs (flaw kind.NumberRange t) → Beneath zs (flaw k t)
under_range zs k t l c = (flaw kind.NumberRange t, c, refl, l)

in_second : (xs ys zs : List Flaw) (y : Flaw) → Contains ys y → Contains (xs ++ (ys ++ zs)) y
in_second xs ys zs y c = Contains-append_right xs (ys ++ zs) y (Contains-append_left ys zs y c)

module _ (scene : Scene) (c d : Option ℕ) (caps : AlikeCaps c d) where
  abbrev one : Scene
  one = capped scene c

  abbrev two : Scene
  two = capped scene d

  scalar_default_same : (scalar : List ℕ) (v : Constant) → is_scalar_default one scalar v ≡ is_scalar_default two scalar v
  scalar_default_same scalar (constant.Number n) = holds_same scalar (signed_value one n) (signed_value two n) (alike_signed scene c d caps n)
  scalar_default_same scalar (constant.Word w) = refl
  scalar_default_same scalar (constant.Text j) = refl

  default_of_same : (t : FieldType) (v : Constant) → is_default_of one t v ≡ is_default_of two t v
  default_of_same (field_type.Scalar t) v = scalar_default_same (text scene t) v
  default_of_same (field_type.Reference r) v = refl

  wrong_default_same : (f : FieldOf) (o : Option OptionOf) → wrong_default one f o ≡ wrong_default two f o
  wrong_default_same f None = refl
  wrong_default_same f (Some o) = ap (λ b. flaw_if (not (not (has_label one (codes "repeated") f) && (is_none f.map_key && b))) kind.BadDefault o.name) (default_of_same f.kind o.value)

  default_same : (f : FieldOf) → default_flaws one f ≡ default_flaws two f
  default_same f = ap (λ l. if scene.is_proto3 then [] else l) (wrong_default_same f (find (is_named (text scene) (codes "default")) f.options))

  field_same : (on : Element) (f : FieldOf) → field_flaws one on f ≡ field_flaws two on f
  field_same on f =
      ap (λ l. type_flaws one f ++ (option_flaws one on f.options ++ (misfit_flaws one f ++ (l ++ proto3_defaults one f)))) (default_same f)

  -- ---- messages

  abbrev closed_first : Option ℕ → Range ℕ → ℤ
  closed_first cap r = number_at (capped scene cap) r.first

  abbrev closed_last : Option ℕ → Range ℕ → ℤ
  closed_last cap r = end_of most_field (number_at (capped scene cap)) r.first r.up_to

  module _ (fs : List FieldOf) (rs : List (Range ℕ)) where
    abbrev field_numbers : Option ℕ → FieldOf → ℤ
    field_numbers cap f = number_at (capped scene cap) f.number

    -- the parts of the number flaws
    abbrev parts : Option ℕ → List Flaw
    parts cap = field_number_flaws (map (range_of (capped scene cap)) rs) (map (number_of_field (capped scene cap)) fs)

    abbrev ends : Option ℕ → List Flaw
    ends cap = broken_ranges (pos 1) most_field (map (range_of (capped scene cap)) rs) ++ overlaps (map (range_of (capped scene cap)) rs)

    abbrev reserved : Option ℕ → List Flaw
    reserved cap = reserved_numbers (map (range_of (capped scene cap)) rs) (map (number_of_field (capped scene cap)) fs)

    abbrev repeated : Option ℕ → List Flaw
    repeated cap = marked kind.DuplicateNumber (map (λ n. n.token) (map (number_of_field (capped scene cap)) fs)) (repeated_numbers (map (number_of_field (capped scene cap)) fs))

    field_alike : (f : FieldOf) → Alike (field_numbers c f) (field_numbers d f)
    field_alike f = alike_at scene c d caps f.number

    first_alike : (r : Range ℕ) → Alike (closed_first c r) (closed_first d r)
    first_alike r = alike_at scene c d caps r.first

    last_alike : (r : Range ℕ) → Alike (closed_last c r) (closed_last d r)
    last_alike r = alike_end most_field (number_at one) (number_at two) (alike_at scene c d caps) r.first r.up_to

    below_number : (k : FaultKind) → kind_number kind.NumberRange < kind_number k → (f : FieldOf) → Contains fs f → is_field_number (field_numbers c f) ≡ false → Beneath (parts d) (flaw k f.number)
    below_number k l f h e =
        under_range (parts d) k f.number l
        (Contains-append_left (outside is_field_number (map (number_of_field two) fs)) (repeated d ++ (reserved d ++ ends d)) (flaw kind.NumberRange f.number)
        (outside_here is_field_number (λ x. x.number) (field_numbers d) fs f h (sym (field_limit.same (field_numbers c f) (field_numbers d f) (field_alike f)) ∙ e)))

    below_range : (r : Range ℕ) → Contains rs r → is_sound_range (pos 1) most_field (range_of one r) ≡ false → Beneath (parts d) (flaw kind.RangeOverlap r.first)
    below_range r h e =
        under_range (parts d) kind.RangeOverlap r.first (omega arith)
        (Contains-append_right (outside is_field_number (map (number_of_field two) fs)) (repeated d ++ (reserved d ++ ends d)) (flaw kind.NumberRange r.first)
        (Contains-append_right (repeated d) (reserved d ++ ends d) (flaw kind.NumberRange r.first)
        (in_second (reserved d) (broken_ranges (pos 1) most_field (map (range_of two) rs)) (overlaps (map (range_of two) rs)) (flaw kind.NumberRange r.first)
        (broken_here (pos 1) most_field (λ x. x.first) (closed_first d) (closed_last d) rs r h
        (sym (sound_same (pos 1) most_field refl refl (λ x. x.first) (closed_first c) (closed_last c) (closed_first d) (closed_last d) first_alike last_alike r) ∙ e)))))

    covered_fields : Covered (parts d) (parts c) (parts d)
    covered_fields =
        covered_join (parts d) (outside is_field_number (map (number_of_field one) fs)) (outside is_field_number (map (number_of_field two) fs)) (repeated c ++ (reserved c ++ ends c)) (repeated d ++ (reserved d ++ ends d))
        (covered_equal (parts d) (outside is_field_number (map (number_of_field one) fs)) (outside is_field_number (map (number_of_field two) fs)) (outside_same is_field_number field_limit (λ x. x.number) (field_numbers c) (field_numbers d) field_alike fs))
        (covered_join (parts d) (repeated c) (repeated d) (reserved c ++ ends c) (reserved d ++ ends d)
        (covered_repeated is_field_number field_limit (λ x. x.number) (field_numbers c) (field_numbers d) field_alike (parts d) kind.DuplicateNumber fs (below_number kind.DuplicateNumber (omega arith)))
        (covered_join (parts d) (reserved c) (reserved d) (ends c) (ends d)
        (covered_reserved is_field_number field_limit (λ x. x.number) (field_numbers c) (field_numbers d) field_alike (map (range_of one) rs) (map (range_of two) rs)
        (λ n near. inside_same (pos 1) most_field refl refl (λ x. x.first) (closed_first c) (closed_last c) (closed_first d) (closed_last d) first_alike last_alike n near rs)
        (parts d) fs (below_number kind.ReservedNumber (omega arith)))
        (covered_join (parts d) (broken_ranges (pos 1) most_field (map (range_of one) rs)) (broken_ranges (pos 1) most_field (map (range_of two) rs)) (overlaps (map (range_of one) rs)) (overlaps (map (range_of two) rs))
        (covered_equal (parts d) (broken_ranges (pos 1) most_field (map (range_of one) rs)) (broken_ranges (pos 1) most_field (map (range_of two) rs)) (broken_same (pos 1) most_field refl refl (λ x. x.first) (closed_first c) (closed_last c) (closed_first d) (closed_last d) first_alike last_alike rs))
        (covered_overlaps (pos 1) most_field refl refl (λ x. x.first) (closed_first c) (closed_last c) (closed_first d) (closed_last d) first_alike last_alike (parts d) rs below_range))))

  covered_message : (within : Tree) → Covered (message_flaws two within) (message_flaws one within) (message_flaws two within)
  covered_message within =
      let fs : List FieldOf = fields_in within in
      let rs : List (Range ℕ) = flat_map closed_ranges (statements within) in
      let fields : List Flaw = flat_map (field_flaws two element.Field) fs in
      let rest : List Flaw = name_flaws scene (reserved_names_in within) (map (λ f. f.name) fs) ++ (json_clashes scene fs ++ (extension_flaws scene within ++ option_flaws scene element.Message (options_in within))) in
      covered_join (message_flaws two within) (flat_map (field_flaws one element.Field) fs) fields (parts fs rs c ++ rest) (parts fs rs d ++ rest)
      (covered_equal (message_flaws two within) (flat_map (field_flaws one element.Field) fs) fields (flat_map_same (field_flaws one element.Field) (field_flaws two element.Field) (field_same element.Field) fs))
      (covered_join (message_flaws two within) (parts fs rs c) (parts fs rs d) rest rest
      (covered_more (parts fs rs d) (message_flaws two within) (parts fs rs c) (parts fs rs d) (in_second fields (parts fs rs d) rest) (covered_fields fs rs))
      (covered_equal (message_flaws two within) rest rest refl))

  -- ---- enums

  module _ (within : Tree) (vs : List Value) (rs : List (Range Signed)) where
    abbrev value_token : Value → ℕ
    value_token v = first_of_signed v.number

    abbrev value_numbers : Option ℕ → Value → ℤ
    value_numbers cap v = signed_value (capped scene cap) v.number

    abbrev range_token : Range Signed → ℕ
    range_token r = first_of_signed r.first

    abbrev range_first : Option ℕ → Range Signed → ℤ
    range_first cap r = signed_value (capped scene cap) r.first

    abbrev range_last : Option ℕ → Range Signed → ℤ
    range_last cap r = end_of most_value (signed_value (capped scene cap)) r.first r.up_to

    abbrev value_parts : Option ℕ → List Flaw
    value_parts cap = value_number_flaws (capped scene cap) within (map (enum_range_of (capped scene cap)) rs) (map (number_of_value (capped scene cap)) vs)

    abbrev value_outside : Option ℕ → List Flaw
    value_outside cap = outside is_value_number (map (number_of_value (capped scene cap)) vs)

    abbrev value_first : Option ℕ → List Flaw
    value_first cap = first_value_flaws (capped scene cap) (map (number_of_value (capped scene cap)) vs)

    abbrev value_repeated : Option ℕ → List Flaw
    value_repeated cap = marked kind.AliasNotAllowed (map (λ n. n.token) (map (number_of_value (capped scene cap)) vs)) (repeated_numbers (map (number_of_value (capped scene cap)) vs))

    abbrev value_alias : Option ℕ → List Flaw
    value_alias cap = alias_flaws (capped scene cap) within (map (number_of_value (capped scene cap)) vs)

    abbrev value_reserved : Option ℕ → List Flaw
    value_reserved cap = reserved_numbers (map (enum_range_of (capped scene cap)) rs) (map (number_of_value (capped scene cap)) vs)

    abbrev value_broken : Option ℕ → List Flaw
    value_broken cap = broken_ranges least_value most_value (map (enum_range_of (capped scene cap)) rs)

    abbrev value_overlaps : Option ℕ → List Flaw
    value_overlaps cap = overlaps (map (enum_range_of (capped scene cap)) rs)

    value_alike : (v : Value) → Alike (value_numbers c v) (value_numbers d v)
    value_alike v = alike_signed scene c d caps v.number

    range_first_alike : (r : Range Signed) → Alike (range_first c r) (range_first d r)
    range_first_alike r = alike_signed scene c d caps r.first

    range_last_alike : (r : Range Signed) → Alike (range_last c r) (range_last d r)
    range_last_alike r = alike_end most_value (signed_value one) (signed_value two) (alike_signed scene c d caps) r.first r.up_to

    below_value : (k : FaultKind) → kind_number kind.NumberRange < kind_number k → (v : Value) → Contains vs v → is_value_number (value_numbers c v) ≡ false → Beneath (value_parts d) (flaw k (value_token v))
    below_value k l v h e =
        under_range (value_parts d) k (value_token v) l
        (Contains-append_left (value_outside d) (value_first d ++ (value_alias d ++ (value_reserved d ++ (value_broken d ++ value_overlaps d)))) (flaw kind.NumberRange (value_token v))
        (outside_here is_value_number value_token (value_numbers d) vs v h (sym (value_limit.same (value_numbers c v) (value_numbers d v) (value_alike v)) ∙ e)))

    below_enum_range : (r : Range Signed) → Contains rs r → is_sound_range least_value most_value (enum_range_of one r) ≡ false → Beneath (value_parts d) (flaw kind.RangeOverlap (range_token r))
    below_enum_range r h e =
        under_range (value_parts d) kind.RangeOverlap (range_token r) (omega arith)
        (Contains-append_right (value_outside d) (value_first d ++ (value_alias d ++ (value_reserved d ++ (value_broken d ++ value_overlaps d)))) (flaw kind.NumberRange (range_token r))
        (Contains-append_right (value_first d) (value_alias d ++ (value_reserved d ++ (value_broken d ++ value_overlaps d))) (flaw kind.NumberRange (range_token r))
        (Contains-append_right (value_alias d) (value_reserved d ++ (value_broken d ++ value_overlaps d)) (flaw kind.NumberRange (range_token r))
        (in_second (value_reserved d) (value_broken d) (value_overlaps d) (flaw kind.NumberRange (range_token r))
        (broken_here least_value most_value range_token (range_first d) (range_last d) rs r h
        (sym (sound_same least_value most_value refl refl range_token (range_first c) (range_last c) (range_first d) (range_last d) range_first_alike range_last_alike r) ∙ e))))))

    first_value_same : (ws : List Value) → first_value_flaws one (map (number_of_value one) ws) ≡ first_value_flaws two (map (number_of_value two) ws)
    first_value_same [] = refl
    first_value_same (v ∷ ws) =
        ap (λ b. flaw_if (scene.is_proto3 && not b) kind.FirstNotZero (value_token v)) (equal_alike (value_numbers c v) (value_numbers d v) (pos 0) refl (value_alike v))

    covered_values : Covered (value_parts d) (value_parts c) (value_parts d)
    covered_values =
        covered_join (value_parts d) (value_outside c) (value_outside d) (value_first c ++ (value_alias c ++ (value_reserved c ++ (value_broken c ++ value_overlaps c)))) (value_first d ++ (value_alias d ++ (value_reserved d ++ (value_broken d ++ value_overlaps d))))
        (covered_equal (value_parts d) (value_outside c) (value_outside d) (outside_same is_value_number value_limit value_token (value_numbers c) (value_numbers d) value_alike vs))
        (covered_join (value_parts d) (value_first c) (value_first d) (value_alias c ++ (value_reserved c ++ (value_broken c ++ value_overlaps c))) (value_alias d ++ (value_reserved d ++ (value_broken d ++ value_overlaps d)))
        (covered_equal (value_parts d) (value_first c) (value_first d) (first_value_same vs))
        (covered_join (value_parts d) (value_alias c) (value_alias d) (value_reserved c ++ (value_broken c ++ value_overlaps c)) (value_reserved d ++ (value_broken d ++ value_overlaps d))
        (covered_unless (allows_alias scene (options_in within)) (value_parts d) (value_repeated c) (value_repeated d)
        (covered_repeated is_value_number value_limit value_token (value_numbers c) (value_numbers d) value_alike (value_parts d) kind.AliasNotAllowed vs (below_value kind.AliasNotAllowed (omega arith))))
        (covered_join (value_parts d) (value_reserved c) (value_reserved d) (value_broken c ++ value_overlaps c) (value_broken d ++ value_overlaps d)
        (covered_reserved is_value_number value_limit value_token (value_numbers c) (value_numbers d) value_alike (map (enum_range_of one) rs) (map (enum_range_of two) rs)
        (λ n near. inside_same least_value most_value refl refl range_token (range_first c) (range_last c) (range_first d) (range_last d) range_first_alike range_last_alike n near rs)
        (value_parts d) vs (below_value kind.ReservedNumber (omega arith)))
        (covered_join (value_parts d) (value_broken c) (value_broken d) (value_overlaps c) (value_overlaps d)
        (covered_equal (value_parts d) (value_broken c) (value_broken d) (broken_same least_value most_value refl refl range_token (range_first c) (range_last c) (range_first d) (range_last d) range_first_alike range_last_alike rs))
        (covered_overlaps least_value most_value refl refl range_token (range_first c) (range_last c) (range_first d) (range_last d) range_first_alike range_last_alike (value_parts d) rs below_enum_range)))))

  covered_enum : (name : ℕ) (within : Tree) → Covered (enum_flaws two name within) (enum_flaws one name within) (enum_flaws two name within)
  covered_enum name within =
      let vs : List Value = values_in within in
      let rs : List (Range Signed) = flat_map enum_ranges (statements within) in
      let empty : List Flaw = flaw_if (is_empty vs) kind.EmptyEnum name in
      let rest : List Flaw = name_flaws scene (reserved_names_in within) (map (λ v. v.name) vs) ++ (flat_map (value_option_flaws scene) vs ++ option_flaws scene element.Enum (options_in within)) in
      covered_join (enum_flaws two name within) empty empty (value_parts within vs rs c ++ rest) (value_parts within vs rs d ++ rest)
      (covered_equal (enum_flaws two name within) empty empty refl)
      (covered_join (enum_flaws two name within) (value_parts within vs rs c) (value_parts within vs rs d) rest rest
      (covered_more (value_parts within vs rs d) (enum_flaws two name within) (value_parts within vs rs c) (value_parts within vs rs d) (in_second empty (value_parts within vs rs d) rest) (covered_values within vs rs))
      (covered_equal (enum_flaws two name within) rest rest refl))

  -- ---- `extend` blocks: their flaws are the same

  extension_same : (f : FieldOf) → flaws_of_extension one f ≡ flaws_of_extension two f
  extension_same f = ap (λ l. required_extensions one f.label ++ l) (field_same element.Extension f)

  extend_same : (keyword : ℕ) (r : Reference) (within : Tree) → extend_flaws one keyword r within ≡ extend_flaws two keyword r within
  extend_same keyword r within =
      let fs : List FieldOf = fields_in within in
      let wrong : List Flaw = flaw_if (bars_extend scene.profile scene.is_proto3 (meant_by scene r)) kind.NotInProto3 keyword in
      ap (λ l. wrong ++ (l ++ flat_map (flaws_of_extension one) fs))
      (outside_same is_field_number field_limit (λ x. x.number) (λ (f : FieldOf). number_at one f.number) (λ (f : FieldOf). number_at two f.number) (λ f. alike_at scene c d caps f.number) fs)
      ∙ ap (λ l. wrong ++ (outside is_field_number (map (number_of_field two) fs) ++ l)) (flat_map_same (flaws_of_extension one) (flaws_of_extension two) extension_same fs)

  -- ---- the file

  covered_block : (h : Header) (within : Tree) → Covered (block_flaws two h within) (block_flaws one h within) (block_flaws two h within)
  covered_block (header.Message h) within = covered_message within
  covered_block (header.Oneof h) within = covered_equal (block_flaws two (header.Oneof h) within) (block_flaws one (header.Oneof h) within) (block_flaws two (header.Oneof h) within) refl
  covered_block (header.Enum h) within = covered_enum h.name within
  covered_block (header.Extend e) within = covered_equal (block_flaws two (header.Extend e) within) (block_flaws one (header.Extend e) within) (block_flaws two (header.Extend e) within) (extend_same e.keyword e.extendee within)
  covered_block whole within = covered_equal (block_flaws two whole within) (block_flaws one whole within) (block_flaws two whole within) refl

  pub covered_file : (tree : Tree) → Covered (file_flaws two tree) (file_flaws one tree) (file_flaws two tree)
  covered_file tree =
      let options : List Flaw = option_flaws scene element.File (options_in tree) in
      let blocks : List Flaw = flat_map (λ (b : BlockOf). block_flaws two b.header b.within) (blocks_in tree) in
      covered_join (options ++ blocks) options options (flat_map (λ (b : BlockOf). block_flaws one b.header b.within) (blocks_in tree)) blocks
      (covered_equal (options ++ blocks) options options refl)
      (covered_more blocks (options ++ blocks) (flat_map (λ (b : BlockOf). block_flaws one b.header b.within) (blocks_in tree)) blocks (Contains-append_right options blocks)
      (covered_flat (λ (b : BlockOf). block_flaws one b.header b.within) (λ (b : BlockOf). block_flaws two b.header b.within) (λ b. covered_block b.header b.within) (blocks_in tree)))

pub caps_keep_the_least : CapsKeepTheLeast
caps_keep_the_least scene tree r e h =
    let caps = past_or_none scene.cap e in
    least_kept (file_flaws scene tree) (file_flaws (uncapped scene) tree)
    (covered_file scene scene.cap None caps tree)
    (covered_file scene None scene.cap (caps_back scene.cap None caps) tree)
    r h
