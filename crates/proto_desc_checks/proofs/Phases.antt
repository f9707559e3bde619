-- All that is wrong with a file is of the phase of checks (for the crates above).
use Rattle.std.proofs.Common.{◌≡◌, ℕ, Bool, true, false, List, [], ◌∷◌, ◌++◌, Option, Some, None, refl, sym, subst, ℤ, pos, not, ◌&&◌, map, flat_map, find, codes, if◌then◌else◌, All, Contains, int_eq, bytes_eq}
use Rattle.proto_base.proofs.Common.{list_any, All-nil, All-cons, All-append, All-contains, phase_of}
use Rattle.std.proofs.lemmas.List.Concat.{flat_map-cons}
use Rattle.proto_base.specs.declared.fault.FaultKind.{FaultKind}
use Rattle.proto_base.specs.declared.fault.FaultKind.TheVariants as kind
use Rattle.proto_tree.specs.declared.tree.Value.{Value}
use Rattle.proto_tree.specs.declared.piece.Header.{Header}
use Rattle.proto_tree.specs.declared.piece.Header.TheVariants as header
use Rattle.proto_tree.specs.declared.tree.Reference.{Reference}
use Rattle.proto_tree.specs.Tree.{Tree}
use Rattle.proto_ast.proofs.Common.{is_allowed, is_named, is_one_of, FieldOf, OptionOf, statements, fields_in, values_in, closed_ranges, enum_ranges, reserved_names_in, extension_words, options_in, settings_of, BlockOf, blocks_in, Scene, meant_by, text, value, json_name_of}
use Rattle.proto_ast.specs.declared.options.Element.{Element}
use Rattle.proto_ast.specs.declared.options.Element.TheVariants as element
use Rattle.proto_desc_numbers.specs.declared.flaw.Flaw.{Flaw}
use Rattle.proto_desc_numbers.specs.declared.numbers.NumberAt.{NumberAt}
use Rattle.proto_ast.specs.declared.ranges.RangeAt.{RangeAt}
use Rattle.proto_desc_numbers.proofs.Common.{flaw, flaw_if, after_earlier, marked, number_of_field, number_of_value, range_of, enum_range_of, most_field, least_value, most_value, is_field_number, is_value_number, outside, is_sound_range, broken_ranges, is_inside, reserved_numbers, share, overlaps, repeated_numbers, field_number_flaws}
use Rattle.proto_desc_checks.specs.Common.{bars_extend, extend_flaws, flaws_of_extension, required_extensions, option_flaws, type_token, lacks_label, required_flaws, no_map_keys, map_key_flaws, starts_wrong, has_closed_enum, misfit_flaws, may_default, wrong_default, default_flaws, proto3_defaults, type_flaws, field_flaws, name_flaws, json_clashes, extension_flaws, message_flaws, allows_alias, alias_flaws, first_value_flaws, is_empty, value_number_flaws, value_option_flaws, enum_flaws, block_flaws, file_flaws, is_misfit}

abbrev IsOfChecks : Flaw → Type 0
IsOfChecks f = phase_of f.kind ≡ 6

record AreOfChecks (flaws : List Flaw) : Type 0 where
  pub all : All IsOfChecks flaws

-- ---- lists of flaws

none : AreOfChecks []
none = record { all = All-nil IsOfChecks }

both : {xs ys : List Flaw} → AreOfChecks xs → AreOfChecks ys → AreOfChecks (xs ++ ys)
both {xs} {ys} h k = record { all = All-append IsOfChecks xs ys h.all k.all }

each : {A : Type 0} (flaws : A → List Flaw) (xs : List A) → ((x : A) → AreOfChecks (flaws x)) → AreOfChecks (flat_map flaws xs)
each flaws [] h = none
each flaws (x ∷ xs) h = subst AreOfChecks (sym (flat_map-cons flaws x xs)) (both (h x) (each flaws xs h))

one_if : (holds : Bool) (k : FaultKind) (token : ℕ) → phase_of k ≡ 6 → AreOfChecks (flaw_if holds k token)
one_if true k token e = record { all = All-cons IsOfChecks (flaw k token) [] e (All-nil IsOfChecks) }
one_if false k token e = none

each_if : {A : Type 0} (holds : A → Bool) (k : FaultKind) (token : A → ℕ) (xs : List A) → phase_of k ≡ 6 → AreOfChecks (flat_map (λ x. flaw_if (holds x) k (token x)) xs)
each_if holds k token xs e = each (λ x. flaw_if (holds x) k (token x)) xs (λ x. one_if (holds x) k (token x) e)

each_marked : (k : FaultKind) (tokens : List ℕ) (flags : List Bool) → phase_of k ≡ 6 → AreOfChecks (marked k tokens flags)
each_marked k [] flags e = none
each_marked k (t ∷ ts) [] e = none
each_marked k (t ∷ ts) (b ∷ bs) e = both (one_if b k t e) (each_marked k ts bs e)

either : {xs ys : List Flaw} (b : Bool) → AreOfChecks xs → AreOfChecks ys → AreOfChecks (if b then xs else ys)
either true h k = h
either false h k = k

-- ---- numbers

of_limits : (limits : ℤ → Bool) (ns : List NumberAt) → AreOfChecks (outside limits ns)
of_limits limits ns = each_if (λ (n : NumberAt). not (limits n.number)) kind.NumberRange (λ n. n.token) ns refl

of_ranges : (least most : ℤ) (rs : List RangeAt) → AreOfChecks (broken_ranges least most rs ++ overlaps rs)
of_ranges least most rs =
    both (each_if (λ (r : RangeAt). not (is_sound_range least most r)) kind.NumberRange (λ r. r.token) rs refl)
    (each_marked kind.RangeOverlap (map (λ (r : RangeAt). r.token) rs) (after_earlier share rs) refl)

of_reserved : (rs : List RangeAt) (ns : List NumberAt) → AreOfChecks (reserved_numbers rs ns)
of_reserved rs ns = each_if (λ (n : NumberAt). list_any (is_inside n.number) rs) kind.ReservedNumber (λ n. n.token) ns refl

-- ---- options and fields

of_options : (scene : Scene) (on : Element) (options : List OptionOf) → AreOfChecks (option_flaws scene on options)
of_options scene on options =
    both (each_if (λ (o : OptionOf). not (is_allowed scene.profile (text scene) on o)) kind.BadOption (λ o. o.name) options refl)
    (each_marked kind.BadOption (map (λ (o : OptionOf). o.name) options) (after_earlier bytes_eq (map (λ (o : OptionOf). text scene o.name) options)) refl)

of_required : (scene : Scene) (label : Option ℕ) → AreOfChecks (required_flaws scene label)
of_required scene None = none
of_required scene (Some t) = one_if (scene.is_proto3 && bytes_eq (text scene t) (codes "required")) kind.NotInProto3 t refl

of_map_key : (scene : Scene) (key : Option ℕ) → AreOfChecks (map_key_flaws scene key)
of_map_key scene None = none
of_map_key scene (Some t) = one_if (is_one_of no_map_keys (text scene t)) kind.BadMap t refl

of_type : (scene : Scene) (f : FieldOf) → AreOfChecks (type_flaws scene f)
of_type scene f =
    both (one_if (lacks_label scene f) kind.Label (type_token f.kind) refl)
    (both (of_required scene f.label)
    (both (of_map_key scene f.map_key)
    (both (one_if (starts_wrong scene f) kind.FirstNotZero (type_token f.kind) refl)
    (one_if (has_closed_enum scene f) kind.ClosedEnum (type_token f.kind) refl))))

of_misfits : (scene : Scene) (f : FieldOf) → AreOfChecks (misfit_flaws scene f)
of_misfits scene f = each_if (is_misfit scene f) kind.BadOption (λ o. o.name) f.options refl

of_wrong_default : (scene : Scene) (f : FieldOf) (o : Option OptionOf) → AreOfChecks (wrong_default scene f o)
of_wrong_default scene f None = none
of_wrong_default scene f (Some o) = one_if (not (may_default scene f o)) kind.BadDefault o.name refl

of_default : (scene : Scene) (f : FieldOf) → AreOfChecks (default_flaws scene f)
of_default scene f = either scene.is_proto3 none (of_wrong_default scene f (find (is_named (text scene) (codes "default")) f.options))

of_proto3_default : (scene : Scene) (f : FieldOf) → AreOfChecks (proto3_defaults scene f)
of_proto3_default scene f = each_if (λ (o : OptionOf). scene.is_proto3 && is_named (text scene) (codes "default") o) kind.NotInProto3 (λ o. o.name) f.options refl

of_field : (scene : Scene) (on : Element) (f : FieldOf) → AreOfChecks (field_flaws scene on f)
of_field scene on f =
    both (of_type scene f)
    (both (of_options scene on f.options)
    (both (of_misfits scene f)
    (both (of_default scene f)
    (of_proto3_default scene f))))

-- ---- messages and enums

of_names : (scene : Scene) (reserved names : List ℕ) → AreOfChecks (name_flaws scene reserved names)
of_names scene reserved names =
    both (each_if (λ (t : ℕ). is_one_of (map (value scene) reserved) (text scene t)) kind.ReservedName (λ t. t) names refl)
    (each_marked kind.ReservedName reserved (after_earlier bytes_eq (map (value scene) reserved)) refl)

of_json_names : (scene : Scene) (fs : List FieldOf) → AreOfChecks (json_clashes scene fs)
of_json_names scene fs =
    either scene.is_proto3 (each_marked kind.JsonClash (map (λ (f : FieldOf). f.name) fs) (after_earlier bytes_eq (map (json_name_of scene) fs)) refl) none

of_field_numbers : (ranges : List RangeAt) (numbers : List NumberAt) → AreOfChecks (field_number_flaws ranges numbers)
of_field_numbers ranges numbers =
    both (of_limits is_field_number numbers)
    (both (each_marked kind.DuplicateNumber (map (λ (n : NumberAt). n.token) numbers) (repeated_numbers numbers) refl)
    (both (of_reserved ranges numbers)
    (of_ranges (pos 1) most_field ranges)))

of_extensions : (scene : Scene) (within : Tree) → AreOfChecks (extension_flaws scene within)
of_extensions scene within = each_if (λ (t : ℕ). scene.is_proto3) kind.NotInProto3 (λ t. t) (flat_map extension_words (statements within)) refl

of_message : (scene : Scene) (within : Tree) → AreOfChecks (message_flaws scene within)
of_message scene within =
    both (each (field_flaws scene element.Field) (fields_in within) (of_field scene element.Field))
    (both (of_field_numbers (map (range_of scene) (flat_map closed_ranges (statements within))) (map (number_of_field scene) (fields_in within)))
    (both (of_names scene (reserved_names_in within) (map (λ (f : FieldOf). f.name) (fields_in within)))
    (both (of_json_names scene (fields_in within))
    (both (of_extensions scene within)
    (of_options scene element.Message (options_in within))))))

of_first_value : (scene : Scene) (numbers : List NumberAt) → AreOfChecks (first_value_flaws scene numbers)
of_first_value scene [] = none
of_first_value scene (n ∷ ns) = one_if (scene.is_proto3 && not (int_eq n.number (pos 0))) kind.FirstNotZero n.token refl

of_alias : (scene : Scene) (within : Tree) (numbers : List NumberAt) → AreOfChecks (alias_flaws scene within numbers)
of_alias scene within numbers =
    either (allows_alias scene (options_in within)) none (each_marked kind.AliasNotAllowed (map (λ (n : NumberAt). n.token) numbers) (repeated_numbers numbers) refl)

of_value_numbers : (scene : Scene) (within : Tree) (ranges : List RangeAt) (numbers : List NumberAt) → AreOfChecks (value_number_flaws scene within ranges numbers)
of_value_numbers scene within ranges numbers =
    both (of_limits is_value_number numbers)
    (both (of_first_value scene numbers)
    (both (of_alias scene within numbers)
    (both (of_reserved ranges numbers)
    (of_ranges least_value most_value ranges))))

of_value : (scene : Scene) (v : Value) → AreOfChecks (value_option_flaws scene v)
of_value scene v = of_options scene element.EnumValue (settings_of v.settings)

of_enum : (scene : Scene) (name : ℕ) (within : Tree) → AreOfChecks (enum_flaws scene name within)
of_enum scene name within =
    both (one_if (is_empty (values_in within)) kind.EmptyEnum name refl)
    (both (of_value_numbers scene within (map (enum_range_of scene) (flat_map enum_ranges (statements within))) (map (number_of_value scene) (values_in within)))
    (both (of_names scene (reserved_names_in within) (map (λ (v : Value). v.name) (values_in within)))
    (both (each (value_option_flaws scene) (values_in within) (of_value scene))
    (of_options scene element.Enum (options_in within)))))

-- ---- `extend` blocks

of_required_extension : (scene : Scene) (label : Option ℕ) → AreOfChecks (required_extensions scene label)
of_required_extension scene None = none
of_required_extension scene (Some t) = one_if (bytes_eq (text scene t) (codes "required")) kind.RequiredExtension t refl

of_extend : (scene : Scene) (keyword : ℕ) (r : Reference) (within : Tree) → AreOfChecks (extend_flaws scene keyword r within)
of_extend scene keyword r within =
    both (one_if (bars_extend scene.profile scene.is_proto3 (meant_by scene r)) kind.NotInProto3 keyword refl)
    (both (of_limits is_field_number (map (number_of_field scene) (fields_in within)))
    (each (flaws_of_extension scene) (fields_in within) (λ f. both (of_required_extension scene f.label) (of_field scene element.Extension f))))

-- ---- blocks, and the file

of_block : (scene : Scene) (h : Header) (within : Tree) → AreOfChecks (block_flaws scene h within)
of_block scene (header.Message h) within = of_message scene within
of_block scene (header.Oneof h) within = one_if (is_empty (fields_in within)) kind.EmptyOneof h.name refl
of_block scene (header.Enum h) within = of_enum scene h.name within
of_block scene (header.Service h) within = of_options scene element.Service (options_in within)
of_block scene (header.Method s) within = of_options scene element.Method (options_in within)
of_block scene (header.Extend e) within = of_extend scene e.keyword e.extendee within

of_file : (scene : Scene) (tree : Tree) → AreOfChecks (file_flaws scene tree)
of_file scene tree =
    both (of_options scene element.File (options_in tree))
    (each (λ (b : BlockOf). block_flaws scene b.header b.within) (blocks_in tree) (λ b. of_block scene b.header b.within))

pub flaws_are_of_checks : (scene : Scene) (tree : Tree) (f : Flaw) → Contains (file_flaws scene tree) f → phase_of f.kind ≡ 6
flaws_are_of_checks scene tree f there = All-contains IsOfChecks (file_flaws scene tree) f (of_file scene tree).all there
