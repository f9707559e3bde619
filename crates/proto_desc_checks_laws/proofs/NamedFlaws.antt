-- The flaws of a file that names decide, block by block (for the crates above).
use Rattle.std.proofs.Common.{◌≡◌, ℕ, Bool, true, false, not, ◌&&◌, if◌then◌else◌, List, [], ◌∷◌, ◌++◌, map, flat_map, find, Option, Some, None, codes, refl, sym, ◌∙◌, ap, ap₂, Contains, bytes_eq, append-nil, pos}
use Rattle.proto_base.proofs.Common.{filter-append, contains_head, contains_later}
use Rattle.proto_base.specs.declared.fault.FaultKind.{FaultKind}
use Rattle.proto_base.specs.declared.fault.FaultKind.TheVariants as kind
use Rattle.proto_tree.specs.declared.piece.Header.{Header}
use Rattle.proto_tree.specs.declared.piece.Header.TheVariants as header
use Rattle.proto_tree.specs.declared.tree.Reference.{Reference}
use Rattle.proto_tree.specs.Tree.{Tree}
use Rattle.proto_ast.proofs.Common.{is_allowed, is_named, BlockOf, FieldOf, OptionOf, blocks_in, closed_ranges, enum_ranges, extension_words, fields_in, options_in, reserved_names_in, settings_of, statements, values_in, Scene, meant_by, text, value, json_name_of}
use Rattle.proto_ast.specs.declared.options.Element.{Element}
use Rattle.proto_ast.specs.declared.options.Element.TheVariants as element
use Rattle.proto_desc_numbers.specs.declared.flaw.Flaw.{Flaw}
use Rattle.proto_desc_numbers.specs.declared.numbers.NumberAt.{NumberAt}
use Rattle.proto_ast.specs.declared.ranges.RangeAt.{RangeAt}
use Rattle.proto_desc_numbers.proofs.Common.{after_earlier, flaw, flaw_if, marked, broken_ranges, enum_range_of, field_number_flaws, is_field_number, is_value_number, least_value, most_field, most_value, number_of_field, number_of_value, outside, overlaps, range_of, repeated_numbers, reserved_numbers, share}
use Rattle.proto_desc_checks.proofs.Common.{default_flaws, extend_flaws, field_flaws, flaws_of_extension, has_closed_enum, lacks_label, map_key_flaws, may_default, option_flaws, required_extensions, required_flaws, starts_wrong, type_flaws, type_token, wrong_default, alias_flaws, allows_alias, bars_extend, block_flaws, enum_flaws, file_flaws, first_value_flaws, json_clashes, message_flaws, name_flaws, value_number_flaws, value_option_flaws, is_misfit}
use Rattle.proto_desc_checks_laws.specs.Renamed.{but_names, is_of_names}
use Rattle.proto_desc_checks_laws.specs.NamedFlaws.{FlawsOfNames, NoFlawComesIn, flaws_of_block, of_names}

abbrev named : Flaw → Bool
named f = is_of_names f.kind

-- of the first list these are the flaws of names (a record, so that the lists are found from it)
record Leaves (xs ys : List Flaw) : Type 0 where
  same : of_names xs ≡ ys

join : {xs ys vs ws : List Flaw} → Leaves xs ys → Leaves vs ws → Leaves (xs ++ vs) (ys ++ ws)
join {xs} {ys} {vs} {ws} h k = record { same = filter-append named xs vs ∙ ap₂ (λ (l m : List Flaw). l ++ m) h.same k.same }

-- none in front of some, or behind them
none_before : {xs vs ws : List Flaw} → Leaves xs [] → Leaves vs ws → Leaves (xs ++ vs) ws
none_before h k = join h k

none_behind : {xs ys vs : List Flaw} → Leaves xs ys → Leaves vs [] → Leaves (xs ++ vs) ys
none_behind {xs} {ys} {vs} h k = let j = join h k in record { same = j.same ∙ append-nil ys }

nothing : Leaves [] []
nothing = record { same = refl }

if_none : (k : FaultKind) → is_of_names k ≡ false → (b : Bool) (t : ℕ) → Leaves (flaw_if b k t) []
if_none k e true t = record { same = ap (λ v. if v then flaw k t ∷ [] else []) e }
if_none k e false t = nothing

if_all : (k : FaultKind) → is_of_names k ≡ true → (b : Bool) (t : ℕ) → Leaves (flaw_if b k t) (flaw_if b k t)
if_all k e true t = record { same = ap (λ v. if v then flaw k t ∷ [] else []) e }
if_all k e false t = nothing

marked_none : (k : FaultKind) → is_of_names k ≡ false → (ts : List ℕ) (bs : List Bool) → Leaves (marked k ts bs) []
marked_none k e [] bs = nothing
marked_none k e (t ∷ ts) [] = nothing
marked_none k e (t ∷ ts) (b ∷ bs) = none_before (if_none k e b t) (marked_none k e ts bs)

marked_all : (k : FaultKind) → is_of_names k ≡ true → (ts : List ℕ) (bs : List Bool) → Leaves (marked k ts bs) (marked k ts bs)
marked_all k e [] bs = nothing
marked_all k e (t ∷ ts) [] = nothing
marked_all k e (t ∷ ts) (b ∷ bs) = join (if_all k e b t) (marked_all k e ts bs)

each_none : {A : Type 0} (f : A → List Flaw) → ((x : A) → Leaves (f x) []) → (xs : List A) → Leaves (flat_map f xs) []
each_none f h [] = nothing
each_none f h (x ∷ xs) = none_before (h x) (each_none f h xs)

each : {A : Type 0} (f g : A → List Flaw) → ((x : A) → Leaves (f x) (g x)) → (xs : List A) → Leaves (flat_map f xs) (flat_map g xs)
each f g h [] = nothing
each f g h (x ∷ xs) = join (h x) (each f g h xs)

either : (b : Bool) {xs ys vs ws : List Flaw} → Leaves xs vs → Leaves ys ws → Leaves (if b then xs else ys) (if b then vs else ws)
either true h k = h
either false h k = k

module _ (s : Scene) where
  options_none : (on : Element) (os : List OptionOf) → Leaves (option_flaws s on os) []
  options_none on os =
      none_before (each_none (λ (o : OptionOf). flaw_if (not (is_allowed s.profile (text s) on o)) kind.BadOption o.name) (λ o. if_none kind.BadOption refl _ o.name) os)
      (marked_none kind.BadOption refl (map (λ (o : OptionOf). o.name) os) (after_earlier bytes_eq (map (λ (o : OptionOf). text s o.name) os)))

  required_none : (o : Option ℕ) → Leaves (required_flaws s o) []
  required_none None = nothing
  required_none (Some t) = if_none kind.NotInProto3 refl _ t

  map_key_none : (o : Option ℕ) → Leaves (map_key_flaws s o) []
  map_key_none None = nothing
  map_key_none (Some t) = if_none kind.BadMap refl _ t

  types_none : (f : FieldOf) → Leaves (type_flaws s f) []
  types_none f =
      none_before (if_none kind.Label refl (lacks_label s f) (type_token f.kind))
      (none_before (required_none f.label)
      (none_before (map_key_none f.map_key)
      (none_before (if_none kind.FirstNotZero refl (starts_wrong s f) (type_token f.kind))
      (if_none kind.ClosedEnum refl (has_closed_enum s f) (type_token f.kind)))))

  default_all : (f : FieldOf) → Leaves (default_flaws s f) (default_flaws s f)
  default_all f = either s.is_proto3 nothing (by (find (is_named (text s) (codes "default")) f.options))
    where
      by : (o : Option OptionOf) → Leaves (wrong_default s f o) (wrong_default s f o)
      by None = nothing
      by (Some o) = if_all kind.BadDefault refl (not (may_default s f o)) o.name

  field_leaves : (on : Element) (f : FieldOf) → Leaves (field_flaws s on f) (default_flaws s f)
  field_leaves on f =
      none_before (types_none f)
      (none_before (options_none on f.options)
      (none_before (each_none (λ (o : OptionOf). flaw_if (is_misfit s f o) kind.BadOption o.name) (λ o. if_none kind.BadOption refl _ o.name) f.options)
      (none_behind (default_all f)
      (each_none (λ (o : OptionOf). flaw_if (s.is_proto3 && is_named (text s) (codes "default") o) kind.NotInProto3 o.name) (λ o. if_none kind.NotInProto3 refl _ o.name) f.options))))

  names_all : (reserved names : List ℕ) → Leaves (name_flaws s reserved names) (name_flaws s reserved names)
  names_all reserved names =
      join (each _ _ (λ t. if_all kind.ReservedName refl _ t) names) (marked_all kind.ReservedName refl reserved (after_earlier bytes_eq (map (value s) reserved)))

  clashes_all : (fs : List FieldOf) → Leaves (json_clashes s fs) (json_clashes s fs)
  clashes_all fs = either s.is_proto3 (marked_all kind.JsonClash refl (map (λ (f : FieldOf). f.name) fs) (after_earlier bytes_eq (map (json_name_of s) fs))) nothing

  outside_none : (limits : _) (ns : List NumberAt) → Leaves (outside limits ns) []
  outside_none limits ns = each_none (λ (n : NumberAt). flaw_if (not (limits n.number)) kind.NumberRange n.token) (λ n. if_none kind.NumberRange refl _ n.token) ns

  ranges_none : (least most : _) (rs : List RangeAt) (ns : List NumberAt) → Leaves (reserved_numbers rs ns ++ (broken_ranges least most rs ++ overlaps rs)) []
  ranges_none least most rs ns =
      none_before (each_none _ (λ (n : NumberAt). if_none kind.ReservedNumber refl _ n.token) ns)
      (none_before (each_none _ (λ (r : RangeAt). if_none kind.NumberRange refl _ r.token) rs)
      (marked_none kind.RangeOverlap refl (map (λ (r : RangeAt). r.token) rs) (after_earlier share rs)))

  field_numbers_none : (rs : List RangeAt) (ns : List NumberAt) → Leaves (field_number_flaws rs ns) []
  field_numbers_none rs ns =
      none_before (outside_none is_field_number ns) (none_before (marked_none kind.DuplicateNumber refl (map (λ (n : NumberAt). n.token) ns) (repeated_numbers ns)) (ranges_none (pos 1) most_field rs ns))

  message_leaves : (within : Tree) → Leaves (message_flaws s within) (flat_map (default_flaws s) (fields_in within) ++ (name_flaws s (reserved_names_in within) (map (λ f. f.name) (fields_in within)) ++ json_clashes s (fields_in within)))
  message_leaves within =
      join (each (field_flaws s element.Field) (default_flaws s) (field_leaves element.Field) (fields_in within))
      (none_before (field_numbers_none (map (range_of s) (flat_map closed_ranges (statements within))) (map (number_of_field s) (fields_in within)))
      (join (names_all (reserved_names_in within) (map (λ f. f.name) (fields_in within)))
      (none_behind (clashes_all (fields_in within))
      (none_before (each_none (λ t. flaw_if s.is_proto3 kind.NotInProto3 t) (λ t. if_none kind.NotInProto3 refl s.is_proto3 t) (flat_map extension_words (statements within)))
      (options_none element.Message (options_in within))))))

  first_none : (ns : List NumberAt) → Leaves (first_value_flaws s ns) []
  first_none [] = nothing
  first_none (n ∷ ns) = if_none kind.FirstNotZero refl _ n.token

  value_numbers_none : (within : Tree) (rs : List RangeAt) (ns : List NumberAt) → Leaves (value_number_flaws s within rs ns) []
  value_numbers_none within rs ns =
      none_before (outside_none is_value_number ns)
      (none_before (first_none ns)
      (none_before (alias within ns)
      (ranges_none least_value most_value rs ns)))
    where
      alias : (within : Tree) (ns : List NumberAt) → Leaves (alias_flaws s within ns) []
      alias within ns = by (allows_alias s (options_in within))
        where
          by : (b : Bool) → Leaves (if b then [] else marked kind.AliasNotAllowed (map (λ (n : NumberAt). n.token) ns) (repeated_numbers ns)) []
          by true = nothing
          by false = marked_none kind.AliasNotAllowed refl (map (λ (n : NumberAt). n.token) ns) (repeated_numbers ns)

  enum_leaves : (name : ℕ) (within : Tree) → Leaves (enum_flaws s name within) (name_flaws s (reserved_names_in within) (map (λ v. v.name) (values_in within)))
  enum_leaves name within =
      none_before (if_none kind.EmptyEnum refl _ name)
      (none_before (value_numbers_none within (map (enum_range_of s) (flat_map enum_ranges (statements within))) (map (number_of_value s) (values_in within)))
      (none_behind (names_all (reserved_names_in within) (map (λ v. v.name) (values_in within)))
      (none_before (each_none (value_option_flaws s) (λ v. options_none element.EnumValue (settings_of v.settings)) (values_in within))
      (options_none element.Enum (options_in within)))))

  required_extension_none : (o : Option ℕ) → Leaves (required_extensions s o) []
  required_extension_none None = nothing
  required_extension_none (Some t) = if_none kind.RequiredExtension refl _ t

  extend_leaves : (keyword : ℕ) (r : Reference) (within : Tree) → Leaves (extend_flaws s keyword r within) (flat_map (default_flaws s) (fields_in within))
  extend_leaves keyword r within =
      none_before (if_none kind.NotInProto3 refl (bars_extend s.profile s.is_proto3 (meant_by s r)) keyword)
      (none_before (outside_none is_field_number (map (number_of_field s) (fields_in within)))
      (each (flaws_of_extension s) (default_flaws s) (λ f. none_before (required_extension_none f.label) (field_leaves element.Extension f)) (fields_in within)))

  block_leaves : (h : Header) (within : Tree) → Leaves (block_flaws s h within) (flaws_of_block s h within)
  block_leaves (header.Message h) within = message_leaves within
  block_leaves (header.Enum h) within = enum_leaves h.name within
  block_leaves (header.Oneof h) within = if_none kind.EmptyOneof refl _ h.name
  block_leaves (header.Service h) within = options_none element.Service (options_in within)
  block_leaves (header.Method x) within = options_none element.Method (options_in within)
  block_leaves (header.Extend e) within = extend_leaves e.keyword e.extendee within

pub flaws_of_names : FlawsOfNames
flaws_of_names s tree =
    (none_before (options_none s element.File (options_in tree)) (each _ _ (λ (b : BlockOf). block_leaves s b.header b.within) (blocks_in tree))).same

-- ---- no flaw comes in

none_of_either : (fs : List Flaw) → but_names fs ≡ [] → of_names fs ≡ [] → fs ≡ []
none_of_either [] h k = refl
none_of_either (f ∷ fs) h k = by (is_of_names f.kind) refl h k
  where
    by : (b : Bool) → is_of_names f.kind ≡ b → (if not b then f ∷ but_names fs else but_names fs) ≡ [] → (if b then f ∷ of_names fs else of_names fs) ≡ [] → f ∷ fs ≡ []
    by true e h k = absurd cc
    by false e h k = absurd cc

all_empty : {A : Type 0} (f : A → List Flaw) (xs : List A) → ((x : A) → Contains xs x → f x ≡ []) → flat_map f xs ≡ []
all_empty f [] h = refl
all_empty f (x ∷ xs) h = ap₂ (λ (l m : List Flaw). l ++ m) (h x (contains_head x xs)) (all_empty f xs (λ y c. h y (contains_later x y xs c)))

pub no_flaw_comes_in : NoFlawComesIn
no_flaw_comes_in a b tree clean same none =
    none_of_either (file_flaws b tree) (sym same ∙ ap but_names clean) (flaws_of_names b tree ∙ all_empty (λ (x : BlockOf). flaws_of_block b x.header x.within) (blocks_in tree) none)
