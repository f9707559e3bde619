-- What is wrong with a file as written is wrong with it in the core language, too (for the crates above).
use Rattle.std.proofs.Common.{◌≡◌, ℕ, Bool, true, false, not, ◌&&◌, List, [], ◌∷◌, ◌++◌, map, flat_map, Option, Some, None, refl, sym, inl, inr, arith, true≢false, Contains}
use Rattle.proto_base.proofs.Common.{Contains-append_cases, Contains-append_left, Contains-append_right}
use Rattle.std.specs.Option.{option_or}
use Rattle.proto_base.specs.declared.fault.FaultKind.{FaultKind}
use Rattle.proto_base.specs.declared.fault.FaultKind.TheVariants as kind
use Rattle.proto_base.specs.declared.profile.Profile.TheVariants as language
use Rattle.proto_tree.specs.declared.piece.Header.{Header}
use Rattle.proto_tree.specs.declared.piece.Header.TheVariants as header
use Rattle.proto_tree.specs.declared.tree.Constant.{Constant}
use Rattle.proto_tree.specs.declared.tree.Value.{Value}
use Rattle.proto_tree.specs.declared.tree.Reference.{Reference}
use Rattle.proto_tree.specs.Tree.{Tree}
use Rattle.proto_ast.proofs.Common.{fits_kind, is_allowed, FieldOf, OptionOf, BlockOf, blocks_in, closed_ranges, enum_ranges, fields_in, options_in, reserved_names_in, settings_of, statements, values_in, Scene, meant_by, text}
use Rattle.proto_ast.specs.Options.{value_kind_of, written_kind_of}
use Rattle.proto_ast.specs.declared.options.Element.{Element}
use Rattle.proto_ast.specs.declared.options.Element.TheVariants as element
use Rattle.proto_ast.specs.declared.options.ValueKind.{ValueKind}
use Rattle.proto_desc_numbers.specs.declared.flaw.Flaw.{Flaw}
use Rattle.proto_desc_numbers.proofs.Common.{flaw_if, enum_range_of, field_number_flaws, is_field_number, number_of_field, number_of_value, outside, range_of}
use Rattle.proto_desc_checks.specs.Common.{block_flaws, default_flaws, enum_flaws, extend_flaws, extension_flaws, field_flaws, file_flaws, flaws_of_extension, is_empty, is_of_options, json_clashes, message_flaws, name_flaws, option_flaws, misfit_flaws, proto3_defaults, repeated_options, required_extensions, type_flaws, value_number_flaws, value_option_flaws}
use Rattle.proto_desc_checks.specs.Written.{FlawsAsWrittenAreOfCore, in_language}

-- each of these is one of those (a record, so that the lists are found from it)
pub record Within (xs ys : List Flaw) : Type 0 where
  pub within : (f : Flaw) → Contains xs f → Contains ys f

pub same : {xs : List Flaw} → Within xs xs
same = record { within = λ f c. c }

pub join : {xs ys vs ws : List Flaw} → Within xs ys → Within vs ws → Within (xs ++ vs) (ys ++ ws)
join {xs} {ys} {vs} {ws} h k = record {
  within = λ f c. elim (Contains-append_cases xs vs f c) [
    | inl d ↦ Contains-append_left ys ws f (h.within f d)
    | inr d ↦ Contains-append_right ys ws f (k.within f d)
  ];
}

each : {A : Type 0} (f g : A → List Flaw) → ((x : A) → Within (f x) (g x)) → (xs : List A) → Within (flat_map f xs) (flat_map g xs)
each f g h [] = same
each f g h (x ∷ xs) = join (h x) (each f g h xs)

pub one_if : (b c : Bool) (k : FaultKind) (t : ℕ) → (b ≡ true → c ≡ true) → Within (flaw_if b k t) (flaw_if c k t)
one_if false c k t h = record { within = λ f d. absurd (omega (arith, d.1)) }
one_if true true k t h = same
one_if true false k t h = absurd (true≢false (sym (h refl)))

first_true : (a b : Bool) → a && b ≡ true → a ≡ true
first_true true b e = refl
first_true false b e = e

-- what is at fault of a kind or another is at fault of the first
wrong_less : (text : ℕ → List ℕ) (kind other : Option ValueKind) (c : Constant) → not (fits_kind text (option_or kind other) c) ≡ true → not (fits_kind text kind c) ≡ true
wrong_less text None other c h = refl
wrong_less text (Some kind) other c h = h

module _ (scene : Scene) where
  abbrev now : Scene
  now = in_language language.AsWritten scene

  abbrev was : Scene
  was = in_language language.Core scene

  options_less : (on : Element) (os : List OptionOf) → Within (option_flaws now on os) (option_flaws was on os)
  options_less on os =
      join (each (λ (o : OptionOf). flaw_if (not (is_allowed now.profile (text now) on o)) kind.BadOption o.name) (λ (o : OptionOf). flaw_if (not (is_allowed was.profile (text was) on o)) kind.BadOption o.name)
      (λ o. one_if (not (is_allowed now.profile (text now) on o)) (not (is_allowed was.profile (text was) on o)) kind.BadOption o.name (wrong_less (text scene) (value_kind_of on (text scene o.name)) (written_kind_of on (text scene o.name)) o.value)) os)
      (same {xs = repeated_options scene os})

  field_less : (on : Element) (f : FieldOf) → Within (field_flaws now on f) (field_flaws was on f)
  field_less on f =
      join (same {xs = type_flaws scene f})
      (join (options_less on f.options)
      (same {xs = misfit_flaws scene f ++ (default_flaws scene f ++ proto3_defaults scene f)}))

  message_less : (within : Tree) → Within (message_flaws now within) (message_flaws was within)
  message_less within =
      join (each (field_flaws now element.Field) (field_flaws was element.Field) (field_less element.Field) (fields_in within))
      (join (same {xs = field_number_flaws (map (range_of scene) (flat_map closed_ranges (statements within))) (map (number_of_field scene) (fields_in within))})
      (join (same {xs = name_flaws scene (reserved_names_in within) (map (λ (f : FieldOf). f.name) (fields_in within))})
      (join (same {xs = json_clashes scene (fields_in within)})
      (join (same {xs = extension_flaws scene within})
      (options_less element.Message (options_in within))))))

  enum_less : (name : ℕ) (within : Tree) → Within (enum_flaws now name within) (enum_flaws was name within)
  enum_less name within =
      join (same {xs = flaw_if (is_empty (values_in within)) kind.EmptyEnum name})
      (join (same {xs = value_number_flaws scene within (map (enum_range_of scene) (flat_map enum_ranges (statements within))) (map (number_of_value scene) (values_in within))})
      (join (same {xs = name_flaws scene (reserved_names_in within) (map (λ (v : Value). v.name) (values_in within))})
      (join (each (value_option_flaws now) (value_option_flaws was) (λ v. options_less element.EnumValue (settings_of v.settings)) (values_in within))
      (options_less element.Enum (options_in within)))))

  extension_less : (f : FieldOf) → Within (flaws_of_extension now f) (flaws_of_extension was f)
  extension_less f = join (same {xs = required_extensions scene f.label}) (field_less element.Extension f)

  extend_less : (keyword : ℕ) (r : Reference) (within : Tree) → Within (extend_flaws now keyword r within) (extend_flaws was keyword r within)
  extend_less keyword r within =
      join (one_if (scene.is_proto3 && not (is_of_options (meant_by scene r))) scene.is_proto3 kind.NotInProto3 keyword (first_true scene.is_proto3 (not (is_of_options (meant_by scene r)))))
      (join (same {xs = outside is_field_number (map (number_of_field scene) (fields_in within))})
      (each (flaws_of_extension now) (flaws_of_extension was) extension_less (fields_in within)))

  block_less : (h : Header) (within : Tree) → Within (block_flaws now h within) (block_flaws was h within)
  block_less (header.Message h) within = message_less within
  block_less (header.Oneof h) within = same {xs = flaw_if (is_empty (fields_in within)) kind.EmptyOneof h.name}
  block_less (header.Enum h) within = enum_less h.name within
  block_less (header.Service h) within = options_less element.Service (options_in within)
  block_less (header.Method s) within = options_less element.Method (options_in within)
  block_less (header.Extend e) within = extend_less e.keyword e.extendee within

  pub file_less : (tree : Tree) → Within (file_flaws now tree) (file_flaws was tree)
  file_less tree =
      join (options_less element.File (options_in tree))
      (each (λ (b : BlockOf). block_flaws now b.header b.within) (λ (b : BlockOf). block_flaws was b.header b.within) (λ b. block_less b.header b.within) (blocks_in tree))

pub flaws_as_written_are_of_core : FlawsAsWrittenAreOfCore
flaws_as_written_are_of_core scene tree = (file_less scene tree).within
