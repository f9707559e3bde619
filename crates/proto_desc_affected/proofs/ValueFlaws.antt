-- What is wrong with a proto3 file is the same without the names of values.
use Rattle.std.proofs.Common.{◌≡◌, ℕ, Bool, true, not, ◌&&◌, ◌||◌, if◌then◌else◌, List, [], ◌++◌, map, flat_map, find, Option, Some, None, option_map, is_some, codes, refl, sym, ap, ap₂, ◌∙◌}
use Rattle.proto_base.specs.declared.fault.FaultKind.TheVariants as kind
use Rattle.proto_base.specs.declared.profile.Profile.{Profile}
use Rattle.proto_base.specs.declared.profile.Profile.TheVariants as profile
use Rattle.proto_tree.specs.declared.piece.Header.{Header}
use Rattle.proto_tree.specs.declared.piece.Header.TheVariants as header
use Rattle.proto_tree.specs.declared.tree.FieldType.{FieldType}
use Rattle.proto_tree.specs.declared.tree.FieldType.TheVariants as field_type
use Rattle.proto_tree.specs.declared.tree.Reference.{Reference}
use Rattle.proto_tree.specs.Tree.{Tree}
use Rattle.proto_ast.proofs.Common.{is_named, FieldOf, OptionOf, BlockOf, statements, fields_in, closed_ranges, reserved_names_in, options_in, blocks_in, EnumOf, MeantOf, Scene, meant_by, text, has_label}
use Rattle.proto_ast.specs.declared.options.Element.{Element}
use Rattle.proto_ast.specs.declared.options.Element.TheVariants as element
use Rattle.proto_desc_numbers.specs.declared.flaw.Flaw.{Flaw}
use Rattle.proto_desc_numbers.proofs.Common.{flaw_if, number_of_field, range_of, is_field_number, outside, field_number_flaws}
use Rattle.proto_desc_checks.specs.FieldFlaws.{asks_js_type, asks_lazy, default_flaws, enum_of_type, field_flaws, flaws_of_extension, is_message_type, is_of_proto2, is_packable_type, is_past_zero, lacks_label, map_key_flaws, may_have_js_type, misfit_flaws, option_flaws, proto3_defaults, required_extensions, required_flaws, type_flaws, type_token, wrong_default}
use Rattle.proto_desc_checks.specs.FileFlaws.{bars_extend, block_flaws, extend_flaws, extension_flaws, file_flaws, json_clashes, message_flaws, name_flaws}
use Rattle.proto_desc_checks.proofs.KnownNames.{flat_map_same}
use Rattle.proto_desc_affected.specs.Values.{ValueNamesMatterToNoProto3Flaws, enum_without_names, meant_without_names, without_value_names}
use Rattle.proto_desc_affected.proofs.ValueNames.{enum_nameless, meant_nameless, some_nameless}

past_zero_nameless : (o : Option EnumOf) → is_past_zero (option_map enum_without_names o) ≡ is_past_zero o
past_zero_nameless None = refl
past_zero_nameless (Some e) = refl

proto2_nameless : (o : Option EnumOf) → is_of_proto2 (option_map enum_without_names o) ≡ is_of_proto2 o
proto2_nameless None = refl
proto2_nameless (Some e) = refl

module _ (scene : Scene) (proto3 : scene.is_proto3 ≡ true) where
  abbrev bare : Scene
  bare = without_value_names scene

  -- ---- fields

  -- what is asked of the enum of a type, but for the names of its values
  asked_same : (f : Option EnumOf → Bool) → ((o : Option EnumOf) → f (option_map enum_without_names o) ≡ f o) → (t : FieldType) → f (enum_of_type bare t) ≡ f (enum_of_type scene t)
  asked_same f same (field_type.Scalar t) = refl
  asked_same f same (field_type.Reference r) = ap f (enum_nameless scene r) ∙ same (enum_of_type scene (field_type.Reference r))

  type_same : (f : FieldOf) → type_flaws bare f ≡ type_flaws scene f
  type_same f = λ i.
      flaw_if (lacks_label scene f) kind.Label (type_token f.kind)
      ++ (required_flaws scene f.label
      ++ (map_key_flaws scene f.map_key
      ++ (flaw_if (is_some f.map_key && asked_same is_past_zero past_zero_nameless f.kind i) kind.FirstNotZero (type_token f.kind)
      ++ flaw_if (scene.is_proto3 && asked_same is_of_proto2 proto2_nameless f.kind i) kind.ClosedEnum (type_token f.kind))))

  packable_same : (t : FieldType) → is_packable_type bare t ≡ is_packable_type scene t
  packable_same (field_type.Scalar t) = refl
  packable_same (field_type.Reference r) = some_nameless scene r

  message_type_same : (t : FieldType) → is_message_type bare t ≡ is_message_type scene t
  message_type_same (field_type.Scalar t) = refl
  message_type_same (field_type.Reference r) = ap not (some_nameless scene r)

  misfits_same : (f : FieldOf) → misfit_flaws bare f ≡ misfit_flaws scene f
  misfits_same f = λ i. flat_map (λ o. flaw_if
      (((is_named (text scene) (codes "packed") o && not (has_label scene (codes "repeated") f && packable_same f.kind i))
      || (asks_js_type (text scene) o && not (may_have_js_type scene f)))
      || (asks_lazy (text scene) o && not (is_some f.map_key || message_type_same f.kind i))) kind.BadOption o.name) f.options

  -- only here the names of values are asked for, and not of a proto3 file
  default_same : (f : FieldOf) → default_flaws bare f ≡ default_flaws scene f
  default_same f = none (λ b. if b then [] else wrong_default bare f asked) ∙ sym (none (λ b. if b then [] else wrong_default scene f asked))
    where
      asked : Option OptionOf
      asked = find (is_named (text scene) (codes "default")) f.options

      none : (g : Bool → List Flaw) → g scene.is_proto3 ≡ g true
      none g = ap g proto3

  pub field_same : (on : Element) (f : FieldOf) → field_flaws bare on f ≡ field_flaws scene on f
  field_same on f = λ i. type_same f i ++ (option_flaws scene on f.options ++ (misfits_same f i ++ (default_same f i ++ proto3_defaults scene f)))

  -- ---- blocks

  message_same : (within : Tree) → message_flaws bare within ≡ message_flaws scene within
  message_same within = ap (λ (fields : List Flaw). fields ++ rest) (flat_map_same (field_flaws bare element.Field) (field_flaws scene element.Field) (field_same element.Field) (fields_in within))
    where
      rest : List Flaw
      rest =
          field_number_flaws (map (range_of scene) (flat_map closed_ranges (statements within))) (map (number_of_field scene) (fields_in within))
          ++ (name_flaws scene (reserved_names_in within) (map (λ f. f.name) (fields_in within))
          ++ (json_clashes scene (fields_in within)
          ++ (extension_flaws scene within
          ++ option_flaws scene element.Message (options_in within))))

  extension_same : (f : FieldOf) → flaws_of_extension bare f ≡ flaws_of_extension scene f
  extension_same f = ap (λ (l : List Flaw). required_extensions scene f.label ++ l) (field_same element.Extension f)

  bars_same : (r : Reference) → bars_extend scene.profile scene.is_proto3 (meant_by bare r) ≡ bars_extend scene.profile scene.is_proto3 (meant_by scene r)
  bars_same r = ap (bars_extend scene.profile scene.is_proto3) (meant_nameless scene r) ∙ through scene.profile (meant_by scene r)
    where
      through : (p : Profile) (o : Option MeantOf) → bars_extend p scene.is_proto3 (option_map meant_without_names o) ≡ bars_extend p scene.is_proto3 o
      through profile.Core o = refl
      through profile.AsWritten None = refl
      through profile.AsWritten (Some m) = refl

  extend_same : (keyword : ℕ) (r : Reference) (within : Tree) → extend_flaws bare keyword r within ≡ extend_flaws scene keyword r within
  extend_same keyword r within =
      ap₂ (λ (v : Bool) (l : List Flaw). flaw_if v kind.NotInProto3 keyword ++ (outside is_field_number (map (number_of_field scene) (fields_in within)) ++ l)) (bars_same r)
      (flat_map_same (flaws_of_extension bare) (flaws_of_extension scene) extension_same (fields_in within))

  block_same : (h : Header) (within : Tree) → block_flaws bare h within ≡ block_flaws scene h within
  block_same (header.Message h) within = message_same within
  block_same (header.Extend e) within = extend_same e.keyword e.extendee within
  block_same whole within = refl

  pub file_same : (tree : Tree) → file_flaws bare tree ≡ file_flaws scene tree
  file_same tree =
      ap (λ (l : List Flaw). option_flaws scene element.File (options_in tree) ++ l)
      (flat_map_same (λ (b : BlockOf). block_flaws bare b.header b.within) (λ (b : BlockOf). block_flaws scene b.header b.within) (λ b. block_same b.header b.within) (blocks_in tree))

pub value_names_matter_to_no_proto3_flaws : ValueNamesMatterToNoProto3Flaws
value_names_matter_to_no_proto3_flaws a b same proto3 tree =
    sym (file_same a proto3 tree)
    ∙ ap (λ (s : Scene). file_flaws s tree) same
    ∙ file_same b (sym (ap (λ (s : Scene). s.is_proto3) same) ∙ proto3) tree
