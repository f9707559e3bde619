-- What a change of names leaves of the flaws of a file.
use Rattle.std.specs.Prelude.{◌≡◌, ℕ, Bool, true, false, not, if◌then◌else◌, List, [], ◌∷◌, ◌++◌, flat_map, filter, Option, Some, None, option_to_list, codes}
use Rattle.std.specs.List.{All}
use Rattle.proto_base.specs.declared.fault.FaultKind.{FaultKind}
use Rattle.proto_base.specs.declared.fault.FaultKind.TheVariants as kind
use Rattle.proto_base.specs.declared.profile.Profile.TheVariants as profile
use Rattle.proto_tree.specs.declared.piece.Header.{Header}
use Rattle.proto_tree.specs.declared.piece.Header.TheVariants as header
use Rattle.proto_tree.specs.declared.tree.Constant.{Constant}
use Rattle.proto_tree.specs.declared.tree.Constant.TheVariants as constant
use Rattle.proto_tree.specs.declared.tree.FieldType.{FieldType}
use Rattle.proto_tree.specs.declared.tree.FieldType.TheVariants as field_type
use Rattle.proto_tree.specs.declared.tree.Range.{Range}
use Rattle.proto_tree.specs.declared.tree.RangeEnd.{RangeEnd}
use Rattle.proto_tree.specs.declared.tree.RangeEnd.TheVariants as range_end
use Rattle.proto_tree.specs.declared.tree.Reference.{Reference}
use Rattle.proto_tree.specs.declared.tree.Signed.{Signed}
use Rattle.proto_tree.specs.declared.tree.UpTo.{UpTo}
use Rattle.proto_tree.specs.declared.tree.Value.{Value}
use Rattle.proto_tree.specs.Tree.{Tree}
use Rattle.proto_ast.specs.Options.{is_named}
use Rattle.proto_ast.specs.Parts.{BlockOf, FieldOf, OptionOf, blocks_in, closed_ranges, enum_ranges, fields_in, options_in, settings_of, statements, values_in}
use Rattle.proto_ast.specs.Scenes.{EnumOf, Scene, enum_meant, meant_by, text}
use Rattle.proto_desc_numbers.specs.declared.flaw.Flaw.{Flaw}
use Rattle.proto_desc_checks.specs.FileFlaws.{file_flaws, is_of_options}

-- ---- two scenes of one tree

-- two enums, where there are any, are alike in what a field's sentences ask of them but for the
-- names of their values
abbrev pub SameButValues : Option EnumOf → Option EnumOf → Type 0
SameButValues None None = Unit {0}
SameButValues (Some d) (Some e) =
    (d.is_proto3 ≡ e.is_proto3) × (d.starts_past_zero ≡ e.starts_past_zero)
SameButValues None (Some e) = ⊥
SameButValues (Some d) None = ⊥

-- the scenes differ at most in the texts of these tokens, and in what means are called
pub record DifferInNames (named : ℕ → Bool) (a b : Scene) : Type 0 where
  pub profile : a.profile ≡ b.profile
  pub version : a.is_proto3 ≡ b.is_proto3
  pub caps : a.cap ≡ b.cap
  pub texts : (t : ℕ) → named t ≡ false → text a t ≡ text b t
  pub enums : (r : Reference) → SameButValues (enum_meant a r) (enum_meant b r)

-- in a file as written, each reference means an options message in both scenes or in neither
abbrev pub OptionsMessagesStay : Scene → Scene → Type 0
OptionsMessagesStay a b = a.profile ≡ profile.AsWritten
    → (r : Reference) → is_of_options (meant_by a r) ≡ is_of_options (meant_by b r)

-- ---- the tokens that sentences read besides names

-- of a value of an option: its word
abbrev pub constant_tokens : Constant → List ℕ
constant_tokens (constant.Word w) = w ∷ []
constant_tokens (constant.Number n) = []
constant_tokens (constant.Text j) = []

-- of an option: its name, and the word that is its value, but for a default
abbrev pub option_tokens : Scene → OptionOf → List ℕ
option_tokens scene o =
    o.name ∷ (if is_named (text scene) (codes "default") o then [] else constant_tokens o.value)

-- of a type: a scalar type's word
abbrev pub scalar_tokens : FieldType → List ℕ
scalar_tokens (field_type.Scalar t) = t ∷ []
scalar_tokens (field_type.Reference r) = []

-- of a field: its label, its map's key, its scalar type, its number, and what is of its options
abbrev pub field_tokens : Scene → FieldOf → List ℕ
field_tokens scene f =
    option_to_list f.label
    ++ (option_to_list f.map_key
    ++ (scalar_tokens f.kind
    ++ f.number ∷ flat_map (option_tokens scene) f.options))

-- of a range's end: its number, which is of a token
abbrev pub end_tokens : {N : Type 0} → (N → ℕ) → RangeEnd N → List ℕ
end_tokens token (range_end.Number n) = token n ∷ []
end_tokens token (range_end.Max i) = []

-- the same of the end of a range that may be one number
abbrev pub up_to_tokens : {N : Type 0} → (N → ℕ) → Option (UpTo N) → List ℕ
up_to_tokens token None = []
up_to_tokens token (Some u) = end_tokens token u.end

-- of a range: the numbers that are its bounds
abbrev pub range_tokens : {N : Type 0} → (N → ℕ) → Range N → List ℕ
range_tokens token r = token r.first ∷ up_to_tokens token r.up_to

-- of a value of an enum: its number, and what is of its options
abbrev pub value_tokens : Scene → Value → List ℕ
value_tokens scene v = v.number.number ∷ flat_map (option_tokens scene) (settings_of v.settings)

-- of a message: what is of its fields and of its ranges
abbrev pub message_tokens : Scene → Tree → List ℕ
message_tokens scene within =
    flat_map (field_tokens scene) (fields_in within)
    ++ flat_map (range_tokens (λ t. t)) (flat_map closed_ranges (statements within))

-- of an enum: what is of its values and of its ranges
abbrev pub enum_tokens : Scene → Tree → List ℕ
enum_tokens scene within =
    flat_map (value_tokens scene) (values_in within)
    ++ flat_map (range_tokens (λ (s : Signed). s.number)) (flat_map enum_ranges (statements within))

-- of a block but for its options: of an `extend` block what is of its extensions
abbrev pub header_tokens : Scene → Header → Tree → List ℕ
header_tokens scene (header.Message h) within = message_tokens scene within
header_tokens scene (header.Enum h) within = enum_tokens scene within
header_tokens scene (header.Oneof h) within = []
header_tokens scene (header.Service h) within = []
header_tokens scene (header.Method s) within = []
header_tokens scene (header.Extend e) within = flat_map (field_tokens scene) (fields_in within)

-- of a block with its options
abbrev pub block_tokens : Scene → BlockOf → List ℕ
block_tokens scene b =
    header_tokens scene b.header b.within ++ flat_map (option_tokens scene) (options_in b.within)

-- of a file: labels, scalar types, numbers, and options with their words
abbrev pub asked_tokens : Scene → Tree → List ℕ
asked_tokens scene tree =
    flat_map (option_tokens scene) (options_in tree)
    ++ flat_map (block_tokens scene) (blocks_in tree)

-- ---- the law

-- the kinds that names decide: a reserved name, a default that is no value, and a JSON name given
-- twice
abbrev pub is_of_names : FaultKind → Bool
is_of_names kind.ReservedName = true
is_of_names kind.BadDefault = true
is_of_names kind.JsonClash = true
is_of_names _ = false

-- the flaws but for those that names decide
abbrev pub but_names : List Flaw → List Flaw
but_names flaws = filter (λ (f : Flaw). not (is_of_names f.kind)) flaws

-- Where no token is renamed that sentences read besides names, and options messages stay, the flaws
-- are the same but for those that names decide.
abbrev pub NamesDecideThreeKinds : Type 0
NamesDecideThreeKinds = (named : ℕ → Bool) (a b : Scene) (tree : Tree) → DifferInNames named a b
    → OptionsMessagesStay a b → All (λ t. named t ≡ false) (asked_tokens a tree)
    → but_names (file_flaws a tree) ≡ but_names (file_flaws b tree)
