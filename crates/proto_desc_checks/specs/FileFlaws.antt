-- What is wrong with a file, block by block: its messages, oneofs, enums, services, methods and
-- `extend` blocks, and its own options.
use Rattle.std.specs.Prelude.{ℕ, pos, Bool, true, false, not, ◌&&◌, if◌then◌else◌, List, [], ◌∷◌, ◌++◌, map, flat_map, codes, Option, Some, None}
use Rattle.std.specs.List.{list_any}
use Rattle.std.specs.Ordering.{int_eq}
use Rattle.std.specs.Str.{bytes_eq}
use Rattle.proto_base.specs.declared.fault.FaultKind.TheVariants as kind
use Rattle.proto_base.specs.declared.profile.Profile.{Profile}
use Rattle.proto_base.specs.declared.profile.Profile.TheVariants as profile
use Rattle.proto_tree.specs.declared.tree.Reference.{Reference}
use Rattle.proto_tree.specs.declared.tree.Value.{Value}
use Rattle.proto_tree.specs.declared.piece.Header.{Header}
use Rattle.proto_tree.specs.declared.piece.Header.TheVariants as header
use Rattle.proto_tree.specs.Tree.{Tree}
use Rattle.proto_custom_options.specs.CustomOptions.{is_options_message}
use Rattle.proto_ast.specs.JsonNames.{json_name_of}
use Rattle.proto_ast.specs.Options.{is_named, is_one_of, truth_of, is_true}
use Rattle.proto_ast.specs.Parts.{FieldOf, OptionOf, statements, fields_in, values_in, closed_ranges, enum_ranges, reserved_names_in, extension_words, options_in, settings_of, blocks_in}
use Rattle.proto_ast.specs.Scenes.{MeantOf, Scene, meant_by, text, value}
use Rattle.proto_ast.specs.declared.options.Element.TheVariants as element
use Rattle.proto_desc_numbers.specs.declared.flaw.Flaw.{Flaw}
use Rattle.proto_desc_numbers.specs.declared.numbers.NumberAt.{NumberAt}
use Rattle.proto_ast.specs.declared.ranges.RangeAt.{RangeAt}
use Rattle.proto_desc_numbers.specs.Flaws.{flaw_if, after_earlier, marked}
use Rattle.proto_desc_numbers.specs.NumberFlaws.{field_number_flaws, number_of_field, number_of_value, range_of, enum_range_of, least_value, most_value, is_field_number, is_value_number, outside, broken_ranges, reserved_numbers, overlaps, repeated_numbers}
use Rattle.proto_desc_checks.specs.FieldFlaws.{field_flaws, flaws_of_extension, option_flaws}

-- ---- names

-- 20 ReservedName at each name that is reserved (the tokens of the strings that reserve, and those
-- of the names of fields or values)
abbrev pub with_reserved_name : Scene → List ℕ → List ℕ → List Flaw
with_reserved_name scene reserved names =
    flat_map (λ t. flaw_if
    (is_one_of (map (value scene) reserved) (text scene t)) kind.ReservedName t) names

-- 20 ReservedName at each string that reserves a name again
abbrev pub reserved_again : Scene → List ℕ → List Flaw
reserved_again scene reserved =
    marked kind.ReservedName reserved (after_earlier bytes_eq (map (value scene) reserved))

-- what is wrong with the reserved names of a message or an enum
abbrev pub name_flaws : Scene → List ℕ → List ℕ → List Flaw
name_flaws scene reserved names =
    with_reserved_name scene reserved names ++ reserved_again scene reserved

-- 30 JsonClash at each field of a message of a proto3 file with the JSON name of an earlier field
abbrev pub json_clashes : Scene → List FieldOf → List Flaw
json_clashes scene fs =
    if scene.is_proto3
    then marked kind.JsonClash (map (λ f. f.name) fs)
    (after_earlier bytes_eq (map (json_name_of scene) fs))
    else []

-- ---- messages

-- 31 NotInProto3 at each word `extensions` of a message of a proto3 file
abbrev pub extension_flaws : Scene → Tree → List Flaw
extension_flaws scene within =
    flat_map (λ t. flaw_if scene.is_proto3 kind.NotInProto3 t)
    (flat_map extension_words (statements within))

-- what is wrong with a message: its fields, numbers and ranges, names, `extensions` and options
abbrev pub message_flaws : Scene → Tree → List Flaw
message_flaws scene within =
    flat_map (field_flaws scene element.Field) (fields_in within)
    ++ (field_number_flaws
    (map (range_of scene) (flat_map closed_ranges (statements within)))
    (map (number_of_field scene) (fields_in within))
    ++ (name_flaws scene (reserved_names_in within) (map (λ f. f.name) (fields_in within))
    ++ (json_clashes scene (fields_in within)
    ++ (extension_flaws scene within
    ++ option_flaws scene element.Message (options_in within)))))

-- ---- enums

-- some option of an enum is `allow_alias = true`: any counts, also beside another one
abbrev pub allows_alias : Scene → List OptionOf → Bool
allows_alias scene options = list_any (λ o.
    is_named (text scene) (codes "allow_alias") o
    && is_true (truth_of (text scene) o.value)) options

-- 32 AliasNotAllowed at each number that an earlier value of an enum has that allows no alias
abbrev pub alias_flaws : Scene → Tree → List NumberAt → List Flaw
alias_flaws scene within numbers =
    if allows_alias scene (options_in within) then []
    else marked kind.AliasNotAllowed (map (λ n. n.token) numbers) (repeated_numbers numbers)

-- 23 FirstNotZero at the number of the first value of an enum of a proto3 file, where it is not 0
abbrev pub first_value_flaws : Scene → List NumberAt → List Flaw
first_value_flaws scene [] = []
first_value_flaws scene (n ∷ ns) =
    flaw_if (scene.is_proto3 && not (int_eq n.number (pos 0))) kind.FirstNotZero n.token

-- a list has no element
abbrev pub is_empty : {A : Type 0} → List A → Bool
is_empty [] = true
is_empty (x ∷ xs) = false

-- what is wrong with the ranges of an enum and the numbers of its values
abbrev pub value_number_flaws : Scene → Tree → List RangeAt → List NumberAt → List Flaw
value_number_flaws scene within ranges numbers =
    outside is_value_number numbers
    ++ (first_value_flaws scene numbers
    ++ (alias_flaws scene within numbers
    ++ (reserved_numbers ranges numbers
    ++ (broken_ranges least_value most_value ranges
    ++ overlaps ranges))))

-- what is wrong with the options of a value of an enum
abbrev pub value_option_flaws : Scene → Value → List Flaw
value_option_flaws scene v = option_flaws scene element.EnumValue (settings_of v.settings)

-- what is wrong with an enum, the token of whose name is given: 22 EmptyEnum where it has no value,
-- and its numbers, names and options
abbrev pub enum_flaws : Scene → ℕ → Tree → List Flaw
enum_flaws scene name within =
    flaw_if (is_empty (values_in within)) kind.EmptyEnum name
    ++ (value_number_flaws scene within
    (map (enum_range_of scene) (flat_map enum_ranges (statements within)))
    (map (number_of_value scene) (values_in within))
    ++ (name_flaws scene (reserved_names_in within) (map (λ v. v.name) (values_in within))
    ++ (flat_map (value_option_flaws scene) (values_in within)
    ++ option_flaws scene element.Enum (options_in within))))

-- ---- `extend` blocks

-- a reference means one of the nine options messages
abbrev pub is_of_options : Option MeantOf → Bool
is_of_options None = false
is_of_options (Some m) = is_options_message m.name

-- whether a file, which is proto3 or not, may have no `extend` block of what means this: in the core
-- language a proto3 file may have none, as written only those of options messages
abbrev pub bars_extend : Profile → Bool → Option MeantOf → Bool
bars_extend profile.Core proto3 extended = proto3
bars_extend profile.AsWritten proto3 extended = proto3 && not (is_of_options extended)

-- what is wrong with an `extend` block, by its keyword and what it extends: 31 NotInProto3 at the
-- keyword in a file that may not have it, the numbers of its extensions that no field may have, and
-- each extension
abbrev pub extend_flaws : Scene → ℕ → Reference → Tree → List Flaw
extend_flaws scene keyword extendee within =
    flaw_if (bars_extend scene.profile scene.is_proto3 (meant_by scene extendee))
    kind.NotInProto3 keyword
    ++ (outside is_field_number (map (number_of_field scene) (fields_in within))
    ++ flat_map (flaws_of_extension scene) (fields_in within))

-- ---- blocks, and the file

-- what is wrong with a block, but for the blocks in it: of a oneof without a field 29 EmptyOneof
abbrev pub block_flaws : Scene → Header → Tree → List Flaw
block_flaws scene (header.Message h) within = message_flaws scene within
block_flaws scene (header.Oneof h) within =
    flaw_if (is_empty (fields_in within)) kind.EmptyOneof h.name
block_flaws scene (header.Enum h) within = enum_flaws scene h.name within
block_flaws scene (header.Service h) within = option_flaws scene element.Service (options_in within)
block_flaws scene (header.Method s) within = option_flaws scene element.Method (options_in within)
block_flaws scene (header.Extend e) within = extend_flaws scene e.keyword e.extendee within

-- what is wrong with all blocks of a tree
abbrev pub flaws_in_blocks : Scene → Tree → List Flaw
flaws_in_blocks scene tree = flat_map (λ b. block_flaws scene b.header b.within) (blocks_in tree)

-- what is wrong with a file: its own options and all of its blocks
abbrev pub file_flaws : Scene → Tree → List Flaw
file_flaws scene tree =
    option_flaws scene element.File (options_in tree) ++ flaws_in_blocks scene tree
