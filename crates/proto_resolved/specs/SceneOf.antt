-- What is read of each file of a workspace: its tokens, its language and version, and what each of
-- its references means.
use Rattle.std.specs.Prelude.{ℕ, Bool, false, not, ◌==◌, List, [], ◌∷◌, map, find, slice_get, Option, Some, None, option_map}
use Rattle.std.specs.Option.{option_and_then}
use Rattle.proto_text.specs.Tokens.{Lexeme, lexeme_at}
use Rattle.proto_text.specs.Texts.{word_at}
use Rattle.proto_tree.specs.References.{first_of}
use Rattle.proto_tree.specs.declared.tree.Reference.{Reference}
use Rattle.proto_tree.specs.declared.tree.Value.{Value}
use Rattle.proto_tree.specs.declared.piece.Header.{Header}
use Rattle.proto_tree.specs.declared.piece.Header.TheVariants as header
use Rattle.proto_tree.specs.Tree.{Tree}
use Rattle.proto_files.specs.GivenFiles.{FileOf, file_at}
use Rattle.proto_base.specs.Texts.{Text}
use Rattle.proto_case.specs.Camel.{entry_name}
use Rattle.proto_names_rules.specs.Faults.{place_of}
use Rattle.proto_names.specs.Links.{uses_of}
use Rattle.proto_names_rules.specs.Grown.{At}
use Rattle.proto_names_rules.specs.Joined.{joined}
use Rattle.proto_files.specs.FilesRead.{ReadOf, read_at}
use Rattle.proto_names.specs.Links.{text_of, link_skeleton, names_of_files}
use Rattle.proto_names_rules.specs.Names.{same_name, meaning}
use Rattle.proto_names.specs.Links.{used_named}
use Rattle.proto_names_rules.specs.Skeleton.{Declared, Used, name_of}
use Rattle.proto_ast.specs.Numbers.{number_value}
use Rattle.proto_ast.specs.Parts.{blocks_in, values_in}
use Rattle.proto_ast.specs.Scenes.{EnumOf, MeantOf, Scene, is_proto3, string_of}

-- the tokens of a file with their texts; files are numbered from 0 in their order
abbrev pub lexemes_of : List FileOf → List ReadOf → ℕ → List Lexeme
lexemes_of files reads file = map (lexeme_at (file_at files file).bytes) (read_at reads file).tokens

-- the file says `syntax = "proto3"`
abbrev pub is_proto3_file : List FileOf → List ReadOf → ℕ → Bool
is_proto3_file files reads file =
    is_proto3 (λ token. string_of (slice_get (lexemes_of files reads file) token))
    (read_at reads file).tree

-- ---- enums

-- there is a first value, and its number is not 0
abbrev pub starts_past_zero : (ℕ → Text) → List Value → Bool
starts_past_zero text [] = false
starts_past_zero text (v ∷ vs) = not (number_value (text v.number.number) == 0)

-- the enum whose values stand in the tree, in a file that is proto3 or not: whether it is proto3,
-- whether its first value is other than 0, and the names of its values in order
abbrev pub enum_within : List Lexeme → Bool → Tree → EnumOf
enum_within lexemes proto3 within = record {
  is_proto3 = proto3;
  starts_past_zero = starts_past_zero (word_at lexemes) (values_in within);
  values = map (λ v. word_at lexemes v.name) (values_in within);
}

-- the header is that of an enum whose name is at this token
abbrev pub is_enum_at : ℕ → Header → Bool
is_enum_at token (header.Enum h) = h.name == token
is_enum_at token (header.Message h) = false
is_enum_at token (header.Oneof h) = false
is_enum_at token (header.Service h) = false
is_enum_at token (header.Method s) = false
is_enum_at token (header.Extend e) = false

-- the enum whose name is at this token of a file, if it is an enum's
abbrev pub enum_at : List FileOf → List ReadOf → At → Option EnumOf
enum_at files reads a =
    option_map
    (λ b. enum_within (lexemes_of files reads a.file) (is_proto3_file files reads a.file) b.within)
    (find (λ b. is_enum_at a.token b.header) (blocks_in (read_at reads a.file).tree))

-- ---- references

-- the first declaration of a full name, which is given by its words, if there is one
abbrev pub declared_as : List FileOf → List ReadOf → List Text → Option (Declared At)
declared_as files reads name =
    find (λ d. same_name (name_of (text_of files reads) entry_name d.path) name)
    (link_skeleton files reads).declared

-- the enum with this full name, if it is an enum's
abbrev pub enum_named : List FileOf → List ReadOf → List Text → Option EnumOf
enum_named files reads name =
    option_and_then (λ d. enum_at files reads (place_of d)) (declared_as files reads name)

-- what is told of a reference that begins at a token and means this name: the name, joined by `.`,
-- and the enum that has it; the empty name and no enum where it means nothing
abbrev pub meant_as : List FileOf → List ReadOf → ℕ → Option (List Text) → MeantOf
meant_as files reads token None = record { token = token; name = []; enum = None }
meant_as files reads token (Some name) = record {
  token = token;
  name = joined name;
  enum = enum_named files reads name;
}

-- the full name, by its words, that a reference of a file means by the rules of names
abbrev pub meaning_of : List FileOf → List ReadOf → ℕ → Used ℕ → Option (List Text)
meaning_of files reads file u =
    meaning (names_of_files files reads) (used_named (text_of files reads) file u)

-- the full name, by its words, that a reference of a file means, if it means one
abbrev pub name_meant : List FileOf → List ReadOf → ℕ → Reference → Option (List Text)
name_meant files reads file r =
    option_and_then (meaning_of files reads file)
    (find (λ u. u.first == first_of r.dot r.words) (uses_of reads file))

-- what the references of a file mean, in the order in which they stand
abbrev pub means_of : List FileOf → List ReadOf → ℕ → List MeantOf
means_of files reads file =
    map (λ u. meant_as files reads u.first (meaning_of files reads file u))
    (uses_of reads file)

-- a file of the workspace as it is read, its numbers up to a cap, if there is one
abbrev pub scene_of : Option ℕ → List FileOf → List ReadOf → ℕ → Scene
scene_of cap files reads file = record {
  lexemes = lexemes_of files reads file;
  cap = cap;
  profile = (file_at files file).profile;
  is_proto3 = is_proto3_file files reads file;
  means = means_of files reads file;
}
