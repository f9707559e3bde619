-- The enums of files, found by the tokens of their names.
use Rattle.std.specs.Prelude.{◌≡◌, ◌==◌, ℕ, Bool, false, if◌then◌else◌, nat_eq, List, find, get_or, Option, None, option_map}
use Rattle.std.specs.List.{list_any}
use Rattle.std.specs.Option.{option_and_then}
use Rattle.indexmap.specs.IndexMap.{IndexMap, get}
use Rattle.proto_text.specs.Tokens.{Lexeme}
use Rattle.proto_files.specs.GivenFiles.{FileOf}
use Rattle.proto_names_rules.specs.Grown.{At}
use Rattle.proto_files.specs.FilesRead.{ReadOf, AreRead}
use Rattle.proto_ast.specs.Parts.{BlockOf}
use Rattle.proto_ast.specs.Scenes.{EnumOf}
use Rattle.proto_resolved.specs.SceneOf.{enum_at, enum_within, is_enum_at}
use Rattle.proto_resolved.specs.declared.enum_table.EnumRow.{EnumRow}
use Rattle.proto_resolved.specs.declared.enum_table.EnumTable.{EnumTable}

-- the first enum among these blocks whose name is at the token, if there is one
abbrev pub enum_among : List Lexeme → Bool → List BlockOf → ℕ → Option EnumOf
enum_among lexemes proto3 blocks token =
    option_map (λ b. enum_within lexemes proto3 b.within)
    (find (λ b. is_enum_at token b.header) blocks)

-- ---- tables

-- the enum that a row of a table tells of
abbrev pub enum_of_row : EnumRow → EnumOf
enum_of_row r = record {
  is_proto3 = r.is_proto3;
  starts_past_zero = r.starts_past_zero;
  values = r.values;
}

-- the enum that the rows of one file have for a token, if they have one
abbrev pub enum_row_at : {S : Type 0} → IndexMap ℕ EnumRow S → ℕ → Option EnumOf
enum_row_at rows token = option_map enum_of_row (get nat_eq rows token)

-- the rows have for each token the enum among these blocks whose name is at it, and nothing else
abbrev pub AreEnumsOf
    : {S : Type 0} → List Lexeme → Bool → List BlockOf → IndexMap ℕ EnumRow S → Type 0
AreEnumsOf lexemes proto3 blocks rows =
    (token : ℕ) → enum_row_at rows token ≡ enum_among lexemes proto3 blocks token

-- the enum that a table has for a token of a file, if it has one
abbrev pub enum_in : EnumTable → At → Option EnumOf
enum_in table a =
    option_and_then (λ rows. enum_row_at rows a.token) (get nat_eq table.files a.file)

-- the enum whose name is at this token of a file, if that is one of the listed files
abbrev pub listed_enum_at : List ℕ → List FileOf → List ReadOf → At → Option EnumOf
listed_enum_at listed files reads a =
    if list_any (λ file. file == a.file) listed then enum_at files reads a else None

-- the table has for each token of each listed file the enum whose name is at it, and nothing else
abbrev pub IsEnumTableOfListed : List FileOf → List ℕ → EnumTable → Type 0
IsEnumTableOfListed files listed table =
    (reads : List ReadOf) → AreRead files reads
    → (a : At) → enum_in table a ≡ listed_enum_at listed files reads a

-- the enum whose name is at this token of a file, if that is one of the marked files
abbrev pub marked_enum_at : List Bool → List FileOf → List ReadOf → At → Option EnumOf
marked_enum_at marks files reads a =
    if get_or marks a.file false then enum_at files reads a else None

-- the table has for each token of each marked file the enum whose name is at it, and nothing else
abbrev pub IsEnumTableOf : List FileOf → List Bool → EnumTable → Type 0
IsEnumTableOf files marks table =
    (reads : List ReadOf) → AreRead files reads
    → (a : At) → enum_in table a ≡ marked_enum_at marks files reads a

-- the table has for each token of each file the enum whose name is at it, and nothing else
abbrev pub IsEnumTable : List FileOf → EnumTable → Type 0
IsEnumTable files table =
    (reads : List ReadOf) → AreRead files reads
    → (a : At) → enum_in table a ≡ enum_at files reads a
