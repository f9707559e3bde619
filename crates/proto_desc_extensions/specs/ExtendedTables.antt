-- What extensions extend, found by the tokens of their names.
use Rattle.std.specs.Prelude.{◌≡◌, ℕ, nat_eq, ◌==◌, List, [], map, flat_map, find, Option, Some, None, option_map}
use Rattle.std.specs.Option.{option_and_then}
use Rattle.indexmap.specs.IndexMap.{IndexMap, get}
use Rattle.proto_base.specs.Texts.{Text}
use Rattle.proto_tree.specs.Tree.{Tree}
use Rattle.proto_tree.specs.declared.tree.Reference.{Reference}
use Rattle.proto_files.specs.FilesRead.{AreRead, ReadOf, read_at}
use Rattle.proto_files.specs.GivenFiles.{FileOf}
use Rattle.proto_names_rules.specs.Grown.{At}
use Rattle.proto_names_rules.specs.Joined.{joined}
use Rattle.proto_ast.specs.Parts.{BlockOf, FieldOf, blocks_in, fields_in}
use Rattle.proto_desc_extensions.specs.Extensions.{extendee_in, name_meant}
use Rattle.proto_desc_extensions.specs.declared.extended_table.Extended.{Extended}

-- ---- the extensions of a file

-- a name that is meant as text, its words joined by dots; empty where nothing is meant
abbrev pub meant_text : Option (List Text) → Text
meant_text None = []
meant_text (Some name) = joined name

-- an extension: the token of its name, and what it extends as text
pub record Extending : Type 0 where
  pub token : ℕ
  pub extended : Text

-- a field as an extension of what has this text
abbrev pub extending : Text → FieldOf → Extending
extending text f = record { token = f.name; extended = text }

-- the fields between the braces of what extends this, if it extends something
abbrev pub extending_of
    : List FileOf → List ReadOf → ℕ → Option Reference → Tree → List Extending
extending_of files reads file None within = []
extending_of files reads file (Some r) within =
    map (extending (meant_text (name_meant files reads file r))) (fields_in within)

-- the extensions of a block of a file
abbrev pub block_extending : List FileOf → List ReadOf → ℕ → BlockOf → List Extending
block_extending files reads file b =
    extending_of files reads file (extendee_in b.header) b.within

-- the extensions of a file, also those whose extendee means nothing
abbrev pub file_extending : List FileOf → List ReadOf → ℕ → List Extending
file_extending files reads file =
    flat_map (block_extending files reads file) (blocks_in (read_at reads file).tree)

-- what the first of these extensions extends whose name is at the token
abbrev pub first_extended : ℕ → List Extending → Option Text
first_extended token es = option_map (λ e. e.extended) (find (λ e. e.token == token) es)

-- ---- rows and tables

-- the rows have for each token what the first of these extensions extends whose name is at it
abbrev pub AreExtendedRows : {S : Type 0} → List Extending → IndexMap ℕ Extended S → Type 0
AreExtendedRows es rows =
    (token : ℕ) → option_map (λ x. x.name.now) (get nat_eq rows token) ≡ first_extended token es

-- a text, if there is one, else the empty one
abbrev pub told_text : Option Text → Text
told_text None = []
told_text (Some text) = text

-- the rows of files by their numbers, where these have rows: what they have for a token of a file
abbrev pub extended_row : {S R : Type 0} → IndexMap ℕ (IndexMap ℕ Extended R) S → At → Option Text
extended_row rows a =
    option_map (λ x. x.name.now)
    (option_and_then (λ own. get nat_eq own a.token) (get nat_eq rows a.file))

-- each file that has rows has those of its extensions
abbrev pub AreRowsOfFiles
    : {S R : Type 0} → List FileOf → IndexMap ℕ (IndexMap ℕ Extended R) S → Type 0
AreRowsOfFiles {S} {R} files rows =
    (file : ℕ) (own : IndexMap ℕ Extended R) → get nat_eq rows file ≡ Some own
    → (reads : List ReadOf) → AreRead files reads
    → AreExtendedRows (file_extending files reads file) own
