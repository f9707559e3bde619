-- The ranges that messages leave to extensions, found by the tokens of the messages' names.
use Rattle.std.specs.Prelude.{ℕ, nat_eq, List, [], slice_get, Option, Some, None}
use Rattle.std.specs.Global.{Vec}
use Rattle.std.specs.List.{find}
use Rattle.std.specs.Option.{option_and_then}
use Rattle.indexmap.specs.IndexMap.{IndexMap, get}
use Rattle.proto_files.specs.FilesRead.{AreRead, ReadOf}
use Rattle.proto_files.specs.GivenFiles.{FileOf}
use Rattle.proto_names_rules.specs.Grown.{At}
use Rattle.proto_ast.specs.Numbers.{past}
use Rattle.proto_ast.specs.Parts.{BlockOf}
use Rattle.proto_ast.specs.Scenes.{Scene}
use Rattle.proto_ast.specs.declared.ranges.RangeAt.{RangeAt}
use Rattle.proto_desc_numbers.specs.RangeIndex.{IsRangeIndexOf}
use Rattle.proto_desc_extensions.specs.Extensions.{is_message_at, extension_ranges_at, ranges_within}

-- the index in a row, where there is one; without a row no range
abbrev pub index_of_row : Option (Vec RangeAt) → List RangeAt
index_of_row None = []
index_of_row (Some row) = row.items

-- there is a row exactly where there is a message, and it is an index of the ranges that the
-- message leaves to extensions
abbrev pub IsRangeRowOf : Scene → Option BlockOf → Option (Vec RangeAt) → Type 0
IsRangeRowOf scene None None = Unit {0}
IsRangeRowOf scene None (Some row) = ⊥
IsRangeRowOf scene (Some b) None = ⊥
IsRangeRowOf scene (Some b) (Some row) = IsRangeIndexOf (ranges_within scene (Some b)) row.items

-- the rows of one file have for each token the first message among these blocks whose name is at
-- it, and nothing else
abbrev pub AreRowsOf
    : {S : Type 0} → Scene → List BlockOf → IndexMap ℕ (Vec RangeAt) S → Type 0
AreRowsOf scene blocks rows =
    (token : ℕ) → IsRangeRowOf scene
    (find (λ b. is_message_at token b.header) blocks) (get nat_eq rows token)

-- the index that a table of all files has for a token of a file
abbrev pub index_in : {S : Type 0} → List (IndexMap ℕ (Vec RangeAt) S) → At → List RangeAt
index_in table a =
    index_of_row (option_and_then (λ rows. get nat_eq rows a.token) (slice_get table a.file))

-- the table has for each token of each file an index of the ranges that the message whose name is
-- at it leaves to extensions
abbrev pub IsOpenTable
    : {S : Type 0} → List FileOf → List (IndexMap ℕ (Vec RangeAt) S) → Type 0
IsOpenTable files table =
    (reads : List ReadOf) → AreRead files reads
    → (a : At) → IsRangeIndexOf (extension_ranges_at (Some past) files reads a) (index_in table a)
