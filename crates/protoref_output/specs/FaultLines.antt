-- The line of a fault of files: the choice of this project.
use Rattle.std.specs.Prelude.{◌≡◌, ℕ, List, [], ◌++◌, codes, decimal, Option, Some, None}
use Rattle.std.specs.Option.{unwrap_or}
use Rattle.proto_files.specs.GivenFiles.{FileOf}
use Rattle.proto_files.specs.Faults.{FaultAt}
use Rattle.proto_base.specs.FaultTable.{kind_name, kind_number}
use Rattle.proto_base.specs.Texts.{Text}
use Rattle.proto_text.specs.Lines.{column_at, line_at}
use Rattle.proto_store.specs.Stores.{Held, bytes_at}

-- `path:line:column: NUMBER NAME`
abbrev pub line_of : FaultAt → ℕ → ℕ → Text
line_of fault line column =
    fault.path ++ (codes ":" ++ (decimal line ++ (codes ":" ++ (decimal column
    ++ (codes ": " ++ (decimal (kind_number fault.kind)
    ++ (codes " " ++ (kind_name fault.kind ++ codes "\n"))))))))

-- the line and the column of a fault of the files
abbrev pub IsLineAndColumn : List FileOf → FaultAt → ℕ → ℕ → Type 0
IsLineAndColumn files fault line column =
    let bytes = unwrap_or (bytes_at fault.path files) [] in
    (line ≡ line_at bytes fault.offset) × (column ≡ column_at bytes fault.offset)

-- the line of a fault of the files
abbrev pub IsLine : List FileOf → FaultAt → Text → Type 0
IsLine files fault text = (line : ℕ) × (column : ℕ)
    × IsLineAndColumn files fault line column × (text ≡ line_of fault line column)

-- the line and the column of a fault of a store's files; of unknown holdings nothing is said
abbrev pub IsPlaceOver : Option Held → FaultAt → ℕ → ℕ → Type 0
IsPlaceOver None fault line column = Unit {0}
IsPlaceOver (Some held) fault line column = IsLineAndColumn held.files fault line column

-- the line of a fault of a store's files; of unknown holdings nothing is said
abbrev pub IsLineOver : Option Held → FaultAt → Text → Type 0
IsLineOver None fault text = Unit {0}
IsLineOver (Some held) fault text = IsLine held.files fault text
