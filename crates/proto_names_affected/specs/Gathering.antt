-- The references of marked files, by the rows of the names that they mean.
use Rattle.std.specs.Prelude.{◌≡◌, ℕ, suc, ◌<◌, Bool, false, if◌then◌else◌, List, [], ◌∷◌, ◌++◌, length, get_or, map}
use Rattle.std.specs.List.{All, Contains}
use Rattle.proto_names_affected.specs.Referred.{MeantRow, meant_row, references_to_row}
use Rattle.proto_names_table.specs.declared.ids.Meant.{Meant}
use Rattle.proto_names_table.specs.declared.ids.RefId.{RefId}
use Rattle.proto_names_affected.specs.declared.gathering.Gathered.{Gathered}

-- the references of the marked files from this number on, file after file
abbrev pub marked_meant : List Bool → ℕ → List (List Meant) → List MeantRow
marked_meant marks file [] = []
marked_meant marks file (ms ∷ rest) =
    (if get_or marks file false then map (meant_row file) ms else [])
    ++ marked_meant marks (suc file) rest

-- there is a list for each row, and the rows are below their count
pub record IsSound (g : Gathered) : Type 0 where
  pub paired : length g.lists.items ≡ length g.rows.keys
  pub within : All (λ row. row < g.count) g.rows.keys

-- what these references mean is below so many rows
abbrev pub AreRowsBelow : ℕ → List Meant → Type 0
AreRowsBelow count meant = All (λ m. m.row < count) meant

-- what these references mean is among the rows
abbrev pub AreRowsNamed : List ℕ → List Meant → Type 0
AreRowsNamed rows meant = All (λ m. Contains rows m.row) meant

-- what these mean is among the rows, and the list of each row has those of them that mean it
pub record AreGathered (rows : List ℕ) (lists : List (List RefId)) (ms : List MeantRow)
    : Type 0 where
  pub each : (k : ℕ) → k < length rows
      → get_or lists k [] ≡ references_to_row (get_or rows k 0) ms
  pub named : All (λ m. Contains rows m.row) ms

-- the same of what was gathered
abbrev pub HasGathered : Gathered → List MeantRow → Type 0
HasGathered g ms = AreGathered g.rows.keys (map (λ v. v.items) g.lists.items) ms

-- these references were gathered behind the others, and all rows stay
pub record Gathers (old new : Gathered) (more : List MeantRow) : Type 0 where
  pub sound : IsSound new
  pub count : new.count ≡ old.count
  pub rows : (row : ℕ) → Contains old.rows.keys row → Contains new.rows.keys row
  pub gathered : (ms : List MeantRow) → HasGathered old ms → HasGathered new (ms ++ more)
