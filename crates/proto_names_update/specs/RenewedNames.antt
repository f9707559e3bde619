-- The names of edited files, put into a table in place of those that they had.
use Rattle.std.specs.Prelude.{◌≡◌, ℕ, ◌<◌, ◌≤◌, true, List, [], ◌∷◌, ◌++◌, length, get_or, slice_set}
use Rattle.std.specs.List.{All, Contains, flat_map}
use Rattle.proto_files.specs.FilesRead.{AreRead, ReadOf}
use Rattle.proto_files.specs.GivenFiles.{FileOf}
use Rattle.proto_names_update.specs.NamesOfFiles.{AreNamesOf}
use Rattle.proto_names_rules.specs.declared.kind.Kind.TheVariants.{Package}
use Rattle.proto_names_update.specs.Relinked.{NoNameClashes}
use Rattle.proto_names_table.specs.Filling.{AreRowsOfNames, Holds, IsKept}
use Rattle.proto_names_table.specs.Spelled.{Named}
use Rattle.proto_names_table.specs.Tables.{names_of}
use Rattle.proto_names_table.specs.declared.table.Row.{Row}
use Rattle.proto_names_table.specs.declared.table.Table.{Table}

-- the rows of the files at these places, one file's behind the other's
abbrev pub rows_at : List (List ℕ) → List ℕ → List ℕ
rows_at rows places = flat_map (λ place. get_or rows place []) places

-- the rows of files, with these in place of those at these places
abbrev pub rows_with : List (List ℕ) → List ℕ → List (List ℕ) → List (List ℕ)
rows_with rows [] renewed = rows
rows_with rows (place ∷ places) [] = rows
rows_with rows (place ∷ places) (own ∷ renewed) = rows_with (slice_set rows place own) places renewed

-- the rows of declarations in a table, among them each row that was a package's, of those before
pub record AreRowsAgain (old new : Table) (ds : List Named) (before rows : List ℕ) : Type 0 where
  pub count : length rows ≡ length ds
  pub each : AreRowsOfNames new ds rows
  pub packages : (row : ℕ) → Contains before row → row < length old.rows.items
      → ((r : Row) → (get_or old.rows.items row r).is_declared ≡ true)
      → ((r : Row) → (get_or old.rows.items row r).symbol.kind ≡ Package) → Contains rows row

-- the table has these declarations beside what it had, and what was declared stays
pub record AreBeside (old new : Table) (ds : List Named) : Type 0 where
  pub kept : IsKept old new
  pub held : (others : List Named) → Holds old others → Holds new (others ++ ds)

-- a file's declarations are in the table again, at these rows
pub record IsFileAgain (old new : Table) (ds : List Named) (before own : List ℕ) : Type 0 where
  pub beside : AreBeside old new ds
  pub rows : AreRowsAgain old new ds before own

-- so are those of the files at these places
pub record AreFilesAgain (old new : Table) (own : ℕ → List Named) (places : List ℕ)
    (before rows : List (List ℕ)) : Type 0 where
  pub beside : AreBeside old new (flat_map own places)
  pub count : length rows ≡ length places
  pub each : (k : ℕ) → k < length places
      → AreRowsAgain old new (own (get_or places k 0)) (get_or before (get_or places k 0) [])
      (get_or rows k [])

-- the table has the names of the files now, at the rows that they had, but at these places at those
-- that are answered; the names keep their numbers, and none clashes
pub record AreRenewed (places : List ℕ) (files : List FileOf) (old new : Table)
    (rows renewed : List (List ℕ)) : Type 0 where
  pub count : length renewed ≡ length places
  pub within : All (λ own. All (λ row. row < length new.rows.items) own) renewed
  pub size : length old.rows.items ≤ length new.rows.items
  pub texts : (k : ℕ) → k < length old.rows.items
      → get_or (names_of new) k [] ≡ get_or (names_of old) k []
  pub names : (reads : List ReadOf) → AreRead files reads
      → AreNamesOf files reads new (rows_with rows places renewed)
  pub clean : (reads : List ReadOf) → AreRead files reads → NoNameClashes files reads
