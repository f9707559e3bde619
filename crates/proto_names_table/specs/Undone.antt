-- What a table changes where a symbol is declared, and changes that are rolled back.
use Rattle.std.specs.Prelude.{◌≡◌, ℕ, ◌<◌, Bool, true, false, List, [], ◌∷◌, ◌++◌, length, get_or, slice_set, take}
use Rattle.proto_names_rules.specs.declared.kind.Kind.TheVariants.{Package}
use Rattle.proto_names_table.specs.Indexes.{IsFrontOf, keys_in}
use Rattle.proto_names_table.specs.Tables.{IsTable, with_declaration}
use Rattle.proto_names_table.specs.declared.table.Symbol.{Symbol as Declaration}
use Rattle.proto_names_table.specs.declared.table.Row.{Row}
use Rattle.proto_names_table.specs.declared.table.Table.{Table}

-- What a symbol that is declared in a row changes of a table: all else stays.
pub data TakesRow (old new : Table) (symbol : Declaration) (row : ℕ) : Type 0 where
  -- one more row, behind the others
  new_row : (r : Row) → row ≡ length old.rows.items → new.rows.items ≡ old.rows.items ++ r ∷ []
      → r.symbol ≡ symbol → r.more.items ≡ [] → r.is_declared ≡ true
      → IsFrontOf old.below new.below → TakesRow old new symbol row
  -- the row of a name that no file declared
  free_row : row < length old.rows.items
      → ((r : Row) → (get_or old.rows.items row r).is_declared ≡ false)
      → ((r : Row)
      → new.rows.items
      ≡ slice_set old.rows.items row (with_declaration symbol true (get_or old.rows.items row r)))
      → new.below ≡ old.below → TakesRow old new symbol row
  -- one more file of a package
  shared_row : (was is : Row) → row < length old.rows.items → was ≡ get_or old.rows.items row was
      → symbol.kind ≡ Package → was.symbol.kind ≡ Package → was.is_declared ≡ true
      → is.name ≡ was.name → is.symbol ≡ was.symbol → is.above ≡ was.above
      → is.more.items ≡ was.more.items ++ symbol.file ∷ [] → is.is_declared ≡ true
      → new.rows.items ≡ slice_set old.rows.items row is → new.below ≡ old.below
      → TakesRow old new symbol row

-- rows of which one was given another declaration, or none, are as they were once it is given its
-- own again
abbrev pub DeclarationsComeBack : Type 0
DeclarationsComeBack =
    (rows : List Row) (k : ℕ) (r : Row) (symbol : Declaration) (is_declared : Bool)
    → k < length rows → r ≡ get_or rows k r
    → slice_set (slice_set rows k (with_declaration symbol is_declared r)) k
    (with_declaration r.symbol r.is_declared
    (get_or (slice_set rows k (with_declaration symbol is_declared r)) k r))
    ≡ rows

-- rows and words that were added behind those of a table are gone once as many are left as it had
abbrev pub RowsAddedAreCut : Type 0
RowsAddedAreCut =
    (old new : Table) (added : List Row) → IsTable old
    → new.rows.items ≡ old.rows.items ++ added → IsFrontOf old.below new.below
    → (take (length old.rows.items) new.rows.items ≡ old.rows.items)
    × ((
      take (length old.below.words.keys) new.below.words.keys,
      take (length old.rows.items) new.below.rows.keys,
    ) ≡ keys_in old.below)
