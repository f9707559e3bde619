-- The names of one file in a table again.
use Rattle.std.specs.Prelude.{◌≡◌, ℕ, ◌<◌, true, List, [], ◌++◌, length, get_or, map}
use Rattle.std.specs.List.{Contains}
use Rattle.proto_names_rules.specs.declared.kind.Kind.TheVariants.{Package}
use Rattle.proto_names_rules.specs.Names.{Symbol}
use Rattle.proto_names_table.specs.Filling.{AreRowsOfNames, Holds, IsKept}
use Rattle.proto_names_table.specs.Resolved.{IsIndexOf}
use Rattle.proto_names_table.specs.Spelled.{Named, named_in, symbol_named}
use Rattle.proto_names_table.specs.Tables.{files_of, names_of}
use Rattle.proto_names_table.specs.declared.spelled.Spelled.{Spelled}
use Rattle.proto_names_table.specs.declared.table.Row.{Row}
use Rattle.proto_names_table.specs.declared.table.Table.{Table}

-- the row of a package with this text, which the file declares
pub record IsPackageOf (t : Table) (text : List ℕ) (file row : ℕ) : Type 0 where
  pub within : row < length t.rows.items
  pub name : get_or (names_of t) row [] ≡ text
  pub kind : (r : Row) → (get_or t.rows.items row r).symbol.kind ≡ Package
  pub declared : (r : Row) → (get_or t.rows.items row r).is_declared ≡ true
  pub file_is : (r : Row) → Contains (files_of (get_or t.rows.items row r)) file

-- The table has the declarations of a file beside what it had, these are their rows, and what was
-- declared stays.
pub record AreDeclaredAgain (old new : Table) (file : ℕ) (spelled : List Spelled) (rows : List ℕ)
    : Type 0 where
  pub kept : IsKept old new
  pub count : length rows ≡ length spelled
  pub each : AreRowsOfNames new (named_in file spelled) rows
  pub index : (symbols : List Symbol) → IsIndexOf old symbols
      → IsIndexOf new (symbols ++ map symbol_named (named_in file spelled))
  pub held : (ds : List Named) → Holds old ds → Holds new (ds ++ named_in file spelled)
