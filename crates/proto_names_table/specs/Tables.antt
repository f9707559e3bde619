-- The table of names as the forest that it holds.
use Rattle.std.specs.Prelude.{◌≡◌, ℕ, Bool, true, false, ◌&&◌, if◌then◌else◌, List, [], ◌∷◌, length, map, Option}
use Rattle.std.specs.List.{All}
use Rattle.proto_names_table.specs.Indexes.{aboves_in, AreSameKeys, HasWords, keys_in, look_in}
use Rattle.proto_names_table.specs.declared.table.Row.{Row}
use Rattle.proto_names_table.specs.declared.table.Symbol.{Symbol as Declaration}
use Rattle.proto_names_table.specs.declared.table.Table.{Table}
use Rattle.proto_names_rules.specs.Forest.{IsForest}
use Rattle.proto_names_rules.specs.Linked.{is_package}

-- the texts of the full names of a table, row by row
abbrev pub names_of : Table → List (List ℕ)
names_of t = map (λ r. r.name) t.rows.items

-- for each row, the number of the name right above it
abbrev pub aboves_of : Table → List ℕ
aboves_of t = map (λ r. r.above) t.rows.items

-- the row of the name that stands with this word right below the name with a number
abbrev pub look : Table → ℕ → List ℕ → Option ℕ
look t above word = look_in t.below above word

-- the files that declare the name of a row: that of its first declaration, and the further ones;
-- none where no file declares it any more
abbrev pub files_of : Row → List ℕ
files_of r = if r.is_declared then r.symbol.file ∷ r.more.items else []

-- many files may declare its name: it is a package, which some file declares
abbrev pub is_shared_row : Row → Bool
is_shared_row r = r.is_declared && is_package r.symbol.kind

-- a name that no two files may declare has no further file
abbrev pub AreAlone : List Row → Type 0
AreAlone rows = All (λ r. is_shared_row r ≡ false → r.more.items ≡ []) rows

-- some file declares each of these rows
abbrev pub AreDeclared : List Row → Type 0
AreDeclared rows = All (λ r. r.is_declared ≡ true) rows

-- the rows are a forest of names, and each has its place in the index
pub record IsTable (t : Table) : Type 0 where
  pub forest : IsForest (names_of t) (aboves_of t) (look t)
  pub sized : length t.below.rows.keys ≡ length t.rows.items
  pub keyed : aboves_in t.below ≡ aboves_of t
  pub words : HasWords t.below
  pub alone : AreAlone t.rows.items

-- what a contract sees of a row: its text, its first declaration, the number above it, its further
-- files, and whether a file declares it
abbrev pub row_of : Row → List ℕ × Declaration × ℕ × List ℕ × Bool
row_of r = (r.name, r.symbol, r.above, r.more.items, r.is_declared)

-- a row with this first declaration, which a file has or had
abbrev pub with_declaration : Declaration → Bool → Row → Row
with_declaration symbol is_declared r = record {
  name = r.name;
  symbol = symbol;
  above = r.above;
  more = r.more;
  is_declared = is_declared;
}

-- nothing of a table has changed that a contract sees (room may have been made)
pub record IsUnchanged (old new : Table) : Type 0 where
  pub rows : map row_of new.rows.items ≡ map row_of old.rows.items
  pub below : keys_in new.below ≡ keys_in old.below

-- two tables with rows of their own are alike in all that a contract sees
pub record AreAlike (one other : Table) : Type 0 where
  pub rows : map row_of other.rows.items ≡ map row_of one.rows.items
  pub below : AreSameKeys one.below other.below
