-- The table of names while it is filled: the rows of declarations, what the table holds, and the
-- first clash.
use Rattle.std.specs.Prelude.{◌≡◌, ◌≢◌, ◌⊎◌, ℕ, true, false, ◌+◌, ◌<◌, ◌≤◌, List, [], ◌++◌, length, get_or, map, take, drop, not}
use Rattle.std.specs.List.{AllPairs, Contains, filter}
use Rattle.proto_names_rules.specs.declared.kind.Kind.TheVariants.{Package}
use Rattle.proto_names_rules.specs.Joined.{joined}
use Rattle.proto_names_rules.specs.Linked.{is_package}
use Rattle.proto_names_rules.specs.Grown.{at}
use Rattle.proto_names_rules.specs.Faults.{Fault, fault, IsLeast}
use Rattle.proto_names_table.specs.Spelled.{Named, named_in, symbol_named}
use Rattle.proto_names_outline.specs.declared.listing.Above.{Above}
use Rattle.proto_names_outline.specs.declared.listing.Above.TheVariants.{Outermost, Below}
use Rattle.proto_names_table.specs.declared.spelled.Spelled.{Spelled}
use Rattle.proto_names_table.specs.declared.table.Symbol.{Symbol as Declaration}
use Rattle.proto_names_table.specs.declared.table.Row.{Row}
use Rattle.proto_names_table.specs.declared.table.Table.{Table}
use Rattle.proto_names_table.specs.declared.filling.NameError.{NameError}
use Rattle.proto_names_table.specs.declared.filling.NameError.TheVariants.{Clash, NoMemory}
use Rattle.proto_names_table.specs.Tables.{AreDeclared, names_of}
use Rattle.proto_names_table.specs.Resolved.{IsIndexOf, IsTaken}

-- the error is the least clash, or out of memory
abbrev pub IsNameError : (Fault → Type 0) → NameError → Type 0
IsNameError Says (Clash file token) = IsLeast Says (fault (at file token) 13)
IsNameError Says NoMemory = Unit {0}

-- ---- rows

-- The row of a declaration: it has its name and its kind, some file declares it, and where it is no
-- package, the declaration is that of the row.
pub record IsRowAt (t : Table) (d : Named) (row : ℕ) : Type 0 where
  pub within : row < length t.rows.items
  pub name : get_or (names_of t) row [] ≡ joined d.name
  pub kind : (r : Row) → (get_or t.rows.items row r).symbol.kind ≡ d.kind
  pub declared : (r : Row) → (get_or t.rows.items row r).is_declared ≡ true
  pub place : d.kind ≢ Package → (r : Row)
      → at (get_or t.rows.items row r).symbol.file (get_or t.rows.items row r).symbol.token
      ≡ d.place

-- for each file, the row of each of its declarations; some file declares each row
pub record AreRows (t : Table) (files : List (List Spelled)) (rows : List (List ℕ)) : Type 0 where
  pub declared : AreDeclared t.rows.items
  pub paired : length rows ≡ length files
  pub counts : (i : ℕ) → i < length files → length (get_or rows i []) ≡ length (get_or files i [])
  pub each : (i k row : ℕ) (d : Named) → i < length files → k < length (get_or files i [])
      → IsRowAt t (get_or (named_in i (get_or files i [])) k d) (get_or (get_or rows i []) k row)

-- the rows of the first of some declarations
pub record AreRowsOfNames (t : Table) (ds : List Named) (rows : List ℕ) : Type 0 where
  pub count : length rows ≤ length ds
  pub each : (k row : ℕ) (d : Named) → k < length rows
      → IsRowAt t (get_or ds k d) (get_or rows k row)

-- the number of the name that a declaration stands right below, given the rows of those before it
abbrev pub number_above : List ℕ → Above → ℕ
number_above rows Outermost = 0
number_above rows (Below k) = get_or rows k 0 + 1

-- what a row has of a declaration of this file: its kind, its file and its token
abbrev pub declaration_of : ℕ → Spelled → Declaration
declaration_of file s = record { kind = s.kind; file = file; token = s.token }

-- ---- one declaration more

-- what was in the table stays, under its numbers: each name, and each declaration; and where each
-- row was declared, each is
pub record IsKept (old new : Table) : Type 0 where
  pub size : length old.rows.items ≤ length new.rows.items
  pub names : (k : ℕ) → k < length old.rows.items
      → get_or (names_of new) k [] ≡ get_or (names_of old) k []
  pub symbols : (k : ℕ) (r : Row) → k < length old.rows.items
      → (get_or old.rows.items k r).is_declared ≡ true
      → ((get_or new.rows.items k r).symbol ≡ (get_or old.rows.items k r).symbol)
      × ((get_or new.rows.items k r).is_declared ≡ true)
  pub declared : AreDeclared old.rows.items → AreDeclared new.rows.items

-- the table has no such row, or no file declares it
abbrev pub IsRowFree : Table → ℕ → Type 0
IsRowFree t row =
    row < length t.rows.items → (r : Row) → (get_or t.rows.items row r).is_declared ≡ false

-- the row was free and now is the symbol's, or was there as a package's
abbrev pub IsNewOrPackage : Table → Table → Declaration → ℕ → Type 0
IsNewOrPackage old new symbol row =
    (IsRowFree old row × ((r : Row) → (get_or new.rows.items row r).symbol ≡ symbol))
    ⊎ ((row < length old.rows.items) × (symbol.kind ≡ Package)
    × ((r : Row) → (get_or old.rows.items row r).symbol.kind ≡ Package)
    × ((r : Row) → (get_or old.rows.items row r).is_declared ≡ true))

-- the row that a symbol was declared in
pub record IsRowOf (old new : Table) (text : List ℕ) (symbol : Declaration) (row : ℕ) : Type 0 where
  pub kept : IsKept old new
  pub within : row < length new.rows.items
  pub name : get_or (names_of new) row [] ≡ text
  pub declared : (r : Row) → (get_or new.rows.items row r).is_declared ≡ true
  pub new_or_package : IsNewOrPackage old new symbol row

-- the error is a clash of the symbol, whose name is taken, or out of memory
abbrev pub IsClashAt : Table → List ℕ → Declaration → NameError → Type 0
IsClashAt t text symbol (Clash file token) =
    (file ≡ symbol.file) × (token ≡ symbol.token) × IsTaken t text symbol
IsClashAt t text symbol NoMemory = Unit {0}

-- ---- what the table holds

-- among these declarations only packages share a name
abbrev pub AreNamesApart : List Named → Type 0
AreNamesApart ds = AllPairs (λ x y. x.name ≡ y.name → (x.kind ≡ Package) × (y.kind ≡ Package)) ds

-- the table holds these declarations and no others
pub record Holds (t : Table) (ds : List Named) : Type 0 where
  pub index : IsIndexOf t (map symbol_named ds)
  pub apart : AreNamesApart ds

-- the declaration clashes with one of these, and no two of these clash
pub record Clashes (ds : List Named) (d : Named) : Type 0 where
  pub apart : AreNamesApart ds
  pub other : Named
  pub within : Contains ds other
  pub name : other.name ≡ d.name
  pub not_packages : d.kind ≡ Package → other.kind ≡ Package → ⊥

-- Beside the given declarations, those of one file from `start` on were held up to the one that
-- clashes, which stands before `end`.
abbrev pub StopsIn : List Named → List Named → ℕ → ℕ → NameError → Type 0
StopsIn ds own start end (Clash file token) =
    (k : ℕ) × (start ≤ k) × (k < end)
    × ((d : Named)
    → ((get_or own k d).place ≡ at file token)
    × Clashes (ds ++ drop start (take k own)) (get_or own k d))
StopsIn ds own start end NoMemory = Unit {0}

-- ---- packages first

-- the packages among some declarations, in order
abbrev pub packages_in : List Named → List Named
packages_in ds = filter (λ d. is_package d.kind) ds

-- the declarations that are no packages, in order
abbrev pub others_in : List Named → List Named
others_in ds = filter (λ d. not (is_package d.kind)) ds

-- so many packages stand before all else
pub record AreInFront (count : ℕ) (ss : List Spelled) : Type 0 where
  pub within : count ≤ length ss
  pub front : (k : ℕ) (s : Spelled) → k < count → (get_or ss k s).kind ≡ Package
  pub behind : (k : ℕ) (s : Spelled) → count ≤ k → k < length ss → (get_or ss k s).kind ≢ Package

-- for each file, the rows of its packages; some file declares each row
pub record ArePackageRows (t : Table) (files : List (List Spelled)) (rows : List (List ℕ))
    : Type 0 where
  pub declared : AreDeclared t.rows.items
  pub paired : length rows ≡ length files
  pub counts : (i : ℕ) → i < length files
      → AreInFront (length (get_or rows i [])) (get_or files i [])
  pub each : (i : ℕ) → i < length files
      → AreRowsOfNames t (named_in i (get_or files i [])) (get_or rows i [])
