-- When a table holds the names of a workspace, and marks say what a file sees.
use Rattle.std.specs.Prelude.{◌≡◌, ◌≢◌, ◌↔◌, ℕ, ◌<◌, ◌≤◌, ◌++◌, ◌&&◌, Bool, true, false, List, [], ◌∷◌, length, get_or, Option, Some, None}
use Rattle.std.specs.List.{Contains}
use Rattle.proto_names_rules.specs.Names.{Symbol, Reference, Workspace}
use Rattle.proto_names_rules.specs.declared.wants.Wants.{Wants}
use Rattle.proto_names_rules.specs.Marks.{MarksSeen}
use Rattle.proto_names_rules.specs.Joined.{joined, ArePlain}
use Rattle.proto_names_rules.specs.Forest.{under, front}
use Rattle.proto_names_rules.specs.Linked.{is_package}
use Rattle.proto_names_table.specs.declared.table.Symbol.{Symbol as Declaration}
use Rattle.proto_names_table.specs.declared.table.Row.{Row}
use Rattle.proto_names_table.specs.declared.table.Table.{Table}
use Rattle.proto_names_table.specs.Tables.{files_of, names_of}
use Rattle.proto_names_table.specs.Search.{is_visible_as}

-- each symbol has the row of its name, and each row's files have a symbol
pub record IsIndexOf (t : Table) (symbols : List Symbol) : Type 0 where
  pub plain : (s : Symbol) → Contains symbols s → ArePlain s.name
  pub row : (s : Symbol) → Contains symbols s
      → (k : ℕ) × (k < length t.rows.items) × (get_or (names_of t) k [] ≡ joined s.name)
      × ((d : Row)
      → ((get_or t.rows.items k d).symbol.kind ≡ s.kind)
      × Contains (files_of (get_or t.rows.items k d)) s.file)
  pub symbol : (k file : ℕ) (d : Row) → k < length t.rows.items
      → Contains (files_of (get_or t.rows.items k d)) file
      → (s : Symbol) × Contains symbols s × (joined s.name ≡ get_or (names_of t) k [])
      × (s.kind ≡ (get_or t.rows.items k d).symbol.kind) × (s.file ≡ file)

-- words below a name, one behind another, as text
abbrev pub under_all : List ℕ → List (List ℕ) → List ℕ
under_all text [] = text
under_all text (w ∷ ws) = under_all (under text w) ws

-- the table, the marks and the scope are those of the reference
pub record IsAsked (t : Table) (seen : List Bool) (scope : ℕ) (w : Workspace) (r : Reference)
    : Type 0 where
  pub index : IsIndexOf t w.symbols
  pub marks : MarksSeen w r.file seen
  pub scope_plain : ArePlain r.scope
  pub scope_is : front (names_of t) scope ≡ joined r.scope

-- the row of this text, if it is seen and a reference that wants this may mean it
abbrev pub IsWantedAt : Table → List Bool → Wants → List ℕ → Option ℕ → Type 0
IsWantedAt t seen what text (Some k) =
    (k < length t.rows.items) × (get_or (names_of t) k [] ≡ text)
    × ((d : Row) → is_visible_as seen what (get_or t.rows.items k d) ≡ true)
IsWantedAt t seen what text None =
    (k : ℕ) (d : Row) → k < length t.rows.items → get_or (names_of t) k [] ≡ text
    → is_visible_as seen what (get_or t.rows.items k d) ≡ false

-- the table has one symbol more, and the names keep their numbers
pub record SymbolIsDeclared (old new : Table) (text : List ℕ) (symbol : Declaration) : Type 0 where
  pub fronts : (n : ℕ) → n ≤ length old.rows.items → front (names_of new) n ≡ front (names_of old) n
  pub named : (k : ℕ) × (k < length new.rows.items) × (get_or (names_of new) k [] ≡ text)
  pub index : (symbols : List Symbol) (s : Symbol)
      → IsIndexOf old symbols → ArePlain s.name → joined s.name ≡ text
      → s.kind ≡ symbol.kind → s.file ≡ symbol.file → IsIndexOf new (symbols ++ s ∷ [])

-- the symbols but those of this name
abbrev pub IsWithout : List ℕ → List Symbol → List Symbol → Type 0
IsWithout name old rest =
    (s : Symbol) → Contains rest s ↔ (Contains old s × (joined s.name ≢ name))

-- the name is taken, and not both are packages
pub record IsTaken (t : Table) (text : List ℕ) (symbol : Declaration) : Type 0 where
  pub row : ℕ
  pub within : row < length t.rows.items
  pub name : get_or (names_of t) row [] ≡ text
  pub declared : (d : Row) → (get_or t.rows.items row d).is_declared ≡ true
  pub apart : (d : Row)
      → (is_package symbol.kind && is_package (get_or t.rows.items row d).symbol.kind) ≡ false
