-- The names of a file: their rows, their kinds, and the keys of their last words.
use Rattle.std.specs.Prelude.{◌≡◌, ◌⊎◌, ℕ, zero, suc, Bool, false, List, [], ◌∷◌, ◌++◌, get_or, map, nat_eq, slice_get, Option, Some, None, option_map}
use Rattle.std.specs.List.{All, Contains}
use Rattle.indexmap.specs.IndexMap.{IndexMap, get}
use Rattle.proto_base.specs.Words.{word_key}
use Rattle.proto_names_affected.specs.declared.kind_rows.KindRow.{KindRow}
use Rattle.proto_names_rules.specs.declared.kind.Kind.{Kind}
use Rattle.proto_names_rules.specs.Joined.{joined, ArePlain}
use Rattle.proto_names_rules.specs.Names.{Name, Word, is_type}
use Rattle.proto_names_table.specs.Tables.{names_of}
use Rattle.proto_names_table.specs.declared.table.Row.{Row}
use Rattle.proto_names_table.specs.declared.table.Table.{Table}

-- a row of the table with the kind of what declares its name
abbrev pub kind_row : Table → ℕ → Option KindRow
kind_row t row =
    option_map (λ (r : Row). record { row = row; kind = r.symbol.kind })
    (slice_get t.rows.items row)

-- each pair of the first is one of the second, or its row is among these, which are rows of the
-- first
pub record AreAmongOr (one other : List KindRow) (rows : List ℕ) : Type 0 where
  pub each : (p : KindRow) → Contains one p → Contains other p ⊎ Contains rows p.row
  pub only : All (λ row. Contains (map (λ p. p.row) one) row) rows

-- the kinds of these rows are theirs in the list
abbrev pub AreKindsOf : {S : Type 0} → List KindRow → IndexMap ℕ Kind S → Type 0
AreKindsOf pairs kinds =
    (row : ℕ) (kind : Kind) → get nat_eq kinds row ≡ Some kind
    → Contains pairs (record { row = row; kind = kind })

-- the name of a row is a type's
abbrev pub is_type_row : Option Row → Bool
is_type_row None = false
is_type_row (Some r) = is_type r.symbol.kind

-- the name with this number is a type's; 0 stands for the empty name
abbrev pub is_type_number : Table → ℕ → Bool
is_type_number t zero = false
is_type_number t (suc row) = is_type_row (slice_get t.rows.items row)

-- the name of a row stands right below a type's
abbrev pub is_row_below_type : Table → Option Row → Bool
is_row_below_type t None = false
is_row_below_type t (Some r) = is_type_number t r.above

-- so does the name of the row with this index
abbrev pub is_below_type : Table → ℕ → Bool
is_below_type t row = is_row_below_type t (slice_get t.rows.items row)

-- the key of the last word of the name of each of these rows is among the keys
abbrev pub HasLastWords : Table → List ℕ → List ℕ → Type 0
HasLastWords t rows keys =
    (row : ℕ) (front : Name) (word : Word) → Contains rows row → ArePlain (front ++ word ∷ [])
    → get_or (names_of t) row [] ≡ joined (front ++ word ∷ []) → Contains keys (word_key word)
