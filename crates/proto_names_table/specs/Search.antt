-- The search for a reference's first word, outward from its scope.
use Rattle.std.specs.Prelude.{◌≡◌, ℕ, ◌<◌, ◌≤◌, Bool, true, false, ◌&&◌, if◌then◌else◌, List, [], length, take, get_or, slice_index_or}
use Rattle.std.specs.List.{list_any}
use Rattle.proto_names_rules.specs.declared.kind.Kind.{Kind}
use Rattle.proto_names_rules.specs.Names.{fits_alone, is_outer, may_resolve_to}
use Rattle.proto_names_rules.specs.declared.wants.Wants.{Wants}
use Rattle.proto_names_rules.specs.Joined.{joined}
use Rattle.proto_names_rules.specs.Forest.{under}
use Rattle.proto_names_table.specs.declared.table.Row.{Row}
use Rattle.proto_names_table.specs.declared.table.Table.{Table}
use Rattle.proto_names_table.specs.Tables.{files_of, names_of}

-- one of its files is seen
abbrev pub is_seen : List Bool → Row → Bool
is_seen seen r = list_any (λ f. slice_index_or seen f false) (files_of r)

-- it may stand for the first word of a reference that wants this, which is its last word or not
abbrev pub fits_first : Wants → Bool → Kind → Bool
fits_first what is_last k = if is_last then fits_alone what k else is_outer k

-- the row may stand for the first word of a reference, and one of its files is seen
abbrev pub passes : List Bool → Wants → Bool → Row → Bool
passes seen what is_last r = fits_first what is_last r.symbol.kind && is_seen seen r

-- a reference that wants this may mean the row, and one of its files is seen
abbrev pub is_visible_as : List Bool → Wants → Row → Bool
is_visible_as seen what r = may_resolve_to what r.symbol.kind && is_seen seen r

-- the row is the word below the scope's front of k words, and passes
pub record HitsAt (t : Table) (seen : List Bool) (what : Wants) (is_last : Bool)
    (scope : List (List ℕ)) (word : List ℕ) (k row : ℕ) : Type 0 where
  pub within : row < length t.rows.items
  pub name : get_or (names_of t) row [] ≡ under (joined (take k scope)) word
  pub passes_there : (d : Row) → passes seen what is_last (get_or t.rows.items row d) ≡ true

-- no row hits at a front with more than k words
abbrev pub NoneAbove : Table
    → List Bool → Wants → Bool → List (List ℕ) → List ℕ → ℕ → Type 0
NoneAbove t seen what is_last scope word k =
    (j row : ℕ) → k < j → j ≤ length scope → HitsAt t seen what is_last scope word j row → ⊥

-- the row at the longest front at which there is one
pub record IsHit (t : Table) (seen : List Bool) (what : Wants) (is_last : Bool)
    (scope : List (List ℕ)) (word : List ℕ) (row : ℕ) : Type 0 where
  pub words : ℕ
  pub within : words ≤ length scope
  pub here : HitsAt t seen what is_last scope word words row
  pub longest : NoneAbove t seen what is_last scope word words
