-- The rows of a file's names with their kinds, by what each row has.
use Rattle.std.proofs.Common.{◌≡◌, ℕ, ◌<◌, List, [], ◌∷◌, length, get_or, map, option_map, slice_get, Option, Some, None, refl, sym, ◌∙◌, ap, subst, inl, inr, arith, All, Contains}
use Rattle.std.specs.List.{cons_option, filter_map}
use Rattle.std.proofs.lemmas.Option.{slice_get-get_or, slice_get_within, get_or_from_slice_get}
use Rattle.proto_base.proofs.Common.{Contains-get_or, Vec, contains_cases, contains_head, contains_later, get_or-map, length-map, none-some, same_Some}
use Rattle.proto_names_imports.proofs.ImportGraph.{contains_filtered}
use Rattle.proto_names_affected.specs.ChangedFiles.{kind_rows_of}
use Rattle.proto_names_affected.specs.KindRows.{kind_row}
use Rattle.proto_names_affected.specs.declared.kind_rows.KindRow.{KindRow}
use Rattle.proto_names_rules.specs.declared.kind.Kind.{Kind}
use Rattle.proto_names_table.proofs.Common.{pick}
use Rattle.proto_names_table.specs.declared.table.Row.{Row}
use Rattle.proto_names_table.specs.declared.table.Table.{Table}

from_filtered : {X Y : Type 0} (h : X → Option Y) (xs : List X) (y : Y) → Contains (filter_map h xs) y → (x : X) × Contains xs x × (h x ≡ Some y)
from_filtered h [] y c = absurd (omega (arith, c.1))
from_filtered {X} {Y} h (z ∷ xs) y c = go (h z) refl (from_filtered h xs y) c
  where
    go : (o : Option Y) → h z ≡ o → (Contains (filter_map h xs) y → (x : X) × Contains xs x × (h x ≡ Some y)) → Contains (cons_option o (filter_map h xs)) y → (x : X) × Contains (z ∷ xs) x × (h x ≡ Some y)
    go None e ih d = let r = ih d in (r.0, contains_later z r.0 xs r.1, r.2)
    go (Some v) e ih d = elim (contains_cases v y (filter_map h xs) d) [
      | inl same ↦ (z, contains_head z xs, e ∙ ap Some same)
      | inr rest ↦ let r = ih rest in (r.0, contains_later z r.0 xs r.1, r.2)
    ]

module _ (t : Table) where
  -- the pair is one of these rows, with its kind
  pub record IsKindRow (rows : List ℕ) (p : KindRow) : Type 0 where
    pub listed : Contains rows p.row
    pub within : p.row < length t.rows.items
    pub kind_is : (r : Row) → (get_or t.rows.items p.row r).symbol.kind ≡ p.kind

  abbrev pair : ℕ → Kind → KindRow
  pair row kind = record { row = row; kind = kind }

  pub kind_to : (rows : List ℕ) (row : ℕ) (kind : Kind) → row < length t.rows.items → Contains rows row → ((r : Row) → (get_or t.rows.items row r).symbol.kind ≡ kind) → Contains (filter_map (kind_row t) rows) (pair row kind)
  kind_to rows row kind lt c kind_is =
      let d = pick t.rows.items row lt in
      let is : kind_row t row ≡ Some (pair row kind) = ap (option_map (λ (r : Row). pair row r.symbol.kind)) (slice_get-get_or t.rows.items row d lt) ∙ ap (λ (k : Kind). Some (pair row k)) (kind_is d) in
      contains_filtered (kind_row t) rows row (pair row kind) c is

  kind_at : (rows : List ℕ) (row : ℕ) (p : KindRow) → Contains rows row → kind_row t row ≡ Some p → IsKindRow rows p
  kind_at rows row p c e = go (slice_get t.rows.items row) refl e
    where
      go : (o : Option Row) → slice_get t.rows.items row ≡ o → option_map (λ (r : Row). pair row r.symbol.kind) o ≡ Some p → IsKindRow rows p
      go None there h = absurd (none-some p h)
      go (Some x) there h = subst (IsKindRow rows) (same_Some (pair row x.symbol.kind) p h) (record {
        listed = c;
        within = slice_get_within t.rows.items row x there;
        kind_is = λ r. ap (λ (y : Row). y.symbol.kind) (get_or_from_slice_get t.rows.items row x r there);
      })

  pub kind_from : (rows : List ℕ) (p : KindRow) → Contains (filter_map (kind_row t) rows) p → IsKindRow rows p
  kind_from rows p c =
      let x = from_filtered (kind_row t) rows p c in
      kind_at rows x.0 p x.1 x.2

  -- ---- those of files at some places

  pub kind_at_place : (rows : List (List ℕ)) (places : List ℕ) (file : ℕ) → (c : Contains places file) → get_or (map (kind_rows_of t rows) places) c.0 [] ≡ kind_rows_of t rows file
  kind_at_place rows places file c = get_or-map (kind_rows_of t rows) places c.0 file [] c.1 ∙ ap (kind_rows_of t rows) c.2

  module _ (rows : List (List ℕ)) (places : List ℕ) (found : List (Vec KindRow)) (are : map (λ v. v.items) found ≡ map (kind_rows_of t rows) places) where
    pub kind_count : length found ≡ length places
    kind_count = sym (length-map found (λ v. v.items)) ∙ ap length are ∙ length-map places (kind_rows_of t rows)

    kind_in : (k file : ℕ) → k < length places → get_or (map (λ (v : Vec KindRow). v.items) found) k [] ≡ kind_rows_of t rows (get_or places k file)
    kind_in k file l = ap (λ (all : List (List KindRow)). get_or all k []) are ∙ get_or-map (kind_rows_of t rows) places k file [] l

    -- each is a row of the table
    pub kind_within : All (λ v. All (λ p. p.row < length t.rows.items) v.items) found
    kind_within k v lk j p lj =
        let own : (get_or found k v).items ≡ kind_rows_of t rows (get_or places k 0) =
        sym (get_or-map (λ (v : Vec KindRow). v.items) found k v [] lk) ∙ kind_in k 0 (omega (arith, lk, kind_count)) in
        let c = Contains-get_or (get_or found k v).items j p lj in
        (kind_from (get_or rows (get_or places k 0) []) (get_or (get_or found k v).items j p) (subst (λ (ps : List KindRow). Contains ps (get_or (get_or found k v).items j p)) own c)).within
