-- A table one of whose rows is another one, of the same name and right below the same name.
use Rattle.std.proofs.Common.{◌≡◌, ◌≢◌, ℕ, zero, suc, ◌<◌, false, List, [], ◌∷◌, length, get_or, map, sym, ◌∙◌, ap, subst, inl, inr, arith, slice_set}
use Rattle.proto_base.proofs.Common.{cases_eq, get_or_default}
use Rattle.std.proofs.lemmas.List.{length-set, get_or-set_same, get_or-set_other}
use Rattle.proto_names_rules.specs.Forest.{IsForest}
use Rattle.proto_names_table.specs.Common.{Row, Table, IsTable, AreAlone, aboves_of, is_shared_row, look, names_of}
use Rattle.proto_names_table.specs.Indexes.{aboves_in, HasWords}

pub map_set_same : {X Y : Type 0} (f : X → Y) (xs : List X) (i : ℕ) (x : X) → i < length xs → ((d : X) → f x ≡ f (get_or xs i d)) → map f (slice_set xs i x) ≡ map f xs
map_set_same f [] i x l e = absurd (omega (arith, l))
map_set_same f (y ∷ ys) zero x l e = ap (λ z. z ∷ map f ys) (e y)
map_set_same f (y ∷ ys) (suc i) x l e = ap (λ z. f y ∷ z) (map_set_same f ys i x (omega (arith, l)) e)

module _ (t t' : Table) (k : ℕ) (r r' : Row) (l : k < length t.rows.items) (is : r ≡ get_or t.rows.items k r) (rows : t'.rows.items ≡ slice_set t.rows.items k r') (below : t'.below ≡ t.below)
    (name : r'.name ≡ r.name) (above : r'.above ≡ r.above) where
  pub at : (d : Row) → get_or t.rows.items k d ≡ r
  at d = get_or_default t.rows.items k d r l ∙ sym is

  pub names_same : names_of t' ≡ names_of t
  names_same = ap (map (λ z. z.name)) rows ∙ map_set_same (λ z. z.name) t.rows.items k r' l (λ d. name ∙ ap (λ z. z.name) (sym (at d)))

  aboves_same : aboves_of t' ≡ aboves_of t
  aboves_same = ap (map (λ z. z.above)) rows ∙ map_set_same (λ z. z.above) t.rows.items k r' l (λ d. above ∙ ap (λ z. z.above) (sym (at d)))

  pub size_same : length t'.rows.items ≡ length t.rows.items
  size_same = ap length rows ∙ length-set t.rows.items k r'

  pub here : (d : Row) → get_or t'.rows.items k d ≡ r'
  here d = ap (λ z. get_or z k d) rows ∙ get_or-set_same t.rows.items k r' d l

  pub there : (j : ℕ) (d : Row) → j ≢ k → get_or t'.rows.items j d ≡ get_or t.rows.items j d
  there j d ne = ap (λ z. get_or z j d) rows ∙ get_or-set_other t.rows.items k j r' d ne

  alone_same : (is_shared_row r' ≡ false → r'.more.items ≡ []) → AreAlone t.rows.items → AreAlone t'.rows.items
  alone_same own ok j d lj = elim (cases_eq j k) [
    | inl e ↦ subst (λ (z : Row). is_shared_row z ≡ false → z.more.items ≡ []) (sym (ap (λ i. get_or t'.rows.items i d) e ∙ here d)) own
    | inr ne ↦ subst (λ (z : Row). is_shared_row z ≡ false → z.more.items ≡ []) (sym (there j d ne)) (ok j d (omega (arith, lj, size_same)))
  ]

  pub table_same : (is_shared_row r' ≡ false → r'.more.items ≡ []) → IsTable t → IsTable t'
  table_same own ok = record {
    forest = subst (λ z. IsForest z (aboves_of t') (look t')) (sym names_same) (subst (λ z. IsForest (names_of t) z (look t')) (sym aboves_same) (subst (λ z. IsForest (names_of t) (aboves_of t) (look (record { rows = t.rows; below = z; begun = t.begun }))) (sym below) ok.forest));
    sized = ap (λ z. length z.rows.keys) below ∙ ok.sized ∙ sym size_same;
    keyed = ap aboves_in below ∙ ok.keyed ∙ sym aboves_same;
    words = subst HasWords (sym below) ok.words;
    alone = alone_same own ok.alone;
  }
