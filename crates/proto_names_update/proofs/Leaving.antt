-- Rows that no file declares any more, and the symbols that are left.
use Rattle.std.proofs.Common.{◌≡◌, ◌≢◌, ◌⊎◌, ℕ, ◌<◌, List, [], ◌∷◌, ◌++◌, length, get_or, refl, sym, ◌∙◌, ap, subst, inl, inr, arith, slice_set, Contains}
use Rattle.std.proofs.lemmas.List.{get_or-map, get_or_default, get_or-set_other, get_or-set_same, length-map, length-set}
use Rattle.proto_base.proofs.Common.{Contains-append_cases, Contains-append_left, Contains-append_right, cases_eq, contains_cases, contains_head}
use Rattle.proto_names_rules.specs.declared.kind.Kind.TheVariants.{Package}
use Rattle.proto_names_rules.proofs.Common.{Symbol, names_apart}
use Rattle.proto_names_table.specs.Common.{IsIndexOf, IsTable, aboves_of, files_of, look, names_of}
use Rattle.proto_names_table.specs.declared.table.Row.{Row}
use Rattle.proto_names_table.specs.declared.table.Table.{Table}
use Rattle.proto_names_table.proofs.Search.{pick}
use Rattle.proto_names_update.specs.Forgetting.{AreForgotten, AreLeft, Goes, undeclared}

-- the row is one of these and declared no more, or it is none of them and as it was
abbrev IsEither : List ℕ → Table → Table → ℕ → Row → Type 0
IsEither rows old new k r =
    (Goes rows old k × (get_or new.rows.items k r ≡ undeclared (get_or old.rows.items k r)))
    ⊎ ((Goes rows old k → ⊥) × (get_or new.rows.items k r ≡ get_or old.rows.items k r))

-- ---- no row, one row, one row more

pub none_forgotten : (t : Table) → AreForgotten [] t t
none_forgotten t = record { size = refl; below = refl; each = λ k r l. inr (λ g. absurd (omega (arith, g.listed.1)), refl) }

-- a package's row stays
pub package_stays : (t : Table) (row : ℕ) (r : Row) → r ≡ get_or t.rows.items row r → r.symbol.kind ≡ Package → AreForgotten (row ∷ []) t t
package_stays t row r is own = record {
  size = refl;
  below = refl;
  each = λ k d l. inr (
    λ g. elim (contains_cases row k [] g.listed) [
      | inl e ↦ g.other r (ap (λ i. (get_or t.rows.items i r).symbol.kind) (sym e) ∙ ap (λ (z : Row). z.symbol.kind) (sym is) ∙ own)
      | inr n ↦ omega (arith, n.1)
    ],
    refl,
  );
}

-- another one goes
pub one_forgotten : (t t' : Table) (row : ℕ) (r : Row) → r ≡ get_or t.rows.items row r → row < length t.rows.items → r.symbol.kind ≢ Package
    → t'.rows.items ≡ slice_set t.rows.items row (undeclared r) → t'.below ≡ t.below → AreForgotten (row ∷ []) t t'
one_forgotten t t' row r is lt ne rows below = record {
  size = ap length rows ∙ length-set t.rows.items row (undeclared r);
  below = below;
  each = λ k d l. elim (cases_eq k row) [
    | inl e ↦
        let at : (x : Row) → get_or t.rows.items k x ≡ r = λ x. ap (λ i. get_or t.rows.items i x) e ∙ get_or_default t.rows.items row x r lt ∙ sym is in
        inl (
          record { listed = subst (Contains (row ∷ [])) (sym e) (contains_head row []); other = λ x q. ne (ap (λ (z : Row). z.symbol.kind) (sym (at x)) ∙ q) },
          ap (λ z. get_or z k d) rows ∙ ap (λ i. get_or (slice_set t.rows.items row (undeclared r)) i d) e ∙ get_or-set_same t.rows.items row (undeclared r) d lt ∙ ap undeclared (sym (at d)),
        )
    | inr n ↦ inr (
      λ g. elim (contains_cases row k [] g.listed) [ inl e ↦ n (sym e) | inr m ↦ omega (arith, m.1) ],
      ap (λ z. get_or z k d) rows ∙ get_or-set_other t.rows.items row k (undeclared r) d n,
    )
  ];
}

-- these, and then more
module _ (t u v : Table) (rows more : List ℕ) (first : AreForgotten rows t u) (second : AreForgotten more u v) where
  kind_same : (k : ℕ) (r : Row) → k < length t.rows.items → (get_or u.rows.items k r).symbol.kind ≡ (get_or t.rows.items k r).symbol.kind
  kind_same k r l = elim (first.each k r l) [ inl p ↦ ap (λ (z : Row). z.symbol.kind) p.1 | inr p ↦ ap (λ (z : Row). z.symbol.kind) p.1 ]

  abbrev all : List ℕ
  all = rows ++ more

  goes_before : (k : ℕ) → Goes rows t k → Goes all t k
  goes_before k g = record { listed = Contains-append_left rows more k g.listed; other = g.other }

  goes_now : (k : ℕ) → k < length t.rows.items → Goes more u k → Goes all t k
  goes_now k l g = record { listed = Contains-append_right rows more k g.listed; other = λ r e. g.other r (kind_same k r l ∙ e) }

  neither : (k : ℕ) → k < length t.rows.items → (Goes rows t k → ⊥) → (Goes more u k → ⊥) → Goes all t k → ⊥
  neither k l a b g = elim (Contains-append_cases rows more k g.listed) [
    | inl c ↦ a (record { listed = c; other = g.other })
    | inr c ↦ b (record { listed = c; other = λ r e. g.other r (sym (kind_same k r l) ∙ e) })
  ]

  each_more : (k : ℕ) (r : Row) → k < length t.rows.items → IsEither all t v k r
  each_more k r l = elim (second.each k r (omega (arith, l, first.size))) [
    | inl p ↦ elim (first.each k r l) [
      | inl q ↦ inl (goes_before k q.0, p.1 ∙ ap undeclared q.1)
      | inr q ↦ inl (goes_now k l p.0, p.1 ∙ ap undeclared q.1)
    ]
    | inr p ↦ elim (first.each k r l) [
      | inl q ↦ inl (goes_before k q.0, p.1 ∙ q.1)
      | inr q ↦ inr (neither k l q.0 p.0, p.1 ∙ q.1)
    ]
  ]

  pub forgotten_more : AreForgotten all t v
  forgotten_more = record { size = second.size ∙ first.size; below = second.below ∙ first.below; each = each_more }

-- ---- the symbols that are left

module _ (t t' : Table) (rows : List ℕ) (gone : AreForgotten rows t t') (ok : IsTable t) (within : (k : ℕ) → Contains rows k → k < length t.rows.items) where
  pub name_same : (k : ℕ) → k < length t.rows.items → get_or (names_of t') k [] ≡ get_or (names_of t) k []
  name_same k l =
      let d = pick t.rows.items k l in
      let e : (get_or t'.rows.items k d).name ≡ (get_or t.rows.items k d).name =
      elim (gone.each k d l) [ inl p ↦ ap (λ (z : Row). z.name) p.1 | inr p ↦ ap (λ (z : Row). z.name) p.1 ] in
      get_or-map (λ (z : Row). z.name) t'.rows.items k d [] (omega (arith, l, gone.size)) ∙ e ∙ sym (get_or-map (λ (z : Row). z.name) t.rows.items k d [] l)

  pub row_same : (k : ℕ) (d : Row) → k < length t.rows.items → (Goes rows t k → ⊥) → get_or t'.rows.items k d ≡ get_or t.rows.items k d
  row_same k d l stays = elim (gone.each k d l) [ inl p ↦ absurd (stays p.0) | inr p ↦ p.1 ]

  -- a row that goes has another name than one that stays
  apart : (k : ℕ) → k < length t.rows.items → (Goes rows t k → ⊥) → (j : ℕ) → Goes rows t j → get_or (names_of t) k [] ≡ get_or (names_of t) j [] → ⊥
  apart k l stays j g e =
      let n = length-map t.rows.items (λ (r : Row). r.name) in
      let lj = within j g.listed in
      stays (subst (Goes rows t) (sym (names_apart (names_of t) (aboves_of t) (look t) ok.forest k j (omega (arith, l, n)) (omega (arith, lj, n)) e)) g)

  pub index_left : (old rest : List Symbol) → IsIndexOf t old → AreLeft rows t old rest → IsIndexOf t' rest
  index_left old rest index left = record {
    plain = λ s c. index.plain s ((left s).0 c).0;
    row = λ s c.
        (let w = (left s).0 c in
        let o = index.row s w.0 in
        let stays : Goes rows t o.0 → ⊥ = λ g. w.1 o.0 g (sym o.2) in
        (o.0, omega (arith, o.1, gone.size), name_same o.0 o.1 ∙ o.2, λ d. (let e = row_same o.0 d o.1 stays in (ap (λ (z : Row). z.symbol.kind) e ∙ (o.3 d).0, subst (λ z. Contains (files_of z) s.file) (sym e) (o.3 d).1))));
    symbol = λ k f d lk c.
        (let l : k < length t.rows.items = omega (arith, lk, gone.size) in
        elim (gone.each k d l) [
          | inl p ↦ absurd (omega (arith, (subst (λ z. Contains (files_of z) f) p.1 c).1))
          | inr p ↦
              let o = index.symbol k f d l (subst (λ z. Contains (files_of z) f) p.1 c) in
              (o.0, (left o.0).1 (o.1, λ j g e. apart k l p.0 j g (sym o.2 ∙ e)), o.2 ∙ sym (name_same k l), o.3 ∙ ap (λ (z : Row). z.symbol.kind) (sym p.1), o.4)
        ]);
  }
