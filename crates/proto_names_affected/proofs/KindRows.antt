-- Rows and their kinds, one pair more.
use Rattle.std.proofs.Common.{◌≡◌, ◌⊎◌, ℕ, ◌+◌, ◌<◌, cond, List, [], ◌∷◌, ◌++◌, length, get_or, map, take, nat_eq, Option, Some, sym, ◌∙◌, ap, subst, inl, inr, arith, All}
use Rattle.std.specs.List.{Contains, list_any}
use Rattle.std.proofs.lemmas.Bool.{cases_Bool, cond-false, cond-true, eqb-true}
use Rattle.std.proofs.lemmas.List.{map_push, take_more}
use Rattle.std.proofs.lemmas.List.Elements.{All-nil, All-push, All-weaker, Contains-append_cases, Contains-append_left, Contains-push}
use Rattle.indexmap.specs.IndexSet.{insert_key}
use Rattle.proto_base.proofs.Common.{contains_cases}
use Rattle.proto_names_affected.specs.KindRows.{AreAmongOr}
use Rattle.proto_names_affected.specs.declared.kind_rows.KindRow.{KindRow}
use Rattle.proto_names_rules.specs.declared.kind.Kind.{Kind}

-- ---- the first elements of a list, and the next

module _ {X : Type 0} (xs : List X) (i : ℕ) (d x : X) (l : i < length xs) (is : x ≡ get_or xs i d) where
  one_more : take (i + 1) xs ≡ take i xs ++ x ∷ []
  one_more = take_more xs i d l ∙ ap (λ y. take i xs ++ y ∷ []) (sym is)

  pub still_there : (y : X) → Contains (take i xs) y → Contains (take (i + 1) xs) y
  still_there y there = subst (λ zs. Contains zs y) (sym one_more) (Contains-append_left (take i xs) (x ∷ []) y there)

  pub last_there : Contains (take (i + 1) xs) x
  last_there = subst (λ zs. Contains zs x) (sym one_more) (Contains-push (take i xs) x)

  pub there_cases : (y : X) → Contains (take (i + 1) xs) y → Contains (take i xs) y ⊎ (x ≡ y)
  there_cases y there = elim (Contains-append_cases (take i xs) (x ∷ []) y (subst (λ zs. Contains zs y) one_more there)) [
    | inl a ↦ inl a
    | inr b ↦ elim (contains_cases x y [] b) [
      | inl e ↦ inr e
      | inr none ↦ absurd (omega (arith, none.1))
    ]
  ]

-- ---- kinds by their rows

pub kinds_more : (pairs : List KindRow) (i : ℕ) (d p : KindRow) → i < length pairs → p ≡ get_or pairs i d → (old new : ℕ → Option Kind) → ((q : ℕ) → new q ≡ cond (nat_eq p.row q) (Some p.kind) (old q))
    → ((row : ℕ) (kind : Kind) → old row ≡ Some kind → Contains (take i pairs) (record { row = row; kind = kind }))
    → (row : ℕ) (kind : Kind) → new row ≡ Some kind → Contains (take (i + 1) pairs) (record { row = row; kind = kind })
kinds_more pairs i d p l is old new updates was row kind h = elim (cases_Bool (nat_eq p.row row)) [
  | inl it ↦
      let some : Some p.kind ≡ Some kind = sym (cond-true (nat_eq p.row row) (Some p.kind) (old row) it) ∙ sym (updates row) ∙ h in
      let same_kind : p.kind ≡ kind = cc in
      let same_row : p.row ≡ row = eqb-true p.row row it in
      let same : p ≡ record { row = row; kind = kind } = λ j. record { row = same_row j; kind = same_kind j } in
      subst (Contains (take (i + 1) pairs)) same (last_there pairs i d p l is)
  | inr other ↦ still_there pairs i d p l is (record { row = row; kind = kind }) (was row kind (sym (cond-false (nat_eq p.row row) (Some p.kind) (old row) other) ∙ sym (updates row) ∙ h))
]

-- ---- rows that are not among others

pub among_none : (other : List KindRow) → AreAmongOr [] other []
among_none other = record { each = λ p there. absurd (omega (arith, there.1)); only = All-nil (λ row. Contains [] row) }

pub among_more : (one other : List KindRow) (i : ℕ) (d p : KindRow) → i < length one → p ≡ get_or one i d → (old new : List ℕ) → (Contains other p × (new ≡ old)) ⊎ (new ≡ old ++ p.row ∷ []) → AreAmongOr (take i one) other old → AreAmongOr (take (i + 1) one) other new
among_more one other i d p l is old new has h = record {
  each = λ q there. elim (there_cases one i d p l is q there) [
    | inl before ↦ elim (h.each q before) [
      | inl among ↦ inl among
      | inr named ↦ inr (kept q.row named)
    ]
    | inr e ↦ subst (λ (z : KindRow). Contains other z ⊎ Contains new z.row) e own
  ];
  only = only_more;
}
  where
    kept : (row : ℕ) → Contains old row → Contains new row
    kept row named = elim has [
      | inl a ↦ subst (λ (rs : List ℕ). Contains rs row) (sym a.1) named
      | inr e ↦ subst (λ (rs : List ℕ). Contains rs row) (sym e) (Contains-append_left old (p.row ∷ []) row named)
    ]

    own : Contains other p ⊎ Contains new p.row
    own = elim has [
      | inl a ↦ inl a.0
      | inr e ↦ inr (subst (λ (rs : List ℕ). Contains rs p.row) (sym e) (Contains-push old p.row))
    ]

    rows_more : map (λ (z : KindRow). z.row) (take (i + 1) one) ≡ map (λ (z : KindRow). z.row) (take i one) ++ p.row ∷ []
    rows_more = ap (map (λ (z : KindRow). z.row)) (one_more one i d p l is) ∙ map_push (λ (z : KindRow). z.row) (take i one) p

    wider : All (λ row. Contains (map (λ (z : KindRow). z.row) (take (i + 1) one)) row) old
    wider = All-weaker (λ row. Contains (map (λ (z : KindRow). z.row) (take i one)) row) (λ row. Contains (map (λ (z : KindRow). z.row) (take (i + 1) one)) row)
        (λ row named. subst (λ (rs : List ℕ). Contains rs row) (sym rows_more) (Contains-append_left (map (λ (z : KindRow). z.row) (take i one)) (p.row ∷ []) row named)) old h.only

    only_more : All (λ row. Contains (map (λ (z : KindRow). z.row) (take (i + 1) one)) row) new
    only_more = elim has [
      | inl a ↦ subst (λ (rs : List ℕ). All (λ row. Contains (map (λ (z : KindRow). z.row) (take (i + 1) one)) row) rs) (sym a.1) wider
      | inr e ↦ subst (λ (rs : List ℕ). All (λ row. Contains (map (λ (z : KindRow). z.row) (take (i + 1) one)) row) rs) (sym e)
          (All-push (λ row. Contains (map (λ (z : KindRow). z.row) (take (i + 1) one)) row) old p.row wider
          (subst (λ (rs : List ℕ). Contains rs p.row) (sym rows_more) (Contains-push (map (λ (z : KindRow). z.row) (take i one)) p.row)))
    ]

-- ---- keys that stay

pub key_stays : (ks : List ℕ) (k x : ℕ) → Contains ks x → Contains (insert_key nat_eq ks k) x
key_stays ks k x there = elim (cases_Bool (list_any (nat_eq k) ks)) [
  | inl it ↦ subst (λ (zs : List ℕ). Contains zs x) (sym (cond-true (list_any (nat_eq k) ks) ks (ks ++ k ∷ []) it)) there
  | inr other ↦ subst (λ (zs : List ℕ). Contains zs x) (sym (cond-false (list_any (nat_eq k) ks) ks (ks ++ k ∷ []) other)) (Contains-append_left ks (k ∷ []) x there)
]
