-- A search of as many steps as there are files finds all that is seen (for the crates above).
use Rattle.std.proofs.Common.{◌≡◌, ◌↔◌, ℕ, zero, suc, ◌<◌, ◌≤◌, true, false, ◌&&◌, eqb, List, [], ◌∷◌, length, refl, sym, ◌∙◌, subst, inl, inr, arith, ◌==◌, Contains, true≢false, eqb-true, eq-eqb}
use Rattle.proto_base.proofs.Common.{list_any, IsDistinct, AllByRecursion, cases_Bool, and_parts, and_from, or_cases, or_left, or_right, or_parts, any_from, any_to}
use Rattle.std.proofs.lemmas.Map.Steps.{length-le_from_distinct_below}
use Rattle.proto_names_rules.specs.Common.{Import, Workspace, Reaches, here, along, Sees, itself, by_import, reaches, sees, ImportsAreOfFiles}

-- no number stands twice
abbrev Apart : List ℕ → Type 0
Apart [] = Unit {0}
Apart (x ∷ xs) = (list_any (eqb x) xs ≡ false) × Apart xs

differs : (x : ℕ) (xs : List ℕ) → list_any (eqb x) xs ≡ false → AllByRecursion (λ y. eqb x y ≡ false) xs
differs x [] h = tt
differs x (y ∷ ys) h = let p = or_parts (eqb x y) (list_any (eqb x) ys) h in (p.0, differs x ys p.1)

distinct : (xs : List ℕ) → Apart xs → IsDistinct eqb xs
unfolding IsDistinct
distinct [] h = tt
distinct (x ∷ xs) h = (differs x xs h.0, distinct xs h.1)

-- from f over these files to g
abbrev Walks : List Import → ℕ → List ℕ → ℕ → Type 0
Walks a f [] g = f ≡ g
Walks a f (v ∷ vs) g = (i : Import) × Contains a i × (i.from ≡ f) × (i.is_public ≡ true) × (i.to ≡ v) × Walks a v vs g

walk_of : (a : List Import) {f g : ℕ} → Reaches a f g → (vs : List ℕ) × Walks a f vs g
walk_of a here = ([], refl)
walk_of a (along i c e p r) = let w = walk_of a r in (i.to ∷ w.0, (i, c, e, p, refl, w.1))

-- the rest of a walk from where it comes to f
cut : (a : List Import) (f g v : ℕ) (vs : List ℕ) → Walks a v vs g → Apart (v ∷ vs) → list_any (eqb f) (v ∷ vs) ≡ true → (us : List ℕ) × Walks a f us g × Apart (f ∷ us)
cut a f g v [] w d h = elim (or_cases (eqb f v) false h) [
  | inl e ↦ ([], eqb-true f v e ∙ w, subst (λ n. Apart (n ∷ [])) (sym (eqb-true f v e)) d)
  | inr q ↦ absurd (true≢false (sym q))
]
cut a f g v (u ∷ us) w d h = elim (or_cases (eqb f v) (list_any (eqb f) (u ∷ us)) h) [
  | inl e ↦ (u ∷ us, subst (λ n. Walks a n (u ∷ us) g) (sym (eqb-true f v e)) w, subst (λ n. Apart (n ∷ u ∷ us)) (sym (eqb-true f v e)) d)
  | inr q ↦ cut a f g u us w.5 d.1 q
]

simple : (a : List Import) (f g : ℕ) (vs : List ℕ) → Walks a f vs g → (us : List ℕ) × Walks a f us g × Apart (f ∷ us)
simple a f g [] w = ([], w, (refl, tt))
simple a f g (v ∷ vs) w =
    let r = simple a v g vs w.5 in
    elim (cases_Bool (list_any (eqb f) (v ∷ r.0))) [
      | inl again ↦ cut a f g v r.0 r.1 r.2 again
      | inr new ↦ (v ∷ r.0, (w.0, w.1, w.2, w.3, w.4, r.1), (new, r.2))
    ]

walk_reaches : (a : List Import) (n f g : ℕ) (vs : List ℕ) → Walks a f vs g → length vs ≤ n → reaches a n f g ≡ true
walk_reaches a zero f g [] w l = eq-eqb f g w
walk_reaches a (suc n) f g [] w l = or_left (f == g) _ (eq-eqb f g w)
walk_reaches a zero f g (v ∷ vs) w l = absurd (omega (arith, l))
walk_reaches a (suc n) f g (v ∷ vs) w l =
    or_right (f == g) _ (any_from (λ i. (i.from == f) && i.is_public && reaches a n i.to g) a w.0 w.1
    (and_from _ _ (and_from _ _ (eq-eqb w.0.from f w.2) w.3) (walk_reaches a n w.0.to g vs (subst (λ x. Walks a x vs g) (sym w.4) w.5) (omega (arith, l)))))

all_below : (a : List Import) (n : ℕ) → ((i : Import) → Contains a i → i.to < n) → (f g : ℕ) (vs : List ℕ) → Walks a f vs g → f < n → (q : ℕ) → list_any (eqb q) (f ∷ vs) ≡ true → q < n
all_below a n ok f g [] w l q h = elim (or_cases (eqb q f) false h) [ inl e ↦ subst (λ x. x < n) (sym (eqb-true q f e)) l | inr z ↦ absurd (true≢false (sym z)) ]
all_below a n ok f g (v ∷ vs) w l q h = elim (or_cases (eqb q f) (list_any (eqb q) (v ∷ vs)) h) [
  | inl e ↦ subst (λ x. x < n) (sym (eqb-true q f e)) l
  | inr z ↦ all_below a n ok v g vs w.5 (subst (λ x. x < n) w.4 (ok w.0 w.1)) q z
]

pub reaches_all : (a : List Import) (n : ℕ) → ((i : Import) → Contains a i → i.to < n) → (f g : ℕ) → f < n → Reaches a f g → reaches a n f g ≡ true
reaches_all a n ok f g l r =
    let w = walk_of a r in
    let s = simple a f g w.0 w.1 in
    let b = length-le_from_distinct_below (f ∷ s.0) n (distinct (f ∷ s.0) s.2) (all_below a n ok f g s.0 s.1 l) in
    walk_reaches a n f g s.0 s.1 (omega (arith, b))

pub reaches_only : (a : List Import) (n f g : ℕ) → reaches a n f g ≡ true → Reaches a f g
reaches_only a zero f g h = subst (Reaches a f) (eqb-true f g h) here
reaches_only a (suc n) f g h = elim (or_cases (f == g) (list_any (λ i. (i.from == f) && i.is_public && reaches a n i.to g) a) h) [
  | inl same ↦ subst (Reaches a f) (eqb-true f g same) here
  | inr q ↦
      let x = any_to (λ i. (i.from == f) && i.is_public && reaches a n i.to g) a q in
      let p = and_parts ((x.0.from == f) && x.0.is_public) (reaches a n x.0.to g) x.2 in
      let p' = and_parts (x.0.from == f) x.0.is_public p.0 in
      along x.0 x.1 (eqb-true x.0.from f p'.0) p'.1 (reaches_only a n x.0.to g p.1)
]

sees_all : (w : Workspace) → ImportsAreOfFiles w → {f g : ℕ} → Sees w.imports f g → sees w f g ≡ true
sees_all w ok {f} itself = or_left (f == f) _ (eq-eqb f f refl)
sees_all w ok {f} {g} (by_import i c e r) =
    or_right (f == g) _ (any_from (λ i. (i.from == f) && reaches w.imports w.files i.to g) w.imports i c
    (and_from _ _ (eq-eqb i.from f e) (reaches_all w.imports w.files (λ j d. (ok j d).1) i.to g (ok i c).1 r)))

pub sees_is : (w : Workspace) → ImportsAreOfFiles w → (f g : ℕ) → (sees w f g ≡ true) ↔ Sees w.imports f g
sees_is w ok f g = (only, λ s. sees_all w ok s)
  where
    only : sees w f g ≡ true → Sees w.imports f g
    only h = elim (or_cases (f == g) (list_any (λ i. (i.from == f) && reaches w.imports w.files i.to g) w.imports) h) [
      | inl same ↦ subst (Sees w.imports f) (eqb-true f g same) itself
      | inr q ↦
          let x = any_to (λ i. (i.from == f) && reaches w.imports w.files i.to g) w.imports q in
          let p = and_parts (x.0.from == f) (reaches w.imports w.files x.0.to g) x.2 in
          by_import x.0 x.1 (eqb-true x.0.from f p.0) (reaches_only w.imports w.files x.0.to g p.1)
    ]
