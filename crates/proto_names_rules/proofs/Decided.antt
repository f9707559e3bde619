-- The tests of a collision and a capture, and that a collision is a fault of the edited names.
use Rattle.std.proofs.Common.{◌≡◌, ◌↔◌, ℕ, zero, suc, ◌<◌, ◌≤◌, Bool, true, ◌&&◌, not, ◌++◌, length, get_or, take, map, Option, Some, None, refl, sym, ◌∙◌, ap, subst, inl, inr, arith, nat_lt, AllPairs, true≢false, ltb-true, lt-ltb}
use Rattle.proto_base.proofs.Common.{list_any, cases_eq, cases_order, both_ways, and_parts, and_from, or_cases, or_left, or_right, not-true, not_from_false, get_or-map, length-map, get_or_default, any_from, any_to}
use Rattle.proto_names_rules.specs.Common.{Package, Symbol, Reference, Workspace, same_name, fits_at_first, hit, Renaming, ren, turned, moves, in_domain, rewritten, Collides, collides, collides_with, IsCaptured, is_captured, captured_from, any_above, shows_mapped, renamed, renamed_symbol, AreApart, IsLinked, IsRenaming}
use Rattle.proto_names_rules.proofs.Basics.{name_from_same, same_from_name}
use Rattle.proto_names_rules.proofs.Symbols.{package_out, stays}
use Rattle.proto_names_rules.proofs.Ren.{turn_below_outside}

any_above_to : (t : ℕ → Bool) (k n : ℕ) → any_above t k n ≡ true → (j : ℕ) × (k < j) × (j ≤ n) × (t j ≡ true)
any_above_to t k zero h = absurd (true≢false (sym h))
any_above_to t k (suc n) h = elim (or_cases (nat_lt k (suc n) && t (suc n)) (any_above t k n) h) [
  | inl here ↦ let p = and_parts (nat_lt k (suc n)) (t (suc n)) here in (suc n, ltb-true k (suc n) p.0, omega arith, p.1)
  | inr q ↦ let r = any_above_to t k n q in (r.0, r.1, omega (arith, r.2), r.3)
]

any_above_from : (t : ℕ → Bool) (k n j : ℕ) → k < j → j ≤ n → t j ≡ true → any_above t k n ≡ true
any_above_from t k zero j a b h = absurd (omega arith)
any_above_from t k (suc n) j a b h = elim (cases_eq j (suc n)) [
  | inl e ↦ let l : k < suc n = omega arith in or_left (nat_lt k (suc n) && t (suc n)) _ (and_from _ _ (lt-ltb k (suc n) l) (subst (λ i. t i ≡ true) e h))
  | inr ne ↦ or_right (nat_lt k (suc n) && t (suc n)) _ (any_above_from t k n j a (omega arith) h)
]

pub captured_is : (e : Renaming) (w : Workspace) (r : Reference) → (is_captured e w r ≡ true) ↔ IsCaptured e w r
captured_is e w r = (there (hit w r) refl, back)
  where
    test : ℕ → ℕ → Bool
    test k j = shows_mapped e w r.file (fits_at_first r.wants r.words) (ren e (take j r.scope) ++ take 1 (rewritten e (take k r.scope) r.words))

    there : (o : Option ℕ) → hit w r ≡ o → captured_from e w r (hit w r) ≡ true → IsCaptured e w r
    there None h q = absurd (true≢false (sym q ∙ ap (captured_from e w r) h))
    there (Some k) h q =
        let a = any_above_to (λ j. shows_mapped e w r.file (fits_at_first r.wants r.words) (ren e (take j r.scope) ++ take 1 (rewritten e (take k r.scope) r.words))) k (length r.scope) (ap (captured_from e w r) (sym h) ∙ q) in
        (k, a.0, h, a.1, a.2, a.3)

    back : IsCaptured e w r → captured_from e w r (hit w r) ≡ true
    back c = ap (captured_from e w r) c.2 ∙ any_above_from (λ j. shows_mapped e w r.file (fits_at_first r.wants r.words) (ren e (take j r.scope) ++ take 1 (rewritten e (take c.0 r.scope) r.words))) c.0 (length r.scope) c.1 c.3 c.4 c.5

pub collides_is : (e : Renaming) (w : Workspace) → (collides e w ≡ true) ↔ Collides e w
collides_is e w = (there, back)
  where
    there : collides e w ≡ true → Collides e w
    there h =
        let a = any_to (collides_with e w) w.symbols h in
        let p = and_parts (in_domain e a.0.name) (list_any (λ t. not (in_domain e t.name) && same_name (ren e a.0.name) t.name) w.symbols) a.2 in
        let b = any_to (λ t. not (in_domain e t.name) && same_name (ren e a.0.name) t.name) w.symbols p.1 in
        let q = and_parts (not (in_domain e b.0.name)) (same_name (ren e a.0.name) b.0.name) b.2 in
        (a.0, b.0, a.1, b.1, p.0, not-true (in_domain e b.0.name) q.0, name_from_same (ren e a.0.name) b.0.name q.1)

    back : Collides e w → collides e w ≡ true
    back c = any_from (collides_with e w) w.symbols c.0 c.2 (and_from _ _ c.4
        (any_from (λ t. not (in_domain e t.name) && same_name (ren e c.0.name) t.name) w.symbols c.1 c.3 (and_from _ _ (not_from_false (in_domain e c.1.name) c.5) (same_from_name (ren e c.0.name) c.1.name c.6))))

-- With a collision two symbols get one name.
pub collision_is_fault : (e : Renaming) (w : Workspace) → IsLinked w → IsRenaming e w → Collides e w → AllPairs AreApart (renamed e w).symbols → ⊥
collision_is_fault e w ok is c all =
    let s = c.0 in
    let t = c.1 in
    let es : get_or w.symbols c.2.0 s ≡ s = c.2.2 in
    let et : get_or w.symbols c.3.0 s ≡ t = get_or_default w.symbols c.3.0 s t c.3.1 ∙ c.3.2 in
    let one : ren e s.name ≡ ren e t.name = c.6 ∙ sym (turn_below_outside e.parent (turned e) (moves e) (stays e) t.name c.5) in
    elim (cases_order c.2.0 c.3.0) [
      | inl same ↦ both_ways (in_domain e t.name) c.5 (ap (λ z. in_domain e z.name) (sym et ∙ ap (λ i. get_or w.symbols i s) (sym same) ∙ es) ∙ c.4)
      | inr (inl below) ↦ both_ways (in_domain e s.name) (package_out e w ok is s c.2 (at c.2.0 c.3.0 s t s below c.2.1 c.3.1 es et one).0) c.4
      | inr (inr above) ↦ both_ways (in_domain e s.name) (package_out e w ok is s c.2 (at c.3.0 c.2.0 t s s above c.3.1 c.2.1 et es (sym one)).1) c.4
    ]
  where
    at : (i j : ℕ) (x y d : Symbol) → i < j → i < length w.symbols → j < length w.symbols → get_or w.symbols i d ≡ x → get_or w.symbols j d ≡ y → ren e x.name ≡ ren e y.name → (x.kind ≡ Package) × (y.kind ≡ Package)
    at i j x y d below li lj ex ey h =
        let ei = get_or-map (renamed_symbol e) w.symbols i d d li ∙ ap (renamed_symbol e) ex in
        let ej = get_or-map (renamed_symbol e) w.symbols j d d lj ∙ ap (renamed_symbol e) ey in
        let lj' : j < length (map (renamed_symbol e) w.symbols) = omega (arith, length-map w.symbols (renamed_symbol e), lj) in
        let r = all i j d below lj' (ap (λ z. z.name) ei ∙ h ∙ sym (ap (λ z. z.name) ej)) in
        (sym (ap (λ z. z.kind) ei) ∙ r.0, sym (ap (λ z. z.kind) ej) ∙ r.1)
