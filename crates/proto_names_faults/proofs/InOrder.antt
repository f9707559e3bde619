-- Faults that are sorted, each kept once.
use Rattle.std.proofs.Common.{◌≡◌, ◌↔◌, ◌<◌, Bool, true, List, [], ◌∷◌, length, map, get_or, refl, sym, ap, subst, ◌∙◌, arith, AllPairs, Contains, IsPermutation, IsSorted, is_eq}
use Rattle.proto_base.proofs.Common.{IsTotalOrder, dedup, IsStrictlySortedBy, eq_by_cmp_equiv, ordering_reverse, Ordering, Less, Equal, Greater, get_or-map, length-map, on_total, Any-dedup, Contains-from_dedup, IsStrictlySortedBy-dedup, Contains-permutation, IsPermutation-sym, contains_map, from_map}
use Rattle.std.proofs.lemmas.Map.Keys.{Less-from_sorted}
use Rattle.proto_base.specs.declared.fault.Fault.{Fault}
use Rattle.proto_files.specs.Common.{ComesBefore, FaultAt, fault_at, fault_cmp}
use Rattle.proto_files.proofs.OneLeast.{fault_cmp_total, neither_before}

-- how two faults compare
abbrev pub compares : Fault → Fault → Ordering
compares x y = fault_cmp (fault_at x) (fault_at y)

abbrev pub is_one : Fault → Fault → Bool
is_one x y = is_eq (compares x y)

total : IsTotalOrder compares
total = on_total fault_at fault_cmp_total

equal : (o : Ordering) → is_eq o ≡ true → o ≡ Equal
equal Less h = cc
equal Equal h = refl
equal Greater h = cc

no_less : Less ≡ Equal → ⊥
no_less e = cc

same_fault : (x y : Fault) → is_one x y ≡ true → fault_at x ≡ fault_at y
same_fault x y h =
    let e = equal (compares x y) h in
    neither_before (fault_at x) (fault_at y) (λ less. no_less (sym less ∙ e))
    (λ less. no_less (sym less ∙ fault_cmp_total.antisymm (fault_at y) (fault_at x) ∙ ap ordering_reverse e))

rises : (fs : List Fault) → IsStrictlySortedBy compares fs → AllPairs ComesBefore (map fault_at fs)
rises [] s i j d a b = absurd (omega (arith, b))
rises (f ∷ fs) s i j d a b =
    let n = length-map (f ∷ fs) fault_at in
    let last : j < length (f ∷ fs) = omega (arith, n, b) in
    let first : i < length (f ∷ fs) = omega (arith, a, last) in
    ap (λ (x : FaultAt). fault_cmp x (get_or (map fault_at (f ∷ fs)) j d)) (get_or-map fault_at (f ∷ fs) i f d first)
    ∙ ap (fault_cmp (fault_at (get_or (f ∷ fs) i f))) (get_or-map fault_at (f ∷ fs) j f d last)
    ∙ Less-from_sorted compares (f ∷ fs) i j f s a last

pub sorted_rise : (sorted : List Fault) → IsSorted compares sorted → AllPairs ComesBefore (map fault_at (dedup is_one sorted))
sorted_rise sorted ordered = rises (dedup is_one sorted) (IsStrictlySortedBy-dedup total (λ x y. refl) sorted ordered)

pub sorted_same : (all sorted : List Fault) → IsPermutation all sorted → (x : FaultAt) → Contains (map fault_at (dedup is_one sorted)) x ↔ Contains (map fault_at all) x
sorted_same all sorted moved x = (forth, back)
  where
    forth : Contains (map fault_at (dedup is_one sorted)) x → Contains (map fault_at all) x
    forth c =
        let r = from_map fault_at (dedup is_one sorted) x c in
        subst (Contains (map fault_at all)) r.2
        (contains_map fault_at all r.0 (Contains-permutation sorted all r.0 (IsPermutation-sym all sorted moved) (Contains-from_dedup is_one sorted r.0 r.1)))

    back : Contains (map fault_at all) x → Contains (map fault_at (dedup is_one sorted)) x
    back c =
        let r = from_map fault_at all x c in
        let kept = Any-dedup (eq_by_cmp_equiv total) sorted r.0 (Contains-permutation all sorted r.0 moved r.1) in
        subst (Contains (map fault_at (dedup is_one sorted))) (sym (same_fault r.0 kept.1 kept.4) ∙ r.2)
        (contains_map fault_at (dedup is_one sorted) kept.1 (kept.0, kept.2, kept.3))
