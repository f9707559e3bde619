-- The faults that stand at flaws, sorted.
use Rattle.std.proofs.Common.{◌≡◌, ◌↔◌, ℕ, ◌<◌, List, [], ◌∷◌, length, get_or, map, sym, ap, subst, ◌∙◌, arith, All, AllPairs, Contains}
use Rattle.proto_base.proofs.Common.{All-contains, Contains-get_or, contains_map, from_map}
use Rattle.proto_base.specs.declared.fault.Fault.{Fault}
use Rattle.proto_files.proofs.Common.{AreRead, ComesBefore, FaultAt, FileOf, ReadOf, fault_at, read_at}
use Rattle.proto_names_faults.specs.Common.{AreListed, AreLocated, Flaw, StandsAtFlaw}

-- where a fault stands is known by its flaw
one_place : (files : List FileOf) (reads : List ReadOf) → AreRead files reads → (w : Flaw) (x y : FaultAt) → w.file < length files → StandsAtFlaw files w x → StandsAtFlaw files w y → x ≡ y
one_place files reads are w x y l a b =
    let tokens = (read_at reads w.file).tokens in
    let lexed = are.tokens w.file l in
    let path = a.path ∙ sym b.path in
    let offset = a.offset tokens lexed ∙ sym (b.offset tokens lexed) in
    let kind = a.kind_is ∙ sym b.kind_is in
    λ i. record { path = path i; offset = offset i; kind = kind i }

pub listed_located : (files : List FileOf) (reads : List ReadOf) → AreRead files reads → (flaws : List Flaw) (faults sorted : List Fault) → All (λ w. w.file < length files) flaws → AreLocated files flaws faults
    → AllPairs ComesBefore (map fault_at sorted) → ((x : FaultAt) → Contains (map fault_at sorted) x ↔ Contains (map fault_at faults) x) → AreListed files flaws (map fault_at sorted)
listed_located files reads are flaws faults sorted within at rising same = record { rising = rising; same = λ x. (λ c. forth x ((same x).0 c), λ h. (same x).1 (back x h.0 h.1 h.2)) }
  where
    forth : (x : FaultAt) → Contains (map fault_at faults) x → (w : Flaw) × Contains flaws w × StandsAtFlaw files w x
    forth x c =
        let r = from_map fault_at faults x c in
        let k = r.1.0 in
        let lk : k < length faults = r.1.1 in
        let lw : k < length flaws = omega (arith, lk, at.count) in
        let w = one flaws k lw in
        (get_or flaws k w, Contains-get_or flaws k w lw, subst (StandsAtFlaw files (get_or flaws k w)) (ap fault_at r.1.2 ∙ r.2) (at.each k r.0 lk w))
      where
        one : (ws : List Flaw) (i : ℕ) → i < length ws → Flaw
        one [] i l = absurd (omega (arith, l))
        one (v ∷ ws) i l = v

    back : (x : FaultAt) (w : Flaw) → Contains flaws w → StandsAtFlaw files w x → Contains (map fault_at faults) x
    back x w c s =
        let k = c.0 in
        let lw : k < length flaws = c.1 in
        let lk : k < length faults = omega (arith, lw, at.count) in
        let d = first faults k lk in
        let stands : StandsAtFlaw files w (fault_at (get_or faults k d)) = subst (λ (v : Flaw). StandsAtFlaw files v (fault_at (get_or faults k d))) c.2 (at.each k d lk w) in
        subst (Contains (map fault_at faults)) (one_place files reads are w (fault_at (get_or faults k d)) x (All-contains (λ v. v.file < length files) flaws w within c) stands s)
        (contains_map fault_at faults (get_or faults k d) (Contains-get_or faults k d lk))
      where
        first : (xs : List Fault) (i : ℕ) → i < length xs → Fault
        first [] i l = absurd (omega (arith, l))
        first (v ∷ xs) i l = v
