-- The first import on a cycle, by walks back from each file.
use Rattle.std.proofs.Common.{◌≡◌, ◌↔◌, ℕ, ◌+◌, ◌<◌, ◌≤◌, Bool, true, false, List, [], length, get_or, map, Option, Some, None, refl, sym, ◌∙◌, ap, subst, inl, inr, arith, string_bytes, Contains, true≢false}
use Rattle.proto_base.proofs.Common.{option_map_or, cases_lt, get_or_default, from_map, contains_map}
use Rattle.proto_names_rules.proofs.Common.{Import, Leads, stop, onward, Fault, fault, IsLeast, AskedImport, file_with_path, imports_of, at}
use Rattle.proto_names_imports.specs.Common.{Walks, stays, goes, IsMarked, asked_by, all_asked, TokensAreRising, AreImporters, CycleFault, cycle, MarkedFault, WrittenImport}
use Rattle.proto_names_imports.proofs.ImportGraph.{lead_join}
use Rattle.proto_names_imports.proofs.Walks.{walk_on}
use Rattle.proto_names_imports.proofs.PathFaults.{Stands, least_at}
use Rattle.proto_names_imports.proofs.FilesAsked.{asked_in, asked_of, first_here, none_more}

-- chains of imports are walks back
pub walk_back : (back : List (List ℕ)) (imports : List Import) → AreImporters back imports → {t f : ℕ} → Leads imports t f → Walks back f t
walk_back back imports ok stop = stays
walk_back back imports ok {t} (onward i c e l) = walk_on back (walk_back back imports ok l) ((ok t i.to).1 (i, c, e, refl))

pub lead_back : (back : List (List ℕ)) (imports : List Import) → AreImporters back imports → {t f : ℕ} → Walks back f t → Leads imports t f
lead_back back imports ok stays = stop
lead_back back imports ok {t} {f} (goes h c w) =
    let r = (ok h f).0 c in
    let m = lead_back back imports ok w in
    lead_join imports m (onward r.0 r.1 r.2 (subst (Leads imports r.0.to) r.3 stop))

marked_from : (marked : List Bool) (o : Option ℕ) → option_map_or (λ to. get_or marked to false) o false ≡ true → (to : ℕ) × (o ≡ Some to) × IsMarked marked to
marked_from marked None h = absurd (true≢false (sym h))
marked_from marked (Some to) h = (to, refl, h)

-- the first import of a file that names a marked file
pub marked_least : (look : WrittenImport → Option ℕ) (paths : List (List ℕ)) (marked : List Bool) (file : ℕ) (ws : List WrittenImport) (i : ℕ) (d : WrittenImport) → ((w : WrittenImport) → look w ≡ file_with_path paths (string_bytes w.path)) → TokensAreRising ws → i < length ws
    → ((k : ℕ) (e : WrittenImport) → k < i → option_map_or (λ to. get_or marked to false) (look (get_or ws k e)) false ≡ false) → option_map_or (λ to. get_or marked to false) (look (get_or ws i d)) false ≡ true
    → IsLeast (MarkedFault paths marked file ws) (fault (at file (get_or ws i d).token) 12)
marked_least look paths marked file ws i d same rising l before here =
    least_at (MarkedFault paths marked file ws) file ws i 12 d rising l says later
  where
    says : MarkedFault paths marked file ws (fault (at file (get_or ws i d).token) 12)
    says =
        let m = marked_from marked (look (get_or ws i d)) here in
        (get_or ws i d, (i, l, get_or_default ws i (get_or ws i d) d l), (m.0, sym (same (get_or ws i d)) ∙ m.1, m.2), refl)

    later : (g : Fault) → MarkedFault paths marked file ws g → (j : ℕ) × Stands file ws g j × (i ≤ j) × (i ≡ j → 12 ≤ g.number)
    later g s =
        let j = s.1.0 in
        let lj = s.1.1 in
        let there = λ (e : WrittenImport). get_or_default ws j e s.0 lj ∙ s.1.2 in
        elim (cases_lt j i) [
          | inl less ↦
              let named : look (get_or ws j s.0) ≡ Some s.2.0 = ap look s.1.2 ∙ same s.0 ∙ s.2.1 in
              let yes : option_map_or (λ to. get_or marked to false) (look (get_or ws j s.0)) false ≡ true = ap (λ o. option_map_or (λ to. get_or marked to false) o false) named ∙ s.2.2 in
              absurd (true≢false (sym yes ∙ before j s.0 less))
          | inr more ↦ (j, record { within = lj; place = λ e. ap (λ z. z.place) s.3 ∙ ap (λ w. at file w.token) (sym (there e)) }, more, λ e. let n : g.number ≡ 12 = ap (λ z. z.number) s.3 in omega (arith, n))
        ]

-- an import on a cycle names a file from which its own is reached
marked_here : (paths : List (List ℕ)) (marked : List Bool) (k to : ℕ) (ws : List WrittenImport) (a : AskedImport) (w : WrittenImport) → Contains ws w → asked_by k w ≡ a → file_with_path paths a.path ≡ Some to → IsMarked marked to → MarkedFault paths marked k ws (fault a.place 12)
marked_here paths marked k to ws a w c e n m = (w, c, (to, ap (λ x. file_with_path paths x.path) e ∙ n, m), ap (λ x. fault x.place 12) (sym e))

cycle_here : (paths : List (List ℕ)) (fs : List (List WrittenImport)) (marked : List Bool) (k : ℕ) → ((to : ℕ) → Leads (imports_of paths (all_asked 0 fs)) to k → IsMarked marked to) → {g : Fault} → CycleFault paths (all_asked 0 fs) g → g.place.file ≡ k → MarkedFault paths marked k (get_or fs k []) g
cycle_here paths fs marked k marks (cycle a to c n l) e =
    let r = asked_in 0 fs a c in
    let z : r.0 ≡ k = let q = r.2 in omega (arith, q, e) in
    let z' : 0 + r.0 ≡ k = omega (arith, z) in
    let w = from_map (asked_by k) (get_or fs k []) a (subst (λ m. Contains (map (asked_by k) (get_or fs m [])) a) z (subst (λ m. Contains (map (asked_by m) (get_or fs r.0 [])) a) z' r.3)) in
    marked_here paths marked k to (get_or fs k []) a w.0 w.1 w.2 n (marks to (subst (Leads (imports_of paths (all_asked 0 fs)) to) e l))

cycle_of : (paths : List (List ℕ)) (fs : List (List WrittenImport)) (marked : List Bool) (k : ℕ) → k < length fs → ((to : ℕ) → IsMarked marked to → Leads (imports_of paths (all_asked 0 fs)) to k) → (g : Fault) → MarkedFault paths marked k (get_or fs k []) g → CycleFault paths (all_asked 0 fs) g × (g.place.file ≡ k)
cycle_of paths fs marked k l marks g s =
    let z : k ≡ 0 + k = omega arith in
    let c = asked_of 0 k fs (asked_by k s.0) l (subst (λ m. Contains (map (asked_by m) (get_or fs k [])) (asked_by k s.0)) z (contains_map (asked_by k) (get_or fs k []) s.0 s.1)) in
    (subst (CycleFault paths (all_asked 0 fs)) (sym s.3) (cycle (asked_by k s.0) s.2.0 c s.2.1 (marks s.2.0 s.2.2)), ap (λ x. x.place.file) s.3)

-- the marks of a walk back from a file
abbrev pub MarksBack : List (List ℕ) → ℕ → List Bool → Type 0
MarksBack back k marked = (g : ℕ) → IsMarked marked g ↔ Walks back k g

pub cycle_some : (paths : List (List ℕ)) (fs : List (List WrittenImport)) (back : List (List ℕ)) (marked : List Bool) (k : ℕ) (f : Fault) → AreImporters back (imports_of paths (all_asked 0 fs)) → MarksBack back k marked → k < length fs
    → ((g : Fault) → CycleFault paths (all_asked 0 fs) g → g.place.file < k → ⊥) → IsLeast (MarkedFault paths marked k (get_or fs k [])) f → IsLeast (CycleFault paths (all_asked 0 fs)) f
cycle_some paths fs back marked k f ok marks l none least =
    first_here (CycleFault paths (all_asked 0 fs)) (MarkedFault paths marked k (get_or fs k [])) k f none
    (λ g s e. cycle_here paths fs marked k (λ to m. (marks to).1 (walk_back back (imports_of paths (all_asked 0 fs)) ok m)) s e)
    (cycle_of paths fs marked k l (λ to m. lead_back back (imports_of paths (all_asked 0 fs)) ok ((marks to).0 m)) f least.holds) least

pub cycle_more : (paths : List (List ℕ)) (fs : List (List WrittenImport)) (back : List (List ℕ)) (marked : List Bool) (k : ℕ) → AreImporters back (imports_of paths (all_asked 0 fs)) → MarksBack back k marked
    → ((g : Fault) → CycleFault paths (all_asked 0 fs) g → g.place.file < k → ⊥) → ((g : Fault) → MarkedFault paths marked k (get_or fs k []) g → ⊥) → (g : Fault) → CycleFault paths (all_asked 0 fs) g → g.place.file < k + 1 → ⊥
cycle_more paths fs back marked k ok marks none here =
    none_more (CycleFault paths (all_asked 0 fs)) (MarkedFault paths marked k (get_or fs k [])) k none
    (λ g s e. cycle_here paths fs marked k (λ to m. (marks to).1 (walk_back back (imports_of paths (all_asked 0 fs)) ok m)) s e) here

pub cycle_within : (paths : List (List ℕ)) (fs : List (List WrittenImport)) {g : Fault} → CycleFault paths (all_asked 0 fs) g → g.place.file < length fs
cycle_within paths fs (cycle a to c n l) = let r = asked_in 0 fs a c in omega (arith, r.1, r.2)
