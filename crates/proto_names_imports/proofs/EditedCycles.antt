-- Imports that close no cycle once those of some files are edited (for the crates above).
use Rattle.std.proofs.Common.{◌≡◌, ℕ, List, [], get_or, length, refl, sym, subst, arith, All, Contains}
use Rattle.proto_base.proofs.Common.{All-contains}
use Rattle.proto_names_rules.specs.Cycles.{IsAcyclic}
use Rattle.proto_names_rules.proofs.Common.{Import, Leads, onward, stop}
use Rattle.proto_names_imports.specs.Common.{all_imports, FileImport, LeadsToItself}
use Rattle.proto_names_imports.proofs.ImportGraph.{import_in, import_of_file, lead_join}

-- an import of a file that has the imports that it had is one of those before
import_before : (before now : List (List FileImport)) (file : ℕ) (i : Import) → get_or before file [] ≡ get_or now file [] → Contains (all_imports 0 now) i → i.from ≡ file → Contains (all_imports 0 before) i
import_before before now file i same c e =
    let r = import_in 0 now i c in
    let k : r.0 ≡ file = let q = r.2 in omega (arith, q, e) in
    let own : get_or now r.0 [] ≡ get_or before r.0 [] = subst (λ z. get_or now z [] ≡ get_or before z []) (sym k) (sym same) in
    subst (Contains (all_imports 0 before)) r.3.2 (import_of_file 0 r.0 before r.3.0 (subst (λ z. Contains z r.3.0) own r.3.1))

-- a cycle that meets no edited file was there before; one that meets an edited file makes it lead to itself
pub edited_acyclic : (before now : List (List FileImport)) (places : List ℕ) → length before ≡ length now → ((file : ℕ) → (Contains places file → ⊥) → get_or before file [] ≡ get_or now file []) → IsAcyclic (all_imports 0 before)
    → All (λ place. LeadsToItself (all_imports 0 now) place → ⊥) places → IsAcyclic (all_imports 0 now)
edited_acyclic before now places count same acyclic none i c leads = acyclic i (there i.from i c refl leads) (go leads stop)
  where
    there : (file : ℕ) (j : Import) → Contains (all_imports 0 now) j → j.from ≡ file → Leads (all_imports 0 now) j.to file → Contains (all_imports 0 before) j
    there file j d e l = import_before before now file j (same file (λ edited. All-contains (λ place. LeadsToItself (all_imports 0 now) place → ⊥) places file none edited (j, d, e, l))) d e

    go : {file : ℕ} → Leads (all_imports 0 now) file i.from → Leads (all_imports 0 now) i.to file → Leads (all_imports 0 before) file i.from
    go stop back = stop
    go {file} (onward j d e l) back =
        let around = lead_join (all_imports 0 now) l (onward i c refl back) in
        let on = lead_join (all_imports 0 now) back (onward j d e stop) in
        onward j (there file j d e around) e (go l on)
