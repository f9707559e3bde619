-- The files to which imports lead, as marks of a walk, and files that lead to themselves.
use Rattle.std.proofs.Common.{◌≡◌, ◌↔◌, ℕ, ◌+◌, ◌<◌, Bool, List, [], get_or, length, map, refl, sym, ◌∙◌, ap, subst, arith, Contains}
use Rattle.proto_base.proofs.Common.{contains_map, from_map, get_or-map}
use Rattle.proto_names_rules.proofs.Common.{Import, Leads, onward, stop}
use Rattle.proto_names_imports.specs.Common.{all_imports, import_from, FileImport, IsMarked, LeadsToItself, Walks, goes, stays}
use Rattle.proto_names_imports.proofs.ImportGraph.{IsGraph, graph_of, import_in, import_of_file, targets_twice}
use Rattle.proto_names_imports.proofs.Walks.{IsPart, part_whole}

-- walks along the imports of files are chains of imports
module _ (next : List (List ℕ)) (imports : List Import) (graph : IsGraph next imports) where
  walk_leads : {f g : ℕ} → Walks next f g → Leads imports f g
  walk_leads stays = stop
  walk_leads {f} {g} (goes h c w) = let i = (graph f h).0 c in onward i.0 i.1 i.2 (subst (λ z. Leads imports z g) (sym i.3) (walk_leads w))

  lead_walks : {f g : ℕ} → Leads imports f g → Walks next f g
  lead_walks stop = stays
  lead_walks {f} {g} (onward i c e l) = goes i.to ((graph f i.to).1 (i, c, e, refl)) (lead_walks l)

-- one of these imports is of a file that leads to this one
abbrev pub AreLeading : List (List FileImport) → List FileImport → ℕ → Type 0
AreLeading is firsts g = (i : FileImport) × Contains firsts i × Leads (all_imports 0 is) i.to g

-- the marks of a walk along all imports, from those that some imports name
pub marks_led_to : {X : Type 0} (f : X → List FileImport) (xs : List X) (firsts : List FileImport) (seen : List Bool) → IsPart (map (λ v. map (λ i. i.to) (f v)) xs) (map (λ i. i.to) firsts) seen [] → (g : ℕ) → IsMarked seen g ↔ AreLeading (map f xs) firsts g
marks_led_to f xs firsts seen p g = (
  λ m. (
      let r = whole.0 m in
      let i = from_map (λ i. i.to) firsts r.0 r.1 in
      (i.0, i.1, subst (λ z. Leads (all_imports 0 is) z g) (sym i.2) (walk_leads next (all_imports 0 is) graph r.2))),
  λ d. whole.1 (d.0.to, contains_map (λ i. i.to) firsts d.0 d.1, lead_walks next (all_imports 0 is) graph d.2),
)
  where
    is : List (List FileImport)
    is = map f xs

    next : List (List ℕ)
    next = map (λ v. map (λ i. i.to) (f v)) xs

    graph : IsGraph next (all_imports 0 is)
    graph = subst (λ z. IsGraph z (all_imports 0 is)) (sym (targets_twice f xs)) (graph_of is)

    whole : IsMarked seen g ↔ ((s : ℕ) × Contains (map (λ i. i.to) firsts) s × Walks next s g)
    whole = part_whole next (map (λ i. i.to) firsts) seen p g

-- what the imports of one file lead to, said of all imports
pub own_lead : (is : List (List FileImport)) (place g : ℕ) → AreLeading is (get_or is place []) g ↔ ((i : Import) × Contains (all_imports 0 is) i × (i.from ≡ place) × Leads (all_imports 0 is) i.to g)
own_lead is place g = (
  λ d. (
      let z : 0 + place ≡ place = omega arith in
      (import_from (0 + place) d.0, import_of_file 0 place is d.0 d.1, z, d.2)),
  λ d. (
      let r = import_in 0 is d.0 d.1 in
      let k : r.0 ≡ place = let q = r.2 in let p = d.2 in omega (arith, p, q) in
      let t : r.3.0.to ≡ d.0.to = ap (λ j. j.to) r.3.2 in
      (r.3.0, subst (λ z. Contains (get_or is z []) r.3.0) k r.3.1, subst (λ z. Leads (all_imports 0 is) z g) (sym t) d.3)),
)

-- the marks of what the imports of a file lead to tell whether it leads to itself
pub tells_itself : {X : Type 0} (f : X → List FileImport) (xs : List X) (place : ℕ) (d : X) (own : List FileImport) (seen : List Bool) → place < length xs → own ≡ f (get_or xs place d) → ((g : ℕ) → IsMarked seen g ↔ AreLeading (map f xs) own g)
    → IsMarked seen place ↔ LeadsToItself (all_imports 0 (map f xs)) place
tells_itself f xs place d own seen l is marks =
    let one = is ∙ sym (get_or-map f xs place d [] l) in
    let lead = own_lead (map f xs) place place in
    let told = subst (λ z. IsMarked seen place ↔ AreLeading (map f xs) z place) one (marks place) in
    (λ m. lead.0 (told.0 m), λ itself. told.1 (lead.1 itself))
