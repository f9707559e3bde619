-- The files that lead to a file are those that a walk back along imports reaches.
use Rattle.std.proofs.Common.{◌≡◌, ◌↔◌, ℕ, ◌<◌, List, Bool, get_or, length, map, refl, sym, ap, subst, ◌∙◌, All}
use Rattle.proto_base.proofs.Common.{length-map}
use Rattle.proto_base.specs.GivenFiles.{FileOf, paths_of}
use Rattle.proto_files.specs.FilesRead.{ReadOf}
use Rattle.proto_names.specs.LinkOfFiles.{IsLinkRead}
use Rattle.proto_names.specs.Linking.{LinkOf}
use Rattle.proto_names_imports.proofs.ImportGraph.{IsGraph, importers_of, lead_join, resolved_within}
use Rattle.proto_names_imports.proofs.Walks.{walk_on}
use Rattle.proto_names_imports.specs.ImportSteps.{AreImporters, AreTurned}
use Rattle.proto_names_imports.specs.Importing.{all_imports}
use Rattle.proto_names_imports.specs.Links.{all_wanted, text_of}
use Rattle.proto_names_imports.specs.Walks.{IsMarked, Walks, goes, stays}
use Rattle.proto_names_imports.specs.declared.import.FileImport.{FileImport}
use Rattle.proto_names_rules.proofs.Common.{Import, Leads, onward, stop}

walk_back : (back : List (List ℕ)) (imports : List Import) → AreImporters back imports → {t f : ℕ} → Leads imports t f → Walks back f t
walk_back back imports ok stop = stays
walk_back back imports ok {t} (onward i c e l) = walk_on back (walk_back back imports ok l) ((ok t i.to).1 (i, c, e, refl))

lead_back : (back : List (List ℕ)) (imports : List Import) → AreImporters back imports → {t f : ℕ} → Walks back f t → Leads imports t f
lead_back back imports ok stays = stop
lead_back back imports ok {t} {f} (goes h c w) =
    let r = (ok h f).0 c in
    lead_join imports (lead_back back imports ok w) (onward r.0 r.1 r.2 (subst (Leads imports r.0.to) r.3 stop))

-- what a walk along lists that are turned round marks
pub marks_leading : (next back : List (List ℕ)) (imports : List Import) → IsGraph next imports → AreTurned next back → (file : ℕ) (seen : List Bool)
    → ((g : ℕ) → IsMarked seen g ↔ Walks back file g) → (from : ℕ) → IsMarked seen from ↔ Leads imports from file
marks_leading next back imports graph turned file seen marks from =
    let ok = importers_of next back imports graph turned in (
      λ m. lead_back back imports ok ((marks from).0 m),
      λ h. (marks from).1 (walk_back back imports ok h),
    )

-- one of lists whose numbers are all below a number
pub list_within : {X : Type 0} (view : X → List ℕ) (n m : ℕ) (xs : List X) (i : ℕ) (x : X) (seen : List ℕ) → i < length xs → x ≡ get_or xs i x → seen ≡ view x → n ≡ m → All (λ v. All (λ g. g < n) (view v)) xs → All (λ g. g < m) seen
list_within view n m xs i x seen lt is e same h = subst (λ k. All (λ g. g < k) seen) same (subst (All (λ g. g < n)) (ap view (sym is) ∙ sym e) (h i x lt))

-- the imports of a link name its files
pub link_within : {X : Type 0} (view : X → List FileImport) (files : List FileOf) (reads : List ReadOf) (l : LinkOf) → IsLinkRead files reads l → (imports : List X) → map view imports ≡ l.imports → All (λ v. All (λ i. i.to < length imports) (view v)) imports
link_within view files reads l link imports same =
    let count : length (paths_of files) ≡ length imports = length-map files (λ f. f.path) ∙ sym link.imported ∙ ap length (sym same) ∙ length-map imports view in
    resolved_within view imports (paths_of files) (all_wanted (text_of files reads) 0 reads) (length imports) count (ap (all_imports 0) same ∙ link.imports)
