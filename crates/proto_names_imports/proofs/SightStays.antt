-- A file sees what it saw, where each file that it saw imports the same files publicly (for the crates above).
use Rattle.std.proofs.Common.{◌≡◌, ◌≢◌, ◌↔◌, ℕ, zero, suc, ◌<◌, List, [], ◌∷◌, length, get_or, map, refl, sym, ◌∙◌, ap, subst, inl, inr, arith, Contains, get_or-set_same, get_or-set_other}
use Rattle.proto_base.proofs.Common.{cases_eq, length-map}
use Rattle.proto_names_rules.proofs.Common.{Import, Workspace, ImportsAreOfFiles, MarksSeen, Sees, sees_is}
use Rattle.proto_names_imports.specs.Common.{Walks, stays, goes, IsMarked, all_imports, FileImport}
use Rattle.proto_names_imports.proofs.ImportGraph.{import_in}
use Rattle.proto_names_imports.proofs.SeenFiles.{marks_seen, own_of, public_of, steps_from, walk_sees}
use Rattle.proto_names_imports.proofs.Walks.{walk_on}

public_at : (is : List (List FileImport)) (h : ℕ) → get_or (map public_of is) h [] ≡ public_of (get_or is h [])
public_at [] h = refl
public_at (i ∷ is) zero = refl
public_at (i ∷ is) (suc h) = public_at is h

imports_are_of_files : (is : List (List FileImport)) (w : Workspace) → w.files ≡ length is → w.imports ≡ all_imports 0 is → ((i : Import) → Contains (all_imports 0 is) i → i.to < length is) → ImportsAreOfFiles w
imports_are_of_files is w n same within i c =
    let d = subst (λ z. Contains z i) same c in
    let r = import_in 0 is i d in
    let a = within i d in
    let b = r.1 in
    let e = r.2 in
    (omega (arith, n, b, e), omega (arith, n, a))

-- what marks of what a file sees say of walks
pub walks_marked : (is : List (List FileImport)) (w : Workspace) (f : ℕ) (marks : List _) → w.files ≡ length is → w.imports ≡ all_imports 0 is → ((i : Import) → Contains (all_imports 0 is) i → i.to < length is) → f < length is
    → MarksSeen w f marks → (g : ℕ) → IsMarked marks g ↔ Walks (steps_from is f) f g
walks_marked is w f marks n same within l seen g = (
  λ m. (walk_sees is f g l).1 (subst (λ z. Sees z f g) same ((sees_is w (imports_are_of_files is w n same within) f g).0 (sym (seen g) ∙ m))),
  λ walk. seen g ∙ (sees_is w (imports_are_of_files is w n same within) f g).1 (subst (λ z. Sees z f g) (sym same) ((walk_sees is f g l).0 walk)),
)

module _ (old new : List (List FileImport)) (f : ℕ) (within_old : f < length old) (within_new : f < length new) (own : get_or old f [] ≡ get_or new f [])
    (public : (k : ℕ) → Walks (steps_from old f) f k → k ≢ f → public_of (get_or old k []) ≡ public_of (get_or new k [])) where
  step_same : (h : ℕ) → Walks (steps_from old f) f h → get_or (steps_from old f) h [] ≡ get_or (steps_from new f) h []
  step_same h walk = elim (cases_eq h f) [
    | inl e ↦
        let old_own : get_or (steps_from old f) f [] ≡ own_of (get_or old f []) = get_or-set_same (map public_of old) f (own_of (get_or old f [])) [] (omega (arith, within_old, length-map old public_of)) in
        let new_own : get_or (steps_from new f) f [] ≡ own_of (get_or new f []) = get_or-set_same (map public_of new) f (own_of (get_or new f [])) [] (omega (arith, within_new, length-map new public_of)) in
        subst (λ k. get_or (steps_from old f) k [] ≡ get_or (steps_from new f) k []) (sym e) (old_own ∙ ap own_of own ∙ sym new_own)
    | inr ne ↦
        get_or-set_other (map public_of old) f h (own_of (get_or old f [])) [] ne ∙ public_at old h ∙ public h walk ne
        ∙ sym (public_at new h) ∙ sym (get_or-set_other (map public_of new) f h (own_of (get_or new f [])) [] ne)
  ]

  forward : {h g : ℕ} → Walks (steps_from old f) f h → Walks (steps_from old f) h g → Walks (steps_from new f) h g
  forward reached stays = stays
  forward {h} reached (goes k c walk) = goes k (subst (λ z. Contains z k) (step_same h reached) c) (forward (walk_on (steps_from old f) reached c) walk)

  back : {h g : ℕ} → Walks (steps_from old f) f h → Walks (steps_from new f) h g → Walks (steps_from old f) h g
  back reached stays = stays
  back {h} reached (goes k c walk) =
      let d = subst (λ z. Contains z k) (sym (step_same h reached)) c in
      goes k d (back (walk_on (steps_from old f) reached d) walk)

  pub same_walks : (g : ℕ) → Walks (steps_from old f) f g ↔ Walks (steps_from new f) f g
  same_walks g = (forward stays, back stays)

-- so its marks stay
pub sight_stays : (old new : List (List FileImport)) (w v : Workspace) (f : ℕ) (marks : List _) → w.files ≡ length old → w.imports ≡ all_imports 0 old → ((i : Import) → Contains (all_imports 0 old) i → i.to < length old)
    → v.files ≡ length new → v.imports ≡ all_imports 0 new → ((i : Import) → Contains (all_imports 0 new) i → i.to < length new) → f < length old → f < length new → get_or old f [] ≡ get_or new f []
    → ((k : ℕ) → IsMarked marks k → k ≢ f → public_of (get_or old k []) ≡ public_of (get_or new k [])) → MarksSeen w f marks → MarksSeen v f marks
sight_stays old new w v f marks wn ws wi vn vs vi lo ln own public seen =
    let marked = walks_marked old w f marks wn ws wi lo seen in
    let same = same_walks old new f lo ln own (λ k walk ne. public k ((marked k).1 walk) ne) in
    marks_seen new v f marks vn vs vi ln (λ g. (λ m. (same g).0 ((marked g).0 m), λ walk. (marked g).1 ((same g).1 walk)))
