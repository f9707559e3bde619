-- With the same imports, in whatever order, the same is seen; and the imports of files with those of one file changed (for the crates above).
use Rattle.std.proofs.Common.{◌≡◌, ◌≢◌, ◌⊎◌, ◌↔◌, ℕ, ◌+◌, ◌<◌, Bool, true, false, List, [], length, get_or, filter, refl, sym, ◌∙◌, ap, subst, inl, inr, arith, slice_set, All, Contains, get_or-set_same, get_or-set_other}
use Rattle.proto_base.proofs.Common.{cases_eq, get_or_default, Contains-get_or, from_filter}
use Rattle.proto_names_rules.proofs.Common.{with_imports, MarksSeen, Import, Workspace, sees}
use Rattle.proto_names_imports.proofs.Common.{all_imports, import_from, import_in, import_of_file}
use Rattle.proto_names_imports.specs.declared.import.FileImport.{FileImport}
use Rattle.proto_edit_statement_laws.proofs.Sight.{sees_by}

-- ---- what is seen

same_test : (a b : Bool) → (a ≡ true → b ≡ true) → (b ≡ true → a ≡ true) → a ≡ b
same_test true b f g = sym (f refl)
same_test false true f g = g refl
same_test false false f g = refl

-- so marks of the one are marks of the other
pub same_marks : (w : Workspace) (xs ys : List Import) → ((i : Import) → Contains xs i ↔ Contains ys i) → (f : ℕ) (marks : List Bool) → MarksSeen (with_imports w xs) f marks → MarksSeen (with_imports w ys) f marks
same_marks w xs ys same f marks h g =
    h g ∙ same_test (sees (with_imports w xs) f g) (sees (with_imports w ys) f g) (sees_by w xs ys (λ i c. (same i).0 c) f g) (sees_by w ys xs (λ i c. (same i).1 c) f g)

-- ---- the imports of one file changed

-- an import of another file, or one of these
abbrev pub IsOneOf : List (List FileImport) → ℕ → List FileImport → Import → Type 0
IsOneOf is k own i = ((i.from ≢ k) × Contains (all_imports 0 is) i) ⊎ ((x : FileImport) × Contains own x × (import_from k x ≡ i))

pub set_imports : (is : List (List FileImport)) (k : ℕ) (own : List FileImport) → k < length is → (i : Import) → Contains (all_imports 0 (slice_set is k own)) i ↔ IsOneOf is k own i
set_imports is k own l i = (forth, back)
  where
    here : get_or (slice_set is k own) k [] ≡ own
    here = get_or-set_same is k own [] l

    forth : Contains (all_imports 0 (slice_set is k own)) i → IsOneOf is k own i
    forth c =
        let r = import_in 0 (slice_set is k own) i c in
        let z : 0 + r.0 ≡ r.0 = omega arith in
        elim (cases_eq r.0 k) [
          | inl e ↦ inr (r.3.0, subst (λ ys. Contains ys r.3.0) here (subst (λ j. Contains (get_or (slice_set is k own) j []) r.3.0) e r.3.1), ap (λ j. import_from j r.3.0) (sym (z ∙ e)) ∙ r.3.2)
          | inr ne ↦
              let d : Contains (all_imports 0 is) i = subst (Contains (all_imports 0 is)) r.3.2 (import_of_file 0 r.0 is r.3.0 (subst (λ ys. Contains ys r.3.0) (get_or-set_other is k r.0 own [] ne) r.3.1)) in
              inl (λ e. ne (sym z ∙ sym r.2 ∙ e), d)
        ]

    back : IsOneOf is k own i → Contains (all_imports 0 (slice_set is k own)) i
    back (inl (other, c)) =
        let r = import_in 0 is i c in
        let z : 0 + r.0 ≡ r.0 = omega arith in
        let ne : r.0 ≢ k = λ e. other (r.2 ∙ z ∙ e) in
        subst (Contains (all_imports 0 (slice_set is k own))) r.3.2
        (import_of_file 0 r.0 (slice_set is k own) r.3.0 (subst (λ ys. Contains ys r.3.0) (sym (get_or-set_other is k r.0 own [] ne)) r.3.1))
    back (inr (x, c, e)) =
        let z : 0 + k ≡ k = omega arith in
        subst (Contains (all_imports 0 (slice_set is k own))) (ap (λ j. import_from j x) z ∙ e)
        (import_of_file 0 k (slice_set is k own) x (subst (λ ys. Contains ys x) (sym here) c))

-- an import of a file stands in the file's list
pub own_import : (is : List (List FileImport)) (k : ℕ) (i : Import) → Contains (all_imports 0 is) i → i.from ≡ k → (x : FileImport) × Contains (get_or is k []) x × (import_from k x ≡ i)
own_import is k i c e =
    let r = import_in 0 is i c in
    let z : 0 + r.0 ≡ r.0 = omega arith in
    let at_k : r.0 ≡ k = sym z ∙ sym r.2 ∙ e in
    (r.3.0, subst (λ j. Contains (get_or is j []) r.3.0) at_k r.3.1, ap (λ j. import_from j r.3.0) (sym (z ∙ at_k)) ∙ r.3.2)

pub import_own : (is : List (List FileImport)) (k : ℕ) (x : FileImport) → Contains (get_or is k []) x → Contains (all_imports 0 is) (import_from k x)
import_own is k x c = let z : 0 + k ≡ k = omega arith in subst (λ j. Contains (all_imports 0 is) (import_from j x)) z (import_of_file 0 k is x c)

-- ---- what passes a test

-- what holds of all holds of those that pass
pub all_filtered : {X : Type 0} (P : X → Type 0) (p : X → Bool) (xs : List X) → All P xs → All P (filter p xs)
all_filtered P p xs h = λ k d l. (
    let c : Contains (filter p xs) (get_or (filter p xs) k d) = Contains-get_or (filter p xs) k d l in
    let i = (from_filter p xs (get_or (filter p xs) k d) c).0 in
    subst P (get_or_default xs i.0 (get_or (filter p xs) k d) (get_or (filter p xs) k d) i.1 ∙ i.2) (h i.0 (get_or (filter p xs) k d) i.1))
