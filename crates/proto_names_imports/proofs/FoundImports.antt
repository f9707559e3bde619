-- The imports of one file that name files.
use Rattle.std.proofs.Common.{◌≡◌, ◌⊎◌, ◌<◌, ℕ, Bool, true, false, List, length, get_or, map, nat_eq, not, refl, sym, ◌∙◌, subst, inl, inr, arith, cond, eqb-true, All, Contains}
use Rattle.proto_base.proofs.Common.{cases_Bool, cond-false, contains_map, get_or_default, length-map}
use Rattle.proto_files.specs.GivenFiles.{FileOf, paths_of}
use Rattle.proto_names_rules.proofs.Common.{AskedImport, imports_of}
use Rattle.proto_names_imports.specs.Common.{import_from, FileImport}
use Rattle.proto_names_imports.proofs.ImportGraph.{import_within}

-- ---- a set of numbers, with one more

pub not_false : (b x : Bool) → x ≡ not b → x ≡ false → b ≡ true
not_false true x e h = refl
not_false false x e h = sym h ∙ e

pub not_true : (b x : Bool) → x ≡ not b → x ≡ true → b ≡ false
not_true true x e h = sym h ∙ e
not_true false x e h = refl

pub kept : (eq old new : Bool) → new ≡ cond eq true old → old ≡ true → new ≡ true
kept true old new e h = e
kept false old new e h = e ∙ h

pub only : (to q : ℕ) (old new : Bool) → new ≡ cond (nat_eq to q) true old → new ≡ true → (q ≡ to) ⊎ (old ≡ true)
only to q old new e h = elim (cases_Bool (nat_eq to q)) [
  | inl same ↦ inl (sym (eqb-true to q same))
  | inr apart ↦ inr (sym (e ∙ cond-false (nat_eq to q) true old apart) ∙ h)
]

-- ---- the files that are named are there

pub found_within : (files : List FileOf) (file : ℕ) (is : List FileImport) (asked : List AskedImport) → map (import_from file) is ≡ imports_of (paths_of files) asked → All (λ i. i.to < length files) is
found_within files file is asked same k d l =
    let i = get_or is k d in
    let c = subst (λ z. Contains z (import_from file i)) same (contains_map (import_from file) is i (k, l, get_or_default is k i d l)) in
    let w = import_within (paths_of files) asked (import_from file i) c in
    omega (arith, w, length-map files (λ f. f.path))
