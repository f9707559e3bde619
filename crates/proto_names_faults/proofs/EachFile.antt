-- What is said of each file, and of one file more.
use Rattle.std.proofs.Common.{◌≡◌, ℕ, suc, ◌+◌, ◌<◌, List, [], ◌∷◌, ◌++◌, length, get_or, map, refl, sym, ◌∙◌, ap, subst, arith, All}
use Rattle.proto_base.proofs.Common.{All-append, All-cons, All-nil}
use Rattle.proto_names_rules.proofs.Common.{At, at}
use Rattle.proto_names_outline.proofs.Common.{items_in, package_first}
use Rattle.proto_names_imports.proofs.Common.{names_in}
use Rattle.proto_names_table.proofs.Common.{Named, all_named, named_as, named_in, tree_named}
use Rattle.proto_files.specs.FilesRead.{Each, ReadOf, read_at}
use Rattle.proto_names_table.specs.declared.spelled.Spelled.{Spelled}

pub all_pushed : {A : Type 0} (P : A → Type 0) (xs after : List A) (x : A) → after ≡ xs ++ x ∷ [] → All P xs → P x → All P after
all_pushed P xs after x a h p = subst (All P) (sym a) (All-append P xs (x ∷ []) h (All-cons P x [] p (All-nil P)))

-- ---- lists that stand file after file

named_from : {V : Type 0} (items : V → List Spelled) (text : At → List ℕ) (n : ℕ) (vs : List V) (rs : List ReadOf) → length vs ≡ length rs
    → Each (λ k v. named_in (n + k) (items v) ≡ map (named_as (n + k) (λ i. text (at (n + k) i))) (package_first (items_in (read_at rs k).tree))) vs
    → all_named n (map items vs) ≡ tree_named text n (map names_in rs)
named_from items text n [] [] e h = refl
named_from items text n [] (r ∷ rs) e h = absurd (omega (arith, e))
named_from items text n (v ∷ vs) [] e h = absurd (omega (arith, e))
named_from {V} items text n (v ∷ vs) (r ∷ rs) e h =
    let now : named_in n (items v) ≡ map (named_as n (λ i. text (at n i))) (package_first (items_in r.tree)) =
    subst (λ (m : ℕ). named_in m (items v) ≡ map (named_as m (λ i. text (at m i))) (package_first (items_in r.tree))) (omega arith) (h 0 v (omega arith)) in
    let later : Each (λ k x. named_in (suc n + k) (items x) ≡ map (named_as (suc n + k) (λ i. text (at (suc n + k) i))) (package_first (items_in (read_at rs k).tree))) vs =
    λ (k : ℕ) (d : V) (l : k < length vs). subst (λ (m : ℕ). named_in m (items (get_or vs k d)) ≡ map (named_as m (λ i. text (at m i))) (package_first (items_in (read_at rs k).tree))) (omega arith) (h (suc k) d (omega (arith, l))) in
    ap (λ (zs : List Named). zs ++ all_named (suc n) (map items vs)) now
    ∙ ap (λ (zs : List Named). map (named_as n (λ i. text (at n i))) (package_first (items_in r.tree)) ++ zs) (named_from items text (suc n) vs rs (omega (arith, e)) later)

pub named_files : {V : Type 0} (items : V → List Spelled) (text : At → List ℕ) (vs : List V) (rs : List ReadOf) → length vs ≡ length rs
    → Each (λ k v. named_in k (items v) ≡ map (named_as k (λ i. text (at k i))) (package_first (items_in (read_at rs k).tree))) vs → all_named 0 (map items vs) ≡ tree_named text 0 (map names_in rs)
named_files {V} items text vs rs e h =
    named_from items text 0 vs rs e
    (λ (k : ℕ) (d : V) l. subst (λ (m : ℕ). named_in m (items (get_or vs k d)) ≡ map (named_as m (λ i. text (at m i))) (package_first (items_in (read_at rs k).tree))) (omega arith) (h k d l))
