-- What is said of each file, and of one file more.
use Rattle.std.proofs.Common.{◌≡◌, ℕ, suc, ◌+◌, ◌<◌, List, [], ◌∷◌, ◌++◌, length, get_or, map, refl, sym, ◌∙◌, ap, subst, arith, All}
use Rattle.proto_base.proofs.Common.{All-append, All-cons, All-nil}
use Rattle.proto_names_rules.proofs.Common.{AskedImport, At, at}
use Rattle.proto_names_outline.proofs.Common.{imports_in, items_in, package_first}
use Rattle.proto_names_imports.proofs.Common.{asked_by, all_asked, asked_as, all_wanted, names_in}
use Rattle.proto_names_table.proofs.Common.{named_as, tree_named, Named, named_in, all_named}
use Rattle.proto_files.specs.FilesRead.{Each, ReadOf, read_at}
use Rattle.proto_names_imports.specs.declared.import.WrittenImport.{WrittenImport}
use Rattle.proto_names_table.specs.declared.spelled.Spelled.{Spelled}
pub use Rattle.proto_names_update.proofs.FileLists.{same_at}

pub all_pushed : {A : Type 0} (P : A → Type 0) (xs after : List A) (x : A) → after ≡ xs ++ x ∷ [] → All P xs → P x → All P after
all_pushed P xs after x a h p = subst (All P) (sym a) (All-append P xs (x ∷ []) h (All-cons P x [] p (All-nil P)))

-- ---- lists that stand file after file

asked_from : {V : Type 0} (items : V → List WrittenImport) (text : At → List ℕ) (n : ℕ) (vs : List V) (rs : List ReadOf) → length vs ≡ length rs
    → Each (λ k v. map (asked_by (n + k)) (items v) ≡ map (asked_as text (n + k)) (imports_in (read_at rs k).tree)) vs → all_asked n (map items vs) ≡ all_wanted text n rs
asked_from items text n [] [] e h = refl
asked_from items text n [] (r ∷ rs) e h = absurd (omega (arith, e))
asked_from items text n (v ∷ vs) [] e h = absurd (omega (arith, e))
asked_from {V} items text n (v ∷ vs) (r ∷ rs) e h =
    let now : map (asked_by n) (items v) ≡ map (asked_as text n) (imports_in r.tree) = subst (λ (m : ℕ). map (asked_by m) (items v) ≡ map (asked_as text m) (imports_in r.tree)) (omega arith) (h 0 v (omega arith)) in
    let later : Each (λ k x. map (asked_by (suc n + k)) (items x) ≡ map (asked_as text (suc n + k)) (imports_in (read_at rs k).tree)) vs =
    λ (k : ℕ) (d : V) (l : k < length vs). subst (λ (m : ℕ). map (asked_by m) (items (get_or vs k d)) ≡ map (asked_as text m) (imports_in (read_at rs k).tree)) (omega arith) (h (suc k) d (omega (arith, l))) in
    ap (λ (zs : List AskedImport). zs ++ all_asked (suc n) (map items vs)) now
    ∙ ap (λ (zs : List AskedImport). map (asked_as text n) (imports_in r.tree) ++ zs) (asked_from items text (suc n) vs rs (omega (arith, e)) later)

named_from : {V : Type 0} (items : V → List Spelled) (text : At → List ℕ) (n : ℕ) (vs : List V) (rs : List ReadOf) → length vs ≡ length rs
    → Each (λ k v. named_in (n + k) (items v) ≡ map (named_as (n + k) (λ i. text (at (n + k) i))) (package_first (items_in (read_at rs k).tree))) vs
    → all_named n (map items vs) ≡ tree_named text n (map names_in rs)
named_from items text n [] [] e h = refl
named_from items text n [] (r ∷ rs) e h = absurd (omega (arith, e))
named_from items text n (v ∷ vs) [] e h = absurd (omega (arith, e))
named_from {V} items text n (v ∷ vs) (r ∷ rs) e h =
    let now : named_in n (items v) ≡ map (named_as n (λ i. text (at n i))) (package_first (items_in r.tree)) =
    subst (λ (m : ℕ). named_in m (items v) ≡ map (named_as m (λ i. text (at m i))) (package_first (items_in r.tree))) (omega arith) (h 0 v (omega arith)) in
    let later : Each (λ k x. named_in (suc n + k) (items x) ≡ map (named_as (suc n + k) (λ i. text (at (suc n + k) i))) (package_first (items_in (read_at rs k).tree))) vs =
    λ (k : ℕ) (d : V) (l : k < length vs). subst (λ (m : ℕ). named_in m (items (get_or vs k d)) ≡ map (named_as m (λ i. text (at m i))) (package_first (items_in (read_at rs k).tree))) (omega arith) (h (suc k) d (omega (arith, l))) in
    ap (λ (zs : List Named). zs ++ all_named (suc n) (map items vs)) now
    ∙ ap (λ (zs : List Named). map (named_as n (λ i. text (at n i))) (package_first (items_in r.tree)) ++ zs) (named_from items text (suc n) vs rs (omega (arith, e)) later)

pub asked_files : {V : Type 0} (items : V → List WrittenImport) (text : At → List ℕ) (vs : List V) (rs : List ReadOf) → length vs ≡ length rs
    → Each (λ k v. map (asked_by k) (items v) ≡ map (asked_as text k) (imports_in (read_at rs k).tree)) vs → all_asked 0 (map items vs) ≡ all_wanted text 0 rs
asked_files {V} items text vs rs e h =
    asked_from items text 0 vs rs e (λ (k : ℕ) (d : V) l. subst (λ (m : ℕ). map (asked_by m) (items (get_or vs k d)) ≡ map (asked_as text m) (imports_in (read_at rs k).tree)) (omega arith) (h k d l))

pub named_files : {V : Type 0} (items : V → List Spelled) (text : At → List ℕ) (vs : List V) (rs : List ReadOf) → length vs ≡ length rs
    → Each (λ k v. named_in k (items v) ≡ map (named_as k (λ i. text (at k i))) (package_first (items_in (read_at rs k).tree))) vs → all_named 0 (map items vs) ≡ tree_named text 0 (map names_in rs)
named_files {V} items text vs rs e h =
    named_from items text 0 vs rs e
    (λ (k : ℕ) (d : V) l. subst (λ (m : ℕ). named_in m (items (get_or vs k d)) ≡ map (named_as m (λ i. text (at m i))) (package_first (items_in (read_at rs k).tree))) (omega arith) (h k d l))
