-- The references of all files, file after file: each is one of a file (for the crates above).
use Rattle.std.proofs.Common.{◌≡◌, ℕ, zero, suc, ◌+◌, ◌<◌, List, [], ◌∷◌, length, map, subst, inl, inr, arith, Contains}
use Rattle.proto_base.proofs.Common.{Contains-append_cases, Contains-append_left, Contains-append_right, contains_map, from_map}
use Rattle.proto_files.specs.FilesRead.{ReadOf, read_at}
use Rattle.proto_names_imports.specs.Links.{names_in}
use Rattle.proto_names_rules.proofs.Common.{At, all_used, file_used, used_in, Used}

pub from_use : (n : ℕ) (rs : List ReadOf) (u : Used At) → Contains (all_used n (map names_in rs)) u → (k : ℕ) × (v : Used ℕ) × (k < length rs) × Contains (names_in (read_at rs k)).used v × (used_in (n + k) v ≡ u)
from_use n [] u c = absurd (omega (arith, c.1))
from_use n (r ∷ rs) u c = elim (Contains-append_cases (file_used n (names_in r)) (all_used (suc n) (map names_in rs)) u c) [
  | inl a ↦
      let v = from_map (used_in n) (names_in r).used u a in
      let e : n ≡ n + 0 = omega arith in
      (0, v.0, omega arith, v.1, subst (λ m. used_in m v.0 ≡ u) e v.2)
  | inr b ↦
      let o = from_use (suc n) rs u b in
      let l = o.2 in
      let e : suc n + o.0 ≡ n + suc o.0 = omega arith in
      (suc o.0, o.1, omega (arith, l), o.3, subst (λ m. used_in m o.1 ≡ u) e o.4)
]

pub use_there : (n : ℕ) (rs : List ReadOf) (k : ℕ) (u : Used ℕ) → k < length rs → Contains (names_in (read_at rs k)).used u → Contains (all_used n (map names_in rs)) (used_in (n + k) u)
use_there n [] k u l c = absurd (omega (arith, l))
use_there n (x ∷ rs) zero u l c =
    let zero_is : n ≡ n + 0 = omega arith in
    subst (λ m. Contains (all_used n (map names_in (x ∷ rs))) (used_in m u)) zero_is (Contains-append_left (file_used n (names_in x)) (all_used (suc n) (map names_in rs)) (used_in n u) (contains_map (used_in n) (names_in x).used u c))
use_there n (x ∷ rs) (suc k) u l c =
    let more : suc n + k ≡ n + suc k = omega arith in
    subst (λ m. Contains (all_used n (map names_in (x ∷ rs))) (used_in m u)) more (Contains-append_right (file_used n (names_in x)) (all_used (suc n) (map names_in rs)) (used_in (suc n + k) u) (use_there (suc n) rs k u (omega (arith, l)) c))
