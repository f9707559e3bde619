-- The references of files, file after file (for the crates above).
use Rattle.std.proofs.Common.{◌≡◌, ℕ, zero, suc, ◌+◌, ◌<◌, List, [], ◌∷◌, length, map, ◌∙◌, ap, subst, inl, inr, arith, Contains}
use Rattle.proto_base.proofs.Common.{Contains-append_left, Contains-append_right, Contains-append_cases, contains_map, from_map}
use Rattle.proto_files.specs.FilesRead.{ReadOf, read_at}
use Rattle.proto_names_rules.proofs.Common.{At, all_used, file_used, used_in, Used}
use Rattle.proto_names_imports.specs.Links.{names_in}

pub use_in : (n k : ℕ) (rs : List ReadOf) (u : Used ℕ) → k < length rs → Contains (names_in (read_at rs k)).used u → Contains (all_used n (map names_in rs)) (used_in (n + k) u)
use_in n k [] u l c = absurd (omega (arith, l))
use_in n zero (r ∷ rs) u l c =
    let z : n ≡ n + 0 = omega arith in
    subst (λ m. Contains (all_used n (map names_in (r ∷ rs))) (used_in m u)) z (Contains-append_left (file_used n (names_in r)) (all_used (suc n) (map names_in rs)) (used_in n u) (contains_map (used_in n) (names_in r).used u c))
use_in n (suc k) (r ∷ rs) u l c =
    let z : suc n + k ≡ n + suc k = omega arith in
    subst (λ m. Contains (all_used n (map names_in (r ∷ rs))) (used_in m u)) z (Contains-append_right (file_used n (names_in r)) (all_used (suc n) (map names_in rs)) (used_in (suc n + k) u) (use_in (suc n) k rs u (omega (arith, l)) c))

pub use_from : (n : ℕ) (rs : List ReadOf) (u : Used At) → Contains (all_used n (map names_in rs)) u → (k : ℕ) × (k < length rs) × ((v : Used ℕ) × Contains (names_in (read_at rs k)).used v × (used_in (n + k) v ≡ u))
use_from n [] u c = absurd (omega (arith, c.1))
use_from n (r ∷ rs) u c = elim (Contains-append_cases (file_used n (names_in r)) (all_used (suc n) (map names_in rs)) u c) [
  | inl h ↦
      let v = from_map (used_in n) (names_in r).used u h in
      (0, omega arith, (v.0, v.1, ap (λ m. used_in m v.0) {x = n + 0} {y = n} (omega arith) ∙ v.2))
  | inr t ↦
      let v = use_from (suc n) rs u t in
      (suc v.0, omega (arith, v.1), (v.2.0, v.2.1, ap (λ m. used_in m v.2.0) {x = n + suc v.0} {y = suc n + v.0} (omega arith) ∙ v.2.2))
]
