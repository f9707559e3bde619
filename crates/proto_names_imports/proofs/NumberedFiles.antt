-- The files of a workspace by their numbers, and what each declares and refers to.
use Rattle.std.proofs.Common.{◌≡◌, ℕ, zero, suc, ◌+◌, ◌<◌, List, [], ◌∷◌, length, map, refl, subst, inl, inr, arith}
use Rattle.proto_files.proofs.Common.{ReadOf, read_at}
use Rattle.proto_names_rules.proofs.Common.{FileAt, FileNames}
use Rattle.proto_names_imports.specs.Links.{names_in}

pub file_there : (n : ℕ) (rs : List ReadOf) (k : ℕ) → k < length rs → FileAt n (map names_in rs) (n + k) (names_in (read_at rs k))
file_there n [] k l = absurd (omega (arith, l))
file_there n (r ∷ rs) zero l = inl (omega arith, refl)
file_there n (r ∷ rs) (suc k) l =
    let e : suc n + k ≡ n + suc k = omega arith in
    inr (subst (λ m. FileAt (suc n) (map names_in rs) m (names_in (read_at rs k))) e (file_there (suc n) rs k (omega (arith, l))))

-- what is known of a file by its number
pub record IsNumbered (n : ℕ) (rs : List ReadOf) (file : ℕ) (f : FileNames) : Type 0 where
  pub place : ℕ
  pub within : place < length rs
  pub file_is : file ≡ n + place
  pub names_are : names_in (read_at rs place) ≡ f

pub numbered : (n : ℕ) (rs : List ReadOf) (file : ℕ) (f : FileNames) → FileAt n (map names_in rs) file f → IsNumbered n rs file f
numbered n [] file f h = absurd h
numbered n (r ∷ rs) file f (inl h) = record { place = 0; within = omega arith; file_is = omega (arith, h.0); names_are = h.1 }
numbered n (r ∷ rs) file f (inr h) =
    let i = numbered (suc n) rs file f h in
    record { place = suc i.place; within = omega (arith, i.within); file_is = omega (arith, i.file_is); names_are = i.names_are }
