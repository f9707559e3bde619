-- The heads of files, one for each.
use Rattle.std.proofs.Common.{◌≡◌, ℕ, zero, suc, ◌+◌, ◌<◌, List, [], ◌∷◌, length, get_or, refl, ◌∙◌, ap, arith}
use Rattle.proto_files.proofs.Common.{FileOf, ReadOf}
use Rattle.proto_lint.specs.Common.{head_of_file, heads, heads_from, Head}

heads_are : (files : List FileOf) (reads : List ReadOf) (n : ℕ) (rs : List ReadOf) → (length (heads_from files reads n rs) ≡ length rs) × ((k : ℕ) (d : Head) → k < length rs → get_or (heads_from files reads n rs) k d ≡ head_of_file files reads (n + k))
heads_are files reads n [] = (refl, λ k d l. absurd (omega (arith, l)))
heads_are files reads n (r ∷ rs) =
    let rest = heads_are files reads (suc n) rs in
    (ap suc rest.0, at rest.1)
  where
    at : ((k : ℕ) (d : Head) → k < length rs → get_or (heads_from files reads (suc n) rs) k d ≡ head_of_file files reads (suc n + k)) → (k : ℕ) (d : Head) → k < length (r ∷ rs) → get_or (heads_from files reads n (r ∷ rs)) k d ≡ head_of_file files reads (n + k)
    at later zero d l = ap (head_of_file files reads) {x = n} {y = n + 0} (omega arith)
    at later (suc k) d l = later k d (omega (arith, l)) ∙ ap (head_of_file files reads) {x = suc n + k} {y = n + suc k} (omega arith)

pub heads_at : (files : List FileOf) (reads : List ReadOf) (k : ℕ) (d : Head) → k < length reads → get_or (heads files reads) k d ≡ head_of_file files reads k
heads_at files reads k d l = (heads_are files reads 0 reads).1 k d l ∙ ap (head_of_file files reads) {x = 0 + k} {y = k} (omega arith)

pub heads_count : (files : List FileOf) (reads : List ReadOf) → length (heads files reads) ≡ length reads
heads_count files reads = (heads_are files reads 0 reads).0
