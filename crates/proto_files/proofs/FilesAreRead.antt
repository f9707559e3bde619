-- The files of a workspace are read, one after the other (for the crates above).
use Rattle.std.proofs.Common.{◌≡◌, ℕ, zero, suc, ◌<◌, List, [], ◌∷◌, ◌++◌, length, sym, subst, arith}
use Rattle.proto_text.specs.Tokens.{AreTokens}
use Rattle.proto_tree.proofs.Common.{End, ReadsIn}
use Rattle.proto_files.specs.Common.{Each, ReadOf, AreRead, read_at, FileOf, file_at}

-- what is read of the file with this number
pub record IsReadAt (files : List FileOf) (k : ℕ) (r : ReadOf) : Type 0 where
  pub tokens : AreTokens (file_at files k).bytes r.tokens
  pub tree : ReadsIn (file_at files k).profile (file_at files k).bytes r.tokens r.tree

pub all_read : (files : List FileOf) (reads : List ReadOf) → length reads ≡ length files → Each (IsReadAt files) reads → AreRead files reads
all_read files reads n h =
    let at : (k : ℕ) → k < length files → IsReadAt files k (read_at reads k) = λ k l. h k (record { tokens = []; tree = End }) (omega (arith, n, l)) in
    record { same = n; tokens = λ k l. (at k l).tokens; trees = λ k l. (at k l).tree }

-- one more
one_more : {A : Type 0} (P : ℕ → A → Type 0) (xs : List A) (x : A) → Each P xs → P (length xs) x → Each P (xs ++ x ∷ [])
one_more P [] x h p zero d l = p
one_more P [] x h p (suc k) d l = absurd (omega (arith, l))
one_more P (y ∷ xs) x h p zero d l = h 0 y (omega arith)
one_more P (y ∷ xs) x h p (suc k) d l = one_more (λ j. P (suc j)) xs x (λ j e m. h (suc j) e (omega (arith, m))) p k d (omega (arith, l))

pub each_pushed : {A : Type 0} (P : ℕ → A → Type 0) (xs after : List A) (x : A) (k : ℕ) → after ≡ xs ++ x ∷ [] → length xs ≡ k → Each P xs → P k x → Each P after
each_pushed P xs after x k a n h p = subst (Each P) (sym a) (one_more P xs x h (subst (λ (i : ℕ). P i x) (sym n) p))
