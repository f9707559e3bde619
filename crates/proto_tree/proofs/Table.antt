-- The rows of a table that a word may match have its length.
use Rattle.std.proofs.Common.{◌≡◌, ℕ, Bool, true, false, ◌==◌, List, [], ◌∷◌, length, refl, sym, ap, ◌∙◌, cond, bytes_eq}
use Rattle.proto_base.proofs.Common.{Decides-eqb, bytes_eq-Decides}
use Rattle.proto_tree.specs.Common.{Class, Listed, class_in, of_length}

by_row : (k : Listed) (ks front : List Listed) (other : Class) (w : List ℕ) (b t : Bool) → bytes_eq w k.word ≡ b → (b ≡ true → t ≡ true) → class_in front other w ≡ class_in ks other w
    → class_in (cond t (k ∷ front) front) other w ≡ cond b k.class (class_in ks other w)
by_row k ks front other w true true e g same = rw e refl
by_row k ks front other w true false e g same = absurd (differ (g refl))
  where
    differ : false ≡ true → ⊥
    differ z = cc
by_row k ks front other w false true e g same = rw e same
by_row k ks front other w false false e g same = same

pub by_length : (ks : List Listed) (other : Class) (w : List ℕ) (n : ℕ) → length w ≡ n → class_in (of_length n ks) other w ≡ class_in ks other w
by_length [] other w n e = refl
by_length (k ∷ ks) other w n e =
    by_row k ks (of_length n ks) other w (bytes_eq w k.word) (length k.word == n) refl (λ h. (Decides-eqb (length k.word) n).1 (sym (ap length ((bytes_eq-Decides w k.word).0 h)) ∙ e)) (by_length ks other w n e)
