-- How many braces are open (for the crates above).
use Rattle.std.proofs.Common.{◌≡◌, ℕ, zero, suc, ◌+◌, ◌<◌, ◌≤◌, List, [], ◌∷◌, length, take, get_or, refl, ap, subst, ◌∙◌, inl, inr, arith}
use Rattle.std.proofs.lemmas.Bool.{cases_lt}
use Rattle.proto_tree.specs.Common.{Class, Lexeme, open_after, open_from, open_in, IsTooDeep}
use Rattle.proto_tree.specs.declared.class.Class.TheVariants as class

open_suc : (s : List Lexeme) (i : ℕ) (d : Lexeme) (e : ℕ) → i < length s → open_from e (take (suc i) s) ≡ open_after (open_from e (take i s)) (get_or s i d).class
open_suc [] i d e lt = absurd (omega arith)
open_suc (l ∷ s) zero d e lt = refl
open_suc (l ∷ s) (suc i) d e lt = open_suc s i d (open_after e l.class) (omega arith)

pub open_more : (s : List Lexeme) (i : ℕ) (d : Lexeme) → i < length s → open_in (take (i + 1) s) ≡ open_after (open_in (take i s)) (get_or s i d).class
open_more s i d lt = let e : i + 1 ≡ suc i = omega arith in ap (λ n. open_in (take n s)) e ∙ open_suc s i d 0 lt

pub open_other : (c : Class) (d : ℕ) → (c ≡ class.Open → ⊥) → (c ≡ class.Close → ⊥) → open_after d c ≡ d
open_other class.Open d o k = absurd (o refl)
open_other class.Close d o k = absurd (k refl)
open_other _ d o k = refl

pub deep_at : (s : List Lexeme) (i : ℕ) (d : Lexeme) (depth : ℕ) → i < length s → open_in (take i s) ≡ depth → ((m : ℕ) → m ≤ i → open_in (take m s) ≤ 32) → (get_or s i d).class ≡ class.Open → depth ≡ 32 → IsTooDeep s i
deep_at s i d depth lt now before e limit = record {
  within = lt;
  before = before;
  deep = open_more s i d lt ∙ ap (λ c. open_after (open_in (take i s)) c) e ∙ ap (λ n. n + 1) (now ∙ limit);
}

pub now_more : (s : List Lexeme) (i : ℕ) (d : Lexeme) (depth depth' : ℕ) → i < length s → open_in (take i s) ≡ depth → open_after depth (get_or s i d).class ≡ depth' → open_in (take (i + 1) s) ≡ depth'
now_more s i d depth depth' lt now e = open_more s i d lt ∙ ap (λ n. open_after n (get_or s i d).class) now ∙ e

pub before_more : (s : List Lexeme) (i depth' : ℕ) → ((m : ℕ) → m ≤ i → open_in (take m s) ≤ 32) → open_in (take (i + 1) s) ≡ depth' → depth' ≤ 32 → (m : ℕ) → m ≤ i + 1 → open_in (take m s) ≤ 32
before_more s i depth' before now le m h =
    elim (cases_lt m (i + 1)) [
      | inl lt ↦ before m (omega arith)
      | inr ge ↦ let e : i + 1 ≡ m = omega arith in subst (λ n. open_in (take n s) ≤ 32) e (omega (arith, now, le))
    ]
