-- The indices of the marks of a statement, and how the maps of edits move (for the crates above).
use Rattle.std.proofs.Common.{◌≡◌, ℕ, suc, ◌+◌, ◌-◌, ◌<◌, List, [], ◌∷◌, ◌++◌, length, ap, subst, ◌∙◌, arith, length-append, ltb, lt-ltb, le-ltb}
use Rattle.std.proofs.lemmas.Bool.{cond-true, cond-false}
use Rattle.proto_text.specs.Segments.{moved}
use Rattle.proto_tree.specs.declared.piece.Statement.{Statement}
use Rattle.proto_tree.proofs.Common.{Mark, one, flat_statement, Numbered, numbered_append}
use Rattle.proto_edit_statement_laws.specs.Common.{first_index, last_index, MovesBy}
use Rattle.proto_edit_statement_laws.proofs.Endings.{statement_ended}

pub numbered_first : (n : ℕ) (ms : List Mark) → Numbered n ms → 0 < length ms → first_index ms ≡ n
numbered_first n [] h lt = absurd (omega (arith, lt))
numbered_first n (m ∷ ms) h lt = h.0

pub numbered_last : (n : ℕ) (ms : List Mark) → Numbered n ms → 0 < length ms → suc (last_index ms) ≡ n + length ms
numbered_last n [] h lt = absurd (omega (arith, lt))
numbered_last n (m ∷ []) h lt = omega (arith, h.0)
numbered_last n (m ∷ k ∷ ms) h lt = let r = numbered_last (suc n) (k ∷ ms) h.1 (omega arith) in omega (arith, r)

pub some_marks : (s : Statement) → 0 < length (flat_statement s)
some_marks s = let e = statement_ended s in omega (arith, ap (λ (x : List Mark). length x) e.parts, length-append e.init (one e.last e.at))

-- marks among others that are numbered from 0
pub numbered_among : {x : List Mark} (i : ℕ) (a front back whole : List Mark) → whole ≡ front ++ (a ++ back) → Numbered 0 whole → length front ≡ i → a ≡ x → Numbered i x
numbered_among {x} i a front back whole e num long same =
    let p = numbered_append 0 front (a ++ back) (subst (Numbered 0) e num) in
    let q = numbered_append (0 + length front) a back p.1 in
    let from : 0 + length front ≡ i = omega (arith, long) in
    subst (λ (y : ℕ). Numbered y x) from (subst (Numbered (0 + length front)) same q.0)

pub moved_moves_by : (i n m : ℕ) → MovesBy (moved i (i + n) m) i n m
moved_moves_by i n m = record {
  stays = λ k lt. cond-true (ltb k i) k ((k - (i + n)) + (i + m)) (lt-ltb k i lt);
  goes = λ k. cond-false (ltb (i + n + k) i) (i + n + k) (((i + n + k) - (i + n)) + (i + m)) (le-ltb (i + n + k) i (omega arith)) ∙ (omega arith);
}

pub moves_in : (i m : ℕ) → MovesBy (moved i i m) i 0 m
moves_in i m = subst (λ (j : ℕ). MovesBy (moved i j m) i 0 m) (omega arith) (moved_moves_by i 0 m)
