-- The entry name of a word is another word (for the crates above).
use Rattle.std.proofs.Common.{◌≡◌, ◌≢◌, ℕ, Bool, true, false, ◌||◌, List, [], ◌∷◌, length, refl, sym, ◌∙◌, ap, inl, inr, arith, length-append, if◌then◌else◌, ◌==◌, codes}
use Rattle.proto_base.proofs.Common.{to_ascii_uppercase, list_any, cases_Bool, cond-true, cond-false, or_parts, list_any-append}
use Rattle.proto_case.specs.Camel.{camel_from, entry_name}
use Rattle.proto_case.proofs.Camel.{no_upper}

abbrev is_line : ℕ → Bool
is_line b = b == 95

pub either_false : (a b : Bool) → a ≡ false → b ≡ false → (a || b) ≡ false
either_false a b ha hb = ap (λ z. z || b) ha ∙ hb

-- an entry name has no `_`
no_line : (up : Bool) (word : List ℕ) → list_any is_line (camel_from up word) ≡ false
no_line up [] = refl
no_line up (b ∷ bs) = elim (cases_Bool (b == 95)) [
  | inl line ↦ ap (list_any is_line) (cond-true (b == 95) (camel_from true bs) ((if up then to_ascii_uppercase b else b) ∷ camel_from false bs) line) ∙ no_line true bs
  | inr other ↦
      ap (list_any is_line) (cond-false (b == 95) (camel_from true bs) ((if up then to_ascii_uppercase b else b) ∷ camel_from false bs) other)
      ∙ either_false ((if up then to_ascii_uppercase b else b) == 95) (list_any is_line (camel_from false bs)) (go up other) (no_line false bs)
]
  where
    go : (up : Bool) → (b == 95) ≡ false → ((if up then to_ascii_uppercase b else b) == 95) ≡ false
    go true h = no_upper 95 (inr (omega arith)) b h
    go false h = h

-- and so a word without one keeps its length
same_length : (up : Bool) (word : List ℕ) → list_any is_line word ≡ false → length (camel_from up word) ≡ length word
same_length up [] h = refl
same_length up (b ∷ bs) h =
    let q = or_parts (b == 95) (list_any is_line bs) h in
    let e = ap length (cond-false (b == 95) (camel_from true bs) ((if up then to_ascii_uppercase b else b) ∷ camel_from false bs) q.0) in
    let r = same_length false bs q.1 in
    omega (arith, e, r)

pub entry_differs : (word : List ℕ) → entry_name word ≢ word
entry_differs word h =
    let suffix = codes "Entry" in
    let none : list_any is_line word ≡ false = ap (list_any is_line) (sym h) ∙ list_any-append is_line (camel_from true word) suffix ∙ either_false (list_any is_line (camel_from true word)) (list_any is_line suffix) (no_line true word) refl in
    let l = same_length true word none in
    let a = length-append (camel_from true word) suffix in
    absurd (omega (arith, l, a, ap length h))
