-- The name of an entry is a plain word where that of its field is (for the crates above).
use Rattle.std.proofs.Common.{◌≡◌, ◌≢◌, ℕ, Bool, true, false, ◌||◌, List, [], ◌∷◌, ◌++◌, refl, ◌∙◌, ap, inl, inr, arith, if◌then◌else◌, ◌==◌, codes}
use Rattle.proto_base.proofs.Common.{to_ascii_uppercase, list_any, cases_Bool, cond-true, cond-false, or_parts, list_any-append}
use Rattle.proto_case.specs.Camel.{camel_from, entry_name}
use Rattle.proto_case.proofs.Camel.{no_upper}
use Rattle.proto_names_rules.specs.Joined.{IsPlain}

abbrev is_point : ℕ → Bool
is_point b = b == 46

either_false : (a b : Bool) → a ≡ false → b ≡ false → (a || b) ≡ false
either_false a b ha hb = ap (λ z. z || b) ha ∙ hb

-- no point comes in
no_point : (up : Bool) (word : List ℕ) → list_any is_point word ≡ false → list_any is_point (camel_from up word) ≡ false
no_point up [] h = refl
no_point up (b ∷ bs) h =
    let q = or_parts (b == 46) (list_any is_point bs) h in
    elim (cases_Bool (b == 95)) [
      | inl line ↦ ap (list_any is_point) (cond-true (b == 95) (camel_from true bs) ((if up then to_ascii_uppercase b else b) ∷ camel_from false bs) line) ∙ no_point true bs q.1
      | inr other ↦
          ap (list_any is_point) (cond-false (b == 95) (camel_from true bs) ((if up then to_ascii_uppercase b else b) ∷ camel_from false bs) other)
          ∙ either_false ((if up then to_ascii_uppercase b else b) == 46) (list_any is_point (camel_from false bs)) (go up q.0) (no_point false bs q.1)
    ]
  where
    go : (up : Bool) → (b == 46) ≡ false → ((if up then to_ascii_uppercase b else b) == 46) ≡ false
    go true h = no_upper 46 (inl (omega arith)) b h
    go false h = h

not_empty : (xs : List ℕ) (b : ℕ) (bs : List ℕ) → xs ++ b ∷ bs ≢ []
not_empty [] b bs e = cc
not_empty (x ∷ xs) b bs e = cc

pub entry_plain : (word : List ℕ) → IsPlain word → IsPlain (entry_name word)
entry_plain word h = (
  let suffix = codes "Entry" in
      list_any-append is_point (camel_from true word) suffix ∙ either_false (list_any is_point (camel_from true word)) (list_any is_point suffix) (no_point true word h.0) refl,
  not_empty (camel_from true word) 69 (codes "ntry"),
)
