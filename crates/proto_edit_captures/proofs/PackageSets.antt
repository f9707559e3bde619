-- The packages of marked files, gathered file by file.
use Rattle.std.proofs.Common.{◌≡◌, ◌↔◌, ℕ, suc, ◌+◌, ◌<◌, Bool, true, false, ◌||◌, cond, List, ◌∷◌, length, map, get_or, drop, refl, sym, ap, subst, ◌∙◌, inl, inr, arith, Contains, bytes_eq}
use Rattle.proto_base.proofs.Common.{list_any, both_ways, cases_lt, or_cases, or_left, or_right, any_from, any_to, same_from_word, word_from_same}
use Rattle.std.proofs.Math.Seq.{drop-cons}
use Rattle.proto_files.proofs.Common.{ReadOf, FileOf}
use Rattle.proto_names_rules.specs.Forest.{under}
use Rattle.proto_edit_captures.specs.Overtaking.{fronts_from, is_marked, package_texts}

or_true : (b : Bool) → (b || true) ≡ true
or_true true = refl
or_true false = refl

-- one front more
pub front_step : (same old rest new : Bool) → new ≡ cond same true old → (new || rest) ≡ (old || (same || rest))
front_step true old rest new e = ap (λ b. b || rest) e ∙ sym (or_true old)
front_step false old rest new e = ap (λ b. b || rest) e

-- the text is among these
abbrev pub has_text : List (List ℕ) → List ℕ → Bool
has_text texts text = list_any (λ t. bytes_eq t text) texts

-- the front by one word more is put among the packages
pub one_front : (word : ℕ → List ℕ) (tokens : List ℕ) (i d : ℕ) → i < length tokens → (front next text : List ℕ) → next ≡ under front (word (get_or tokens i d))
    → (old new : Bool) → new ≡ cond (bytes_eq next text) true old
    → (new || has_text (fronts_from next (map word (drop (i + 1) tokens))) text) ≡ (old || has_text (fronts_from front (map word (drop i tokens))) text)
one_front word tokens i d l front next text is old new e =
    let rest = map word (drop (i + 1) tokens) in
    let more : suc i ≡ i + 1 = omega arith in
    front_step (bytes_eq next text) old (has_text (fronts_from next rest) text) new e
    ∙ ap (λ z. old || has_text (z ∷ fronts_from z rest) text) is
    ∙ ap (λ z. old || has_text (fronts_from front (map word z)) text) (sym (drop-cons tokens i d l ∙ ap (λ k. get_or tokens i d ∷ drop k tokens) more))

has_to : (texts : List (List ℕ)) (text : List ℕ) → has_text texts text ≡ true → Contains texts text
has_to texts text h = let a = any_to (λ t. bytes_eq t text) texts h in subst (Contains texts) (word_from_same a.0 text a.2) a.1

has_from : (texts : List (List ℕ)) (text : List ℕ) → Contains texts text → has_text texts text ≡ true
has_from texts text c = any_from (λ t. bytes_eq t text) texts text c (same_from_word text text refl)

module _ (files : List FileOf) (reads : List ReadOf) (marks : List Bool) where
  -- a package of one of so many files
  abbrev pub SeenUpTo : ℕ → List ℕ → Type 0
  SeenUpTo n text = (k : ℕ) × (k < n) × (is_marked marks k ≡ true) × Contains (package_texts files reads k) text

  pub none_seen : (text : List ℕ) → SeenUpTo 0 text → ⊥
  none_seen text x = let l = x.1 in omega (arith, l)

  pub marked_more : (n : ℕ) (text : List ℕ) (old new : Bool) → is_marked marks n ≡ true → new ≡ (old || has_text (package_texts files reads n) text) → (old ≡ true) ↔ SeenUpTo n text → (new ≡ true) ↔ SeenUpTo (n + 1) text
  marked_more n text old new marked e before = (
    λ h. elim (or_cases old (has_text (package_texts files reads n) text) (sym e ∙ h)) [
      | inl x ↦ (let s = before.0 x in let l = s.1 in (s.0, omega (arith, l), s.2, s.3))
      | inr x ↦ (n, omega arith, marked, has_to (package_texts files reads n) text x)
    ],
    λ s. e ∙ elim (cases_lt s.0 n) [
      | inl l ↦ or_left old (has_text (package_texts files reads n) text) (before.1 (s.0, l, s.2, s.3))
      | inr l ↦
          let k = s.1 in
          let same : s.0 ≡ n = omega (arith, k, l) in
          or_right old (has_text (package_texts files reads n) text) (has_from (package_texts files reads n) text (subst (λ m. Contains (package_texts files reads m) text) same s.3))
    ],
  )

  pub unmarked_more : (n : ℕ) (text : List ℕ) (old : Bool) → is_marked marks n ≡ false → (old ≡ true) ↔ SeenUpTo n text → (old ≡ true) ↔ SeenUpTo (n + 1) text
  unmarked_more n text old unmarked before = (
    λ h. (let s = before.0 h in let l = s.1 in (s.0, omega (arith, l), s.2, s.3)),
    λ s. elim (cases_lt s.0 n) [
      | inl l ↦ before.1 (s.0, l, s.2, s.3)
      | inr l ↦
          let k = s.1 in
          let same : s.0 ≡ n = omega (arith, k, l) in
          absurd (both_ways (is_marked marks n) unmarked (ap (is_marked marks) (sym same) ∙ s.2))
    ],
  )
