-- A link's name by its text.
use Rattle.std.proofs.Common.{◌≡◌, ◌≢◌, ℕ, zero, suc, Bool, true, false, not, cond, List, [], ◌∷◌, Some, None, option_map, option_and_then, refl, sym, ap, ◌∙◌, inl, inr, arith, slice_get, find, bytes_eq}
use Rattle.proto_base.proofs.Common.{and_from, and_parts, cases_Bool, cond-false, cond-true, none-some, same_Some, same_from_word, word_from_same}
use Rattle.proto_names.proofs.Common.{LinkOf, NameOf, has_name, if_declared, is_empty, name_at, name_text}
use Rattle.proto_edit_captures.specs.ShownTexts.{kind_named}

-- a name that is there with this text
abbrev There : List NameOf → ℕ → List ℕ → Type 0
There ns row text = option_map (λ n. n.text) (option_and_then if_declared (slice_get ns row)) ≡ Some text

-- the first is the name with this text, or it is passed over
first_is : (n : NameOf) (text : List ℕ) → option_map (λ n. n.text) (if_declared n) ≡ Some text → (has_name text n ≡ true) × (if_declared n ≡ Some n)
first_is n text h = elim (cases_Bool (is_empty n.files)) [
  | inl e ↦ absurd (none-some text (sym (ap (λ b. option_map (λ (n : NameOf). n.text) (cond b None (Some n))) e) ∙ h))
  | inr e ↦
      let declared : if_declared n ≡ Some n = ap (λ b. cond b None (Some n)) e in
      let same : n.text ≡ text = same_Some n.text text (sym (ap (option_map (λ (n : NameOf). n.text)) declared) ∙ h) in
      (and_from (not (is_empty n.files)) (bytes_eq n.text text) (ap not e) (same_from_word n.text text same), declared)
]

first_has : (n : NameOf) (text : List ℕ) → has_name text n ≡ true → (if_declared n ≡ Some n) × (n.text ≡ text)
first_has n text h =
    let p = and_parts (not (is_empty n.files)) (bytes_eq n.text text) h in
    (ap (λ b. cond b None (Some n)) (not_true (is_empty n.files) p.0), word_from_same n.text text p.1)
  where
    not_true : (b : Bool) → not b ≡ true → b ≡ false
    not_true false h = refl
    not_true true h = sym h

pub found_at : (ns : List NameOf) (text : List ℕ) (row : ℕ) → There ns row text → ((i : ℕ) → There ns i text → i ≡ row) → find (has_name text) ns ≡ option_and_then if_declared (slice_get ns row)
found_at [] text row h once = absurd (none-some text h)
found_at (n ∷ ns) text zero h once = let f = first_is n text h in cond-true (has_name text n) (Some n) (find (has_name text) ns) f.0 ∙ sym f.1
found_at (n ∷ ns) text (suc row) h once = elim (cases_Bool (has_name text n)) [
  | inl same ↦
      let f = first_has n text same in
      let z = once 0 (ap (option_map (λ (n : NameOf). n.text)) f.0 ∙ ap Some f.1) in
      absurd (omega (arith, z))
  | inr other ↦
      cond-false (has_name text n) (Some n) (find (has_name text) ns) other
      ∙ found_at ns text row h (λ i e. let z = once (suc i) e in omega (arith, z))
]

pub found_none : (ns : List NameOf) (text : List ℕ) → ((i : ℕ) → option_map (λ n. n.text) (option_and_then if_declared (slice_get ns i)) ≢ Some text) → find (has_name text) ns ≡ None
found_none [] text none = refl
found_none (n ∷ ns) text none = elim (cases_Bool (has_name text n)) [
  | inl same ↦ (let f = first_has n text same in absurd (none 0 (ap (option_map (λ (n : NameOf). n.text)) f.0 ∙ ap Some f.1)))
  | inr other ↦ cond-false (has_name text n) (Some n) (find (has_name text) ns) other ∙ found_none ns text (λ i. none (suc i))
]

-- a name that is found stands in the list, with this text
pub found_some : (ns : List NameOf) (text : List ℕ) (n : NameOf) → find (has_name text) ns ≡ Some n → (row : ℕ) × (option_and_then if_declared (slice_get ns row) ≡ Some n) × (n.text ≡ text)
found_some [] text n h = absurd (none-some n h)
found_some (m ∷ ns) text n h = elim (cases_Bool (has_name text m)) [
  | inl same ↦
      let e : m ≡ n = same_Some m n (sym (cond-true (has_name text m) (Some m) (find (has_name text) ns) same) ∙ h) in
      let f = first_has m text same in
      (0, f.0 ∙ ap Some e, sym (ap (λ (z : NameOf). z.text) e) ∙ f.1)
  | inr other ↦
      let r = found_some ns text n (sym (cond-false (has_name text m) (Some m) (find (has_name text) ns) other) ∙ h) in
      (suc r.0, r.1, r.2)
]

pub kind_at : (l : LinkOf) (text : List ℕ) (row : ℕ) → name_text l row ≡ Some text → ((i j : ℕ) (t : List ℕ) → name_text l i ≡ Some t → name_text l j ≡ Some t → i ≡ j) → option_map (λ n. n.kind) (name_at l row) ≡ kind_named l text
kind_at l text row h once = ap (option_map (λ n. n.kind)) (sym (found_at l.names text row h (λ i e. once i row text e h)))

pub kind_none : (l : LinkOf) (text : List ℕ) → ((row : ℕ) → name_text l row ≢ Some text) → None ≡ kind_named l text
kind_none l text none = ap (option_map (λ n. n.kind)) (sym (found_none l.names text none))
