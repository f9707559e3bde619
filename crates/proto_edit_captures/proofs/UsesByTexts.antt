-- The parts of the code's answer for one reference, put together.
use Rattle.std.proofs.Common.{◌≡◌, ℕ, ◌+◌, ◌-◌, ◌<◌, Bool, true, false, not, ◌&&◌, ◌||◌, nat_le, List, [], ◌∷◌, length, get_or, drop, map, sym, ap, ◌∙◌, arith, ◌==◌, is_some, ne_eqb}
use Rattle.proto_case.specs.Camel.{entry_name}
use Rattle.proto_names_outline.specs.Listing.{path_at, read}
use Rattle.proto_names_outline.specs.declared.listing.Listed.{Listed}
use Rattle.proto_names_outline.specs.declared.listing.Use.{Use}
use Rattle.proto_names_rules.proofs.Common.{under, name_of, below}
use Rattle.proto_names.specs.Linking.{LinkOf}
use Rattle.proto_edit_captures.specs.Common.{Fit, bytes_before, captures_use, first_now, is_cons, shown_from, NewTexts, is_new_word, overtakes_use, sees_text, shown_below}
use Rattle.proto_edit_captures.proofs.FirstOnes.{front}

-- the front by one word more, and what is left of the scope
module _ {X : Type 0} (view : X → List ℕ) (test : List ℕ → Bool) (least : ℕ) (xs : List X) (i : ℕ) (x : X) (before here : List ℕ) (more : i < length xs) (is : x ≡ get_or xs i x) (here_is : here ≡ under before (view x)) where
  abbrev rest_shown : List ℕ → Bool
  rest_shown z = shown_from test least z (map view (drop (i + 1) xs))

  one_front : shown_from test least before (map view (drop i xs)) ≡ ((nat_le least (length here) && test here) || rest_shown here)
  one_front =
      ap (λ ys. shown_from test least before (map view ys)) (front xs i x more is)
      ∙ ap (λ z. (nat_le least (length z) && test z) || rest_shown z) (sym here_is)

  pub not_shown_here : (nat_le least (length here) && test here) ≡ false → shown_from test least before (map view (drop i xs)) ≡ rest_shown here
  not_shown_here e = one_front ∙ ap (λ b. b || rest_shown here) e

  pub shown_here : (nat_le least (length here) && test here) ≡ true → shown_from test least before (map view (drop i xs)) ≡ true
  shown_here e = one_front ∙ ap (λ b. b || rest_shown here) e

pub cons_is : {A B : Type 0} (f : A → B) (xs : List A) (b : Bool) → b ≡ (length xs == 0) → not b ≡ is_cons (map f xs)
cons_is f [] b e = ap not e
cons_is f (x ∷ xs) b e = ap not (e ∙ ne_eqb (length (x ∷ xs)) 0 (λ z. omega (arith, z)))

-- what fits at the first word of a use
abbrev fit_by : Use → Bool → Fit
fit_by u is_long = record { wants = u.wants; is_long = is_long }

module _ (l : LinkOf) (file : ℕ) (n : NewTexts) (text : ℕ → List ℕ) (declared : List Listed) (u : Use) (meaning : List ℕ) where
  abbrev rest : List (List ℕ)
  rest = map (λ b. text b.item) u.reference.now.words.rest

  abbrev shown : Bool → List ℕ → ℕ → List (List ℕ) → Bool
  shown is_long word least scope = shown_from (λ front. shown_below l file (fit_by u is_long) n front word) least [] scope

  pub captures_is : (len least : ℕ) (word first : List ℕ) (is_long : Bool) (scope : List (List ℕ)) → is_some u.reference.now.dot ≡ false → first ≡ text u.reference.now.words.first
      → len ≡ bytes_before (length meaning) rest → word ≡ first_now n meaning len first → is_new_word n word ≡ true → is_long ≡ is_cons rest → least ≡ len - length first → scope ≡ name_of text entry_name (path_at (read declared) u.scope)
      → shown is_long word least scope ≡ captures_use l file n text declared u meaning
  captures_is len least word first is_long scope relative f b w new long ll s =
      let start = text u.reference.now.words.first in
      let size = bytes_before (length meaning) rest in
      let names = name_of text entry_name (path_at (read declared) u.scope) in
      let word_is : word ≡ first_now n meaning size start = w ∙ ap (λ z. first_now n meaning z first) b ∙ ap (first_now n meaning size) f in
      let least_is : least ≡ size - length start = ll ∙ ap (λ z. z - length first) b ∙ ap (λ z. size - length z) f in
      ap (λ z. shown z word least scope) long
      ∙ ap (λ z. shown (is_cons rest) z least scope) word_is
      ∙ ap (λ z. shown (is_cons rest) (first_now n meaning size start) z scope) least_is
      ∙ ap (λ z. shown (is_cons rest) (first_now n meaning size start) (size - length start) z) s
      ∙ ap (λ z. z && shown (is_cons rest) (first_now n meaning size start) (size - length start) names) (sym (ap (is_new_word n) (sym word_is) ∙ new))
      ∙ ap (λ z. not z && (is_new_word n (first_now n meaning size start) && shown (is_cons rest) (first_now n meaning size start) (size - length start) names)) (sym relative)

-- the same of a reference that is overtaken
module _ (l : LinkOf) (marks : List Bool) (packages : List ℕ → Bool) (text : ℕ → List ℕ) (declared : List Listed) (u : Use) (meaning : List ℕ) where
  abbrev behind : List (List ℕ)
  behind = map (λ b. text b.item) u.reference.now.words.rest

  abbrev seen : Bool → List ℕ → ℕ → List (List ℕ) → Bool
  seen is_long word least scope = shown_from (λ front. sees_text l marks packages (fit_by u is_long) (below front word)) least [] scope

  pub overtakes_is : (len least : ℕ) (first : List ℕ) (is_long : Bool) (scope : List (List ℕ)) → is_some u.reference.now.dot ≡ false → first ≡ text u.reference.now.words.first
      → len ≡ bytes_before (length meaning) behind → is_long ≡ is_cons behind → least ≡ len - length first → scope ≡ name_of text entry_name (path_at (read declared) u.scope)
      → seen is_long first least scope ≡ overtakes_use l marks packages text declared u meaning
  overtakes_is len least first is_long scope relative f b long ll s =
      let start = text u.reference.now.words.first in
      let size = bytes_before (length meaning) behind in
      let names = name_of text entry_name (path_at (read declared) u.scope) in
      ap (λ z. seen z first least scope) long
      ∙ ap (λ z. seen (is_cons behind) z least scope) f
      ∙ ap (λ z. seen (is_cons behind) start z scope) (ll ∙ ap (λ z. z - length first) b ∙ ap (λ z. size - length z) f)
      ∙ ap (λ z. seen (is_cons behind) start (size - length start) z) s
      ∙ ap (λ z. not z && seen (is_cons behind) start (size - length start) names) (sym relative)
