-- The words behind one of a reference, as they are gone through.
use Rattle.std.proofs.Common.{◌≡◌, ◌≢◌, ◌↔◌, ℕ, ◌+◌, ◌<◌, ◌≤◌, ◌==◌, true, false, List, [], ◌∷◌, ◌++◌, length, get_or, drop, map, Option, Some, None, IfNone, IfSome, Bor, option_map, refl, sym, ap, ap₂, ◌∙◌}
use Rattle.proto_base.proofs.Common.{append_cancel_right, cond-true, cond-false, drop_all, front_element, none-some, option_or, same_Some}
use Rattle.proto_tree.specs.References.{dotted}
use Rattle.proto_tree.specs.declared.tree.Behind.{Behind}
use Rattle.proto_names_outline.specs.declared.listing.Use.{Use}
use Rattle.proto_names.specs.Linking.{Meant}
use Rattle.proto_names_at.specs.References.{behind_token, word_meant, word_with}

abbrev items : List (Behind ℕ) → List ℕ
items bs = map (λ b. b.item) bs

-- the token is the first of these
pub first_here : (token t : ℕ) (ts : List ℕ) → (t == token) ≡ true → behind_token token (t ∷ ts) ≡ Some ts
first_here token t ts q = cond-true (t == token) (Some ts) (behind_token token ts) q

pub first_not : (token t : ℕ) (ts : List ℕ) → (t == token) ≡ false → behind_token token (t ∷ ts) ≡ behind_token token ts
first_not token t ts q = cond-false (t == token) (Some ts) (behind_token token ts) q

module _ (token : ℕ) (bs : List (Behind ℕ)) (i : ℕ) (b d : Behind ℕ) (lt : i < length bs) (is : b ≡ get_or bs i d) where
  left : behind_token token (items (drop i bs)) ≡ behind_token token (b.item ∷ items (drop (i + 1) bs))
  left = ap (λ (z : List (Behind ℕ)). behind_token token (items z)) (front_element bs i b d lt is)

  pub word_here : (b.item == token) ≡ true → behind_token token (items (drop i bs)) ≡ Some (items (drop (i + 1) bs))
  word_here q = left ∙ first_here token b.item (items (drop (i + 1) bs)) q

  pub next_word : (b.item == token) ≡ false → behind_token token (items (drop i bs)) ≡ behind_token token (items (drop (i + 1) bs))
  next_word q = left ∙ first_not token b.item (items (drop (i + 1) bs)) q

pub no_word_left : (token : ℕ) (bs : List (Behind ℕ)) (i : ℕ) → length bs ≤ i → behind_token token (items (drop i bs)) ≡ None
no_word_left token bs i le = ap (λ (z : List (Behind ℕ)). behind_token token (items z)) (drop_all i bs le)

-- ---- references

abbrev words_of : Use → List ℕ
words_of u = dotted u.reference.now.words

module _ (token : ℕ) (us : List Use) (ms : List Meant) (i : ℕ) (u d : Use) (m e : Meant) (less : i < length us) (lt : i < length ms) (is : u ≡ get_or us i d) (too : m ≡ get_or ms i e) where
  all_left : word_meant token (drop i us) (drop i ms) ≡ option_or (option_map (word_with m) (behind_token token (words_of u))) (word_meant token (drop (i + 1) us) (drop (i + 1) ms))
  all_left = ap₂ (λ (x : List Use) (y : List Meant). word_meant token x y) (front_element us i u d less is) (front_element ms i m e lt too)

  pub use_here : (ts : List ℕ) → Some ts ≡ behind_token token (words_of u) → word_meant token (drop i us) (drop i ms) ≡ Some (word_with m ts)
  use_here ts q = all_left ∙ ap (λ (o : Option (List ℕ)). option_or (option_map (word_with m) o) (word_meant token (drop (i + 1) us) (drop (i + 1) ms))) (sym q)

  pub next_use : None ≡ behind_token token (words_of u) → word_meant token (drop i us) (drop i ms) ≡ word_meant token (drop (i + 1) us) (drop (i + 1) ms)
  next_use q = all_left ∙ ap (λ (o : Option (List ℕ)). option_or (option_map (word_with m) o) (word_meant token (drop (i + 1) us) (drop (i + 1) ms))) (sym q)

pub no_use_left : (token : ℕ) (us : List Use) (ms : List Meant) (i : ℕ) → length us ≤ i → word_meant token (drop i us) (drop i ms) ≡ None
no_use_left token us ms i le = ap (λ (x : List Use). word_meant token x (drop i ms)) (drop_all i us le)

-- ---- what stands before the end of a text

pub words_each : (word : ℕ → List ℕ) (bs : List (Behind ℕ)) → map (λ b. word b.item) bs ≡ map word (map (λ b. b.item) bs)
words_each word [] = refl
words_each word (b ∷ bs) = ap (λ ws. word b.item ∷ ws) (words_each word bs)

module _ (whole tail text end : List ℕ) (same : whole ≡ text) (ends : tail ≡ end) where
  its_front : (before : List ℕ) → whole ≡ before ++ tail → (found : List ℕ) → found ≡ before → (front : List ℕ) → (Some found ≡ Some front) ↔ (text ≡ front ++ end)
  its_front before is found here front = (
    λ e. sym same ∙ is ∙ ap₂ (λ (x y : List ℕ). x ++ y) (sym here ∙ same_Some found front e) ends,
    λ h. ap (λ (z : List ℕ). Some z) (here ∙ append_cancel_right before front tail (sym is ∙ same ∙ h ∙ ap (λ z. front ++ z) (sym ends))),
  )

  no_front : ((front : List ℕ) → whole ≢ front ++ tail) → (front : List ℕ) → ◌≡◌ {A = Option (List ℕ)} None (Some front) ↔ (text ≡ front ++ end)
  no_front never front = (λ e. absurd (none-some front e), λ h. absurd (never front (same ∙ h ∙ ap (λ z. front ++ z) (sym ends))))

  -- what was found before the end, or that there is nothing
  pub its_end : (o : Option (Bor (List ℕ))) → IfSome o (λ b. whole ≡ b.now ++ tail) → IfNone o ((front : List ℕ) → whole ≢ front ++ tail) → (front : List ℕ) → (option_map (λ (b : Bor (List ℕ)). b.now) o ≡ Some front) ↔ (text ≡ front ++ end)
  its_end None some none front = no_front none front
  its_end (Some b) some none front = its_front b.now some b.now refl front
