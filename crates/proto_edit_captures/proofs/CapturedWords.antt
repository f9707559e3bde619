-- The answer by texts for one reference is that of the definition by names.
use Rattle.std.proofs.Common.{◌≡◌, ◌≢◌, ℕ, ◌-◌, ◌<◌, ◌≤◌, Bool, true, false, ◌&&◌, if◌then◌else◌, List, [], ◌∷◌, ◌++◌, length, take, drop, Option, Some, None, refl, sym, ap, subst, ◌∙◌, inl, inr, arith, ◌==◌, nat_eq, bytes_eq, eq-eqb, eqb-true, length-take-le, take-append-drop, take_at}
use Rattle.proto_base.proofs.Common.{starts_with, and_from, and_parts, both_ways, cond-false, or_cases, or_left, or_right, none-some, same_from_word, word_from_same}
use Rattle.proto_names_rules.proofs.Common.{Renaming, Collides, IsCaptured, ren, rewritten, shows_mapped, target, ArePlain, IsPlain, joined, IsLinked, IsRenaming, Reference, Workspace, fits_at_first, front_at, hit, may_resolve_to, meaning, meaning_at, same_name, shows, visible_as, name_from_same, same_from_name, joined_apart, hit_relative}
use Rattle.proto_names_rules.specs.declared.kind.Kind.{Kind}
use Rattle.proto_names_rules.specs.declared.wants.Wants.{Wants}
use Rattle.proto_names_rules.specs.declared.wants.Wants.TheVariants as wants
use Rattle.proto_names_imports.proofs.PlainNames.{plain_join}
use Rattle.proto_names.proofs.Common.{HoldsNames, LinkOf, is_visible}
use Rattle.proto_edit_rename_laws.proofs.Common.{HasScope, IsNewWord, meaning_parts}
use Rattle.proto_edit_rename_laws.proofs.Captures.{captures_begin_anew}
use Rattle.proto_edit_captures.specs.Common.{bytes_before, captures_at, captures_words, first_now, fit_of, shown_from, stands_first, NewTexts, is_new_by, is_new_word, IsDeclaredName, first_fits, shown_below}
use Rattle.proto_edit_captures.proofs.ByTexts.{shown_is, target_plain, texts_for}
use Rattle.proto_edit_captures.proofs.FrontLengths.{before_first, deeper, joined_begins, not_deeper, scan_from, scan_to}
use Rattle.proto_edit_captures.proofs.NewlyShown.{same_truth, shown_is_anew}
pub use Rattle.proto_names_table.proofs.Search.{plain_take}

pub taken : (xs : List (List ℕ)) (j : ℕ) → 0 < j → j ≤ length xs → take j xs ≢ []
taken xs j some within e = (let l = length-take-le j xs within in let n = ap length e in omega (arith, l, n, some))

new_from : (e : Renaming) (q : List ℕ) → is_new_word (texts_for e) q ≡ true → IsNewWord e q
new_from e q h = elim (or_cases (bytes_eq q e.new) (is_new_by e.entry q) h) [
  | inl x ↦ inl (word_from_same q e.new x)
  | inr x ↦ inr (by e.entry refl x)
]
  where
    by : (o : Option (List ℕ × List ℕ)) → e.entry ≡ o → is_new_by o q ≡ true → (p : List ℕ × List ℕ) × (e.entry ≡ Some p) × (q ≡ p.1)
    by None eo x = absurd (both_ways false refl x)
    by (Some p) eo x = (p, eo, word_from_same q p.1 x)

new_to : (e : Renaming) (q : List ℕ) → IsNewWord e q → is_new_word (texts_for e) q ≡ true
new_to e q (inl x) = or_left (bytes_eq q e.new) (is_new_by e.entry q) (same_from_word q e.new x)
new_to e q (inr x) = or_right (bytes_eq q e.new) (is_new_by e.entry q) (ap (λ o. is_new_by o q) x.1 ∙ same_from_word q x.0.1 x.2)

-- what fits at the first word, by the words behind it
fits_word : (what : Wants) (p : List ℕ) (ws : List (List ℕ)) (k : Kind) → first_fits (fit_of what ws) k ≡ fits_at_first what (p ∷ ws) k
fits_word wants.Type p [] k = refl
fits_word wants.Type p (v ∷ ws) k = refl
fits_word wants.Message p [] k = refl
fits_word wants.Message p (v ∷ ws) k = refl
fits_word wants.Extension p [] k = refl
fits_word wants.Extension p (v ∷ ws) k = refl

pub fits_first : (what : Wants) (p : List ℕ) (ws : List (List ℕ)) → first_fits (fit_of what ws) ≡ fits_at_first what (p ∷ ws)
fits_first what p ws = λ i k. fits_word what p ws k i

-- the first word of a reference stands for the target
stands_is : (t front : List (List ℕ)) (p : List ℕ) (rest : List (List ℕ)) → ArePlain t → ArePlain (front ++ p ∷ [])
    → stands_first (joined t) (joined (front ++ p ∷ rest)) (length (joined (front ++ p ∷ []))) ≡ same_name (front ++ p ∷ []) t
stands_is t front p rest plain own = same_truth (stands_first (joined t) (joined (front ++ p ∷ rest)) (length (joined (front ++ p ∷ [])))) (same_name (front ++ p ∷ []) t) forth back
  where
    begun : take (length (joined (front ++ p ∷ []))) (joined (front ++ p ∷ rest)) ≡ joined (front ++ p ∷ [])
    begun = let b = joined_begins front p rest in ap (take (length (joined (front ++ p ∷ [])))) b.1 ∙ take_at (joined (front ++ p ∷ [])) b.0 (length (joined (front ++ p ∷ []))) refl

    forth : stands_first (joined t) (joined (front ++ p ∷ rest)) (length (joined (front ++ p ∷ []))) ≡ true → same_name (front ++ p ∷ []) t ≡ true
    forth h =
        let x = and_parts (length (joined (front ++ p ∷ [])) == length (joined t)) (starts_with nat_eq (joined (front ++ p ∷ rest)) (joined t)) h in
        let long : length (joined (front ++ p ∷ [])) ≡ length (joined t) = eqb-true (length (joined (front ++ p ∷ []))) (length (joined t)) x.0 in
        let text : joined t ≡ take (length (joined t)) (joined (front ++ p ∷ rest)) = word_from_same (joined t) (take (length (joined t)) (joined (front ++ p ∷ rest))) x.1 in
        let same : joined (front ++ p ∷ []) ≡ joined t = sym (text ∙ ap (λ n. take n (joined (front ++ p ∷ rest))) (sym long) ∙ begun) in
        same_from_name (front ++ p ∷ []) t (joined_apart (front ++ p ∷ []) t own plain same)

    back : same_name (front ++ p ∷ []) t ≡ true → stands_first (joined t) (joined (front ++ p ∷ rest)) (length (joined (front ++ p ∷ []))) ≡ true
    back h =
        let same : joined (front ++ p ∷ []) ≡ joined t = ap joined (name_from_same (front ++ p ∷ []) t h) in
        and_from (length (joined (front ++ p ∷ [])) == length (joined t)) (starts_with nat_eq (joined (front ++ p ∷ rest)) (joined t)) (eq-eqb (length (joined (front ++ p ∷ []))) (length (joined t)) (ap length same))
        (same_from_word (joined t) (take (length (joined t)) (joined (front ++ p ∷ rest))) (sym (ap (λ n. take n (joined (front ++ p ∷ rest))) (ap length (sym same)) ∙ begun ∙ same)))

module _ (e : Renaming) (w : Workspace) (l : LinkOf) (ok : IsLinked w) (is : IsRenaming e w) (free : Collides e w → ⊥) (names : HoldsNames w l) (new_plain : IsPlain e.new) (r : Reference)
    (visible : (x : List (List ℕ)) → ArePlain x → is_visible l r.file (joined x) ≡ shows w r.file (λ k. true) x) (scoped : HasScope w r) (scope_plain : ArePlain r.scope)
    (p : List ℕ) (rest : List (List ℕ)) (words : r.words ≡ p ∷ rest) (word_plain : IsPlain p) (m : List (List ℕ)) (means : meaning w r ≡ Some m) where
  abbrev n : NewTexts
  n = texts_for e

  fitting : (x : List (List ℕ)) → shows_mapped e w r.file (first_fits (fit_of r.wants rest)) x ≡ shows_mapped e w r.file (fits_at_first r.wants r.words) x
  fitting x =
      ap (λ (good : Kind → Bool). shows_mapped e w r.file good x) (fits_first r.wants p rest)
      ∙ ap (λ z. shows_mapped e w r.file (fits_at_first r.wants z) x) (sym words)

  has_hit : r.is_absolute ≡ false → (k : ℕ) × (hit w r ≡ Some k)
  has_hit relative = by (hit w r) refl means
    where
      by : (o : Option ℕ) → hit w r ≡ o → meaning_at w r o ≡ Some m → (k : ℕ) × (hit w r ≡ Some k)
      by None h x = absurd (none-some m (sym (cond-false r.is_absolute (visible_as w r.file (may_resolve_to r.wants) r.words) None relative) ∙ x))
      by (Some k) h x = (k, h)

  module _ (k : ℕ) (at : hit w r ≡ Some k) where
    abbrev front : List (List ℕ)
    front = take k r.scope

    abbrev len : ℕ
    len = length (joined (take k r.scope ++ p ∷ []))

    -- the first word as it is rewritten
    abbrev q : List ℕ
    q = if same_name (take k r.scope ++ p ∷ []) (target e) then e.new else p

    within : k ≤ length r.scope
    within = (hit_relative w r k at).1.within

    m_is : m ≡ take k r.scope ++ p ∷ rest
    m_is = meaning_parts w r m means ∙ ap (λ o. front_at r o ++ r.words) at ∙ ap (λ z. take k r.scope ++ z) words

    first_is : take 1 (rewritten e (take k r.scope) r.words) ≡ q ∷ []
    first_is = ap (λ z. take 1 (rewritten e (take k r.scope) z)) words

    q_plain : IsPlain q
    q_plain = by (same_name (take k r.scope ++ p ∷ []) (target e))
      where
        by : (b : Bool) → IsPlain (if b then e.new else p)
        by true = new_plain
        by false = word_plain

    len_is : bytes_before (length (joined m)) rest ≡ len
    len_is = ap (λ z. bytes_before (length (joined z)) rest) m_is ∙ before_first (take k r.scope) p rest

    word_is : first_now n (joined m) (bytes_before (length (joined m)) rest) p ≡ q
    word_is =
        ap (λ z. first_now n (joined m) z p) len_is ∙ ap (λ z. first_now n (joined z) len p) m_is
        ∙ ap (λ b. if b then e.new else p) (stands_is (target e) (take k r.scope) p rest (target_plain w l r.file names visible e is) (plain_join (take k r.scope) p (plain_take r.scope k scope_plain) word_plain))

    abbrev test : List ℕ → Bool
    test f = shown_below l r.file (fit_of r.wants rest) n f q

    answer_is : captures_words l r.file n r.wants r.scope p rest (joined m) ≡ (is_new_word n q && shown_from test (len - length p) [] r.scope)
    answer_is =
        ap (λ z. captures_at l r.file n r.scope (fit_of r.wants rest) p z (first_now n (joined m) (bytes_before (length (joined m)) rest) p)) len_is
        ∙ ap (captures_at l r.file n r.scope (fit_of r.wants rest) p len) word_is

    -- what is shown in a longer front, by texts and by names
    shown_in : (j : ℕ) → 0 < j → j ≤ length r.scope → IsNewWord e q → test (joined (take j r.scope)) ≡ shows_mapped e w r.file (fits_at_first r.wants r.words) (ren e (take j r.scope) ++ take 1 (rewritten e (take k r.scope) r.words))
    shown_in j some inside new =
        let not_nil = taken r.scope j some inside in
        let declared : IsDeclaredName w (take j r.scope) = (not_nil, scoped (take j r.scope) (drop j r.scope) (take-append-drop j r.scope) not_nil) in
        shown_is w l r.file names visible e is (take j r.scope) not_nil (plain_take r.scope j scope_plain) q q_plain (fit_of r.wants rest)
        ∙ sym (shown_is_anew e w ok is free (take j r.scope) declared q new r.file (first_fits (fit_of r.wants rest)))
        ∙ fitting (ren e (take j r.scope) ++ q ∷ [])
        ∙ ap (λ z. shows_mapped e w r.file (fits_at_first r.wants r.words) (ren e (take j r.scope) ++ z)) (sym first_is)

    forth_at : captures_words l r.file n r.wants r.scope p rest (joined m) ≡ true → IsCaptured e w r
    forth_at h =
        let t = and_parts (is_new_word n q) (shown_from test (len - length p) [] r.scope) (sym answer_is ∙ h) in
        let new = new_from e q t.0 in
        let s = scan_to test (len - length p) [] r.scope scope_plain t.1 in
        let some = s.1 in
        let inside = s.2 in
        let below = not_deeper r.scope p k s.0 some within inside s.3 in
        (k, s.0, at, below, inside, sym (shown_in s.0 some inside new) ∙ s.4)

    back_at : (c : IsCaptured e w r) → c.0 ≡ k → captures_words l r.file n r.wants r.scope p rest (joined m) ≡ true
    back_at c same =
        let j = c.1 in
        let b = c.3 in
        let below : k < j = omega (arith, b, same) in
        let begun = captures_begin_anew e w r k ok is free scoped at c in
        let word : q ≡ begun.0 = one_word (sym first_is ∙ begun.1) in
        let new : IsNewWord e q = subst (IsNewWord e) (sym word) begun.2 in
        let shown = ap (λ i. shows_mapped e w r.file (fits_at_first r.wants r.words) (ren e (take j r.scope) ++ take 1 (rewritten e (take i r.scope) r.words))) (sym same) ∙ c.5 in
        let some : 0 < j = omega (arith, below) in
        answer_is ∙ and_from (is_new_word n q) (shown_from test (len - length p) [] r.scope) (new_to e q new)
        (scan_from test (len - length p) [] r.scope scope_plain j some c.4 (deeper r.scope p k j below c.4) (shown_in j some c.4 new ∙ shown))
      where
        one_word : {v : List ℕ} → q ∷ [] ≡ v ∷ [] → q ≡ v
        one_word h = cc

  pub forth : r.is_absolute ≡ false → captures_words l r.file n r.wants r.scope p rest (joined m) ≡ true → IsCaptured e w r
  forth relative h = let x = has_hit relative in forth_at x.0 x.1 h

  pub back : IsCaptured e w r → (r.is_absolute ≡ false) × (captures_words l r.file n r.wants r.scope p rest (joined m) ≡ true)
  back c = ((hit_relative w r c.0 c.2).0, back_at c.0 c.2 c refl)
