-- What a reference means in a scope, word by word of its tokens.
use Rattle.std.proofs.Common.{◌≡◌, ◌≢◌, ℕ, zero, suc, ◌+◌, ◌<◌, ◌≤◌, Bool, true, false, List, [], ◌∷◌, ◌++◌, length, get_or, take, drop, map, Bor, Option, Some, None, IfSome, if◌then◌else◌, refl, sym, ◌∙◌, ap, subst, inl, inr, arith, ◌==◌, take-append-drop, length-take-le}
use Rattle.proto_base.proofs.Common.{cases_Bool, cases_eq, cond-false, cond-true, false_from_ne_true, length-map, map-map}
use Rattle.proto_text.proofs.Common.{word_at, Lexeme}
use Rattle.proto_tree.specs.declared.tree.Behind.{Behind}
use Rattle.proto_names_rules.specs.declared.wants.Wants.{Wants}
use Rattle.proto_names_rules.proofs.Common.{under, joined, ArePlain, Reference, Workspace, fits_at_first, greatest, hits_at, hit, may_resolve_to, shows, meaning, meaning_at, visible_as, MarksSeen, greatest_is}
use Rattle.proto_names_table.proofs.Common.{IsIndexOf, IsAsked, IsWantedAt, names_of, IsTable, Step, one_step, shows_to, under_all_named, is_empty_list, empty_is, joined_more, plain_take, outermost}
use Rattle.proto_names.specs.Scopes.{IsScopeFront}
use Rattle.proto_names_table.specs.declared.table.Table.{Table}
use Rattle.proto_names.proofs.Scopes.{plain_parts}

-- ---- the words behind the first

abbrev pub no_word : Behind ℕ
no_word = record { separator = 0; item = 0 }

abbrev pub words_by : List Lexeme → List (Behind ℕ) → List (List ℕ)
words_by ls bs = map (λ b. word_at ls b.item) bs

pub drop_behind : (ls : List Lexeme) (bs : List (Behind ℕ)) (i : ℕ) → i < length bs → drop i (words_by ls bs) ≡ word_at ls (get_or bs i no_word).item ∷ drop (i + 1) (words_by ls bs)
drop_behind ls [] i l = absurd (omega (arith, l))
drop_behind ls (b ∷ bs) zero l = refl
drop_behind ls (b ∷ bs) (suc i) l =
    let e : suc i + 1 ≡ suc (i + 1) = omega arith in
    drop_behind ls bs i (omega (arith, l)) ∙ ap (λ k. word_at ls (get_or bs i no_word).item ∷ drop k (words_by ls (b ∷ bs))) (sym e)

pub behind_step : (t : Table) → IsTable t → (row : ℕ) → row < length t.rows.items → (ls : List Lexeme) (bs : List (Behind ℕ)) (i : ℕ) → i < length bs → ArePlain (words_by ls bs) → Step t row (word_at ls (get_or bs i no_word).item) (drop (i + 1) (words_by ls bs))
behind_step t ok row l ls bs i li plain =
    one_step t ok row l (word_at ls (get_or bs i no_word).item) (drop (i + 1) (words_by ls bs))
    (subst ArePlain (drop_behind ls bs i li) (plain_parts (take i (words_by ls bs)) (drop i (words_by ls bs)) (subst ArePlain (sym (take-append-drop i (words_by ls bs))) plain)).1)

abbrev text_behind : List Lexeme → Behind ℕ → Bor (List ℕ)
text_behind ls b = record { ref_ptr = (0, 0); now = word_at ls b.item }

pub empty_behind : (ls : List Lexeme) (bs : List (Behind ℕ)) → (length bs == 0) ≡ is_empty_list (words_by ls bs)
empty_behind ls bs = ap (λ n. n == 0) (sym (length-map bs (text_behind ls))) ∙ empty_is (map (text_behind ls) bs) ∙ ap is_empty_list (map-map (λ w. w.now) (text_behind ls) bs)

-- the row of what is wanted is one of the table
pub wanted_within : (t : Table) (seen : List Bool) (what : Wants) (text : List ℕ) (o : Option ℕ) → IsWantedAt t seen what text o → IfSome o (λ k. k < length t.rows.items)
wanted_within t seen what text None h = tt
wanted_within t seen what text (Some k) h = h.0

-- ---- the scope's longest front that is a name

greatest_same : (p q : ℕ → Bool) (n : ℕ) → ((j : ℕ) → j ≤ n → p j ≡ q j) → greatest p n ≡ greatest q n
greatest_same p q zero same = ap (λ b. if b then Some 0 else None) (same 0 (omega arith))
greatest_same p q (suc n) same =
    ap (λ b. if b then Some (suc n) else greatest p n) (same (suc n) (omega arith))
    ∙ ap (λ o. if q (suc n) then Some (suc n) else o) (greatest_same p q n (λ j l. same j (omega (arith, l))))

greatest_cut : (p q : ℕ → Bool) (k n : ℕ) → k ≤ n → ((j : ℕ) → j ≤ k → p j ≡ q j) → ((j : ℕ) → k < j → j ≤ n → p j ≡ false) → greatest p n ≡ greatest q k
greatest_cut p q k zero l same none =
    let e : k ≡ 0 = omega (arith, l) in
    subst (λ m. greatest p m ≡ greatest q k) e (greatest_same p q k same)
greatest_cut p q k (suc n) l same none = elim (cases_eq k (suc n)) [
  | inl e ↦ subst (λ m. greatest p m ≡ greatest q k) e (greatest_same p q k same)
  | inr ne ↦
      cond-false (p (suc n)) (Some (suc n)) (greatest p n) (none (suc n) (omega (arith, l, ne)) (omega arith))
      ∙ greatest_cut p q k n (omega (arith, l, ne)) same (λ j a b. none j a (omega (arith, b)))
]

take_within : {X : Type 0} (xs : List X) (j k : ℕ) → j ≤ k → take j (take k xs) ≡ take j xs
take_within xs zero k l = refl
take_within xs (suc j) zero l = absurd (omega (arith, l))
take_within [] (suc j) (suc k) l = refl
take_within (x ∷ xs) (suc j) (suc k) l = ap (λ z. x ∷ z) (take_within xs j k (omega (arith, l)))

-- the reference in the front of k words of its scope
abbrev pub in_front : Reference → ℕ → Reference
in_front r k = record { file = r.file; scope = take k r.scope; is_absolute = r.is_absolute; wants = r.wants; words = r.words }

-- an absolute reference means what its words name, whatever its scope
meaning_absolute : (w : Workspace) (r : Reference) → r.is_absolute ≡ true → meaning w r ≡ visible_as w r.file (may_resolve_to r.wants) r.words
meaning_absolute w r absolute =
    ap (meaning_at w r) (cond-true r.is_absolute None (greatest (hits_at w r) (length r.scope)) absolute)
    ∙ cond-true r.is_absolute (visible_as w r.file (may_resolve_to r.wants) r.words) None absolute

module _ (t : Table) (ok : IsTable t) (seen : List Bool) (w : Workspace) (r : Reference) (index : IsIndexOf t w.symbols) (marks : MarksSeen w r.file seen)
    (first : List ℕ) (ws : List (List ℕ)) (pw : ArePlain (first ∷ ws)) (words : r.words ≡ first ∷ ws) (plain : ArePlain r.scope) (number : ℕ) (f : IsScopeFront t r.scope number) where
  -- a longer front is no name, so no name stands below it
  none_below : (j : ℕ) → f.words < j → j ≤ length r.scope → hits_at w r j ≡ false
  none_below j a b = false_from_ne_true (hits_at w r j) (λ q.
      let s = shows_to t ok seen w r.file index marks (fits_at_first r.wants r.words) (take j r.scope ++ take 1 r.words) q in
      let name : get_or (names_of t) s.0 [] ≡ under (joined (take j r.scope)) first =
      s.2 ∙ ap (λ z. joined (take j r.scope ++ take 1 z)) words ∙ joined_more (take j r.scope) first (plain_take r.scope j plain) in
      let some : joined (take j r.scope) ≢ [] = λ e. (let z = outermost r.scope j plain b (sym e) in absurd (omega (arith, a, z))) in
      let x = under_all_named t ok (first ∷ []) (pw.0, tt) (joined (take j r.scope)) some s.0 s.1 name in
      f.longest j x.0 a b x.1 x.2)

  shorter : length (take f.words r.scope) ≡ f.words
  shorter = length-take-le f.words r.scope f.within

  same_hit : r.is_absolute ≡ false → hit w r ≡ greatest (hits_at w (in_front r f.words)) f.words
  same_hit relative =
      cond-false r.is_absolute None (greatest (hits_at w r) (length r.scope)) relative
      ∙ greatest_cut (hits_at w r) (hits_at w (in_front r f.words)) f.words (length r.scope) f.within
      (λ j l. ap (λ z. shows w r.file (fits_at_first r.wants r.words) (z ++ take 1 r.words)) (sym (take_within r.scope j f.words l))) none_below

  relative_same : r.is_absolute ≡ false → meaning w r ≡ meaning w (in_front r f.words)
  relative_same relative =
      ap (meaning_at w r) (same_hit relative) ∙ go (greatest (hits_at w (in_front r f.words)) f.words) refl
      ∙ ap (meaning_at w (in_front r f.words)) (sym (cond-false r.is_absolute None (greatest (hits_at w (in_front r f.words)) (length (take f.words r.scope))) relative ∙ ap (greatest (hits_at w (in_front r f.words))) shorter))
    where
      go : (o : Option ℕ) → greatest (hits_at w (in_front r f.words)) f.words ≡ o → meaning_at w r o ≡ meaning_at w (in_front r f.words) o
      go None e = refl
      go (Some k) e = let g = greatest_is (hits_at w (in_front r f.words)) f.words k e in ap (λ z. visible_as w r.file (may_resolve_to r.wants) (z ++ r.words)) (sym (take_within r.scope k f.words g.within))

  absolute_same : r.is_absolute ≡ true → meaning w r ≡ meaning w (in_front r f.words)
  absolute_same absolute = meaning_absolute w r absolute ∙ sym (meaning_absolute w (in_front r f.words) absolute)

  -- the reference means there what it means in its scope
  pub meaning_in_front : meaning w r ≡ meaning w (in_front r f.words)
  meaning_in_front = elim (cases_Bool r.is_absolute) [
    | inl absolute ↦ absolute_same absolute
    | inr relative ↦ relative_same relative
  ]

  pub asked_in_front : IsAsked t seen number w (in_front r f.words)
  asked_in_front = record { index = index; marks = marks; scope_plain = plain_take r.scope f.words plain; scope_is = f.front_is }
