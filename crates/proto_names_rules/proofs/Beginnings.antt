-- A reference that a rename captures begins with a new word, or with the old one, which stands for what is renamed.
use Rattle.std.proofs.Common.{◌≡◌, ◌⊎◌, ℕ, ◌<◌, ◌≤◌, true, ◌&&◌, List, [], ◌∷◌, ◌++◌, length, take, drop, Some, refl, sym, ◌∙◌, ap, inl, inr, arith, cond, length-append, Contains, true≢false}
use Rattle.std.proofs.lemmas.List.{take-append-drop}
use Rattle.proto_base.proofs.Common.{and_from, and_parts, any_from, any_to, both_ways, cases_Bool, cond-true, cond-false}
use Rattle.proto_names_rules.proofs.Common.{Collides, IsLinked, IsRenaming, Reference, Renaming, Symbol, Workspace, fits_at_first, hit, hit_relative, hits_at, last_parts, moves_to, moves, name_from_same, ren, ren_apart, rewritten, same_from_name, same_name, sees, split_last, stays, target, turn_below-length, turn_below-more, turned}
use Rattle.proto_names_rules.specs.Beginnings.{BeginsSo, CapturesBeginSo, IsDeclaredScope, by_entry, by_new, by_old}
use Rattle.proto_names_rules.proofs.Imports.{none_fits}

-- a word below a name becomes another only right below the parent
word_there : (e : Renaming) (y : List (List ℕ)) (q p : List ℕ) → (cond (same_name y e.parent) (turned e q) q) ≡ p → (q ≡ p) ⊎ ((moves e q ≡ true) × (turned e q ≡ p))
word_there e y q p h = elim (cases_Bool (same_name y e.parent)) [
  | inr other ↦ inl (sym (cond-false (same_name y e.parent) (turned e q) q other) ∙ h)
  | inl at ↦
      let t : turned e q ≡ p = sym (cond-true (same_name y e.parent) (turned e q) q at) ∙ h in
      elim (cases_Bool (moves e q)) [
        | inl m ↦ inr (m, t)
        | inr not_moved ↦ inl (sym (stays e q not_moved) ∙ t)
      ]
]

none_of_nothing : (xs : List (List ℕ)) → length xs ≡ 0 → xs ≡ []
none_of_nothing [] h = refl
none_of_nothing (x ∷ xs) h = absurd (omega (arith, h))

module _ (e : Renaming) (w : Workspace) (ok : IsLinked w) (is : IsRenaming e w) (free : Collides e w → ⊥) (r : Reference) (scope : IsDeclaredScope w r) where
  -- two names that become one are one, where the first stands right above a symbol, and the second is a front of the scope
  one_name : (s : Symbol) → Contains w.symbols s → (y x : List (List ℕ)) (q : List ℕ) → s.name ≡ y ++ q ∷ [] → (back : List (List ℕ)) → x ++ back ≡ r.scope → ren e y ≡ ren e x → y ≡ x
  one_name s c [] x q n back whole h = sym (none_of_nothing x (sym (turn_below-length e.parent (turned e) x) ∙ ap length (sym h) ∙ turn_below-length e.parent (turned e) []))
  one_name s c (b ∷ y) x q n back whole h =
      let len : length x ≡ length (b ∷ y) = sym (turn_below-length e.parent (turned e) x) ∙ ap length (sym h) ∙ turn_below-length e.parent (turned e) (b ∷ y) in
      let u = ok.nested s c (b ∷ y) q n (omega arith) in
      let v = scope x back whole (omega (arith, len)) in
      sym u.2 ∙ ren_apart e w is free u.0 v.0 u.1 v.1 (ap (ren e) u.2 ∙ h ∙ ap (ren e) (sym v.2)) ∙ v.2

  module _ (k j : ℕ) (hits : hit w r ≡ Some k) (above : k < j) (below : j ≤ length r.scope) where
    -- where the first word stays, the reference would hit at that front already
    hits_there : (p : List ℕ) (rest : List (List ℕ)) → (p ∷ rest ≡ r.words) → (s : Symbol) → Contains w.symbols s → s.name ≡ take j r.scope ++ p ∷ [] → fits_at_first r.wants (p ∷ rest) s.kind ≡ true → sees w r.file s.file ≡ true → hits_at w r j ≡ true
    hits_there p rest is_words s c n f v =
        any_from (λ t. same_name t.name (take j r.scope ++ take 1 r.words) && (fits_at_first r.wants r.words t.kind && sees w r.file t.file)) w.symbols s c
        (and_from _ _ (same_from_name s.name (take j r.scope ++ take 1 r.words) (n ∙ ap (λ ws. take j r.scope ++ take 1 ws) is_words)) (and_from _ _ (ap (λ ws. fits_at_first r.wants ws s.kind) (sym is_words) ∙ f) v))

    begins : (words : List (List ℕ)) → words ≡ r.words → (s : Symbol) → Contains w.symbols s → ren e s.name ≡ ren e (take j r.scope) ++ take 1 (rewritten e (take k r.scope) words) → fits_at_first r.wants words s.kind ≡ true → sees w r.file s.file ≡ true → BeginsSo e w r
    begins [] is_words s c n f v = absurd (true≢false (sym f ∙ none_fits r.wants s.kind))
    begins (p ∷ rest) is_words s c n f v = elim (cases_Bool (same_name (take k r.scope ++ p ∷ []) (target e))) [
      | inl it ↦
          let at = name_from_same (take k r.scope ++ p ∷ []) (target e) it in
          let first : take 1 r.words ≡ p ∷ [] = ap (take 1) (sym is_words) in
          by_old k hits (first ∙ ap (λ (z : List ℕ). z ∷ []) (last_parts (take k r.scope) e.parent p e.old at).1) (ap (λ z. take k r.scope ++ z) first ∙ at)
      | inr other ↦
          let named : ren e s.name ≡ ren e (take j r.scope) ++ p ∷ [] = n ∙ ap (λ (z : List ℕ). ren e (take j r.scope) ++ z ∷ []) (cond-false (same_name (take k r.scope ++ p ∷ []) (target e)) e.new p other) in
          let some : 0 < length s.name = omega (arith, sym (turn_below-length e.parent (turned e) s.name), ap length named, length-append (ren e (take j r.scope)) (p ∷ [])) in
          let x = split_last s.name some in
          let parts = last_parts (ren e x.0) (ren e (take j r.scope)) (cond (same_name x.0 e.parent) (turned e x.1) x.1) p (sym (turn_below-more e.parent (turned e) x.0 x.1) ∙ ap (ren e) (sym x.2) ∙ named) in
          elim (word_there e x.0 x.1 p parts.1) [
            | inl same ↦
                let front : x.0 ≡ take j r.scope = one_name s c x.0 (take j r.scope) x.1 x.2 (drop j r.scope) (take-append-drop j r.scope) parts.0 in
                let name : s.name ≡ take j r.scope ++ p ∷ [] = x.2 ∙ ap (λ z. z ++ x.1 ∷ []) front ∙ ap (λ (z : List ℕ). take j r.scope ++ z ∷ []) same in
                absurd (both_ways (hits_at w r j) ((hit_relative w r k hits).1.last j above below) (hits_there p rest is_words s c name f v))
            | inr turns ↦ elim (moves_to e x.1 turns.0) [
              | inl a ↦ by_new (ap (take 1) (sym is_words) ∙ ap (λ (z : List ℕ). z ∷ []) (sym turns.1 ∙ a.1))
              | inr a ↦ by_entry a.0 a.1 (ap (take 1) (sym is_words) ∙ ap (λ (z : List ℕ). z ∷ []) (sym turns.1 ∙ a.3))
            ]
          ]
    ]

pub captures_begin_so : CapturesBeginSo
captures_begin_so e w ok is free r scope c =
    let x = ren e (take c.1 r.scope) ++ take 1 (rewritten e (take c.0 r.scope) r.words) in
    let s = any_to (λ s. same_name (ren e s.name) x && (fits_at_first r.wants r.words s.kind && sees w r.file s.file)) w.symbols c.5 in
    let a = and_parts (same_name (ren e s.0.name) x) (fits_at_first r.wants r.words s.0.kind && sees w r.file s.0.file) s.2 in
    let b = and_parts (fits_at_first r.wants r.words s.0.kind) (sees w r.file s.0.file) a.1 in
    begins e w ok is free r scope c.0 c.1 c.2 c.3 c.4 r.words refl s.0 s.1 (name_from_same (ren e s.0.name) x a.0) b.0 b.1
