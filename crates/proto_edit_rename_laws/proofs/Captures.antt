-- A captured reference begins, as rewritten, with the new word or the new entry's (for the crates above).
use Rattle.std.proofs.Common.{◌≡◌, ℕ, ◌<◌, ◌≤◌, Bool, true, false, ◌&&◌, ◌⊎◌, if◌then◌else◌, List, [], ◌∷◌, ◌++◌, length, take, drop, Some, refl, sym, ap, ap₂, ◌∙◌, inl, inr, arith, length-append, Contains, length-take-le, take-append-drop}
use Rattle.proto_base.proofs.Common.{cases_Bool, both_ways, cond-true, cond-false, same_Some, any_from, any_to}
use Rattle.proto_names_rules.proofs.Common.{Renaming, Collides, moves, ren, rewritten, shows_mapped, target, turned, IsLinked, IsRenaming, Reference, Symbol, Workspace, fits_at_first, hit, hits_at, same_name, sees, name_from_same, same_from_name, last_parts, turn_below-length, turn_below-more, hit_relative, moves_to, ren_apart, split_last, stays}
use Rattle.proto_names_rules.proofs.Still.{fits_a_word}
use Rattle.proto_edit_rename_laws.specs.Captures.{CapturesBeginAnew, HasScope, IsNewWord}

both : (b c : Bool) → (b && c) ≡ true → (b ≡ true) × (c ≡ true)
both true true z = (refl, refl)
both true false z = absurd cc
both false c z = absurd cc

module _ (e : Renaming) (w : Workspace) (r : Reference) (k : ℕ) (ok : IsLinked w) (is : IsRenaming e w) (free : Collides e w → ⊥) (scoped : HasScope w r) (at : hit w r ≡ Some k) where
  -- a symbol whose mapped name is below a front of the scope, with a word that is not new
  module _ (j : ℕ) (below : k < j) (within : j ≤ length r.scope) (s : Symbol) (cs : Contains w.symbols s) where
    front : (a : List (List ℕ)) (v : List ℕ) → s.name ≡ a ++ v ∷ [] → ren e a ≡ ren e (take j r.scope) → a ≡ take j r.scope
    front a v n same =
        let l1 = turn_below-length e.parent (turned e) a in
        let l2 = turn_below-length e.parent (turned e) (take j r.scope) in
        let l3 = ap length same in
        let l4 = length-take-le j r.scope within in
        let u = ok.nested s cs a v n (omega (arith, l1, l2, l3, l4, below)) in
        let t = scoped (take j r.scope) (drop j r.scope) (take-append-drop j r.scope) (λ z. absurd (omega (arith, ap length z, l4, below))) in
        sym u.2 ∙ ren_apart e w is free u.0 t.0 u.1 t.1 (ap (ren e) u.2 ∙ same ∙ ap (ren e) (sym t.2)) ∙ t.2

  new_word : (a : List (List ℕ)) (v q : List ℕ) → (if same_name a e.parent then turned e v else v) ≡ q → (v ≡ q) ⊎ IsNewWord e q
  new_word a v q h = elim (cases_Bool (same_name a e.parent)) [
    | inr f ↦ inl (sym (cond-false (same_name a e.parent) (turned e v) v f) ∙ h)
    | inl t ↦
        let is_turned : turned e v ≡ q = sym (cond-true (same_name a e.parent) (turned e v) v t) ∙ h in
        elim (cases_Bool (moves e v)) [
          | inr f ↦ inl (sym (stays e v f) ∙ is_turned)
          | inl m ↦ elim (moves_to e v m) [
            | inl x ↦ inr (inl (sym is_turned ∙ x.1))
            | inr x ↦ inr (inr (x.0, x.1, sym is_turned ∙ x.3))
          ]
        ]
  ]

  -- what is shown at the deeper front
  shown_at : (j : ℕ) → k < j → j ≤ length r.scope → (p : List ℕ) (rest : List (List ℕ)) → r.words ≡ p ∷ rest
      → shows_mapped e w r.file (fits_at_first r.wants r.words) (ren e (take j r.scope) ++ p ∷ []) ≡ true → IsNewWord e p
  shown_at j below within p rest words shown =
      let f = any_to (λ s. same_name (ren e s.name) (ren e (take j r.scope) ++ p ∷ []) && (fits_at_first r.wants r.words s.kind && sees w r.file s.file)) w.symbols shown in
      let s = f.0 in
      let t = both (same_name (ren e s.name) (ren e (take j r.scope) ++ p ∷ [])) (fits_at_first r.wants r.words s.kind && sees w r.file s.file) f.2 in
      let name = name_from_same (ren e s.name) (ren e (take j r.scope) ++ p ∷ []) t.0 in
      let l1 = turn_below-length e.parent (turned e) s.name in
      let l2 = length-append (ren e (take j r.scope)) (p ∷ []) in
      let l3 = ap length name in
      let split = split_last s.name (omega (arith, l1, l2, l3)) in
      let a = split.0 in
      let v = split.1 in
      let parts = last_parts (ren e a) (ren e (take j r.scope)) (if same_name a e.parent then turned e v else v) p (sym (turn_below-more e.parent (turned e) a v) ∙ ap (ren e) (sym split.2) ∙ name) in
      elim (new_word a v p parts.1) [
        | inr new ↦ new
        | inl same ↦ (
            let here : s.name ≡ take j r.scope ++ take 1 r.words = split.2 ∙ ap₂ (λ (x : List (List ℕ)) (y : List ℕ). x ++ y ∷ []) (front j below within s f.1 a v split.2 parts.0) same ∙ ap (λ z. take j r.scope ++ take 1 z) (sym words) in
            let hits : hits_at w r j ≡ true = any_from (λ s. same_name s.name (take j r.scope ++ take 1 r.words) && (fits_at_first r.wants r.words s.kind && sees w r.file s.file)) w.symbols s f.1
            (ap₂ (λ (x y : Bool). x && y) (same_from_name s.name (take j r.scope ++ take 1 r.words) here) t.1) in
            absurd (both_ways (hits_at w r j) ((hit_relative w r k at).1.last j below within) hits))
      ]

  begins : (words : List (List ℕ)) → r.words ≡ words → (j : ℕ) → k < j → j ≤ length r.scope → shows_mapped e w r.file (fits_at_first r.wants r.words) (ren e (take j r.scope) ++ take 1 (rewritten e (take k r.scope) words)) ≡ true
      → (q : List ℕ) × (take 1 (rewritten e (take k r.scope) words) ≡ q ∷ []) × IsNewWord e q
  begins [] words j below within shown =
      let f = any_to (λ s. same_name (ren e s.name) (ren e (take j r.scope) ++ []) && (fits_at_first r.wants r.words s.kind && sees w r.file s.file)) w.symbols shown in
      let t = both (same_name (ren e f.0.name) (ren e (take j r.scope) ++ [])) (fits_at_first r.wants r.words f.0.kind && sees w r.file f.0.file) f.2 in
      let u = both (fits_at_first r.wants r.words f.0.kind) (sees w r.file f.0.file) t.1 in
      let some = fits_a_word r.wants r.words f.0.kind u.0 in
      absurd (omega (arith, some, ap length words))
  begins (p ∷ rest) words j below within shown = elim (cases_Bool (same_name (take k r.scope ++ p ∷ []) (target e))) [
    | inl t ↦ (e.new, ap (λ b. (if b then e.new else p) ∷ []) t, inl refl)
    | inr f ↦ (
        let first : (if same_name (take k r.scope ++ p ∷ []) (target e) then e.new else p) ≡ p = cond-false (same_name (take k r.scope ++ p ∷ []) (target e)) e.new p f in
        (p, ap (λ x. x ∷ []) first, shown_at j below within p rest words (ap (λ x. shows_mapped e w r.file (fits_at_first r.wants r.words) (ren e (take j r.scope) ++ x ∷ [])) (sym first) ∙ shown)))
  ]

pub captures_begin_anew : CapturesBeginAnew
captures_begin_anew e w r k ok is free scoped at c =
    let same : c.0 ≡ k = same_Some c.0 k (sym c.2 ∙ at) in
    let below : k < c.1 = (let b = c.3 in omega (arith, b, same)) in
    begins e w r k ok is free scoped at r.words refl c.1 below c.4 (ap (λ n. shows_mapped e w r.file (fits_at_first r.wants r.words) (ren e (take c.1 r.scope) ++ take 1 (rewritten e (take n r.scope) r.words))) (sym same) ∙ c.5)
