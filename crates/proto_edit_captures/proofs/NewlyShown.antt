-- What is shown under the new names of a rename, where nothing collides.
use Rattle.std.proofs.Common.{◌≡◌, ◌≢◌, ℕ, ◌<◌, Bool, true, false, ◌&&◌, if◌then◌else◌, List, [], ◌∷◌, ◌++◌, length, Option, Some, None, refl, sym, ap, ap₂, subst, ◌∙◌, inl, inr, arith, length-append, Contains, bytes_eq}
use Rattle.proto_base.proofs.Common.{and_from, and_parts, both_ways, cases_Bool, cond-false, cond-true, false_from_ne_true, or_cases, or_left, or_right, none-some, same_Some, any_from, any_to, same_from_word, word_from_same}
use Rattle.proto_names_rules.specs.declared.kind.Kind.{Kind}
use Rattle.proto_names_rules.proofs.Common.{Renaming, Collides, is_below, moves, moves_by, ren, shows_mapped, target, turned, turned_by, IsLinked, EntryFits, IsRenaming, Symbol, Workspace, same_name, sees, shows, name_from_same, same_from_name, last_parts, turn_below-length, turn_below-more, moves_to, ren_apart, shown, split_last, stays}
use Rattle.proto_edit_rename_laws.specs.Captures.{IsNewWord}
use Rattle.proto_edit_captures.specs.ShownAnew.{IsDeclaredName, ShownIsAnew, shows_anew, shows_beside, shows_entry}

pub same_truth : (b c : Bool) → (b ≡ true → c ≡ true) → (c ≡ true → b ≡ true) → b ≡ c
same_truth true c h k = sym (h refl)
same_truth false true h k = k refl
same_truth false false h k = refl

below_parent : (ps : List (List ℕ)) (test : List ℕ → Bool) (v : List ℕ) → is_below ps test (ps ++ v ∷ []) ≡ test v
below_parent [] test v = refl
below_parent (p ∷ ps) test v = ap (λ b. b && is_below ps test (ps ++ v ∷ [])) (same_from_word p p refl) ∙ below_parent ps test v

module _ (e : Renaming) (w : Workspace) (ok : IsLinked w) (is : IsRenaming e w) (free : Collides e w → ⊥) (scope : List (List ℕ)) (named : IsDeclaredName w scope) (q : List ℕ) (new : IsNewWord e q) (f : ℕ) (good : Kind → Bool) where
  -- a symbol that is shown from there
  abbrev is_seen : Symbol → Bool
  is_seen s = good s.kind && sees w f s.file

  ren_more : (a : List (List ℕ)) (v : List ℕ) → ren e (a ++ v ∷ []) ≡ ren e a ++ (if same_name a e.parent then turned e v else v) ∷ []
  ren_more a v = turn_below-more e.parent (turned e) a v

  ren_in : (a : List (List ℕ)) (v : List ℕ) → a ≡ e.parent → ren e (a ++ v ∷ []) ≡ ren e a ++ turned e v ∷ []
  ren_in a v same = ren_more a v ∙ ap (λ z. ren e a ++ z ∷ []) (cond-true (same_name a e.parent) (turned e v) v (same_from_name a e.parent same))

  old_turned : turned e e.old ≡ e.new
  old_turned = cond-true (bytes_eq e.old e.old) e.new (turned_by e.entry e.old) (same_from_word e.old e.old refl)

  old_moves : moves e e.old ≡ true
  old_moves = or_left (bytes_eq e.old e.old) (moves_by e.entry e.old) (same_from_word e.old e.old refl)

  module _ (p : List ℕ × List ℕ) (entry : e.entry ≡ Some p) where
    fits : EntryFits w e (Some p)
    fits = subst (EntryFits w e) entry is.entry_is

    entry_turned : turned e p.0 ≡ p.1
    entry_turned =
        cond-false (bytes_eq p.0 e.old) e.new (turned_by e.entry p.0) (false_from_ne_true (bytes_eq p.0 e.old) (λ z. fits.0 (word_from_same p.0 e.old z)))
        ∙ ap (λ o. turned_by o p.0) entry ∙ cond-true (bytes_eq p.0 p.0) p.1 p.0 (same_from_word p.0 p.0 refl)

    entry_moves : moves e p.0 ≡ true
    entry_moves = or_right (bytes_eq p.0 e.old) (moves_by e.entry p.0) (ap (λ o. moves_by o p.0) entry ∙ same_from_word p.0 p.0 refl)

  -- a moved name comes under that of a symbol which stays
  collides : (u s : Symbol) (o : List ℕ) → Contains w.symbols u → Contains w.symbols s → u.name ≡ e.parent ++ o ∷ [] → moves e o ≡ true → turned e o ≡ q → s.name ≡ e.parent ++ q ∷ [] → moves e q ≡ false → ⊥
  collides u s o cu cs un mo to sn mq =
      let same : ren e u.name ≡ ren e s.name = ap (ren e) un ∙ ren_in e.parent o refl ∙ ap (λ z. ren e e.parent ++ z ∷ []) (to ∙ sym (stays e q mq)) ∙ sym (ren_in e.parent q refl) ∙ ap (ren e) (sym sn) in
      let names = ren_apart e w is free u s cu cs same in
      let words = last_parts e.parent e.parent o q (sym un ∙ names ∙ sn) in
      both_ways (moves e q) mq (ap (moves e) (sym words.1) ∙ mo)

  not_there : (s : Symbol) → Contains w.symbols s → s.name ≡ e.parent ++ q ∷ [] → moves e q ≡ false → ⊥
  not_there s cs sn mq = elim new [
    | inl n ↦ collides is.target_is.0 s e.old is.target_is.1 cs is.target_is.2 old_moves (old_turned ∙ sym n) sn mq
    | inr n ↦
        let there = (fits n.0 n.1).2 in
        collides there.0 s n.0.0 there.1 cs there.2 (entry_moves n.0 n.1) (entry_turned n.0 n.1 ∙ sym n.2) sn mq
  ]

  entry_is_shown : (o : Option (List ℕ × List ℕ)) (p : List ℕ × List ℕ) → o ≡ Some p → q ≡ p.1 → shows w f good (scope ++ p.0 ∷ []) ≡ true → shows_entry w f good scope o q ≡ true
  entry_is_shown None p h same s = absurd (none-some p h)
  entry_is_shown (Some o) p h same s =
      let here = same_Some o p h in
      and_from (bytes_eq q o.1) (shows w f good (scope ++ o.0 ∷ [])) (same_from_word q o.1 (same ∙ ap (λ (z : List ℕ × List ℕ). z.1) (sym here))) (ap (λ (z : List ℕ × List ℕ). shows w f good (scope ++ z.0 ∷ [])) here ∙ s)

  is_shown : (s : Symbol) (x : List (List ℕ)) → Contains w.symbols s → s.name ≡ x → is_seen s ≡ true → shows w f good x ≡ true
  is_shown s x cs name seen = any_from (λ s. same_name s.name x && is_seen s) w.symbols s cs (and_from (same_name s.name x) (is_seen s) (same_from_name s.name x name) seen)

  -- in the parent
  beside : (s : Symbol) (v : List ℕ) → Contains w.symbols s → scope ≡ e.parent → s.name ≡ scope ++ v ∷ [] → turned e v ≡ q → is_seen s ≡ true → shows_beside e w f good scope q ≡ true
  beside s v cs own name to seen = elim (cases_Bool (moves e v)) [
    | inr stay ↦
        let same : v ≡ q = sym (stays e v stay) ∙ to in
        absurd (not_there s cs (name ∙ ap₂ (λ (x : List (List ℕ)) (y : List ℕ). x ++ y ∷ []) own same) (ap (moves e) (sym same) ∙ stay))
    | inl m ↦ elim (moves_to e v m) [
      | inl x ↦
          or_left (bytes_eq q e.new && shows w f good (target e)) (shows_entry w f good scope e.entry q)
          (and_from (bytes_eq q e.new) (shows w f good (target e)) (same_from_word q e.new (sym to ∙ x.1)) (is_shown s (target e) cs (name ∙ ap₂ (λ (x : List (List ℕ)) (y : List ℕ). x ++ y ∷ []) own x.0) seen))
      | inr x ↦
          or_right (bytes_eq q e.new && shows w f good (target e)) (shows_entry w f good scope e.entry q)
          (entry_is_shown e.entry x.0 x.1 (sym to ∙ x.3) (is_shown s (scope ++ x.0.0 ∷ []) cs (name ∙ ap (λ y. scope ++ y ∷ []) x.2) seen))
    ]
  ]

  -- a symbol under the new name stands in the scope itself
  in_scope : (s : Symbol) (a : List (List ℕ)) (v : List ℕ) → Contains w.symbols s → s.name ≡ a ++ v ∷ [] → ren e a ≡ ren e scope → a ≡ scope
  in_scope s a v cs name same =
      let l1 = turn_below-length e.parent (turned e) a in
      let l2 = turn_below-length e.parent (turned e) scope in
      let l3 = ap length same in
      let some = not_empty scope named.0 in
      let u = ok.nested s cs a v name (omega (arith, l1, l2, l3, some)) in
      let t = named.1 in
      sym u.2 ∙ ren_apart e w is free u.0 t.0 u.1 t.1 (ap (ren e) u.2 ∙ same ∙ ap (ren e) (sym t.2)) ∙ t.2
    where
      not_empty : (xs : List (List ℕ)) → xs ≢ [] → 0 < length xs
      not_empty [] h = absurd (h refl)
      not_empty (x ∷ xs) h = omega arith

  forth : shows_mapped e w f good (ren e scope ++ q ∷ []) ≡ true → shows_anew e w f good scope q ≡ true
  forth h =
      let x = any_to (λ s. same_name (ren e s.name) (ren e scope ++ q ∷ []) && is_seen s) w.symbols h in
      let s = x.0 in
      let t = and_parts (same_name (ren e s.name) (ren e scope ++ q ∷ [])) (is_seen s) x.2 in
      let name = name_from_same (ren e s.name) (ren e scope ++ q ∷ []) t.0 in
      let l1 = turn_below-length e.parent (turned e) s.name in
      let l2 = length-append (ren e scope) (q ∷ []) in
      let l3 = ap length name in
      let split = split_last s.name (omega (arith, l1, l2, l3)) in
      let a = split.0 in
      let v = split.1 in
      let parts = last_parts (ren e a) (ren e scope) (if same_name a e.parent then turned e v else v) q (sym (ren_more a v) ∙ ap (ren e) (sym split.2) ∙ name) in
      let here = in_scope s a v x.1 split.2 parts.0 in
      let full : s.name ≡ scope ++ v ∷ [] = split.2 ∙ ap (λ z. z ++ v ∷ []) here in
      let word : (if same_name scope e.parent then turned e v else v) ≡ q = ap (λ z. if same_name z e.parent then turned e v else v) (sym here) ∙ parts.1 in
      elim (cases_Bool (same_name scope e.parent)) [
        | inl own ↦
            cond-true (same_name scope e.parent) (shows_beside e w f good scope q) (shows w f good (scope ++ q ∷ [])) own
            ∙ beside s v x.1 (name_from_same scope e.parent own) full (sym (cond-true (same_name scope e.parent) (turned e v) v own) ∙ word) t.1
        | inr other ↦
            cond-false (same_name scope e.parent) (shows_beside e w f good scope q) (shows w f good (scope ++ q ∷ [])) other
            ∙ is_shown s (scope ++ q ∷ []) x.1 (full ∙ ap (λ z. scope ++ z ∷ []) (sym (cond-false (same_name scope e.parent) (turned e v) v other) ∙ word)) t.1
      ]

  -- what is shown under a name that turns into the new one
  mapped : (x : List (List ℕ)) → shows w f good x ≡ true → ren e x ≡ ren e scope ++ q ∷ [] → shows_mapped e w f good (ren e scope ++ q ∷ []) ≡ true
  mapped x h turns =
      let s = shown w f good x h in
      any_from (λ s. same_name (ren e s.name) (ren e scope ++ q ∷ []) && is_seen s) w.symbols s.0 s.1
      (and_from (same_name (ren e s.0.name) (ren e scope ++ q ∷ [])) (is_seen s.0) (same_from_name (ren e s.0.name) (ren e scope ++ q ∷ []) (ap (ren e) s.2 ∙ turns)) (and_from (good s.0.kind) (sees w f s.0.file) s.3 s.4))

  from_entry : (o : Option (List ℕ × List ℕ)) → e.entry ≡ o → scope ≡ e.parent → shows_entry w f good scope o q ≡ true → shows_mapped e w f good (ren e scope ++ q ∷ []) ≡ true
  from_entry None eo own h = absurd (both_ways false refl h)
  from_entry (Some p) eo own h =
      let t = and_parts (bytes_eq q p.1) (shows w f good (scope ++ p.0 ∷ [])) h in
      mapped (scope ++ p.0 ∷ []) t.1 (ren_in scope p.0 own ∙ ap (λ z. ren e scope ++ z ∷ []) (entry_turned p eo ∙ sym (word_from_same q p.1 t.0)))

  back : shows_anew e w f good scope q ≡ true → shows_mapped e w f good (ren e scope ++ q ∷ []) ≡ true
  back h = elim (cases_Bool (same_name scope e.parent)) [
    | inl own ↦
        let same = name_from_same scope e.parent own in
        elim (or_cases (bytes_eq q e.new && shows w f good (target e)) (shows_entry w f good scope e.entry q) (sym (cond-true (same_name scope e.parent) (shows_beside e w f good scope q) (shows w f good (scope ++ q ∷ [])) own) ∙ h)) [
          | inl x ↦
              let t = and_parts (bytes_eq q e.new) (shows w f good (target e)) x in
              mapped (target e) t.1 (ap (λ z. ren e (z ++ e.old ∷ [])) (sym same) ∙ ren_in scope e.old same ∙ ap (λ z. ren e scope ++ z ∷ []) (old_turned ∙ sym (word_from_same q e.new t.0)))
          | inr x ↦ from_entry e.entry refl same x
        ]
    | inr other ↦
        mapped (scope ++ q ∷ []) (sym (cond-false (same_name scope e.parent) (shows_beside e w f good scope q) (shows w f good (scope ++ q ∷ [])) other) ∙ h)
        (ren_more scope q ∙ ap (λ z. ren e scope ++ z ∷ []) (cond-false (same_name scope e.parent) (turned e q) q other))
  ]

pub shown_is_anew : ShownIsAnew
shown_is_anew e w ok is free scope named q new f good =
    same_truth (shows_mapped e w f good (ren e scope ++ q ∷ [])) (shows_anew e w f good scope q) (forth e w ok is free scope named q new f good) (back e w ok is free scope named q new f good)
