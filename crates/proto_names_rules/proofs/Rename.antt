-- A rename: the rewritten reference means the mapped name, exactly where it isn't captured (for the crates above).
use Rattle.std.proofs.Common.{◌≡◌, ℕ, suc, ◌≤◌, Bool, true, false, ◌&&◌, List, [], ◌∷◌, ◌++◌, length, take, Option, Some, None, refl, sym, ◌∙◌, ap, subst, inl, inr, arith, append_assoc, length-append, length-take-le}
use Rattle.proto_base.proofs.Common.{cases_Bool, cond-true, cond-false, false_from_ne_true, and_parts, and_from, none-some, cond_some, any_from, any_to, any_map}
use Rattle.proto_names_rules.specs.Common.{Kind, Reference, Workspace, same_name, Wants, fits_at_first, may_resolve_to, shows, sees, greatest, hit, hits_at, meaning, meaning_at, visible_as, Renaming, turned, ren, rewritten, IsClear, renamed_symbol, renamed_at, renamed_reference, renamed, shows_mapped, IsCaptured}
use Rattle.proto_names_rules.specs.declared.wants.Wants.TheVariants as wants
use Rattle.proto_names_rules.proofs.Basics.{name_from_same, same_from_name, IsGreatest, greatest_is, greatest_from, greatest_above}
use Rattle.proto_names_rules.proofs.Ren.{turn_below-take, turn_below-length, turn_below-nil, ren-rewritten}

-- what is visible in the renamed workspace
pub shows_renamed : (e : Renaming) (w : Workspace) (f : ℕ) (good : Kind → Bool) (x : List (List ℕ)) → shows (renamed e w) f good x ≡ shows_mapped e w f good x
shows_renamed e w f good x = any_map (λ s. same_name s.name x && (good s.kind && sees (renamed e w) f s.file)) (renamed_symbol e) w.symbols

-- what was visible is so under its new name
pub shows_new : (e : Renaming) (w : Workspace) (f : ℕ) (good : Kind → Bool) (x : List (List ℕ)) → shows w f good x ≡ true → shows (renamed e w) f good (ren e x) ≡ true
shows_new e w f good x h =
    let a = any_to (λ s. same_name s.name x && (good s.kind && sees w f s.file)) w.symbols h in
    let s = a.0 in
    let p = and_parts (same_name s.name x) (good s.kind && sees w f s.file) a.2 in
    let n = ap (ren e) (name_from_same s.name x p.0) in
    shows_renamed e w f good (ren e x)
    ∙ any_from (λ s. same_name (ren e s.name) (ren e x) && (good s.kind && sees w f s.file)) w.symbols s a.1 (and_from _ _ (same_from_name (ren e s.name) (ren e x) n) p.1)

pub fits-rewritten : (what : Wants) (e : Renaming) (front words : List (List ℕ)) → fits_at_first what (rewritten e front words) ≡ fits_at_first what words
fits-rewritten wants.Type e front [] = refl
fits-rewritten wants.Type e front (p ∷ []) = refl
fits-rewritten wants.Type e front (p ∷ q ∷ rest) = refl
fits-rewritten wants.Message e front [] = refl
fits-rewritten wants.Message e front (p ∷ []) = refl
fits-rewritten wants.Message e front (p ∷ q ∷ rest) = refl
fits-rewritten wants.Extension e front [] = refl
fits-rewritten wants.Extension e front (p ∷ []) = refl
fits-rewritten wants.Extension e front (p ∷ q ∷ rest) = refl

pub rewritten-first : (e : Renaming) (front words : List (List ℕ)) → rewritten e front (take 1 words) ≡ take 1 (rewritten e front words)
rewritten-first e front [] = refl
rewritten-first e front (p ∷ rest) = refl

pub rewritten-length : (e : Renaming) (front words : List (List ℕ)) → length (rewritten e front words) ≡ length words
rewritten-length e front [] = refl
rewritten-length e front (p ∷ rest) = ap suc (rewritten-length e (front ++ p ∷ []) rest)

pub first_and_rest : (words : List (List ℕ)) → (rest : List (List ℕ)) × (take 1 words ++ rest ≡ words)
first_and_rest [] = ([], refl)
first_and_rest (p ∷ rest) = (rest, refl)

-- the test for a hit of the rewritten reference
pub hits_renamed : (e : Renaming) (w : Workspace) (r : Reference) (k j : ℕ) → hits_at (renamed e w) (renamed_at e r (Some k)) j ≡ shows_mapped e w r.file (fits_at_first r.wants r.words) (ren e (take j r.scope) ++ take 1 (rewritten e (take k r.scope) r.words))
hits_renamed e w r k j =
    shows_renamed e w r.file (fits_at_first r.wants (rewritten e (take k r.scope) r.words)) (take j (ren e r.scope) ++ take 1 (rewritten e (take k r.scope) r.words))
    ∙ ap (λ g. shows_mapped e w r.file g (take j (ren e r.scope) ++ take 1 (rewritten e (take k r.scope) r.words))) (fits-rewritten r.wants e (take k r.scope) r.words)
    ∙ ap (λ x. shows_mapped e w r.file (fits_at_first r.wants r.words) (x ++ take 1 (rewritten e (take k r.scope) r.words))) (sym (turn_below-take e.parent (turned e) j r.scope))

-- at the old hit the rewritten reference hits again
pub hits_again : (e : Renaming) (w : Workspace) (r : Reference) (k : ℕ) → IsClear e (take k r.scope ++ r.words) → hits_at w r k ≡ true → hits_at (renamed e w) (renamed_at e r (Some k)) k ≡ true
hits_again e w r k clear h =
    let front = take k r.scope in
    let first = first_and_rest r.words in
    let whole : (front ++ take 1 r.words) ++ first.0 ≡ front ++ r.words = append_assoc front (take 1 r.words) first.0 ∙ ap (λ l. front ++ l) first.1 in
    let clear1 : IsClear e (front ++ take 1 r.words) = λ a b q. clear a (b ++ first.0) (sym (append_assoc a b first.0) ∙ ap (λ l. l ++ first.0) q ∙ whole) in
    let name : ren e (front ++ take 1 r.words) ≡ ren e front ++ take 1 (rewritten e front r.words) = ren-rewritten e front (take 1 r.words) clear1 ∙ ap (λ l. ren e front ++ l) (rewritten-first e front r.words) in
    hits_renamed e w r k k
    ∙ ap (λ x. shows_mapped e w r.file (fits_at_first r.wants r.words) x) (sym name)
    ∙ sym (shows_renamed e w r.file (fits_at_first r.wants r.words) (ren e (front ++ take 1 r.words)))
    ∙ shows_new e w r.file (fits_at_first r.wants r.words) (front ++ take 1 r.words) h

-- a relative reference with a hit is hit
pub hit_relative : (w : Workspace) (r : Reference) (k : ℕ) → hit w r ≡ Some k → (r.is_absolute ≡ false) × IsGreatest (hits_at w r) (length r.scope) k
hit_relative w r k h = elim (cases_Bool r.is_absolute) [
  | inl abs ↦ absurd (none-some k (sym (cond-true r.is_absolute None (greatest (hits_at w r) (length r.scope)) abs) ∙ h))
  | inr rel ↦ (rel, greatest_is (hits_at w r) (length r.scope) k (sym (cond-false r.is_absolute None (greatest (hits_at w r) (length r.scope)) rel) ∙ h))
]

pub hit_from : (w : Workspace) (r : Reference) (k : ℕ) → r.is_absolute ≡ false → IsGreatest (hits_at w r) (length r.scope) k → hit w r ≡ Some k
hit_from w r k rel g = cond-false r.is_absolute None (greatest (hits_at w r) (length r.scope)) rel ∙ greatest_from (hits_at w r) (length r.scope) k g

-- the hit stays where it was
pub hit_kept : (e : Renaming) (w : Workspace) (r : Reference) (k : ℕ) → hit w r ≡ Some k → IsClear e (take k r.scope ++ r.words) → (IsCaptured e w r → ⊥) → hit (renamed e w) (renamed_at e r (Some k)) ≡ Some k
hit_kept e w r k h clear free =
    let a = hit_relative w r k h in
    let g = a.1 in
    let n : length (ren e r.scope) ≡ length r.scope = turn_below-length e.parent (turned e) r.scope in
    hit_from (renamed e w) (renamed_at e r (Some k)) k a.0 (record {
      within = omega (arith, g.within, n);
      passes = hits_again e w r k clear g.passes;
      last = λ j above below. false_from_ne_true (hits_at (renamed e w) (renamed_at e r (Some k)) j) (λ q.
          let l : j ≤ length r.scope = omega (arith, below, n) in
          free (k, j, h, above, l, sym (hits_renamed e w r k j) ∙ q));
    })

pub visible_is : (w : Workspace) (f : ℕ) (good : Kind → Bool) (m x : List (List ℕ)) → visible_as w f good m ≡ Some x → (shows w f good m ≡ true) × (m ≡ x)
visible_is w f good m x h = cond_some (shows w f good m) m x h

pub visible_from : (w : Workspace) (f : ℕ) (good : Kind → Bool) (m : List (List ℕ)) → shows w f good m ≡ true → visible_as w f good m ≡ Some m
visible_from w f good m h = cond-true (shows w f good m) (Some m) None h

-- Without a capture the rewritten reference means what the map makes of the old meaning.
pub rename_means : (e : Renaming) (w : Workspace) (r : Reference) (m : List (List ℕ)) → meaning w r ≡ Some m → IsClear e m → (IsCaptured e w r → ⊥) → meaning (renamed e w) (renamed_reference e w r) ≡ Some (ren e m)
rename_means e w r m h clear free = go (hit w r) refl
  where
    go : (o : Option ℕ) → hit w r ≡ o → meaning (renamed e w) (renamed_reference e w r) ≡ Some (ren e m)
    go None none = elim (cases_Bool r.is_absolute) [
      | inl abs ↦
          let t = visible_is w r.file (may_resolve_to r.wants) r.words m (sym (cond-true r.is_absolute (visible_as w r.file (may_resolve_to r.wants) r.words) None abs) ∙ ap (meaning_at w r) (sym none) ∙ h) in
          let r' = renamed_at e r None in
          let no_hit : hit (renamed e w) r' ≡ None = cond-true r.is_absolute None (greatest (hits_at (renamed e w) r') (length r'.scope)) abs in
          let words : ren e r.words ≡ rewritten e [] r.words = ren-rewritten e [] r.words (subst (IsClear e) (sym t.1) clear) ∙ ap (λ l. l ++ rewritten e [] r.words) (turn_below-nil e.parent (turned e)) in
          let seen : shows (renamed e w) r.file (may_resolve_to r.wants) (rewritten e [] r.words) ≡ true = ap (shows (renamed e w) r.file (may_resolve_to r.wants)) (sym words) ∙ shows_new e w r.file (may_resolve_to r.wants) r.words t.0 in
          subst (λ o. meaning (renamed e w) (renamed_at e r o) ≡ Some (ren e m)) (sym none) (
          ap (meaning_at (renamed e w) r') no_hit
          ∙ cond-true r.is_absolute (visible_as (renamed e w) r.file (may_resolve_to r.wants) (rewritten e [] r.words)) None abs
          ∙ visible_from (renamed e w) r.file (may_resolve_to r.wants) (rewritten e [] r.words) seen
          ∙ ap Some (sym words ∙ ap (ren e) t.1))
      | inr rel ↦ absurd (none-some m (sym (cond-false r.is_absolute (visible_as w r.file (may_resolve_to r.wants) r.words) None rel) ∙ ap (meaning_at w r) (sym none) ∙ h))
    ]
    go (Some k) at =
        let front = take k r.scope in
        let t = visible_is w r.file (may_resolve_to r.wants) (front ++ r.words) m (ap (meaning_at w r) (sym at) ∙ h) in
        let clear' : IsClear e (front ++ r.words) = subst (IsClear e) (sym t.1) clear in
        let r' = renamed_at e r (Some k) in
        let new = take k (ren e r.scope) ++ rewritten e front r.words in
        let name : ren e (front ++ r.words) ≡ new = ren-rewritten e front r.words clear' ∙ ap (λ l. l ++ rewritten e front r.words) (turn_below-take e.parent (turned e) k r.scope) in
        let seen : shows (renamed e w) r.file (may_resolve_to r.wants) new ≡ true = ap (shows (renamed e w) r.file (may_resolve_to r.wants)) (sym name) ∙ shows_new e w r.file (may_resolve_to r.wants) (front ++ r.words) t.0 in
        subst (λ o. meaning (renamed e w) (renamed_at e r o) ≡ Some (ren e m)) (sym at) (
        ap (meaning_at (renamed e w) r') (hit_kept e w r k at clear' free)
        ∙ visible_from (renamed e w) r.file (may_resolve_to r.wants) new seen
        ∙ ap Some (sym name ∙ ap (ren e) t.1))

-- With a capture it hits elsewhere, and so does not mean that.
pub captured_means_else : (e : Renaming) (w : Workspace) (r : Reference) (m : List (List ℕ)) → meaning w r ≡ Some m → IsClear e m → IsCaptured e w r → meaning (renamed e w) (renamed_reference e w r) ≡ Some (ren e m) → ⊥
captured_means_else e w r m h clear c new =
    let k = c.0 in
    let j = c.1 in
    let at = c.2 in
    let a = hit_relative w r k at in
    let r' = renamed_at e r (Some k) in
    let n : length (ren e r.scope) ≡ length r.scope = turn_below-length e.parent (turned e) r.scope in
    let within : j ≤ length (ren e r.scope) = omega (arith, c.4, n) in
    let higher = greatest_above (hits_at (renamed e w) r') (length (ren e r.scope)) j within (hits_renamed e w r k j ∙ c.5) in
    let i = higher.0 in
    let g = greatest_is (hits_at (renamed e w) r') (length (ren e r.scope)) i higher.1 in
    let hit' : hit (renamed e w) r' ≡ Some i = hit_from (renamed e w) r' i a.0 g in
    let new' = subst (λ o. meaning (renamed e w) (renamed_at e r o) ≡ Some (ren e m)) at new in
    let t' = visible_is (renamed e w) r.file (may_resolve_to r.wants) (take i (ren e r.scope) ++ rewritten e (take k r.scope) r.words) (ren e m) (ap (meaning_at (renamed e w) r') (sym hit') ∙ new') in
    let t = visible_is w r.file (may_resolve_to r.wants) (take k r.scope ++ r.words) m (ap (meaning_at w r) (sym at) ∙ h) in
    let l1 = ap length t'.1 ∙ turn_below-length e.parent (turned e) m ∙ sym (ap length t.1) in
    let l2 = length-append (take i (ren e r.scope)) (rewritten e (take k r.scope) r.words) in
    let l3 = length-append (take k r.scope) r.words in
    let l4 = rewritten-length e (take k r.scope) r.words in
    let l5 = length-take-le i (ren e r.scope) g.within in
    let l6 = length-take-le k r.scope a.1.within in
    absurd (omega (arith, l1, l2, l3, l4, l5, l6, c.3, higher.2))
