-- An import more, an import less.
use Rattle.std.proofs.Common.{◌⊎◌, ◌≡◌, ◌≢◌, ℕ, zero, suc, ◌<◌, ◌≤◌, Bool, true, false, ◌&&◌, List, [], ◌∷◌, ◌++◌, length, take, Option, Some, None, refl, sym, ◌∙◌, ap, subst, inl, inr, arith, append_assoc, length-append, ◌==◌, Contains, true≢false, eqb-true, length-take-le}
use Rattle.proto_base.proofs.Common.{list_any, cases_Bool, cond-true, cond-false, false_from_ne_true, both_ways, and_parts, and_from, or_cases, or_left, or_right, true_from_ne_false, none-some, same_Some, any_from, any_to}
use Rattle.proto_names_rules.specs.Common.{Kind, Symbol, Import, Reference, Workspace, same_name, Wants, is_outer, fits_at_first, may_resolve_to, reaches, sees, shows, greatest, hit, hits_at, meaning, meaning_at, visible_as, with_imports, import_of, IsAddition, IsOvertaken, IsNeeded, IsNested, IsLinked}
use Rattle.proto_names_rules.proofs.Basics.{same_from_name, IsGreatest, greatest_is, greatest_above}
use Rattle.proto_names_rules.proofs.Rename.{hit_relative, hit_from, visible_is, visible_from}
use Rattle.proto_names_rules.proofs.Symbols.{one_symbol, shown, fronts, wanted_no_package}
use Rattle.proto_names_rules.specs.declared.wants.Wants.TheVariants as wants
use Rattle.proto_names_rules.proofs.Renamed.{has_meaning, meant}

-- more imports reach more
pub reaches_more : (a b : List Import) → ((i : Import) → Contains a i → Contains b i) → (n f g : ℕ) → reaches a n f g ≡ true → reaches b n f g ≡ true
reaches_more a b sub zero f g h = h
reaches_more a b sub (suc n) f g h = elim (or_cases (f == g) (list_any (λ i. (i.from == f) && i.is_public && reaches a n i.to g) a) h) [
  | inl same ↦ or_left (f == g) _ same
  | inr q ↦
      let x = any_to (λ i. (i.from == f) && i.is_public && reaches a n i.to g) a q in
      let p = and_parts ((x.0.from == f) && x.0.is_public) (reaches a n x.0.to g) x.2 in
      or_right (f == g) _ (any_from (λ i. (i.from == f) && i.is_public && reaches b n i.to g) b x.0 (sub x.0 x.1) (and_from _ _ p.0 (reaches_more a b sub n x.0.to g p.1)))
]

pub sees_more : (w : Workspace) (b : List Import) → ((i : Import) → Contains w.imports i → Contains b i) → (f g : ℕ) → sees w f g ≡ true → sees (with_imports w b) f g ≡ true
sees_more w b sub f g h = elim (or_cases (f == g) (list_any (λ i. (i.from == f) && reaches w.imports w.files i.to g) w.imports) h) [
  | inl same ↦ or_left (f == g) _ same
  | inr q ↦
      let x = any_to (λ i. (i.from == f) && reaches w.imports w.files i.to g) w.imports q in
      let p = and_parts (x.0.from == f) (reaches w.imports w.files x.0.to g) x.2 in
      or_right (f == g) _ (any_from (λ i. (i.from == f) && reaches b w.files i.to g) b x.0 (sub x.0 x.1) (and_from _ _ p.0 (reaches_more w.imports b sub w.files x.0.to g p.1)))
]

-- a file that sees more files sees more names
pub shows_more : (w v : Workspace) → v.symbols ≡ w.symbols → (f : ℕ) → ((g : ℕ) → sees w f g ≡ true → sees v f g ≡ true) → (good : Kind → Bool) (x : List (List ℕ)) → shows w f good x ≡ true → shows v f good x ≡ true
shows_more w v same f more good x h =
    let s = shown w f good x h in
    any_from (λ s. same_name s.name x && (good s.kind && sees v f s.file)) v.symbols s.0 (subst (λ l. Contains l s.0) (sym same) s.1) (and_from _ _ (same_from_name s.0.name x s.2) (and_from _ _ s.3 (more s.0.file s.4)))

-- An import that isn't public changes what nobody but its file sees.
reaches_same : (a b : List Import) (file path : ℕ) → ((i : Import) → Contains b i → Contains a i ⊎ (import_of file path ≡ i)) → (n f g : ℕ) → reaches b n f g ≡ true → reaches a n f g ≡ true
reaches_same a b file path only zero f g h = h
reaches_same a b file path only (suc n) f g h = elim (or_cases (f == g) (list_any (λ i. (i.from == f) && i.is_public && reaches b n i.to g) b) h) [
  | inl same ↦ or_left (f == g) _ same
  | inr q ↦
      let x = any_to (λ i. (i.from == f) && i.is_public && reaches b n i.to g) b q in
      let p = and_parts ((x.0.from == f) && x.0.is_public) (reaches b n x.0.to g) x.2 in
      elim (only x.0 x.1) [
        | inl old ↦ or_right (f == g) _ (any_from (λ i. (i.from == f) && i.is_public && reaches a n i.to g) a x.0 old (and_from _ _ p.0 (reaches_same a b file path only n x.0.to g p.1)))
        | inr new ↦ absurd (true≢false (sym (and_parts (x.0.from == f) x.0.is_public p.0).1 ∙ sym (ap (λ z. z.is_public) new)))
      ]
]

pub sees_same : (w : Workspace) (b : List Import) (file path : ℕ) → ((i : Import) → Contains b i → Contains w.imports i ⊎ (import_of file path ≡ i)) → (f g : ℕ) → f ≢ file → sees (with_imports w b) f g ≡ true → sees w f g ≡ true
sees_same w b file path only f g ne h = elim (or_cases (f == g) (list_any (λ i. (i.from == f) && reaches b w.files i.to g) b) h) [
  | inl same ↦ or_left (f == g) _ same
  | inr q ↦
      let x = any_to (λ i. (i.from == f) && reaches b w.files i.to g) b q in
      let p = and_parts (x.0.from == f) (reaches b w.files x.0.to g) x.2 in
      elim (only x.0 x.1) [
        | inl old ↦ or_right (f == g) _ (any_from (λ i. (i.from == f) && reaches w.imports w.files i.to g) w.imports x.0 old (and_from _ _ p.0 (reaches_same w.imports b file path only w.files x.0.to g p.1)))
        | inr new ↦ absurd (ne (sym (ap (λ z. z.from) new ∙ eqb-true x.0.from f p.0)))
      ]
]

-- What is seen stays seen and nothing overtakes: the meaning stays.
pub grown_means : (w v : Workspace) → v.symbols ≡ w.symbols → (r : Reference) → ((g : ℕ) → sees w r.file g ≡ true → sees v r.file g ≡ true) → (m : List (List ℕ)) → meaning w r ≡ Some m → (IsOvertaken w v r → ⊥) → meaning v r ≡ Some m
grown_means w v same r more m h free = go (hit w r) refl
  where
    go : (o : Option ℕ) → hit w r ≡ o → meaning v r ≡ Some m
    go None e = elim (cases_Bool r.is_absolute) [
      | inl abs ↦
          let t = visible_is w r.file (may_resolve_to r.wants) r.words m (sym (cond-true r.is_absolute (visible_as w r.file (may_resolve_to r.wants) r.words) None abs) ∙ ap (meaning_at w r) (sym e) ∙ h) in
          ap (meaning_at v r) (cond-true r.is_absolute None (greatest (hits_at v r) (length r.scope)) abs)
          ∙ cond-true r.is_absolute (visible_as v r.file (may_resolve_to r.wants) r.words) None abs
          ∙ visible_from v r.file (may_resolve_to r.wants) r.words (shows_more w v same r.file more (may_resolve_to r.wants) r.words t.0) ∙ ap Some t.1
      | inr rel ↦ absurd (none-some m (sym (cond-false r.is_absolute (visible_as w r.file (may_resolve_to r.wants) r.words) None rel) ∙ ap (meaning_at w r) (sym e) ∙ h))
    ]
    go (Some k) e =
        let a = hit_relative w r k e in
        let t = visible_is w r.file (may_resolve_to r.wants) (take k r.scope ++ r.words) m (ap (meaning_at w r) (sym e) ∙ h) in
        let g : IsGreatest (hits_at v r) (length r.scope) k = record {
          within = a.1.within;
          passes = shows_more w v same r.file more (fits_at_first r.wants r.words) (take k r.scope ++ take 1 r.words) a.1.passes;
          last = λ j above below. false_from_ne_true (hits_at v r j) (λ q. free (k, j, e, above, below, q));
        } in
        ap (meaning_at v r) (hit_from v r k a.0 g) ∙ visible_from v r.file (may_resolve_to r.wants) (take k r.scope ++ r.words) (shows_more w v same r.file more (may_resolve_to r.wants) (take k r.scope ++ r.words) t.0) ∙ ap Some t.1

-- What is overtaken means something else, or nothing.
pub overtaken_differs : (w v : Workspace) (r : Reference) (m : List (List ℕ)) → meaning w r ≡ Some m → IsOvertaken w v r → meaning v r ≢ Some m
overtaken_differs w v r m h c new =
    let k = c.0 in
    let j = c.1 in
    let a = hit_relative w r k c.2 in
    let higher = greatest_above (hits_at v r) (length r.scope) j c.4 c.5 in
    let i = higher.0 in
    let g = greatest_is (hits_at v r) (length r.scope) i higher.1 in
    let hit' : hit v r ≡ Some i = hit_from v r i a.0 g in
    let t' = visible_is v r.file (may_resolve_to r.wants) (take i r.scope ++ r.words) m (ap (meaning_at v r) (sym hit') ∙ new) in
    let t = visible_is w r.file (may_resolve_to r.wants) (take k r.scope ++ r.words) m (ap (meaning_at w r) (sym c.2) ∙ h) in
    let l1 = ap length t'.1 ∙ sym (ap length t.1) in
    let l2 = length-append (take i r.scope) r.words in
    let l3 = length-append (take k r.scope) r.words in
    let l5 = length-take-le i r.scope g.within in
    let l6 = length-take-le k r.scope a.1.within in
    absurd (omega (arith, l1, l2, l3, l5, l6, c.3, higher.2))

-- Add: only references of the file itself can be overtaken.
pub added_elsewhere : (w : Workspace) (b : List Import) (file path : ℕ) → IsAddition w b file path → (r : Reference) → r.file ≢ file → IsOvertaken w (with_imports w b) r → ⊥
added_elsewhere w b file path add r ne c =
    let a = hit_relative w r c.0 c.2 in
    both_ways (hits_at w r c.1) (a.1.last c.1 c.3 c.4) (shows_more (with_imports w b) w refl r.file (λ g. sees_same w b file path add.only r.file g ne) (fits_at_first r.wants r.words) (take c.1 r.scope ++ take 1 r.words) c.5)

pub added_means : (w : Workspace) (b : List Import) (file path : ℕ) → IsAddition w b file path → (r : Reference) → (r.file ≡ file → IsOvertaken w (with_imports w b) r → ⊥) → (m : List (List ℕ)) → meaning w r ≡ Some m → meaning (with_imports w b) r ≡ Some m
added_means w b file path add r free m h =
    grown_means w (with_imports w b) refl r (sees_more w b add.kept r.file) m h
    (λ c. added_elsewhere w b file path add r (λ q. free q c) c)

-- What a meaning needs in another workspace to stay.
pub kept_means : (w v : Workspace) (r : Reference) (m : List (List ℕ)) → meaning w r ≡ Some m → shows v r.file (may_resolve_to r.wants) m ≡ true
    → ((k : ℕ) → hit w r ≡ Some k → hits_at v r k ≡ true) → ((k j : ℕ) → hit w r ≡ Some k → k < j → j ≤ length r.scope → hits_at v r j ≡ true → ⊥) → meaning v r ≡ Some m
kept_means w v r m h seen again free = go (hit w r) refl
  where
    go : (o : Option ℕ) → hit w r ≡ o → meaning v r ≡ Some m
    go None e = elim (cases_Bool r.is_absolute) [
      | inl abs ↦
          let t = visible_is w r.file (may_resolve_to r.wants) r.words m (sym (cond-true r.is_absolute (visible_as w r.file (may_resolve_to r.wants) r.words) None abs) ∙ ap (meaning_at w r) (sym e) ∙ h) in
          ap (meaning_at v r) (cond-true r.is_absolute None (greatest (hits_at v r) (length r.scope)) abs)
          ∙ cond-true r.is_absolute (visible_as v r.file (may_resolve_to r.wants) r.words) None abs
          ∙ ap (visible_as v r.file (may_resolve_to r.wants)) t.1 ∙ visible_from v r.file (may_resolve_to r.wants) m seen
      | inr rel ↦ absurd (none-some m (sym (cond-false r.is_absolute (visible_as w r.file (may_resolve_to r.wants) r.words) None rel) ∙ ap (meaning_at w r) (sym e) ∙ h))
    ]
    go (Some k) e =
        let a = hit_relative w r k e in
        let t = visible_is w r.file (may_resolve_to r.wants) (take k r.scope ++ r.words) m (ap (meaning_at w r) (sym e) ∙ h) in
        let g : IsGreatest (hits_at v r) (length r.scope) k = record {
          within = a.1.within;
          passes = again k e;
          last = λ j above below. false_from_ne_true (hits_at v r j) (free k j e above below);
        } in
        ap (meaning_at v r) (hit_from v r k a.0 g) ∙ ap (visible_as v r.file (may_resolve_to r.wants)) t.1 ∙ visible_from v r.file (may_resolve_to r.wants) m seen

-- what may be meant fits where it is the only word
pub fits_alone : (what : Wants) (p : List ℕ) (k : Kind) → may_resolve_to what k ≡ true → fits_at_first what (p ∷ []) k ≡ true
fits_alone wants.Type p k h = h
fits_alone wants.Message p k h = h
fits_alone wants.Extension p k h = refl

-- what may hold names fits at the first of more words
pub fits_above : (what : Wants) (p q : List ℕ) (rest : List (List ℕ)) (k : Kind) → is_outer k ≡ true → fits_at_first what (p ∷ q ∷ rest) k ≡ true
fits_above wants.Type p q rest k h = h
fits_above wants.Message p q rest k h = h
fits_above wants.Extension p q rest k h = h

-- what holds a seen symbol that may be meant is seen
front_shown : (what : Wants) (v : Workspace) → IsNested v.symbols → (f : ℕ) (front words : List (List ℕ)) (t : Symbol) → Contains v.symbols t → t.name ≡ front ++ words → may_resolve_to what t.kind ≡ true → sees v f t.file ≡ true → 0 < length words → shows v f (fits_at_first what words) (front ++ take 1 words) ≡ true
front_shown what v nested f front [] t c n ty se l = absurd (omega (arith, l))
front_shown what v nested f front (p ∷ []) t c n ty se l =
    any_from (λ s. same_name s.name (front ++ p ∷ []) && (fits_at_first what (p ∷ []) s.kind && sees v f s.file)) v.symbols t c (and_from _ _ (same_from_name t.name (front ++ p ∷ []) n) (and_from _ _ (fits_alone what p t.kind ty) se))
front_shown what v nested f front (p ∷ q ∷ rest) t c n ty se l =
    let u = fronts v.symbols nested (length rest) (q ∷ rest) refl (front ++ p ∷ []) t c (n ∙ sym (append_assoc front (p ∷ []) (q ∷ rest))) (omega (arith, length-append front (p ∷ []))) in
    any_from (λ s. same_name s.name (front ++ p ∷ []) && (fits_at_first what (p ∷ q ∷ rest) s.kind && sees v f s.file)) v.symbols u.it u.within (and_from _ _ (same_from_name u.it.name (front ++ p ∷ []) u.name) (and_from _ _ (fits_above what p q rest u.it.kind u.outer) (ap (sees v f) u.file ∙ se)))

-- nothing fits at no word
pub none_fits : (what : Wants) (k : Kind) → fits_at_first what [] k ≡ false
none_fits wants.Type k = refl
none_fits wants.Message k = refl
none_fits wants.Extension k = refl

-- a hit has a word
pub hit_word : (w : Workspace) (r : Reference) (k : ℕ) → hits_at w r k ≡ true → 0 < length r.words
hit_word w r k h = let s = shown w r.file (fits_at_first r.wants r.words) (take k r.scope ++ take 1 r.words) h in go r.words s.0.kind s.3
  where
    go : (words : List (List ℕ)) (x : Kind) → fits_at_first r.wants words x ≡ true → 0 < length words
    go [] x q = absurd (true≢false (sym q ∙ none_fits r.wants x))
    go (p ∷ words) x q = omega arith

-- Drop: what isn't needed keeps its meaning. The front at which it hits stands in the file of what it means.
pub shrunk_means : (w : Workspace) → IsLinked w → (b : List Import) → ((i : Import) → Contains b i → Contains w.imports i) → (r : Reference) → (IsNeeded w (with_imports w b) r → ⊥) → (m : List (List ℕ)) → meaning w r ≡ Some m → meaning (with_imports w b) r ≡ Some m
shrunk_means w ok b sub r free m h =
    let t = meant w r m h in
    let se : sees (with_imports w b) r.file t.0.file ≡ true = true_from_ne_false (sees (with_imports w b) r.file t.0.file) (λ q. free (t.0, t.1, h ∙ ap Some (sym t.2), q)) in
    kept_means w (with_imports w b) r m h
    (any_from (λ s. same_name s.name m && (may_resolve_to r.wants s.kind && sees (with_imports w b) r.file s.file)) w.symbols t.0 t.1 (and_from _ _ (same_from_name t.0.name m t.2) (and_from _ _ t.3 se)))
    (λ k e.
    (let a = hit_relative w r k e in
    let y = visible_is w r.file (may_resolve_to r.wants) (take k r.scope ++ r.words) m (ap (meaning_at w r) (sym e) ∙ h) in
    front_shown r.wants (with_imports w b) ok.nested r.file (take k r.scope) r.words t.0 t.1 (t.2 ∙ sym y.1) t.3 se (hit_word w r k a.1.passes)))
    (λ k j e above below q.
    (let a = hit_relative w r k e in
    both_ways (hits_at w r j) (a.1.last j above below)
    (shows_more (with_imports w b) w refl r.file (λ g. sees_more (with_imports w b) w.imports sub r.file g) (fits_at_first r.wants r.words) (take j r.scope ++ take 1 r.words) q)))

-- What is needed loses its meaning.
pub needed_differs : (w : Workspace) → IsLinked w → (b : List Import) → (r : Reference) (m : List (List ℕ)) → meaning w r ≡ Some m → IsNeeded w (with_imports w b) r → meaning (with_imports w b) r ≢ Some m
needed_differs w ok b r m h c new =
    let t = meant (with_imports w b) r m new in
    let s = c.0 in
    elim (one_symbol w.symbols ok.unique t.0 s t.1 c.1 (t.2 ∙ same_Some m s.name (sym h ∙ c.2))) [
      | inl same ↦ both_ways (sees (with_imports w b) r.file s.file) c.3 (ap (λ z. sees (with_imports w b) r.file z.file) (sym same) ∙ t.4)
      | inr both ↦ wanted_no_package r.wants t.0.kind t.3 both.0
    ]

-- where every meaning stays, the workspace stays linked
pub linked_kept : (w : Workspace) → IsLinked w → (b : List Import) → ((r : Reference) → Contains w.references r → (m : List (List ℕ)) → meaning w r ≡ Some m → meaning (with_imports w b) r ≡ Some m) → IsLinked (with_imports w b)
linked_kept w ok b kept = record {
  nested = ok.nested;
  unique = ok.unique;
  resolved = λ r c none. (let m = has_meaning (meaning w r) (ok.resolved r c) in none-some m.0 (sym none ∙ kept r c m.0 m.1));
  no_entry = λ r c s cs h. ok.no_entry r c s cs (before r c s h);
  right_kind = λ r c s cs h. ok.right_kind r c s cs (before r c s h);
}
  where
    before : (r : Reference) → Contains w.references r → (s : Symbol) → meaning (with_imports w b) r ≡ Some s.name → meaning w r ≡ Some s.name
    before r c s h = let m = has_meaning (meaning w r) (ok.resolved r c) in m.1 ∙ sym (kept r c m.0 m.1) ∙ h
