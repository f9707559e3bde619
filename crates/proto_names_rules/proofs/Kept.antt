-- A kept reference means what it meant, and has no fault if it had none.
use Rattle.std.proofs.Common.{◌≡◌, ℕ, ◌<◌, Bool, true, ◌&&◌, List, [], ◌∷◌, ◌++◌, length, take, drop, Some, refl, sym, ◌∙◌, ap, subst, inl, inr, arith, append_assoc, Contains, AllPairs, append-nil, take-append-drop}
use Rattle.proto_base.proofs.Common.{and_from, any_from, none-some, same_Some}
use Rattle.proto_names_rules.proofs.Common.{AreApart, IsNested, Symbol, Reference, Workspace, same_name, is_outer, fits_at_first, may_resolve_to, sees, shows, hit, hits_at, meaning, meaning_at, same_from_name, first_and_rest, hit_relative, visible_is, meant, one_symbol, shown}
use Rattle.proto_names_rules.proofs.Imports.{fits_above, fits_alone}
use Rattle.proto_names_rules.proofs.Symbols.{fronts, wanted_no_package}
use Rattle.proto_names_rules.specs.Names.{Wants}
use Rattle.proto_names_rules.specs.declared.kind.Kind.{Kind}
use Rattle.proto_names_rules.proofs.Still.{has_word, means_still, some_words}
use Rattle.proto_names_rules.specs.Kept.{FlawlessStay, IsFlawless, IsKeptReference, MeaningsAreKept}

-- a symbol that is seen is shown
shows_by : (w : Workspace) (f : ℕ) (good : Kind → Bool) (x : List (List ℕ)) (s : Symbol) → Contains w.symbols s → s.name ≡ x → good s.kind ≡ true → sees w f s.file ≡ true → shows w f good x ≡ true
shows_by w f good x s c n k e = any_from (λ s. same_name s.name x && (good s.kind && sees w f s.file)) w.symbols s c (and_from _ _ (same_from_name s.name x n) (and_from _ _ k e))

-- what may be meant fits where the first word is all of them, and what stands above it where there are more
fits_whole : (what : Wants) (words : List (List ℕ)) (k : Kind) → 0 < length words → take 1 words ++ [] ≡ words → may_resolve_to what k ≡ true → fits_at_first what words k ≡ true
fits_whole what [] k l e t = absurd (omega (arith, l))
fits_whole what (p ∷ []) k l e t = fits_alone what p k t
fits_whole what (p ∷ q ∷ words) k l e t = absurd (omega (arith, ap length e))

fits_part : (what : Wants) (words rest : List (List ℕ)) (k : Kind) → take 1 words ++ rest ≡ words → 0 < length rest → is_outer k ≡ true → fits_at_first what words k ≡ true
fits_part what [] rest k e l o = absurd (omega (arith, l, ap length e))
fits_part what (p ∷ []) rest k e l o = absurd (omega (arith, l, ap length e))
fits_part what (p ∷ q ∷ words) rest k e l o = fits_above what p q words k o

module _ (w v : Workspace) (nested : IsNested v.symbols) (r : Reference) (m : List (List ℕ)) (h : meaning w r ≡ Some m) (is : IsKeptReference w v r m) where
  -- the name of the first word at a front of the scope
  abbrev At : ℕ → List (List ℕ)
  At k = take k r.scope ++ take 1 r.words

  -- what the reference meant shows what its first word stands for: itself, or what it is nested in
  at_front : (k : ℕ) (t : Symbol) → Contains v.symbols t → may_resolve_to r.wants t.kind ≡ true → sees v r.file t.file ≡ true → 0 < length r.words → (rest : List (List ℕ)) → take 1 r.words ++ rest ≡ r.words → t.name ≡ At k ++ rest → hits_at v r k ≡ true
  at_front k t c ty e l [] whole n =
      shows_by v r.file (fits_at_first r.wants r.words) (At k) t c (n ∙ append-nil (At k)) (fits_whole r.wants r.words t.kind l whole ty) e
  at_front k t c ty e l (b ∷ rest) whole n =
      let u = fronts v.symbols nested (length rest) (b ∷ rest) refl (At k) t c n (some_words (take k r.scope) r.words l) in
      shows_by v r.file (fits_at_first r.wants r.words) (At k) u.it u.within u.name (fits_part r.wants r.words (b ∷ rest) u.it.kind whole (omega arith) u.outer) (ap (sees v r.file) u.file ∙ e)

  hits_again : (k : ℕ) → hit w r ≡ Some k → hits_at v r k ≡ true
  hits_again k q =
      let a = hit_relative w r k q in
      let t = meant w r m h in
      let y = visible_is w r.file (may_resolve_to r.wants) (take k r.scope ++ r.words) m (ap (meaning_at w r) (sym q) ∙ h) in
      let first = first_and_rest r.words in
      let whole : t.0.name ≡ At k ++ first.0 = t.2 ∙ sym (append_assoc (take k r.scope) (take 1 r.words) first.0 ∙ ap (λ l. take k r.scope ++ l) first.1 ∙ y.1) in
      at_front k t.0 (is.declared t.0 t.1 t.2 t.3) t.3 (is.seen t.0 t.1 t.2 t.3 t.4) (has_word w r k a.1.passes) first.0 first.1 whole

  hit_before : (j : ℕ) → hits_at v r j ≡ true → hits_at w r j ≡ true
  hit_before j q =
      let s = shown v r.file (fits_at_first r.wants r.words) (At j) q in
      let u = is.none_new s.0 (take j r.scope) (drop j r.scope) s.1 s.4 (take-append-drop j r.scope) s.2 s.3 in
      shows_by w r.file (fits_at_first r.wants r.words) (At j) u.0 u.1 (u.2 ∙ s.2) u.3 u.4

  means : meaning v r ≡ Some m
  means =
      let t = meant w r m h in
      means_still w v r m h (shows_by v r.file (may_resolve_to r.wants) m t.0 (is.declared t.0 t.1 t.2 t.3) t.2 t.3 (is.seen t.0 t.1 t.2 t.3 t.4)) hits_again hit_before

  -- what it means now was there before, where names are apart
  meant_before : AllPairs AreApart v.symbols → (s : Symbol) → Contains v.symbols s → meaning v r ≡ Some s.name → Contains w.symbols s × (meaning w r ≡ Some s.name)
  meant_before apart s c e =
      let t = meant w r m h in
      let name : m ≡ s.name = same_Some m s.name (sym means ∙ e) in
      elim (one_symbol v.symbols apart t.0 s (is.declared t.0 t.1 t.2 t.3) c (t.2 ∙ name)) [
        | inl same ↦ (subst (Contains w.symbols) same t.1, h ∙ ap Some name)
        | inr both ↦ absurd (wanted_no_package r.wants t.0.kind t.3 both.0)
      ]

  flawless : AllPairs AreApart v.symbols → IsFlawless w r → IsFlawless v r
  flawless apart ok = record {
    resolved = λ none. none-some m (sym none ∙ means);
    no_entry = λ s c e. (let was = meant_before apart s c e in ok.no_entry s was.0 was.1);
    right_kind = λ s c e. (let was = meant_before apart s c e in ok.right_kind s was.0 was.1);
  }

pub meanings_are_kept : MeaningsAreKept
meanings_are_kept w v nested r m h is = means w v nested r m h is

pub flawless_stay : FlawlessStay
flawless_stay w v nested apart r m h is ok = flawless w v nested r m h is apart ok
