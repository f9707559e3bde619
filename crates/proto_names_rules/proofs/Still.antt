-- Where a reference hits at the same front and the type is shown, it means the same (for the crates above).
use Rattle.std.proofs.Common.{◌≡◌, ℕ, ◌<◌, true, List, [], ◌∷◌, ◌++◌, length, take, Option, Some, None, refl, sym, ◌∙◌, ap, inl, inr, arith, length-append, true≢false}
use Rattle.proto_base.proofs.Common.{both_ways, cases_Bool, cond-true, cond-false, false_from_ne_true, none-some}
use Rattle.proto_names_rules.proofs.Common.{Reference, Workspace, is_type, is_outer, fits_at_first, may_resolve_to, greatest, shows, hit, hits_at, meaning, meaning_at, visible_as, hit_from, hit_relative, visible_from, visible_is, shown}
use Rattle.proto_names_rules.specs.declared.kind.Kind.{Kind}
use Rattle.proto_names_rules.specs.declared.kind.Kind.TheVariants.{Package, Message, Entry, Enum, Service, Field, EntryField, Oneof, Value, Method, Extension}
use Rattle.proto_names_rules.specs.Names.{Wants}
use Rattle.proto_names_rules.proofs.Imports.{none_fits}

-- a type may hold names, as far as a first word goes
pub type_is_outer : (k : Kind) → is_type k ≡ true → is_outer k ≡ true
type_is_outer Message h = refl
type_is_outer Entry h = refl
type_is_outer Enum h = refl
type_is_outer Package h = absurd (true≢false (sym h))
type_is_outer Service h = absurd (true≢false (sym h))
type_is_outer Field h = absurd (true≢false (sym h))
type_is_outer EntryField h = absurd (true≢false (sym h))
type_is_outer Oneof h = absurd (true≢false (sym h))
type_is_outer Value h = absurd (true≢false (sym h))
type_is_outer Method h = absurd (true≢false (sym h))
type_is_outer Extension h = absurd (true≢false (sym h))

-- a front with a word more is not empty
pub some_words : (front words : List (List ℕ)) → 0 < length words → 0 < length (front ++ take 1 words)
some_words front [] l = absurd (omega (arith, l))
some_words front (p ∷ words) l = omega (arith, length-append front (p ∷ []))

-- what fits has a word to fit at
pub fits_a_word : (what : Wants) (words : List (List ℕ)) (k : Kind) → fits_at_first what words k ≡ true → 0 < length words
fits_a_word what [] k h = absurd (true≢false (sym h ∙ none_fits what k))
fits_a_word what (p ∷ words) k h = omega arith

-- a reference that hits has a word
pub has_word : (w : Workspace) (r : Reference) (k : ℕ) → hits_at w r k ≡ true → 0 < length r.words
has_word w r k h =
    let s = shown w r.file (fits_at_first r.wants r.words) (take k r.scope ++ take 1 r.words) h in
    fits_a_word r.wants r.words s.0.kind s.3

module _ (w v : Workspace) (r : Reference) (m : List (List ℕ)) (h : meaning w r ≡ Some m) (seen : shows v r.file (may_resolve_to r.wants) m ≡ true) where
  typed_still : (o : Option ℕ) → meaning_at w r o ≡ Some m → meaning_at v r o ≡ Some m
  typed_still None e = elim (cases_Bool r.is_absolute) [
    | inl abs ↦
        let t = visible_is w r.file (may_resolve_to r.wants) r.words m (sym (cond-true r.is_absolute (visible_as w r.file (may_resolve_to r.wants) r.words) None abs) ∙ e) in
        cond-true r.is_absolute (visible_as v r.file (may_resolve_to r.wants) r.words) None abs ∙ ap (visible_as v r.file (may_resolve_to r.wants)) t.1 ∙ visible_from v r.file (may_resolve_to r.wants) m seen
    | inr rel ↦ absurd (none-some m (sym (cond-false r.is_absolute (visible_as w r.file (may_resolve_to r.wants) r.words) None rel) ∙ e))
  ]
  typed_still (Some k) e = ap (visible_as v r.file (may_resolve_to r.wants)) (visible_is w r.file (may_resolve_to r.wants) (take k r.scope ++ r.words) m e).1 ∙ visible_from v r.file (may_resolve_to r.wants) m seen

  same_hit : ((k : ℕ) → hit w r ≡ Some k → hits_at v r k ≡ true) → ((j : ℕ) → hits_at v r j ≡ true → hits_at w r j ≡ true) → hit v r ≡ hit w r
  same_hit again back = go (hit w r) refl
    where
      go : (o : Option ℕ) → hit w r ≡ o → hit v r ≡ o
      go None e = elim (cases_Bool r.is_absolute) [
        | inl abs ↦ cond-true r.is_absolute None (greatest (hits_at v r) (length r.scope)) abs
        | inr rel ↦ absurd (none-some m (sym (cond-false r.is_absolute (visible_as w r.file (may_resolve_to r.wants) r.words) None rel) ∙ ap (meaning_at w r) (sym e) ∙ h))
      ]
      go (Some k) e =
          let a = hit_relative w r k e in
          hit_from v r k a.0 (record { within = a.1.within; passes = again k e; last = λ j above below. false_from_ne_true (hits_at v r j) (λ q. both_ways (hits_at w r j) (a.1.last j above below) (back j q)) })

  -- It hits again where it hit, and hits nowhere else.
  pub means_still : ((k : ℕ) → hit w r ≡ Some k → hits_at v r k ≡ true) → ((j : ℕ) → hits_at v r j ≡ true → hits_at w r j ≡ true) → meaning v r ≡ Some m
  means_still again back = ap (meaning_at v r) (same_hit again back) ∙ typed_still (hit w r) h
