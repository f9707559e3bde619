-- Which references are kept where some files are edited: by their places, by keys of words, and where leaves alone differ.
use Rattle.std.proofs.Common.{◌≡◌, ◌≢◌, ℕ, true, false, not, List, [], ◌∷◌, ◌++◌, length, take, ◌==◌, refl, sym, ◌∙◌, ap, eq-eqb, subst, inl, inr, arith, Contains, append-nil, length-append, true≢false}
use Rattle.proto_base.proofs.Common.{both_ways, cases_Bool, or_left, contains_or_not}
use Rattle.proto_names_rules.proofs.Common.{Symbol, Workspace, fits_at_first, may_resolve_to, sees}
use Rattle.proto_names_rules.proofs.Common.{front_or_same, one_symbol}
use Rattle.proto_names_rules.specs.Names.{is_extension, is_type}
use Rattle.proto_names_rules.specs.declared.kind.Kind.{Kind}
use Rattle.proto_names_rules.specs.declared.kind.Kind.TheVariants.{Package, Message, Entry, Enum, Service, Field, EntryField, Oneof, Value, Method, Extension}
use Rattle.proto_names_rules.proofs.Still.{type_is_outer}
use Rattle.proto_names_rules.specs.Kept.{Declares, InnerSpareOthers, KeysTell, LeavesSpareAll, UnaffectedAreKept, is_inner, may_fit}
use Rattle.proto_names_rules.specs.Names.{Wants}
use Rattle.proto_names_rules.specs.declared.wants.Wants.TheVariants as wants
use Rattle.proto_names_rules.proofs.Imports.{none_fits}

-- what fits may fit, however many words follow
fits_may : (what : Wants) (words : List (List ℕ)) (k : Kind) → fits_at_first what words k ≡ true → may_fit what k ≡ true
fits_may wants.Type [] k h = absurd (true≢false (sym h))
fits_may wants.Type (p ∷ []) k h = type_is_outer k h
fits_may wants.Type (p ∷ q ∷ rest) k h = h
fits_may wants.Message [] k h = absurd (true≢false (sym h))
fits_may wants.Message (p ∷ []) k h = type_is_outer k h
fits_may wants.Message (p ∷ q ∷ rest) k h = h
fits_may wants.Extension words k h = refl

-- so may what is meant
wanted_may : (what : Wants) (k : Kind) → may_resolve_to what k ≡ true → may_fit what k ≡ true
wanted_may wants.Type k h = type_is_outer k h
wanted_may wants.Message k h = type_is_outer k h
wanted_may wants.Extension k h = refl

-- a file sees itself
sees_own : (w : Workspace) (f g : ℕ) → g ≡ f → sees w f g ≡ true
sees_own w f g e = or_left (f == g) _ (eq-eqb f g (sym e))

pub unaffected_are_kept : UnaffectedAreKept
unaffected_are_kept places w v differ r m unaffected = record {
  seen = unaffected.not_hidden;
  declared = λ s c n ty. elim (contains_or_not places s.file) [
    | inl there ↦ unaffected.not_gone s c there n ty
    | inr elsewhere ↦ differ.stay s c elsewhere
  ];
  none_new = λ s front back c now whole n f. elim (cases_Bool (sees w r.file s.file)) [
    | inl before ↦ (s, was s front back c whole n f, refl, f, before)
    | inr not_seen ↦
        let d = unaffected.none_shown s front back c now not_seen whole n f in
        let u = d.0 in (
          u.0,
          differ.none_new u.0 u.1 (λ there. d.1 (subst (Contains places) u.4 there)),
          u.2,
          ap (fits_at_first r.wants r.words) u.3 ∙ f,
          sees_own w r.file u.0.file u.4,
        )
  ];
}
  where
    was : (s : Symbol) (front back : List (List ℕ)) → Contains v.symbols s → front ++ back ≡ r.scope → s.name ≡ front ++ take 1 r.words → fits_at_first r.wants r.words s.kind ≡ true → Contains w.symbols s
    was s front back c whole n f = elim (contains_or_not places s.file) [
      | inl there ↦ unaffected.none_came s front back c there whole n f
      | inr elsewhere ↦ differ.none_new s c elsewhere
    ]

pub keys_tell : KeysTell
keys_tell key places w v r m is = record {
  not_hidden = is.not_hidden;
  none_shown = λ s front back c now before whole n f. shown r.words refl s front back c now before whole n f;
  not_gone = is.not_gone;
  none_came = λ s front back c there whole n f. came r.words refl s front back c there whole n f;
}
  where
    came : (words : List (List ℕ)) → r.words ≡ words → (s : Symbol) (front back : List (List ℕ)) → Contains v.symbols s → Contains places s.file → front ++ back ≡ r.scope → s.name ≡ front ++ take 1 words → fits_at_first r.wants words s.kind ≡ true → Contains w.symbols s
    came [] e s front back c there whole n f = absurd (true≢false (sym f ∙ none_fits r.wants s.kind))
    came (first ∷ rest) e s front back c there whole n f = is.none_came s front back first first rest c there (fits_may r.wants (first ∷ rest) s.kind f) whole n e refl

    shown : (words : List (List ℕ)) → r.words ≡ words → (s : Symbol) (front back : List (List ℕ)) → Contains v.symbols s → sees v r.file s.file ≡ true → sees w r.file s.file ≡ false → front ++ back ≡ r.scope → s.name ≡ front ++ take 1 words → fits_at_first r.wants words s.kind ≡ true → Declares v r.file s × (Contains places r.file → ⊥)
    shown [] e s front back c now before whole n f = absurd (true≢false (sym f ∙ none_fits r.wants s.kind))
    shown (first ∷ rest) e s front back c now before whole n f = is.none_shown s front back first first rest c now before (fits_may r.wants (first ∷ rest) s.kind f) whole n e refl

pub leaves_spare_all : LeavesSpareAll
leaves_spare_all places w v r m differ sight = record {
  not_hidden = λ s c n ty was. sight s.file ∙ was;
  none_shown = λ s front back c now before whole n f. absurd (both_ways (sees w r.file s.file) before (sym (sight s.file) ∙ now));
  not_gone = λ s c there n ty. differ.stay s c there (wanted_may r.wants s.kind ty);
  none_came = λ s front back c there whole n f. differ.none_new s c there (fits_may r.wants r.words s.kind f);
}

-- a type is no inner kind
type_stays : (k : Kind) → is_type k ≡ true → not (is_inner k) ≡ true
type_stays Package h = refl
type_stays Message h = refl
type_stays Entry h = refl
type_stays Enum h = refl
type_stays Service h = refl
type_stays Field h = absurd (true≢false (sym h))
type_stays EntryField h = absurd (true≢false (sym h))
type_stays Oneof h = absurd (true≢false (sym h))
type_stays Value h = refl
type_stays Method h = absurd (true≢false (sym h))
type_stays Extension h = refl

-- nor is an extension
extension_stays : (k : Kind) → is_extension k ≡ true → not (is_inner k) ≡ true
extension_stays Package h = refl
extension_stays Message h = refl
extension_stays Entry h = refl
extension_stays Enum h = refl
extension_stays Service h = refl
extension_stays Field h = absurd (true≢false (sym h))
extension_stays EntryField h = absurd (true≢false (sym h))
extension_stays Oneof h = absurd (true≢false (sym h))
extension_stays Value h = refl
extension_stays Method h = absurd (true≢false (sym h))
extension_stays Extension h = refl

wanted_stays : (what : Wants) (k : Kind) → may_resolve_to what k ≡ true → not (is_inner k) ≡ true
wanted_stays wants.Type k h = type_stays k h
wanted_stays wants.Message k h = type_stays k h
wanted_stays wants.Extension k h = extension_stays k h

pub inner_spare_others : InnerSpareOthers
inner_spare_others places w v differ nested within apart r m own elsewhere sight = record {
  not_hidden = λ s c n ty was. sight s.file ∙ was;
  none_shown = λ s front back c now before whole n f. absurd (both_ways (sees w r.file s.file) before (sym (sight s.file) ∙ now));
  not_gone = λ s c there n ty. differ.stay s c there (wanted_stays r.wants s.kind ty);
  none_came = λ s front back c there whole n f. elim (cases_Bool (is_inner s.kind)) [
    | inl inner ↦ absurd (none_inner r.words s front back c there whole n f inner)
    | inr other ↦ differ.none_new s c there (ap not other)
  ];
}
  where
    -- two symbols of one name, of which the first is no package, are of one file
    of_one_file : (x y : Symbol) → Contains v.symbols x → Contains v.symbols y → x.name ≡ y.name → x.kind ≢ Package → x.file ≡ y.file
    of_one_file x y cx cy n apart_from = elim (one_symbol v.symbols apart x y cx cy n) [ inl same ↦ ap (λ (z : Symbol). z.file) same | inr both ↦ absurd (apart_from both.0) ]

    stands : (s : Symbol) (front back : List (List ℕ)) (p : List ℕ) → Contains v.symbols s → Contains places s.file → front ++ back ≡ r.scope → s.name ≡ front ++ p ∷ [] → is_inner s.kind ≡ true → ⊥
    stands s front back p c there whole n inner =
        let u = within s c inner front p n in
        let o = own (omega (arith, u.0, ap length whole, length-append front back)) in
        let here : u.1.file ≡ r.file = elim (front_or_same v.symbols nested front back o.0 o.1 (o.2 ∙ sym whole) u.0) [
          | inl none ↦ of_one_file u.1 o.0 u.2 o.1 (u.3 ∙ sym (o.2 ∙ sym whole ∙ ap (λ b. front ++ b) none ∙ append-nil front)) u.5 ∙ o.3
          | inr f ↦ of_one_file u.1 f.it u.2 f.within (u.3 ∙ sym f.name) u.5 ∙ f.file ∙ o.3
        ] in
        elsewhere (subst (Contains places) (sym u.4 ∙ here) there)

    none_inner : (words : List (List ℕ)) (s : Symbol) (front back : List (List ℕ)) → Contains v.symbols s → Contains places s.file → front ++ back ≡ r.scope → s.name ≡ front ++ take 1 words → fits_at_first r.wants words s.kind ≡ true → is_inner s.kind ≡ true → ⊥
    none_inner [] s front back c there whole n f inner = true≢false (sym f ∙ none_fits r.wants s.kind)
    none_inner (p ∷ rest) s front back c there whole n f inner = stands s front back p c there whole n inner
