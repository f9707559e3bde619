-- Without some of its fields and entries a workspace gives each reference the meaning that it had (for the crates above).
use Rattle.std.proofs.Common.{◌≡◌, ◌≢◌, ℕ, ◌<◌, Bool, true, false, ◌&&◌, ◌||◌, ◌==◌, List, ◌++◌, length, take, Some, refl, sym, ◌∙◌, ap, ap₂, subst, inl, inr, append_assoc, Contains, true≢false, append-nil}
use Rattle.proto_base.proofs.Common.{list_any, both_ways, and_from, none-some, any_from}
use Rattle.proto_names_rules.proofs.Common.{AreApart, IsLinked, Import, Symbol, Reference, Workspace, same_name, is_type, is_outer, fits_at_first, may_resolve_to, reaches, sees, shows, meaning, meaning_at, same_from_name, first_and_rest, hit_relative, visible_is, has_meaning, meant, front_or_same, one_symbol, shown, wanted_no_entry_field}
use Rattle.proto_names_rules.specs.Names.{is_extension}
use Rattle.proto_names_rules.specs.declared.wants.Wants.{Wants}
use Rattle.proto_names_rules.specs.declared.wants.Wants.TheVariants as wants
use Rattle.proto_names_rules.specs.declared.kind.Kind.{Kind}
use Rattle.proto_names_rules.specs.declared.kind.Kind.TheVariants.{Package, Message, Entry, Enum, Service, Field, EntryField, Oneof, Value, Method, Extension}
use Rattle.proto_names_rules.proofs.Still.{has_word, means_still, some_words, type_is_outer}
use Rattle.proto_edit_statement_laws.specs.NamesCommon.{HasLess, LessIsLinked, LessMeans, MayGo, goes_with_field, IsAny}
use Rattle.proto_edit_statement_laws.proofs.Lists.{more_has, more_or, more_pairs}

-- what holds others stays, but for entries
outer_stays : (k : Kind) → is_outer k ≡ true → k ≢ Entry → goes_with_field k ≡ false
outer_stays Package h ne = refl
outer_stays Message h ne = refl
outer_stays Entry h ne = absurd (ne refl)
outer_stays Enum h ne = refl
outer_stays Service h ne = refl
outer_stays Field h ne = absurd (true≢false (sym h))
outer_stays EntryField h ne = absurd (true≢false (sym h))
outer_stays Oneof h ne = refl
outer_stays Value h ne = refl
outer_stays Method h ne = refl
outer_stays Extension h ne = refl

type_stays : (k : Kind) → is_type k ≡ true → k ≢ Entry → goes_with_field k ≡ false
type_stays k h ne = outer_stays k (type_is_outer k h) ne

extension_stays : (k : Kind) → is_extension k ≡ true → goes_with_field k ≡ false
extension_stays Extension h = refl
extension_stays Package h = absurd (true≢false (sym h))
extension_stays Message h = absurd (true≢false (sym h))
extension_stays Entry h = absurd (true≢false (sym h))
extension_stays Enum h = absurd (true≢false (sym h))
extension_stays Service h = absurd (true≢false (sym h))
extension_stays Field h = absurd (true≢false (sym h))
extension_stays EntryField h = absurd (true≢false (sym h))
extension_stays Oneof h = absurd (true≢false (sym h))
extension_stays Value h = absurd (true≢false (sym h))
extension_stays Method h = absurd (true≢false (sym h))

-- so does what a reference may mean
pub wanted_stays : (what : Wants) (k : Kind) → may_resolve_to what k ≡ true → k ≢ Entry → goes_with_field k ≡ false
wanted_stays wants.Type k h ne = type_stays k h ne
wanted_stays wants.Message k h ne = type_stays k h ne
wanted_stays wants.Extension k h ne = extension_stays k h

module _ (w v : Workspace) (ok : IsLinked w) (less : HasLess w v) where
  sees_same : (f g : ℕ) → sees v f g ≡ sees w f g
  sees_same f g = ap₂ (λ (n : ℕ) (imports : List Import). (f == g) || list_any (λ i. (i.from == f) && reaches imports n i.to g) imports) less.files less.imports

  shows_by : (a b : Workspace) (f : ℕ) (good : Kind → Bool) (x : List (List ℕ)) → ((g : ℕ) → sees a f g ≡ sees b f g) → (s : Symbol) → Contains b.symbols s → s.name ≡ x → good s.kind ≡ true → sees a f s.file ≡ true → shows b f good x ≡ true
  shows_by a b f good x same s c n k e = any_from (λ s. same_name s.name x && (good s.kind && sees b f s.file)) b.symbols s c (and_from _ _ (same_from_name s.name x n) (and_from _ _ k (sym (same s.file) ∙ e)))

  shows_before : (f : ℕ) (good : Kind → Bool) (x : List (List ℕ)) → shows v f good x ≡ true → shows w f good x ≡ true
  shows_before f good x h = let s = shown v f good x h in shows_by v w f good x (sees_same f) s.0 (more_has MayGo v.symbols w.symbols less.symbols s.0 s.1) s.2 s.3 s.4

  -- what is shown by symbols that stay is shown still
  shows_kept : (a : List (List ℕ)) → ((s : Symbol) → Contains w.symbols s → s.name ≡ a → goes_with_field s.kind ≡ false) → (f : ℕ) (good : Kind → Bool) → shows w f good a ≡ true → shows v f good a ≡ true
  shows_kept a stays f good h =
      let s = shown w f good a h in
      elim (more_or MayGo v.symbols w.symbols less.symbols s.0 s.1) [
        | inl there ↦ shows_by w v f good a (λ g. sym (sees_same f g)) s.0 there s.2 s.3 s.4
        | inr gone ↦ absurd (both_ways (goes_with_field s.0.kind) (stays s.0 s.1 s.2) gone)
      ]

  -- of two symbols of one name neither goes where one is of a kind that stays
  named_stays : (s t : Symbol) → Contains w.symbols s → Contains w.symbols t → s.name ≡ t.name → goes_with_field t.kind ≡ false → goes_with_field s.kind ≡ false
  named_stays s t cs ct n k = elim (one_symbol w.symbols ok.unique s t cs ct n) [
    | inl same ↦ subst (λ z. goes_with_field z ≡ false) (ap (λ (y : Symbol). y.kind) (sym same)) k
    | inr both ↦ ap goes_with_field both.0
  ]

  -- what may be meant and is no entry, and each front of it, are shown still
  module _ (what : Wants) (t : Symbol) (ct : Contains w.symbols t) (wanted : may_resolve_to what t.kind ≡ true) (ne : t.kind ≢ Entry) where
    shows_type : (f : ℕ) (good : Kind → Bool) → shows w f good t.name ≡ true → shows v f good t.name ≡ true
    shows_type = shows_kept t.name (λ s cs n. named_stays s t cs ct n (wanted_stays what t.kind wanted ne))

    shows_front : (a b : List (List ℕ)) → a ++ b ≡ t.name → 0 < length a → (f : ℕ) (good : Kind → Bool) → shows w f good a ≡ true → shows v f good a ≡ true
    shows_front a b whole long = shows_kept a stays
      where
        stays : (s : Symbol) → Contains w.symbols s → s.name ≡ a → goes_with_field s.kind ≡ false
        stays s cs n = elim (front_or_same w.symbols ok.nested a b t ct (sym whole) long) [
          | inl none ↦ named_stays s t cs ct (n ∙ sym (append-nil a) ∙ ap (λ z. a ++ z) (sym none) ∙ whole) (wanted_stays what t.kind wanted ne)
          | inr u ↦ named_stays s u.it cs u.within (n ∙ sym u.name) (outer_stays u.it.kind u.outer (λ e. wanted_no_entry_field what t.kind wanted (u.entry e)))
        ]

  means : (r : Reference) → Contains w.references r → (m : List (List ℕ)) → meaning w r ≡ Some m → meaning v r ≡ Some m
  means r cr m h =
      let t = meant w r m h in
      let ne = ok.no_entry r cr t.0 t.1 (h ∙ ap Some (sym t.2)) in
      let good = may_resolve_to r.wants in
      let seen : shows w r.file good t.0.name ≡ true = shows_by w w r.file good t.0.name (λ g. refl) t.0 t.1 refl t.3 t.4 in
      means_still w v r m h (subst (λ z. shows v r.file good z ≡ true) t.2 (shows_type r.wants t.0 t.1 t.3 ne r.file good seen))
      (λ k q.
      (let a = hit_relative w r k q in
      let y = visible_is w r.file (may_resolve_to r.wants) (take k r.scope ++ r.words) m (ap (meaning_at w r) (sym q) ∙ h) in
      let first = first_and_rest r.words in
      let whole : (take k r.scope ++ take 1 r.words) ++ first.0 ≡ t.0.name = append_assoc (take k r.scope) (take 1 r.words) first.0 ∙ ap (λ l. take k r.scope ++ l) first.1 ∙ y.1 ∙ sym t.2 in
      shows_front r.wants t.0 t.1 t.3 ne (take k r.scope ++ take 1 r.words) first.0 whole (some_words (take k r.scope) r.words (has_word w r k a.1.passes)) r.file (fits_at_first r.wants r.words) a.1.passes))
      (λ j q. shows_before r.file (fits_at_first r.wants r.words) (take j r.scope ++ take 1 r.words) q)

pub less_means : LessMeans
less_means = means

pub less_is_linked : LessIsLinked
less_is_linked w v ok less nested = record {
  nested = nested;
  unique = more_pairs MayGo AreApart v.symbols w.symbols less.symbols ok.unique;
  resolved = λ r c none. (let m = has_meaning (meaning w r) (ok.resolved r (sub r c)) in none-some m.0 (sym none ∙ means w v ok less r (sub r c) m.0 m.1));
  no_entry = λ r c s cs h. ok.no_entry r (sub r c) s (more_has MayGo v.symbols w.symbols less.symbols s cs) (before r c s h);
  right_kind = λ r c s cs h. ok.right_kind r (sub r c) s (more_has MayGo v.symbols w.symbols less.symbols s cs) (before r c s h);
}
  where
    sub : (r : Reference) → Contains v.references r → Contains w.references r
    sub = more_has IsAny v.references w.references less.references

    before : (r : Reference) → Contains v.references r → (s : Symbol) → meaning v r ≡ Some s.name → meaning w r ≡ Some s.name
    before r c s h = let m = has_meaning (meaning w r) (ok.resolved r (sub r c)) in m.1 ∙ sym (means w v ok less r (sub r c) m.0 m.1) ∙ h
