-- The new word suits each place where a rename puts it (for the crates above).
use Rattle.std.proofs.Common.{◌≡◌, ◌≢◌, ℕ, Bool, true, false, ◌⊎◌, if◌then◌else◌, List, [], ◌∷◌, ◌++◌, map, flat_map, Option, Some, None, refl, sym, ap, subst, ◌∙◌, inl, inr, arith, append_assoc, length-append, not, Contains, append-nil}
use Rattle.proto_base.proofs.Common.{list_any, cases_Bool, cond-true, cond-false, none-some, same_Some, Contains-append_right, Contains-append_cases, contains_cases, contains_head, contains_later, contains_map}
use Rattle.proto_case.specs.Camel.{entry_name}
use Rattle.proto_text.specs.declared.class.Class.TheVariants.{Letter}
use Rattle.proto_text.specs.declared.kind.TokenKind.TheVariants.{Word}
use Rattle.proto_text.specs.Pieces.{IsRun}
use Rattle.proto_tree.specs.declared.class.Expected.{Expected}
use Rattle.proto_tree.proofs.Common.{fits, Mark, Suits, flat, class_by, is_listed, word_is_word}
use Rattle.proto_tree.specs.declared.class.Class.TheVariants as class
use Rattle.proto_tree.specs.declared.class.Expected.TheVariants as want
use Rattle.proto_files.proofs.Common.{FileOf, ReadOf, read_at}
use Rattle.proto_names_rules.specs.declared.kind.Kind.{Kind}
use Rattle.proto_names_rules.specs.declared.wants.Wants.TheVariants as wants
use Rattle.proto_names_rules.specs.declared.kind.Kind.TheVariants.{Package, Message, Entry, Enum, Service, Field, EntryField, Oneof, Value, Method, Extension}
use Rattle.proto_names_rules.proofs.Common.{Renaming, target, At, at, IsLinked, Reference, Symbol, Workspace, front_at, hit, is_outer, is_type, may_resolve_to, meaning, meaning_at, visible_as, Token, Used, name_of, reference_of, symbol_of, spell, name_from_same, map_append, visible_is, has_meaning, meant, front_or_same, one_symbol}
use Rattle.proto_names_imports.specs.Links.{text_of, link_skeleton, names_of_files}
use Rattle.proto_edit_rename_laws.specs.Common.{is_keyword_of, is_value_keyword, renamed_defaults, SuitFiles, words_of_file, front_of as front_before, renamed_places, same_at, standing, HasWants, Target, IsNamed, may_rename, name_map, renamed_words}
use Rattle.proto_edit_rename_laws.specs.PlacesSuit.{PlacesSuit}
use Rattle.proto_edit_rename_laws.proofs.OptionWords.{names_option_or_type, type_wanted}
use Rattle.proto_edit_rename_laws.proofs.Places.{from_flat_map, listed_is_there as is_there, stands_at}

-- ---- words that are no keywords

unlisted : (w : List ℕ) → (is_listed w ≡ true → ⊥) → fits (want.One class.Name) (class_by Word w) ≡ true
unlisted w h = by (fits (want.One class.Name) (class_by Word w)) h
  where
    by : (b : Bool) → (not b ≡ true → ⊥) → b ≡ true
    by true k = refl
    by false k = absurd (k refl)

unreserved : (w : List ℕ) → (is_value_keyword w ≡ true → ⊥) → fits want.ValueName (class_by Word w) ≡ true
unreserved w h = by (fits want.ValueName (class_by Word w)) h
  where
    by : (b : Bool) → (not b ≡ true → ⊥) → b ≡ true
    by true k = refl
    by false k = absurd (k refl)

outer_keyword : (k : Kind) (w : List ℕ) → (is_type k ≡ true) ⊎ (is_outer k ≡ true) → may_rename k ≡ true → is_keyword_of k w ≡ is_listed w
outer_keyword Message w h m = refl
outer_keyword Enum w h m = refl
outer_keyword Service w h m = refl
outer_keyword Package w h m = absurd cc
outer_keyword Entry w h m = absurd cc
outer_keyword Field w (inl h) m = absurd cc
outer_keyword Field w (inr h) m = absurd cc
outer_keyword EntryField w h m = absurd cc
outer_keyword Oneof w h m = absurd cc
outer_keyword Value w (inl h) m = absurd cc
outer_keyword Value w (inr h) m = absurd cc
outer_keyword Method w (inl h) m = absurd cc
outer_keyword Method w (inr h) m = absurd cc
outer_keyword Extension w (inl h) m = absurd cc
outer_keyword Extension w (inr h) m = absurd cc

-- ---- what is meant is the front at the hit, and the words

pub meaning_parts : (w : Workspace) (r : Reference) (m : List (List ℕ)) → meaning w r ≡ Some m → m ≡ front_at r (hit w r) ++ r.words
meaning_parts w r m h = by (hit w r) h
  where
    by : (o : Option ℕ) → meaning_at w r o ≡ Some m → m ≡ front_at r o ++ r.words
    by (Some k) e = sym (visible_is w r.file (may_resolve_to r.wants) _ m e).1
    by None e = elim (cases_Bool r.is_absolute) [
      | inl t ↦ sym (visible_is w r.file (may_resolve_to r.wants) r.words m (sym (cond-true r.is_absolute (visible_as w r.file (may_resolve_to r.wants) r.words) None t) ∙ e)).1
      | inr f ↦ absurd (none-some m (sym (cond-false r.is_absolute (visible_as w r.file (may_resolve_to r.wants) r.words) None f) ∙ e))
    ]

-- ---- what a word of a reference stands for

module _ (files : List FileOf) (reads : List ReadOf) (name to : List ℕ) (t : Target) (linked : IsLinked (names_of_files files reads)) (named : IsNamed files reads name t) where
  abbrev e : Renaming
  e = name_map files reads t to

  abbrev w : Workspace
  w = names_of_files files reads

  abbrev aim_symbol : Symbol
  aim_symbol = symbol_of (text_of files reads) entry_name t.aim

  there : Contains w.symbols aim_symbol
  there = contains_map (symbol_of (text_of files reads) entry_name) (link_skeleton files reads).declared t.aim named.within

  aim_name : aim_symbol.name ≡ target e
  aim_name = ap (name_of (text_of files reads) entry_name) named.path ∙ map_append (spell (text_of files reads) entry_name) t.above (Token t.token ∷ [])

  no_package : t.aim.kind ≢ Package
  no_package z = differ (sym named.kind ∙ ap may_rename z)
    where
      differ : true ≡ false → ⊥
      differ z = cc

  -- a front of a type, or the type itself
  outer : (s : Symbol) → Contains w.symbols s → is_type s.kind ≡ true → (rest : List (List ℕ)) → s.name ≡ target e ++ rest → (is_type t.aim.kind ≡ true) ⊎ (is_outer t.aim.kind ≡ true)
  outer s cs type rest n = elim (front_or_same w.symbols linked.nested (target e) rest s cs n (omega (arith, length-append e.parent (e.old ∷ [])))) [
    | inl none ↦ elim (one_symbol w.symbols linked.unique s aim_symbol cs there (n ∙ ap (λ z. target e ++ z) none ∙ append-nil (target e) ∙ sym aim_name)) [
      | inl same ↦ inl (sym (ap (λ (z : Symbol). is_type z.kind) same) ∙ type)
      | inr both ↦ absurd (no_package both.1)
    ]
    | inr front ↦ elim (one_symbol w.symbols linked.unique front.it aim_symbol front.within there (front.name ∙ sym aim_name)) [
      | inl same ↦ inr (sym (ap (λ (z : Symbol). is_outer z.kind) same) ∙ front.outer)
      | inr both ↦ absurd (no_package both.1)
    ]
  ]

  stands_for_outer : (u : Used At) → Contains (link_skeleton files reads).used u → u.wants ≢ wants.Extension → (i : At) → Contains (standing (text_of files reads) (link_skeleton files reads) e u) i → (is_type t.aim.kind ≡ true) ⊎ (is_outer t.aim.kind ≡ true)
  stands_for_outer u cu typed i ci =
      let r = reference_of (text_of files reads) entry_name u in
      let cr = contains_map (reference_of (text_of files reads) entry_name) (link_skeleton files reads).used u cu in
      let m = has_meaning (meaning w r) (linked.resolved r cr) in
      let s = meant w r m.0 m.1 in
      let front = front_before (text_of files reads) (link_skeleton files reads) u in
      let st = stands_at e (text_of files reads) front u.tokens i ci in
      let words : map (text_of files reads) u.tokens ≡ map (text_of files reads) st.before ++ text_of files reads i ∷ map (text_of files reads) st.behind = ap (map (text_of files reads)) st.parts ∙ map_append (text_of files reads) st.before (i ∷ st.behind) in
      let is_target = name_from_same ((front ++ map (text_of files reads) st.before) ++ text_of files reads i ∷ []) (target e) st.same in
      let whole : s.0.name ≡ target e ++ map (text_of files reads) st.behind =
      s.2 ∙ meaning_parts w r m.0 m.1 ∙ ap (λ z. front ++ z) words
      ∙ sym (append_assoc front (map (text_of files reads) st.before) (text_of files reads i ∷ map (text_of files reads) st.behind))
      ∙ sym (append_assoc (front ++ map (text_of files reads) st.before) (text_of files reads i ∷ []) (map (text_of files reads) st.behind))
      ∙ ap (λ z. z ++ map (text_of files reads) st.behind) is_target in
      outer s.0 s.1 (type_wanted u.wants typed s.0.kind s.3) (map (text_of files reads) st.behind) whole

  module _ (suits : HasWants files reads t to) (run : IsRun Letter to) (free : is_keyword_of t.aim.kind to ≡ true → ⊥) where
    abbrev places : List At
    places = renamed_places (text_of files reads) (link_skeleton files reads) (name_map files reads t to) t.token (renamed_defaults files reads t.enum (name_map files reads t to).old)

    abbrev used_places : List At
    used_places = flat_map (standing (text_of files reads) (link_skeleton files reads) (name_map files reads t to)) (link_skeleton files reads).used

    fits_as : (u v : Expected) → fits u (class_by Word to) ≡ true → v ≡ u → fits v (class_by Word to) ≡ true
    fits_as u v f h = ap (λ z. fits z (class_by Word to)) h ∙ f

    place_fits : (k : ℕ) (m : Mark) → Contains (flat (read_at reads k).tree) m → Contains places (at k m.at) → fits m.want (class_by Word to) ≡ true
    place_fits k m cm c = elim (contains_cases t.token (at k m.at) (used_places ++ renamed_defaults files reads t.enum (name_map files reads t to).old) c) [
      | inl same ↦ elim (suits.name k m cm (sym same)) [
        | inl x ↦ fits_as want.Name m.want (word_is_word to) x
        | inr x ↦ ap (λ z. fits z (class_by Word to)) x.0 ∙ unreserved to (λ h. free (ap (λ z. is_keyword_of z to) x.1 ∙ h))
      ]
      | inr d ↦ elim (Contains-append_cases used_places (renamed_defaults files reads t.enum (name_map files reads t to).old) (at k m.at) d) [
        | inl h ↦ (
            let u = from_flat_map (standing (text_of files reads) (link_skeleton files reads) e) (link_skeleton files reads).used (at k m.at) h in
            let st = stands_at e (text_of files reads) (front_before (text_of files reads) (link_skeleton files reads) u.0) u.0.tokens (at k m.at) u.2 in
            let inside = subst (λ z. Contains z (at k m.at)) (sym st.parts) (Contains-append_right st.before (at k m.at ∷ st.behind) (at k m.at) (contains_head (at k m.at) st.behind)) in
            elim (names_option_or_type u.0.wants) [
              | inl option ↦ fits_as want.Word m.want (word_is_word to) (suits.options k m cm u.0 u.1 option inside)
              | inr typed ↦ elim (suits.uses k m cm (u.0, u.1, inside)) [
                | inl x ↦ fits_as want.Word m.want (word_is_word to) x
                | inr x ↦ (
                    let is = outer_keyword t.aim.kind to (stands_for_outer u.0 u.1 typed (at k m.at) u.2) named.kind in
                    ap (λ z. fits z (class_by Word to)) x ∙ unlisted to (λ h. free (is ∙ h)))
              ]
            ])
        | inr h ↦ fits_as want.Constant m.want (word_is_word to) (suits.defaults k m cm h)
      ]
    ]

    changed : (b : Bool) (v : List ℕ) → (if b then Some to else None) ≡ Some v → (b ≡ true) × (to ≡ v)
    changed true v h = (refl, same_Some to v h)
    changed false v h = absurd cc

    suits_from : (k : ℕ) (ms : List Mark) → ((m : Mark) → Contains ms m → Contains (flat (read_at reads k).tree) m) → Suits (words_of_file (renamed_words files reads t to) k) ms
    suits_from k [] h = tt
    suits_from k (m ∷ ms) h = (
      λ v q. (
          let c = changed (list_any (same_at (at k m.at)) places) v q in
          subst (λ z. fits m.want (class_by Word z) ≡ true) c.1 (place_fits k m (h m (contains_head m ms)) (is_there (at k m.at) places c.0))),
      suits_from k ms (λ x cx. h x (contains_later m x ms cx)),
    )

    places_suit : SuitFiles (renamed_words files reads t to) reads
    places_suit k l = (
      suits_from k (flat (read_at reads k).tree) (λ m c. c),
      λ i v q. (
          let c = changed (list_any (same_at (at k i)) places) v q in
          subst (IsRun Letter) c.1 run),
    )

pub places_are_suited : PlacesSuit
places_are_suited files reads name to t linked named suits run free = places_suit files reads name to t linked named suits run free
