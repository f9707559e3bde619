-- What a link shows by texts is what the workspace shows by names.
use Rattle.std.proofs.Common.{◌≡◌, ◌≢◌, ℕ, Bool, true, false, ◌&&◌, ◌||◌, if◌then◌else◌, List, [], ◌∷◌, ◌++◌, Option, Some, None, option_map, refl, sym, ap, ap₂, subst, ◌∙◌, append_assoc, Contains, bytes_eq}
use Rattle.proto_base.proofs.Common.{and_from, and_parts, none-some, same_Some, any_from, same_from_word, word_from_same}
use Rattle.proto_names_rules.proofs.Common.{Renaming, target, ArePlain, IsPlain, below, joined, EntryFits, IsRenaming, Symbol, Workspace, same_name, sees, shows, name_from_same, same_from_name, joined_apart, last_parts, shown}
use Rattle.proto_names_rules.specs.declared.kind.Kind.{Kind}
use Rattle.proto_names_imports.proofs.PlainNames.{plain_join}
use Rattle.proto_names.proofs.Common.{HoldsNames, LinkOf, NameOf, is_visible, name_at, name_text}
use Rattle.proto_edit_captures.specs.Common.{Fit, NewTexts, shows_anew, shows_beside, shows_entry, entry_shown_if, first_fits, kind_fits, kind_named, shown_below, shown_beside, shows_fitting}
use Rattle.proto_edit_captures.proofs.KindNamed.{kind_at}
use Rattle.proto_edit_captures.proofs.NewlyShown.{same_truth}

abbrev pub texts_for : Renaming → NewTexts
texts_for e = record { target = joined (target e); old = e.old; new = e.new; entry = e.entry }

plain_last : (x : List (List ℕ)) (w : List ℕ) → ArePlain (x ++ w ∷ []) → IsPlain w
plain_last [] w p = p.0
plain_last (v ∷ x) w p = plain_last x w p.1

pub below_is : (S : List (List ℕ)) (v : List ℕ) → S ≢ [] → below (joined S) v ≡ joined (S ++ v ∷ [])
below_is [] v h = absurd (h refl)
below_is (s ∷ []) v h = refl
below_is (s ∷ t ∷ S) v h = append_assoc s (46 ∷ joined (t ∷ S)) (46 ∷ v) ∙ ap (λ z. s ++ 46 ∷ z) (below_is (t ∷ S) v not_nil)
  where
    not_nil : t ∷ S ≡ [] → ⊥
    not_nil z = cc

pub named_at : (l : LinkOf) (row : ℕ) (text : List ℕ) → name_text l row ≡ Some text → (n : NameOf) × (name_at l row ≡ Some n) × (n.text ≡ text)
named_at l row text h = go (name_at l row) refl h
  where
    go : (o : Option NameOf) → name_at l row ≡ o → option_map (λ n. n.text) o ≡ Some text → (n : NameOf) × (name_at l row ≡ Some n) × (n.text ≡ text)
    go None e q = absurd (none-some text q)
    go (Some n) e q = (n, e, same_Some n.text text q)

-- what is shown to a test is shown to the one that each kind passes
pub shown_to_all : (w : Workspace) (f : ℕ) (good : Kind → Bool) (x : List (List ℕ)) → shows w f good x ≡ true → shows w f (λ k. true) x ≡ true
shown_to_all w f good x h =
    let s = shown w f good x h in
    any_from (λ s. same_name s.name x && (true && sees w f s.file)) w.symbols s.0 s.1 (and_from (same_name s.0.name x) (true && sees w f s.0.file) (same_from_name s.0.name x s.2) s.4)

module _ (w : Workspace) (l : LinkOf) (file : ℕ) (names : HoldsNames w l) (visible : (x : List (List ℕ)) → ArePlain x → is_visible l file (joined x) ≡ shows w file (λ k. true) x) where
  one_text : (i j : ℕ) (t : List ℕ) → name_text l i ≡ Some t → name_text l j ≡ Some t → i ≡ j
  one_text i j t h k =
      let m = named_at l i t h in
      let n = named_at l j t k in
      names.once i j m.0 n.0 m.1 n.1 (m.2 ∙ sym n.2)

  kind_of_symbol : (s : Symbol) → Contains w.symbols s → kind_named l (joined s.name) ≡ Some s.kind
  kind_of_symbol s cs =
      let n = names.there s cs in
      sym (kind_at l (joined s.name) n.0 (ap (option_map (λ n. n.text)) n.2 ∙ ap Some n.3) one_text) ∙ ap (option_map (λ n. n.kind)) n.2 ∙ ap Some n.4

  pub shows_is : (fit : Fit) (x : List (List ℕ)) → ArePlain x → shows_fitting l file fit (joined x) ≡ shows w file (first_fits fit) x
  shows_is fit x plain = same_truth (shows_fitting l file fit (joined x)) (shows w file (first_fits fit) x) forth back
    where
      forth : shows_fitting l file fit (joined x) ≡ true → shows w file (first_fits fit) x ≡ true
      forth h =
          let t = and_parts (kind_fits fit (kind_named l (joined x))) (is_visible l file (joined x)) h in
          let s = shown w file (λ k. true) x (sym (visible x plain) ∙ t.1) in
          let good : first_fits fit s.0.kind ≡ true = ap (kind_fits fit) (sym (ap (kind_named l) (ap joined (sym s.2)) ∙ kind_of_symbol s.0 s.1)) ∙ t.0 in
          any_from (λ s. same_name s.name x && (first_fits fit s.kind && sees w file s.file)) w.symbols s.0 s.1
          (and_from (same_name s.0.name x) (first_fits fit s.0.kind && sees w file s.0.file) (same_from_name s.0.name x s.2) (and_from (first_fits fit s.0.kind) (sees w file s.0.file) good s.4))

      back : shows w file (first_fits fit) x ≡ true → shows_fitting l file fit (joined x) ≡ true
      back h =
          let s = shown w file (first_fits fit) x h in
          and_from (kind_fits fit (kind_named l (joined x))) (is_visible l file (joined x))
          (ap (kind_fits fit) (ap (kind_named l) (ap joined (sym s.2)) ∙ kind_of_symbol s.0 s.1) ∙ s.3)
          (visible x plain ∙ shown_to_all w file (first_fits fit) x h)

  module _ (e : Renaming) (is : IsRenaming e w) where
    pub target_plain : ArePlain (target e)
    target_plain = subst ArePlain is.target_is.2 (names.plain is.target_is.0 is.target_is.1)

    module _ (S : List (List ℕ)) (some : S ≢ []) (plain : ArePlain S) (q : List ℕ) (word : IsPlain q) (fit : Fit) where
      is_parent : bytes_eq (below (joined S) e.old) (joined (target e)) ≡ same_name S e.parent
      is_parent = same_truth (bytes_eq (below (joined S) e.old) (joined (target e))) (same_name S e.parent) forth back
        where
          forth : bytes_eq (below (joined S) e.old) (joined (target e)) ≡ true → same_name S e.parent ≡ true
          forth h =
              let texts : joined (S ++ e.old ∷ []) ≡ joined (target e) = sym (below_is S e.old some) ∙ word_from_same (below (joined S) e.old) (joined (target e)) h in
              let full = joined_apart (S ++ e.old ∷ []) (target e) (plain_join S e.old plain (plain_last e.parent e.old target_plain)) target_plain texts in
              same_from_name S e.parent (last_parts S e.parent e.old e.old full).0

          back : same_name S e.parent ≡ true → bytes_eq (below (joined S) e.old) (joined (target e)) ≡ true
          back h = same_from_word (below (joined S) e.old) (joined (target e)) (below_is S e.old some ∙ ap (λ z. joined (z ++ e.old ∷ [])) (name_from_same S e.parent h))

      entry_is : S ≡ e.parent → (o : Option (List ℕ × List ℕ)) → e.entry ≡ o → entry_shown_if l file fit o (joined S) q ≡ shows_entry w file (first_fits fit) S o q
      entry_is own None eo = refl
      entry_is own (Some p) eo =
          let fits : EntryFits w e (Some p) = subst (EntryFits w e) eo is.entry_is in
          let s = fits.2 in
          let whole : s.0.name ≡ S ++ p.0 ∷ [] = s.2 ∙ ap (λ z. z ++ p.0 ∷ []) (sym own) in
          ap (λ z. bytes_eq q p.1 && z) (ap (shows_fitting l file fit) (below_is S p.0 some) ∙ shows_is fit (S ++ p.0 ∷ []) (subst ArePlain whole (names.plain s.0 s.1)))

      by : (b : Bool) → same_name S e.parent ≡ b → (if b then shown_beside l file fit (texts_for e) (joined S) q else shows_fitting l file fit (below (joined S) q))
          ≡ (if b then shows_beside e w file (first_fits fit) S q else shows w file (first_fits fit) (S ++ q ∷ []))
      by true own = ap₂ (λ (x y : Bool). (bytes_eq q e.new && x) || y) (shows_is fit (target e) target_plain) (entry_is (name_from_same S e.parent own) e.entry refl)
      by false other = ap (shows_fitting l file fit) (below_is S q some) ∙ shows_is fit (S ++ q ∷ []) (plain_join S q plain word)

      pub shown_is : shown_below l file fit (texts_for e) (joined S) q ≡ shows_anew e w file (first_fits fit) S q
      shown_is =
          ap (λ b. if b then shown_beside l file fit (texts_for e) (joined S) q else shows_fitting l file fit (below (joined S) q)) is_parent
          ∙ by (same_name S e.parent) refl
