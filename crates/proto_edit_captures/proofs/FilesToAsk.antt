-- A file that need not be asked has no reference that a rename captures.
use Rattle.std.proofs.Common.{◌≡◌, ℕ, ◌<◌, Bool, true, false, ◌&&◌, ◌||◌, ◌==◌, List, [], ◌∷◌, ◌++◌, length, get_or, map, take, Some, None, refl, sym, ap, subst, ◌∙◌, arith, Contains, eq-eqb}
use Rattle.proto_base.proofs.Common.{and_from, any_from, both_ways, contains_map, false_from_ne_true, from_map, or_left, or_right}
use Rattle.proto_case.proofs.Common.{entry_name}
use Rattle.proto_files.proofs.Common.{ReadOf, FileOf}
use Rattle.proto_names_imports.proofs.Common.{link_skeleton, names_of_files, text_of, uses_of, used_named}
use Rattle.proto_names_rules.specs.Beginnings.{BeginsSo, CapturesBeginSo, IsDeclaredScope, by_entry, by_new, by_old}
use Rattle.proto_names_rules.proofs.Common.{Renaming, fits_at_first, hit, hit_relative, joined, shows, target, used_in, Reference, Workspace, Used}
use Rattle.proto_names.proofs.Common.{IsLinkOf, LinkOf}
use Rattle.proto_names.specs.Laws.{VisibleIsShown}
use Rattle.proto_names.specs.Referring.{first_key, word_key}
use Rattle.proto_names.specs.Linking.{Meant, is_visible}
use Rattle.proto_edit_rename_laws.proofs.Common.{Target, name_map, files_are_woven}
use Rattle.proto_edit_captures.specs.Common.{AreNewNames, IsFirstIn, IsRenameOf, NewTexts, begins, entry_or_new, first_keys_of, has_to_be_asked}
use Rattle.proto_edit_captures.specs.declared.first_keys.FirstKeys.{FirstKeys}
use Rattle.proto_edit_captures.proofs.ByTexts.{shown_to_all, target_plain, texts_for}
use Rattle.proto_edit_captures.proofs.FileCaptures.{is_renaming, linked, texts_are, there}
use Rattle.proto_edit_captures.proofs.PlainWords.{has_scope}

-- the first of some words
first_word : (words : List (List ℕ)) (p : List ℕ) → take 1 words ≡ p ∷ [] → get_or words 0 [] ≡ p
first_word words p h = sym (by words) ∙ ap (λ ws. get_or ws 0 []) h
  where
    by : (ws : List (List ℕ)) → get_or (take 1 ws) 0 [] ≡ get_or ws 0 []
    by [] = refl
    by (w ∷ ws) = refl

-- one of these references begins with the key
begins_from : (ms : List Meant) (m : Meant) (key : ℕ) → Contains ms m → m.first ≡ key → begins ms key ≡ true
begins_from ms m key c h = any_from (λ (x : Meant). x.first == key) ms m c (eq-eqb m.first key h)

-- each fits one of the others, where the lists are the same as these functions see them
paired : {X Y : Type 0} (f : X → ℕ) (g : Y → ℕ) (xs : List X) (ys : List Y) → map f xs ≡ map g ys → (y : Y) → Contains ys y → (x : X) × Contains xs x × (f x ≡ g y)
paired f g xs ys same y c = from_map f xs (g y) (subst (λ (zs : List ℕ). Contains zs (g y)) (sym same) (contains_map g ys y c))

-- ---- a file

module _ (files : List FileOf) (reads : List ReadOf) (t : Target) (to : List ℕ) (r : IsRenameOf files reads t to) (l : LinkOf) (link : IsLinkOf files l) (file : ℕ) (within : file < length files) where
  abbrev e : Renaming
  e = name_map files reads t to

  abbrev w : Workspace
  w = names_of_files files reads

  declared_scope : (v : Used ℕ) → Contains (uses_of reads file) v → IsDeclaredScope w (used_named (text_of files reads) file v)
  declared_scope v c front back whole long =
      let scoped = has_scope (text_of files reads) entry_name (link_skeleton files reads) (files_are_woven files reads r.read) (used_in file v) (there files reads t to r file within v c) in
      scoped front back whole (λ none. omega (arith, long, ap length none))

  -- what is renamed is visible where a reference stands for it at its hit
  visible_at : VisibleIsShown → (q : Reference) → q.file ≡ file → (k : ℕ) → hit w q ≡ Some k → take k q.scope ++ take 1 q.words ≡ target e → is_visible l file (joined (target e)) ≡ true
  visible_at sight q at k h there =
      let visible = sight files reads l link r.read file within in
      let shown = shown_to_all w q.file (fits_at_first q.wants q.words) (take k q.scope ++ take 1 q.words) (hit_relative w q k h).1.passes in
      visible (target e) (target_plain w l file (link reads r.read).by.names visible e (is_renaming files reads t to r))
      ∙ subst (λ (f : ℕ). shows w f (λ k. true) (target e) ≡ true) at (subst (λ (x : List (List ℕ)). shows w q.file (λ k. true) x ≡ true) there shown)

  abbrev ms : List Meant
  ms = get_or l.meant file []

  abbrev keys : FirstKeys
  keys = first_keys_of (texts_for e)

  abbrev by_word : Bool
  by_word = begins ms keys.new || begins ms keys.entry

  abbrev by_sight : Bool
  by_sight = begins ms keys.old && is_visible l file (joined (target e))

  -- for a reference that begins so, the file has to be asked
  asked_for : VisibleIsShown → (q : Reference) → q.file ≡ file → (m : Meant) → Contains ms m → m.first ≡ first_key q → BeginsSo e w q → has_to_be_asked keys l file (joined (target e)) ≡ true
  asked_for sight q at m c same begun = by begun
    where
      begins_with : (p : List ℕ) → take 1 q.words ≡ p ∷ [] → begins ms (word_key p) ≡ true
      begins_with p h = begins_from ms m (word_key p) c (same ∙ ap word_key (first_word q.words p h))

      by : BeginsSo e w q → has_to_be_asked keys l file (joined (target e)) ≡ true
      by (by_new h) = or_left by_word by_sight (or_left (begins ms keys.new) (begins ms keys.entry) (begins_with e.new h))
      by (by_entry p entry h) = or_left by_word by_sight (or_right (begins ms keys.new) (begins ms keys.entry) (ap (λ o. begins ms (word_key (entry_or_new o e.new))) entry ∙ begins_with p.1 h))
      by (by_old k hits h there) = or_right by_word by_sight (and_from (begins ms keys.old) (is_visible l file (joined (target e))) (begins_with e.old h) (visible_at sight q at k hits there))

  pub none_to_ask : CapturesBeginSo → VisibleIsShown → (n : NewTexts) → AreNewNames files reads t to n → has_to_be_asked (first_keys_of n) l file n.target ≡ false → IsFirstIn files reads t to file None
  none_to_ask law sight n texts none v c captured =
      let q = used_named (text_of files reads) file v in
      let begun = law e w (linked files reads t to r) (is_renaming files reads t to r) r.free q (declared_scope v c) captured.captured in
      let m = paired (λ (m : Meant). m.first) (λ (u : Used ℕ). first_key (used_named (text_of files reads) file u)) ms (uses_of reads file) ((link reads r.read).means file within).firsts v c in
      let asked = asked_for sight q refl m.0 m.1 m.2 begun in
      let names = texts_are files reads t to r n texts in
      both_ways (has_to_be_asked (first_keys_of n) l file n.target) none (ap (λ (z : NewTexts). has_to_be_asked (first_keys_of z) l file z.target) names ∙ asked)

  -- nor has a file that is not listed, where all are that have to be asked
  pub none_outside : CapturesBeginSo → VisibleIsShown → (n : NewTexts) → AreNewNames files reads t to n → (listed : List ℕ) → ((name : List ℕ) → has_to_be_asked (first_keys_of n) l file name ≡ true → Contains listed file) → (Contains listed file → ⊥) → IsFirstIn files reads t to file None
  none_outside law sight n texts listed whole out = none_to_ask law sight n texts (false_from_ne_true (has_to_be_asked (first_keys_of n) l file n.target) (λ h. out (whole n.target h)))
