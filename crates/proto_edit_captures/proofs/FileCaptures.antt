-- The references of a file that a rename captures, by what is read of it; and those of all files.
use Rattle.std.proofs.Common.{◌≡◌, ℕ, ◌+◌, ◌<◌, Bool, true, false, not, ◌&&◌, if◌then◌else◌, List, [], ◌∷◌, ◌++◌, length, get_or, map, Option, Some, None, refl, sym, ap, subst, ◌∙◌, arith, option_map, AllPairs, Contains}
use Rattle.proto_base.proofs.Common.{and_from, and_parts, not-true, not_from_false, or_nothing, contains_map}
use Rattle.proto_case.proofs.Common.{entry_name, entry_differs}
use Rattle.proto_text.specs.Texts.{words}
use Rattle.proto_files.proofs.Common.{ReadOf, read_at, FileOf, file_at}
use Rattle.proto_names_imports.proofs.Common.{link_skeleton, names_of_files, text_of, uses_of, name_in, used_named}
use Rattle.proto_names_outline.proofs.Common.{path_at, read, used_by, uses_plain}
use Rattle.proto_names_outline.specs.declared.listing.Listed.{Listed}
use Rattle.proto_names_outline.specs.declared.listing.Use.{Use}
use Rattle.proto_names_rules.proofs.Common.{Renaming, IsCaptured, target, At, at, used_in, ArePlain, IsPlain, joined, IsLinked, EntryFits, IsRenaming, Reference, Workspace, meaning, Source, Token, EntryOf, IsAimEntry, Used, name_of, reference_of, spell, symbol_of, map_append, map_map}
use Rattle.proto_names_rules.specs.declared.kind.Kind.{Kind}
use Rattle.proto_names_rules.specs.declared.kind.Kind.TheVariants.{Package, Entry}
use Rattle.proto_names.specs.Laws.{VisibleIsShown}
use Rattle.proto_names.proofs.Common.{HoldsNames, IsLinkOf, meant_by_link, meant_by_use, TextMeant, LinkOf, name_text, use_there}
use Rattle.proto_names.specs.Linking.{Meant}
use Rattle.proto_edit_rename_laws.proofs.Common.{HasScope, Captures, Target, may_rename, name_map, files_are_linked, files_are_woven}
use Rattle.proto_edit_captures.specs.Common.{captures_use, captures_words, AreNewNames, IsFirstIn, IsRenameOf, captures_by, first_passing, NewTexts, entry_words}
use Rattle.proto_edit_captures.proofs.ByTexts.{texts_for}
use Rattle.proto_edit_captures.proofs.CapturedWords.{back, forth}
use Rattle.proto_edit_captures.proofs.FirstOnes.{none_passes, one_passes}
use Rattle.proto_edit_captures.proofs.PlainWords.{has_scope, scope_plain}

-- ---- the name map of a target

no_package : (k : Kind) → may_rename k ≡ true → k ≡ Package → ⊥
no_package k h e = differ (sym (ap may_rename e) ∙ h)
  where
    differ : false ≡ true → ⊥
    differ z = cc

no_entry : (k : Kind) → may_rename k ≡ true → k ≡ Entry → ⊥
no_entry k h e = differ (sym (ap may_rename e) ∙ h)
  where
    differ : false ≡ true → ⊥
    differ z = cc

module _ (files : List FileOf) (reads : List ReadOf) (t : Target) (to : List ℕ) (r : IsRenameOf files reads t to) where
  abbrev e : Renaming
  e = name_map files reads t to

  abbrev w : Workspace
  w = names_of_files files reads

  abbrev T : At → List ℕ
  T = text_of files reads

  name_last : (s : Source At) → name_of T entry_name (t.above ++ s ∷ []) ≡ name_of T entry_name t.above ++ spell T entry_name s ∷ []
  name_last s = map_append (spell T entry_name) t.above (s ∷ [])

  pub is_renaming : IsRenaming e w
  is_renaming = record {
    target_is = (symbol_of T entry_name t.aim, contains_map (symbol_of T entry_name) (link_skeleton files reads).declared t.aim r.named.within, ap (name_of T entry_name) r.named.path ∙ name_last (Token t.token), no_package t.aim.kind r.named.kind, no_entry t.aim.kind r.named.kind);
    entry_is = go t.is_map r.named.entry;
  }
    where
      go : (b : Bool) → IsAimEntry (link_skeleton files reads) t.token t.above b → EntryFits w e (if b then Some (entry_name (T t.token), entry_name to) else None)
      go true h = (entry_differs (T t.token), entry_differs to, (symbol_of T entry_name h.0, contains_map (symbol_of T entry_name) (link_skeleton files reads).declared h.0 h.1, ap (name_of T entry_name) h.2 ∙ name_last (EntryOf t.token), h.3))
      go false h = tt

  pub texts_are : (n : NewTexts) → AreNewNames files reads t to n → n ≡ texts_for e
  texts_are n h = h ∙ ap (λ o. let x : NewTexts = record { target = joined (target e); old = T t.token; new = to; entry = o } in x) (by t.is_map)
    where
      by : (b : Bool) → entry_words b (T t.token) to ≡ (if b then Some (entry_name (T t.token), entry_name to) else None)
      by true = refl
      by false = refl

  pub linked : IsLinked w
  linked = files_are_linked files reads r.read r.clean

  module _ (file : ℕ) (within : file < length files) where
    inside : file < length reads
    inside = let s = r.read.same in omega (arith, within, s)

    pub there : (v : Used ℕ) → Contains (uses_of reads file) v → Contains (link_skeleton files reads).used (used_in file v)
    there v c =
        let e : 0 + file ≡ file = omega arith in
        subst (λ m. Contains (link_skeleton files reads).used (used_in m v)) e (use_there 0 reads file v inside c)

  module _ (l : LinkOf) (link : IsLinkOf files l) (law : VisibleIsShown) (file : ℕ) (within : file < length files) where
    abbrev own : ℕ → List ℕ
    own = words (file_at files file).bytes (read_at reads file).tokens

    -- whether the use is captured
    abbrev P : Used ℕ → Type 0
    P v = Captures files reads t to (used_in file v)

    module _ (declared : List Listed) (u : Use) (c : Contains (uses_of reads file) (used_by (read declared) u)) where
      abbrev v : Used ℕ
      v = used_by (read declared) u

      abbrev q : Reference
      q = used_named T file v

      abbrev p : List ℕ
      p = own u.reference.now.words.first

      abbrev rest : List (List ℕ)
      rest = map (λ b. own b.item) u.reference.now.words.rest

      words_are : q.words ≡ p ∷ rest
      words_are = ap (λ (z : List (List ℕ)). p ∷ z) (map_map (at file) T (map (λ b. b.item) u.reference.now.words.rest) ∙ map_map (λ b. b.item) own u.reference.now.words.rest)

      scope_is : q.scope ≡ name_of own entry_name (path_at (read declared) u.scope)
      scope_is = name_in T file (path_at (read declared) u.scope)

      scoped : HasScope w q
      scoped = has_scope T entry_name (link_skeleton files reads) (files_are_woven files reads r.read) (used_in file v) (there file within v c)

      word_plain : IsPlain p
      word_plain = (uses_plain (file_at files file).profile (file_at files file).bytes (read_at reads file).tokens (read_at reads file).tree (r.read.trees file within) v c).0.0

      has_meaning : (m : List (List ℕ)) × (meaning w q ≡ Some m)
      has_meaning = by (meaning w q) refl
        where
          by : (o : Option (List (List ℕ))) → meaning w q ≡ o → (m : List (List ℕ)) × (meaning w q ≡ Some m)
          by None h = absurd (linked.resolved q (contains_map (reference_of T entry_name) (link_skeleton files reads).used (used_in file v) (there file within v c)) h)
          by (Some m) h = (m, h)

      abbrev answer : List (List ℕ) → Bool
      answer m = captures_words l file (texts_for e) q.wants q.scope p rest (joined m)

      names : HoldsNames w l
      names = (link reads r.read).by.names

      plain : ArePlain q.scope
      plain = scope_plain w q names.plain scoped

      to_captured : (m : List (List ℕ)) → meaning w q ≡ Some m → q.is_absolute ≡ false → answer m ≡ true → IsCaptured e w q
      to_captured m means = forth e w l linked is_renaming r.free names r.word q (law files reads l link r.read file within) scoped plain p rest words_are word_plain m means

      from_captured : (m : List (List ℕ)) → meaning w q ≡ Some m → IsCaptured e w q → (q.is_absolute ≡ false) × (answer m ≡ true)
      from_captured m means = back e w l linked is_renaming r.free names r.word q (law files reads l link r.read file within) scoped plain p rest words_are word_plain m means

      -- the code's answer
      answer_is : (m : List (List ℕ)) → captures_use l file (texts_for e) own declared u (joined m) ≡ (not q.is_absolute && answer m)
      answer_is m = ap (λ (s : List (List ℕ)). not q.is_absolute && captures_words l file (texts_for e) q.wants s p rest (joined m)) (sym scope_is)

      decided : (x : Meant) → meant_by_link l x ≡ meant_by_use files reads file v
          → (captures_by l file (texts_for e) own declared u x ≡ true → P v) × (P v → captures_by l file (texts_for e) own declared u x ≡ true)
      decided x same =
          let m = has_meaning in
          let text : name_text l x.row ≡ Some (joined m.0) = ap (λ (z : TextMeant). z.text) same ∙ ap (option_map joined) m.1 in
          let is : captures_by l file (texts_for e) own declared u x ≡ (not q.is_absolute && answer m.0) = ap (λ o. captures_use l file (texts_for e) own declared u (or_nothing o)) text ∙ answer_is m.0 in (
            (λ h.
                let k = and_parts (not q.is_absolute) (answer m.0) (sym is ∙ h) in
                record { used = there file within v c; captured = to_captured m.0 m.1 (not-true q.is_absolute k.0) k.1 }),
            λ h.
                let k = from_captured m.0 m.1 h.captured in
                is ∙ and_from (not q.is_absolute) (answer m.0) (not_from_false q.is_absolute k.0) k.1,
          )

    -- the first of a file's list
    pub first_is : (n : NewTexts) → AreNewNames files reads t to n → (declared : List Listed) (us : List Use) (ms : List Meant) → map (used_by (read declared)) us ≡ uses_of reads file → ms ≡ get_or l.meant file []
        → (first : Option ℕ) → first ≡ first_passing (captures_by l file n own declared) us ms → IsFirstIn files reads t to file first
    first_is n texts declared us ms uses meant first h = by first (ap (λ z. first_passing (captures_by l file z own declared) us ms) (sym (texts_are n texts)) ∙ sym h)
      where
        means : map (meant_by_link l) ms ≡ map (meant_by_use files reads file) (map (used_by (read declared)) us)
        means = ap (map (meant_by_link l)) meant ∙ ((link reads r.read).means file within).texts ∙ ap (map (meant_by_use files reads file)) (sym uses)

        rising : AllPairs (λ a b. a.token < b.token) ms
        rising = subst (AllPairs (λ (a b : Meant). a.token < b.token)) (sym meant) ((link reads r.read).means file within).rising

        each : (u : Use) → Contains us u → (x : Meant) → meant_by_link l x ≡ meant_by_use files reads file (used_by (read declared) u) → (captures_by l file (texts_for e) own declared u x ≡ true → P (used_by (read declared) u)) × (P (used_by (read declared) u) → captures_by l file (texts_for e) own declared u x ≡ true)
        each u cu = decided declared u (subst (λ (z : List (Used ℕ)). Contains z (used_by (read declared) u)) uses (contains_map (used_by (read declared)) us u cu))

        by : (o : Option ℕ) → first_passing (captures_by l file (texts_for e) own declared) us ms ≡ o → IsFirstIn files reads t to file o
        by None k = λ v cv. none_passes files reads l file P (captures_by l file (texts_for e) own declared) (used_by (read declared)) us ms means each k v (subst (λ (z : List (Used ℕ)). Contains z v) (sym uses) cv)
        by (Some token) k =
            let x = one_passes files reads l file P (captures_by l file (texts_for e) own declared) (used_by (read declared)) us ms token means rising each k in
            (x.0, subst (λ (z : List (Used ℕ)). Contains z x.0) uses x.1, x.2, x.3, λ v cv. x.4 v (subst (λ (z : List (Used ℕ)). Contains z v) (sym uses) cv))
