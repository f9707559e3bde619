-- What is looked up of a collision, as texts.
use Rattle.std.proofs.Common.{◌≡◌, ◌≢◌, ◌↔◌, ℕ, Bool, true, false, List, [], ◌∷◌, ◌++◌, Some, None, option_map, refl, sym, ap, subst, ◌∙◌, inl, inr, if◌then◌else◌, Contains}
use Rattle.proto_base.proofs.Common.{append_cancel_right, none-some, same_Some, contains_map}
use Rattle.proto_case.proofs.Common.{entry_name, entry_differs}
use Rattle.proto_text.specs.Words.{is_run}
use Rattle.proto_files.proofs.Common.{HasNoFault, ReadOf, AreRead, FileOf}
use Rattle.proto_names_rules.specs.declared.kind.Kind.{Kind}
use Rattle.proto_names_rules.specs.declared.kind.Kind.TheVariants.{Entry}
use Rattle.proto_names_rules.proofs.Common.{Collides, in_domain, moves, joined, IsPlain, ArePlain, EntryFits, IsRenaming, Symbol, Token, EntryOf, IsAimEntry, name_of, renaming_of, spell, symbol_of, map_append, joined_apart, at}
use Rattle.proto_names_outline.proofs.PlainEntries.{entry_plain}
use Rattle.proto_names_imports.proofs.Common.{LinkFaults, link_skeleton, names_of_files, text_of, names_are_plain, plain_join}
use Rattle.proto_names.proofs.Common.{IsLinkRead, LinkOf, NameOf, name_at}
use Rattle.proto_edit_rename_laws.proofs.Common.{Target, IsNamed, may_rename, name_map, files_are_linked}
use Rattle.proto_edit_captures.specs.Common.{IsFoundTarget, RenameTarget, HasText}
use Rattle.proto_edit_captures.specs.Collisions.{IsNewNameTaken, IsOneTaken, IsTakenName, IsTakenText, is_freed}
use Rattle.proto_edit_captures.proofs.Aimed.{may_not_package, spelled, symbol_at}
use Rattle.proto_edit_captures.proofs.LookedUp.{named_by}
use Rattle.proto_edit_captures.proofs.JoinedNames.{joined_last, lead, plain_parts, word_is_plain}
use Rattle.proto_edit_captures.proofs.NewNames.{below_word, collisions_are_new_names}

may_not_entry : (k : Kind) → may_rename k ≡ true → k ≢ Entry
may_not_entry k h e = differ (ap may_rename (sym e) ∙ h)
  where
    differ : false ≡ true → ⊥
    differ e = cc

module _ (files : List FileOf) (reads : List ReadOf) (r : AreRead files reads) (clean : HasNoFault (LinkFaults files)) (l : LinkOf) (link : IsLinkRead files reads l) (name : List ℕ) (t : Target) (named : IsNamed files reads name t) (to : List ℕ) where
  -- the name map is that of a declaration
  is_renaming : (b : Bool) → IsAimEntry (link_skeleton files reads) t.token t.above b → IsRenaming (renaming_of (text_of files reads) entry_name t.token t.above b to) (names_of_files files reads)
  is_renaming b h = record {
    target_is = (
      symbol_of (text_of files reads) entry_name t.aim,
      contains_map (symbol_of (text_of files reads) entry_name) (link_skeleton files reads).declared t.aim named.within,
      ap (name_of (text_of files reads) entry_name) named.path ∙ map_append (spell (text_of files reads) entry_name) t.above (Token t.token ∷ []),
      may_not_package t.aim.kind named.kind,
      may_not_entry t.aim.kind named.kind,
    );
    entry_is = go b h;
  }
    where
      go : (c : Bool) → IsAimEntry (link_skeleton files reads) t.token t.above c
          → EntryFits (names_of_files files reads) (renaming_of (text_of files reads) entry_name t.token t.above b to) (if c then Some (entry_name (text_of files reads t.token), entry_name to) else None)
      go true h = (
        entry_differs (text_of files reads t.token),
        entry_differs to,
        (
          symbol_of (text_of files reads) entry_name h.0,
          contains_map (symbol_of (text_of files reads) entry_name) (link_skeleton files reads).declared h.0 h.1,
          ap (name_of (text_of files reads) entry_name) h.2 ∙ map_append (spell (text_of files reads) entry_name) t.above (EntryOf t.token ∷ []),
          h.3,
        ),
      )
      go false h = tt

  -- its parent and its word are plain
  parts_plain : ArePlain (name_of (text_of files reads) entry_name t.above) × IsPlain (text_of files reads t.token)
  parts_plain =
      plain_parts (name_of (text_of files reads) entry_name t.above) (text_of files reads t.token)
      (subst ArePlain (ap (name_of (text_of files reads) entry_name) named.path ∙ map_append (spell (text_of files reads) entry_name) t.above (Token t.token ∷ []))
      (names_are_plain files reads r (symbol_of (text_of files reads) entry_name t.aim) (contains_map (symbol_of (text_of files reads) entry_name) (link_skeleton files reads).declared t.aim named.within)))

  module _ (front : List ℕ) (fronts : name ≡ front ++ text_of files reads t.token) where
    front_is : front ≡ lead (name_of (text_of files reads) entry_name t.above)
    front_is = append_cancel_right front (lead (name_of (text_of files reads) entry_name t.above)) (text_of files reads t.token) (sym fronts ∙ spelled files reads r clean l link name t named)

    text_is : (v : List ℕ) → joined (name_of (text_of files reads) entry_name t.above ++ v ∷ []) ≡ front ++ v
    text_is v = joined_last (name_of (text_of files reads) entry_name t.above) v ∙ ap (λ (z : List ℕ). z ++ v) (sym front_is)

    -- a text behind the front is that of a symbol beside the target
    symbol_from : (v : List ℕ) → IsPlain v → HasText l (front ++ v) → (s : Symbol) × Contains (names_of_files files reads).symbols s × (s.name ≡ name_of (text_of files reads) entry_name t.above ++ v ∷ [])
    symbol_from v p h =
        let n = named_by (name_at l h.0) (front ++ v) h.1 in
        let s = symbol_at files reads r clean l link h.0 n.0 n.1 in
        (s.0, s.1, joined_apart s.0.name (name_of (text_of files reads) entry_name t.above ++ v ∷ []) (names_are_plain files reads r s.0 s.1) (plain_join (name_of (text_of files reads) entry_name t.above) v parts_plain.0 p) (s.2 ∙ n.2 ∙ sym (text_is v)))

    symbol_to : (v : List ℕ) (s : Symbol) → Contains (names_of_files files reads).symbols s → s.name ≡ name_of (text_of files reads) entry_name t.above ++ v ∷ [] → HasText l (front ++ v)
    symbol_to v s cs e =
        let n = link.by.names.there s cs in
        (n.0, ap (option_map (λ (z : NameOf). z.text)) n.2 ∙ ap (λ (z : List ℕ). Some z) (n.3 ∙ ap joined e ∙ text_is v))

    freed_is : (b : Bool) (v : List ℕ)
        → in_domain (renaming_of (text_of files reads) entry_name t.token t.above b to) (name_of (text_of files reads) entry_name t.above ++ v ∷ [])
        ≡ is_freed (text_of files reads t.token) (if b then Some (entry_name (text_of files reads t.token)) else None) v
    freed_is true v = below_word (name_of (text_of files reads) entry_name t.above) (moves (renaming_of (text_of files reads) entry_name t.token t.above true to)) v []
    freed_is false v = below_word (name_of (text_of files reads) entry_name t.above) (moves (renaming_of (text_of files reads) entry_name t.token t.above false to)) v []

    taken_forth : (b : Bool) (v : List ℕ) → IsPlain v → IsTakenText l front (text_of files reads t.token) (if b then Some (entry_name (text_of files reads t.token)) else None) v
        → IsTakenName (renaming_of (text_of files reads) entry_name t.token t.above b to) (names_of_files files reads) (name_of (text_of files reads) entry_name t.above ++ v ∷ [])
    taken_forth b v p h = let s = symbol_from v p h.1 in record { symbol = s.0; within = s.1; name_is = s.2; stays = freed_is b v ∙ h.0 }

    taken_back : (b : Bool) (v : List ℕ) → IsTakenName (renaming_of (text_of files reads) entry_name t.token t.above b to) (names_of_files files reads) (name_of (text_of files reads) entry_name t.above ++ v ∷ [])
        → IsTakenText l front (text_of files reads t.token) (if b then Some (entry_name (text_of files reads t.token)) else None) v
    taken_back b v k = (sym (freed_is b v) ∙ k.stays, symbol_to v k.symbol k.within k.name_is)

    module _ (word : is_run to ≡ true) where
      one_forth : (b : Bool) → IsOneTaken l front (text_of files reads t.token) (if b then Some (entry_name (text_of files reads t.token)) else None) to (if b then Some (entry_name to) else None)
          → IsNewNameTaken (renaming_of (text_of files reads) entry_name t.token t.above b to) (names_of_files files reads)
      one_forth false h = inl (taken_forth false to (word_is_plain to word) h)
      one_forth true (inl h) = inl (taken_forth true to (word_is_plain to word) h)
      one_forth true (inr h) = inr ((entry_name (text_of files reads t.token), entry_name to), refl, taken_forth true (entry_name to) (entry_plain to (word_is_plain to word)) h)

      one_back : (b : Bool) → IsNewNameTaken (renaming_of (text_of files reads) entry_name t.token t.above b to) (names_of_files files reads)
          → IsOneTaken l front (text_of files reads t.token) (if b then Some (entry_name (text_of files reads t.token)) else None) to (if b then Some (entry_name to) else None)
      one_back false (inl k) = taken_back false to k
      one_back false (inr (p, eo, k)) = absurd (none-some p eo)
      one_back true (inl k) = inl (taken_back true to k)
      one_back true (inr (p, eo, k)) =
          let same : entry_name to ≡ p.1 = ap (λ (z : List ℕ × List ℕ). z.1) (same_Some (entry_name (text_of files reads t.token), entry_name to) p eo) in
          inr (taken_back true (entry_name to) (subst (λ (z : List ℕ). IsTakenName (renaming_of (text_of files reads) entry_name t.token t.above true to) (names_of_files files reads) (name_of (text_of files reads) entry_name t.above ++ z ∷ [])) (sym same) k))

      pub collides_by_text : IsOneTaken l front (text_of files reads t.token) (if t.is_map then Some (entry_name (text_of files reads t.token)) else None) to (if t.is_map then Some (entry_name to) else None)
          ↔ Collides (name_map files reads t to) (names_of_files files reads)
      collides_by_text =
          let law = collisions_are_new_names (name_map files reads t to) (names_of_files files reads) (files_are_linked files reads r clean) (is_renaming t.is_map named.entry) in
          (λ h. law.1 (one_forth t.is_map h), λ k. one_back t.is_map (law.0 k))

-- the same of what is aimed at
pub collides_aimed : (files : List FileOf) (reads : List ReadOf) → AreRead files reads → HasNoFault (LinkFaults files) → (l : LinkOf) → IsLinkRead files reads l → (a : RenameTarget) (t : Target) → IsFoundTarget files reads a t → (to : List ℕ) → is_run to ≡ true
    → (front own : List ℕ) → a.name.now ≡ front ++ own → own ≡ text_of files reads (at a.file a.token)
    → IsOneTaken l front own (if a.is_map then Some (entry_name own) else None) to (if a.is_map then Some (entry_name to) else None) ↔ Collides (name_map files reads t to) (names_of_files files reads)
collides_aimed files reads r clean l link a t aimed to word front own fronts own_is =
    let same : own ≡ text_of files reads t.token = own_is ∙ ap (text_of files reads) aimed.token in
    subst (λ (z : List ℕ). IsOneTaken l front z (if a.is_map then Some (entry_name z) else None) to (if a.is_map then Some (entry_name to) else None) ↔ Collides (name_map files reads t to) (names_of_files files reads)) (sym same)
    (subst (λ (b : Bool). IsOneTaken l front (text_of files reads t.token) (if b then Some (entry_name (text_of files reads t.token)) else None) to (if b then Some (entry_name to) else None) ↔ Collides (name_map files reads t to) (names_of_files files reads)) (sym aimed.is_map)
    (collides_by_text files reads r clean l link a.name.now t aimed.named to front (fronts ∙ ap (λ (z : List ℕ). front ++ z) same) word))
