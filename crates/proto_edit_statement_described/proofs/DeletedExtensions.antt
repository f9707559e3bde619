-- The extensions of files of which one loses a field stay, and what is right of the options that they are set as.
use Rattle.std.proofs.Common.{◌≡◌, ◌≢◌, ℕ, ℤ, ◌==◌, inl, inr, Bool, List, [], ◌++◌, map, find, Option, Some, None, option_map, option_and_then, refl, sym, ◌∙◌, ap, ap₂, subst, codes, Contains, ne_eqb}
use Rattle.proto_base.proofs.Common.{Contains-append_left, Contains-append_right, cases_eq}
use Rattle.proto_text.proofs.Common.{Lexeme}
use Rattle.proto_tree.specs.declared.tree.Reference.{Reference}
use Rattle.proto_tree.proofs.Common.{Move, Tree, first_of, move_reference}
use Rattle.proto_files.proofs.Common.{FileOf, ReadOf}
use Rattle.proto_names_rules.specs.Faults.{place_of}
use Rattle.proto_names_rules.proofs.Common.{At, Declared, IsLinked, Used, at, map_append, meant, shifted_used}
use Rattle.proto_names_outline.specs.FromTree.{file_names}
use Rattle.proto_names_imports.proofs.Common.{names_of_files, text_of, used_named, uses_of}
use Rattle.proto_ast.proofs.Common.{Scene}
use Rattle.proto_custom_options.specs.CustomOptions.{CustomOf, customs_in}
use Rattle.proto_desc_checks_laws.proofs.Common.{IsMoved}
use Rattle.proto_edit_statement_described.proofs.Common.{ExtensionOf, ExtensionsStay, Reservation, WrittenField, block_says, custom_flaws, declared_as, deep_leave, extendable_same, extended_at, extended_left, extendee_is_used, extensions_in, extensions_left, extensions_said, first_moved, is_extendable, is_message_at, leaves, left_at, left_there, meaning_of, message_moved, moved_leaves, name_is_used, name_left, name_meant, option_extends, right_leave, saying_of, says_moved, scene_at, scenes_are_moved, tree_at}
use Rattle.proto_edit_statement_laws.proofs.NamesCommon.{MeanTheSame}
use Rattle.proto_edit_statement_laws.proofs.Less.{wanted_stays}
use Rattle.proto_edit_statement_laws.specs.Options.{move_custom_of}
use Rattle.proto_edit_statement_described.specs.DeletedScenes.{HaveTokens, IsReadWithout, OtherScenesStay}
use Rattle.proto_edit_statement_described.proofs.Declared.{found_alike, joined_is, named, none_passes, type_stays}
use Rattle.proto_edit_statement_described.proofs.DeletedOptions.{of_tree}
use Rattle.proto_edit_statement_described.proofs.DeletedScenes.{cut_map, is_referred, is_there, meaning_alike, more, other_meaning, other_scene, scenes_have_tokens}
use Rattle.proto_edit_statement_described.proofs.Enums.{same_test}
use Rattle.proto_edit_statement_described.proofs.Extended.{Meant, extended_said, extends_at, extends_moved, first_said}
use Rattle.proto_edit_statement_described.proofs.FoundBlocks.{are_found, found_among, or_else}
use Rattle.proto_edit_statement_described.proofs.RightOptions.{AreOld, ExtendsTheSame, options_stay_right, same_extends}
use Rattle.proto_edit_statement_described.proofs.SaidBlocks.{deep_says}

abbrev begins : ℕ → Used ℕ → Bool
begins t u = u.first == t

-- ---- the files

module _ (files : List FileOf) (reads : List ReadOf) (after : List FileOf) (seen : List ReadOf) (place : ℕ) (g k : Move) (w : WrittenField) (r : Reservation) (x : Tree) (without : List Lexeme)
    (is : IsReadWithout files reads after seen place g k w r x without) (linked : IsLinked (names_of_files files reads)) (same : MeanTheSame files reads after seen) where
  abbrev tokens : HaveTokens files reads after seen place g k
  tokens = scenes_have_tokens files reads after seen place g k w r x without is linked same

  is_old : IsMoved g tokens.middle (scene_at files reads place)
  is_old = (scenes_are_moved g tokens.middle (scene_at files reads place) tokens.old).same

  is_new : IsMoved k tokens.middle (scene_at after seen place)
  is_new = (scenes_are_moved k tokens.middle (scene_at after seen place) tokens.new).same

  -- ---- what its references mean

  abbrev was : Used ℕ → Option (List (List ℕ))
  was = meaning_of files reads place

  abbrev now : Used ℕ → Option (List (List ℕ))
  now = meaning_of after seen place

  abbrev old_found : ℕ → List (Used ℕ) → Option (Option (List (List ℕ)))
  old_found t us = option_map (meaning_of files reads place) (find (begins (g t)) us)

  abbrev new_found : ℕ → List (Used ℕ) → Option (Option (List (List ℕ)))
  new_found t us = option_map (meaning_of after seen place) (find (begins (k t)) us)

  found_both : (t : ℕ) (us : List (Used ℕ)) → ((u : Used ℕ) → Contains us u → Contains (file_names x).used u) → new_found t (map (shifted_used k) us) ≡ old_found t (map (shifted_used g) us)
  found_both t us there =
      found_alike (begins (k t)) (begins (g t)) now was (shifted_used k) (shifted_used g)
      (λ u. same_test k is.new_apart u.first t ∙ sym (same_test g is.old_apart u.first t)) us
      (λ u c. meaning_alike files reads after seen place g k w r x without is linked same u (there u c))

  all_found : (t : ℕ) → new_found t (uses_of seen place) ≡ old_found t (uses_of reads place)
  all_found t =
      let us : List (Used ℕ) = (file_names x).used in
      let m = more files reads after seen place g k w r x without is linked same in
      let c = cut_map (shifted_used g) us m.front m.back m.was in
      let none : old_found t m.more ≡ None = none_passes (begins (g t)) was m.more (λ u d. ne_eqb u.first (g t) (m.so u d t)) in
      ap (new_found t) (named files reads after seen place g k w r x without is linked).same.used
      ∙ ap (λ (vs : List (Used ℕ)). new_found t (map (shifted_used k) vs)) c.2
      ∙ ap (new_found t) (map_append (shifted_used k) c.0 c.1)
      ∙ found_among (begins (k t)) now (map (shifted_used k) c.0) (map (shifted_used k) c.1)
      ∙ ap₂ or_else
      (found_both t c.0 (λ u d. subst (λ (vs : List (Used ℕ)). Contains vs u) (sym c.2) (Contains-append_left c.0 c.1 u d)) ∙ ap (old_found t) c.3)
      (found_both t c.1 (λ u d. subst (λ (vs : List (Used ℕ)). Contains vs u) (sym c.2) (Contains-append_right c.0 c.1 u d)) ∙ ap (old_found t) c.4)
      ∙ ap (λ (o : Option (Option (List (List ℕ)))). or_else (old_found t m.front) (or_else o (old_found t m.back))) (sym none)
      ∙ ap (or_else (old_found t m.front)) (sym (found_among (begins (g t)) was m.more m.back))
      ∙ sym (found_among (begins (g t)) was m.front (m.more ++ m.back))
      ∙ ap (old_found t) (sym m.is)

  name_alike : (q : Reference) → name_meant after seen place (move_reference k q) ≡ name_meant files reads place (move_reference g q)
  name_alike q =
      let t : ℕ = first_of q.dot q.words in
      ap (λ (i : ℕ). option_and_then now (find (begins i) (uses_of seen place))) (first_moved k q.dot q.words)
      ∙ joined_is now (find (begins (k t)) (uses_of seen place))
      ∙ ap (option_and_then (λ o. o)) (all_found t)
      ∙ sym (joined_is was (find (begins (g t)) (uses_of reads place)))
      ∙ sym (ap (λ (i : ℕ). option_and_then was (find (begins i) (uses_of reads place))) (first_moved g q.dot q.words))

  -- ---- what they say

  -- what a reference of the tree of neither means
  abbrev name : Meant
  name q = name_meant files reads place (move_reference g q)

  said_here : map saying_of (extensions_in None after seen place) ≡ map saying_of (extensions_in None files reads place)
  said_here =
      let old : Scene = scene_at files reads place in
      let new : Scene = scene_at after seen place in
      let v = deep_says g k w r (block_says tokens.middle name) (block_says old (name_meant files reads place)) (block_says new (name_meant after seen place))
      (says_moved g tokens.middle old is_old name (name_meant files reads place) (λ q. refl)) (says_moved k tokens.middle new is_new name (name_meant after seen place) name_alike)
      x (tree_at reads place) (tree_at seen place) is.trees in
      extensions_said after seen place ∙ v.1 ∙ sym v.0 ∙ sym (extensions_said files reads place)

  said : (j : ℕ) → map saying_of (extensions_in None after seen j) ≡ map saying_of (extensions_in None files reads j)
  said j = elim (cases_eq j place) [
    | inl e ↦ subst (λ i. map saying_of (extensions_in None after seen i) ≡ map saying_of (extensions_in None files reads i)) (sym e) said_here
    | inr n ↦ ap (map saying_of) (extensions_left files reads after seen j (ap (λ (s : ReadOf). s.tree) (is.reads_stay j n)) (other_scene files reads after seen place g k w r x without is linked same j n) (other_meaning files reads after seen place g k w r x without is linked same j n))
  ]

  -- ---- what they extend

  module _ (n : ℤ) where
    other_left : (j : ℕ) → j ≢ place → (i : ℕ) → left_at after seen n (at j i) ≡ left_at files reads n (at j i)
    other_left j apart i = left_there files reads after seen j (other_scene files reads after seen place g k w r x without is linked same j apart) (ap (λ (s : ReadOf). s.tree) (is.reads_stay j apart)) n i

    own_left : (i : ℕ) → left_at after seen n (at place (k i)) ≡ left_at files reads n (at place (g i))
    own_left i =
        let old : Scene = scene_at files reads place in
        let new : Scene = scene_at after seen place in
        let v = are_found g k w r (is_message_at i) (is_message_at (g i)) (is_message_at (k i)) (leaves tokens.middle n) (leaves old n) (leaves new n)
        (message_moved g (same_test g is.old_apart) i) (message_moved k (same_test k is.new_apart) i) (moved_leaves g tokens.middle old is_old n) (moved_leaves k tokens.middle new is_new n) (λ y. refl)
        (λ y z t u sw. inr (right_leave g k tokens.middle old new is_old is_new w r n z t u sw)) (λ y z t u sw. inr (deep_leave g k tokens.middle old new is_old is_new w r n z t u sw))
        x (tree_at reads place) (tree_at seen place) is.trees in
        v.1 ∙ sym v.0

  -- what is read where a name stands that a reference means
  meant_stays : {X : Type 0} (old new : At → Option X) → ((j : ℕ) → j ≢ place → (i : ℕ) → new (at j i) ≡ old (at j i)) → ((i : ℕ) → new (at place (k i)) ≡ old (at place (g i)))
      → (j : ℕ) (u : Used ℕ) → Contains (uses_of reads j) u → (m : List (List ℕ)) → meaning_of files reads j u ≡ Some m
      → option_and_then (λ (d : Declared At). new (place_of d)) (declared_as after seen m) ≡ option_and_then (λ (d : Declared At). old (place_of d)) (declared_as files reads m)
  meant_stays old new others own j u c m e =
      let q = used_named (text_of files reads) j u in
      let there = is_referred files reads j (is_there reads j u c) u c in
      let s = meant (names_of_files files reads) q m e in
      let keeps = wanted_stays q.wants s.0.kind s.3 (linked.no_entry q there s.0 s.1 (e ∙ ap Some (sym s.2))) in
      subst (λ (z : List (List ℕ)). option_and_then (λ (d : Declared At). new (place_of d)) (declared_as after seen z) ≡ option_and_then (λ (d : Declared At). old (place_of d)) (declared_as files reads z)) s.2
      (type_stays files reads after seen place g k w r x without is linked old new others own s.0 s.1 keeps)

  extendable : (j : ℕ) (e : ExtensionOf) → Contains (extensions_in None files reads j) e → is_extendable None after seen e ≡ is_extendable None files reads e
  extendable j e c =
      let n : ℤ = e.number.number in
      let u = extendee_is_used files reads j e c in
      extendable_same files reads after seen e (meant_stays (left_at files reads n) (left_at after seen n) (other_left n) (own_left n) j u.0 u.1 e.extendee u.2)

  -- ---- what the names of options mean

  -- what the extension at a token extends
  extended_there : (j : ℕ) → j ≢ place → (i : ℕ) → extended_at after seen (at j i) ≡ extended_at files reads (at j i)
  extended_there j n i = extended_left files reads after seen j (ap (λ (s : ReadOf). s.tree) (is.reads_stay j n)) (other_scene files reads after seen place g k w r x without is linked same j n) (other_meaning files reads after seen place g k w r x without is linked same j n) i

  extended_here : (i : ℕ) → extended_at after seen (at place (k i)) ≡ extended_at files reads (at place (g i))
  extended_here i =
      let v = deep_says g k w r (extends_at name i) (extends_at (name_meant files reads place) (g i)) (extends_at (name_meant after seen place) (k i))
      (extends_moved g (same_test g is.old_apart) name (name_meant files reads place) (λ q. refl) i) (extends_moved k (same_test k is.new_apart) name (name_meant after seen place) name_alike i)
      x (tree_at reads place) (tree_at seen place) is.trees in
      extended_said after seen place (k i) ∙ ap first_said (v.1 ∙ sym v.0) ∙ sym (extended_said files reads place (g i))

  extends_alike : (j : ℕ) (q p : Reference) → name_meant after seen j q ≡ name_meant files reads j p → option_extends after seen j q ≡ option_extends files reads j p
  extends_alike j q p e = same_extends files reads after seen j q p e (λ m h.
      let u = name_is_used files reads j p m h in
      meant_stays (extended_at files reads) (extended_at after seen) extended_there extended_here j u.0 u.1 m u.2)

  old_here : AreOld files reads after seen place
  old_here d c =
      let o = of_tree g k w r (codes "FileOptions") x (tree_at reads place) (tree_at seen place) is.trees d c in
      let old : CustomOf = move_custom_of g o.middle in
      let new : CustomOf = move_custom_of k o.middle in
      let alike : ExtendsTheSame files reads after seen place old new = record { message = refl; extends = extends_alike place new.custom.name old.custom.name (name_alike o.middle.custom.name) } in
      (old, o.was, subst (λ (z : CustomOf). ExtendsTheSame files reads after seen place old z) (sym o.is) alike)

  old_there : (j : ℕ) → j ≢ place → AreOld files reads after seen j
  old_there j n d c =
      let tree = ap (λ (s : ReadOf). s.tree) (is.reads_stay j n) in
      let means = name_left files reads after seen j tree (other_scene files reads after seen place g k w r x without is linked same j n) (other_meaning files reads after seen place g k w r x without is linked same j n) d.custom.name in
      (d, subst (λ (t : Tree). Contains (customs_in t) d) tree c, record { message = refl; extends = extends_alike j d.custom.name d.custom.name means })

  options : (j : ℕ) → custom_flaws files reads j ≡ [] → custom_flaws after seen j ≡ []
  options j = elim (cases_eq j place) [
    | inl e ↦ options_stay_right files reads after seen j (subst (λ i. AreOld files reads after seen i) (sym e) old_here)
    | inr n ↦ options_stay_right files reads after seen j (old_there j n)
  ]

  extensions_stay : ExtensionsStay files reads after seen
  extensions_stay = record { profiles = is.profiles; said = said; extendable = extendable; options = options }

pub other_scenes_stay : OtherScenesStay
other_scenes_stay files reads after seen place g k w r x without is linked same = record {
  read = is.read;
  seen_are = is.seen_are;
  count = is.count;
  within = is.within;
  paths = is.paths;
  trees = λ j n. ap (λ (s : ReadOf). s.tree) (is.reads_stay j n);
  scenes = other_scene files reads after seen place g k w r x without is linked same;
  extensions = extensions_stay files reads after seen place g k w r x without is linked same;
}
