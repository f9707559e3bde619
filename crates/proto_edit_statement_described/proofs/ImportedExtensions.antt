-- The extensions of files of which one has its tokens moved stay, and what is right of the options that they are set as, where references mean what they meant.
use Rattle.std.proofs.Common.{◌≡◌, ◌≢◌, ℕ, ℤ, ◌==◌, inl, inr, Bool, List, [], map, flat_map, find, Option, Some, None, option_map, option_and_then, refl, sym, ◌∙◌, ap, subst, Contains}
use Rattle.std.proofs.lemmas.Bool.{cases_eq}
use Rattle.proto_base.proofs.Common.{contains_map, from_map}
use Rattle.proto_tree.specs.declared.tree.Reference.{Reference}
use Rattle.proto_tree.proofs.Common.{Move, Tree, first_of, move_reference}
use Rattle.proto_files.proofs.Common.{FileOf, ReadOf}
use Rattle.proto_names_rules.proofs.Common.{Used, at, shifted_used}
use Rattle.proto_names_imports.specs.Links.{uses_of}
use Rattle.proto_ast.proofs.Common.{BlockOf, blocks_in}
use Rattle.proto_custom_options.specs.CustomOptions.{CustomOf, customs_in}
use Rattle.proto_desc_checks_laws.proofs.Common.{IsMoved, find_moved, move_block_of}
use Rattle.proto_desc_checks_laws.proofs.MovedParts.{file_blocks_moved}
use Rattle.proto_edit_statement_described.proofs.Common.{ExtensionOf, ExtensionsStay, block_says, custom_flaws, extendable_same, extended_at, extended_left, extensions_in, extensions_left, extensions_said, first_moved, found_same, is_extendable, is_message_at, leaves, left_at, left_there, meaning_of, message_moved, moved_leaves, name_left, name_meant, option_extends, saying_of, says_moved, scene_at, tree_at}
use Rattle.proto_edit_statement_laws.proofs.OptionsMoved.{imports_move_options}
use Rattle.proto_edit_statement_laws.specs.Kept.{MeanTheSame}
use Rattle.proto_edit_statement_laws.specs.Options.{move_custom_of}
use Rattle.proto_edit_statement_described.specs.MovedFiles.{AreMoved}
use Rattle.proto_edit_statement_described.proofs.Extended.{extended_said, extends_at, extends_moved, first_said}
use Rattle.proto_edit_statement_described.proofs.ImportedScenes.{is_left, means_here, scene_here, scene_there}
use Rattle.proto_edit_statement_described.proofs.MovedEnums.{same_test}
use Rattle.proto_edit_statement_described.proofs.MovedNames.{named_stays, names_move}
use Rattle.proto_edit_statement_described.proofs.MovedTexts.{each_moved}
use Rattle.proto_edit_statement_described.proofs.OtherScenes.{meaning_stays}
use Rattle.proto_edit_statement_described.proofs.RightOptions.{AreOld, ExtendsTheSame, extends_back, options_stay_right, same_extends}
use Rattle.proto_edit_statement_described.proofs.SaidBlocks.{blocks_listed}

abbrev begins : ℕ → Used ℕ → Bool
begins t u = u.first == t

mapped : {A B C : Type 0} (f : A → B) (h : B → Option C) (o : Option A) → option_and_then h (option_map f o) ≡ option_and_then (λ x. h (f x)) o
mapped f h None = refl
mapped f h (Some x) = refl

module _ (files : List FileOf) (reads : List ReadOf) (after : List FileOf) (seen : List ReadOf) (place : ℕ) (g : Move) (h : AreMoved files reads after seen place g) (means : MeanTheSame files reads after seen) where
  is_moved : IsMoved g (scene_at files reads place) (scene_at after seen place)
  is_moved = (scene_here files reads after seen place g h means).same

  -- ---- what they say

  name_moved : (q : Reference) → name_meant after seen place (move_reference g q) ≡ name_meant files reads place q
  name_moved q =
      let t : ℕ = first_of q.dot q.words in
      let now : Used ℕ → Option (List (List ℕ)) = meaning_of after seen place in
      ap (λ (i : ℕ). option_and_then now (find (begins i) (uses_of seen place))) (first_moved g q.dot q.words)
      ∙ ap (λ (us : List (Used ℕ)). option_and_then now (find (begins (g t)) us)) (names_move files reads after seen place g h).used
      ∙ ap (option_and_then now) (find_moved (shifted_used g) (begins t) (begins (g t)) (λ u. same_test files reads after seen place g h u.first t) (uses_of reads place))
      ∙ mapped (shifted_used g) now (find (begins t) (uses_of reads place))
      ∙ found_same (begins t) (λ u. now (shifted_used g u)) (meaning_of files reads place) (uses_of reads place) (means_here files reads after seen place g h means)

  said_here : map saying_of (extensions_in None after seen place) ≡ map saying_of (extensions_in None files reads place)
  said_here =
      extensions_said after seen place
      ∙ ap (flat_map (block_says (scene_at after seen place) (name_meant after seen place))) (file_blocks_moved g (tree_at reads place) (tree_at seen place) h.tree)
      ∙ blocks_listed g (block_says (scene_at files reads place) (name_meant files reads place)) (block_says (scene_at after seen place) (name_meant after seen place))
      (says_moved g (scene_at files reads place) (scene_at after seen place) is_moved (name_meant files reads place) (name_meant after seen place) name_moved) (blocks_in (tree_at reads place))
      ∙ sym (extensions_said files reads place)

  said : (k : ℕ) → map saying_of (extensions_in None after seen k) ≡ map saying_of (extensions_in None files reads k)
  said k = elim (cases_eq k place) [
    | inl e ↦ subst (λ i. map saying_of (extensions_in None after seen i) ≡ map saying_of (extensions_in None files reads i)) (sym e) said_here
    | inr n ↦ ap (map saying_of) (extensions_left files reads after seen k (h.trees k n) (scene_there files reads after seen place g h means k n) (meaning_stays files reads after seen k means (is_left files reads after seen place g h means k n)))
  ]

  -- ---- what they extend

  module _ (n : ℤ) where
    left_here : (i : ℕ) → left_at after seen n (at place (g i)) ≡ left_at files reads n (at place i)
    left_here i =
        ap (λ (bs : List BlockOf). option_map (λ (b : BlockOf). leaves (scene_at after seen place) n b.within) (find (λ (b : BlockOf). is_message_at (g i) b.header) bs)) (file_blocks_moved g (tree_at reads place) (tree_at seen place) h.tree)
        ∙ ap (option_map (λ (b : BlockOf). leaves (scene_at after seen place) n b.within))
        (find_moved (move_block_of g) (λ (b : BlockOf). is_message_at i b.header) (λ (b : BlockOf). is_message_at (g i) b.header) (λ b. message_moved g (same_test files reads after seen place g h) i b.header) (blocks_in (tree_at reads place)))
        ∙ by (find (λ (b : BlockOf). is_message_at i b.header) (blocks_in (tree_at reads place)))
      where
        by : (o : Option BlockOf) → option_map (λ (b : BlockOf). leaves (scene_at after seen place) n b.within) (option_map (move_block_of g) o) ≡ option_map (λ (b : BlockOf). leaves (scene_at files reads place) n b.within) o
        by None = refl
        by (Some b) = ap Some (moved_leaves g (scene_at files reads place) (scene_at after seen place) is_moved n b.within)

    other_left : (k i : ℕ) → k ≢ place → left_at after seen n (at k i) ≡ left_at files reads n (at k i)
    other_left k i apart = left_there files reads after seen k (scene_there files reads after seen place g h means k apart) (h.trees k apart) n i

  extendable : (e : ExtensionOf) → is_extendable None after seen e ≡ is_extendable None files reads e
  extendable e =
      let n : ℤ = e.number.number in
      extendable_same files reads after seen e
      (named_stays files reads after seen place g h (left_at files reads n) (left_at after seen n) (each_moved place g (left_at files reads n) (left_at after seen n) (left_here n) (other_left n)) e.extendee)

  -- ---- what the names of options mean

  -- what the extension at a token extends
  extended_here : (i : ℕ) → extended_at after seen (at place (g i)) ≡ extended_at files reads (at place i)
  extended_here i =
      let was : BlockOf → List (Option (List (List ℕ))) = extends_at (name_meant files reads place) i in
      let now : BlockOf → List (Option (List (List ℕ))) = extends_at (name_meant after seen place) (g i) in
      extended_said after seen place (g i)
      ∙ ap (λ (bs : List BlockOf). first_said (flat_map now bs)) (file_blocks_moved g (tree_at reads place) (tree_at seen place) h.tree)
      ∙ ap first_said (blocks_listed g was now (extends_moved g (same_test files reads after seen place g h) (name_meant files reads place) (name_meant after seen place) name_moved i) (blocks_in (tree_at reads place)))
      ∙ sym (extended_said files reads place i)

  extended_there : (k i : ℕ) → k ≢ place → extended_at after seen (at k i) ≡ extended_at files reads (at k i)
  extended_there k i apart = extended_left files reads after seen k (h.trees k apart) (scene_there files reads after seen place g h means k apart) (meaning_stays files reads after seen k means (is_left files reads after seen place g h means k apart)) i

  extends_alike : (k : ℕ) (q p : Reference) → name_meant after seen k q ≡ name_meant files reads k p → option_extends after seen k q ≡ option_extends files reads k p
  extends_alike k q p e = same_extends files reads after seen k q p e (λ m there. named_stays files reads after seen place g h (extended_at files reads) (extended_at after seen) (each_moved place g (extended_at files reads) (extended_at after seen) extended_here extended_there) m)

  alike_here : (c : CustomOf) → ExtendsTheSame files reads after seen place c (move_custom_of g c)
  alike_here c = record { message = refl; extends = extends_alike place (move_reference g c.custom.name) c.custom.name (name_moved c.custom.name) }

  alike_there : (k : ℕ) → k ≢ place → (c : CustomOf) → ExtendsTheSame files reads after seen k c c
  alike_there k n c = record {
    message = refl;
    extends = extends_alike k c.custom.name c.custom.name (name_left files reads after seen k (h.trees k n) (scene_there files reads after seen place g h means k n) (meaning_stays files reads after seen k means (is_left files reads after seen place g h means k n)) c.custom.name);
  }

  customs_moved : customs_in (tree_at seen place) ≡ map (move_custom_of g) (customs_in (tree_at reads place))
  customs_moved = imports_move_options g (tree_at reads place) (tree_at seen place) h.tree

  old_here : AreOld files reads after seen place
  old_here d c =
      let m = from_map (move_custom_of g) (customs_in (tree_at reads place)) d (subst (λ (cs : List CustomOf). Contains cs d) customs_moved c) in
      (m.0, m.1, subst (λ (z : CustomOf). ExtendsTheSame files reads after seen place m.0 z) m.2 (alike_here m.0))

  new_here : AreOld after seen files reads place
  new_here d c = (
    move_custom_of g d,
    subst (λ (cs : List CustomOf). Contains cs (move_custom_of g d)) (sym customs_moved) (contains_map (move_custom_of g) (customs_in (tree_at reads place)) d c),
    extends_back files reads after seen place d (move_custom_of g d) (alike_here d),
  )

  -- none of them is wrong, where none was, and the other way round
  options : (k : ℕ) → custom_flaws files reads k ≡ [] → custom_flaws after seen k ≡ []
  options k = elim (cases_eq k place) [
    | inl e ↦ options_stay_right files reads after seen k (subst (λ i. AreOld files reads after seen i) (sym e) old_here)
    | inr n ↦ options_stay_right files reads after seen k (λ d c. (d, subst (λ (t : Tree). Contains (customs_in t) d) (h.trees k n) c, alike_there k n d))
  ]

  options_back : (k : ℕ) → custom_flaws after seen k ≡ [] → custom_flaws files reads k ≡ []
  options_back k = elim (cases_eq k place) [
    | inl e ↦ options_stay_right after seen files reads k (subst (λ i. AreOld after seen files reads i) (sym e) new_here)
    | inr n ↦ options_stay_right after seen files reads k (λ d c. (d, subst (λ (t : Tree). Contains (customs_in t) d) (sym (h.trees k n)) c, extends_back files reads after seen k d d (alike_there k n d)))
  ]

  pub extensions_stay : ExtensionsStay files reads after seen
  extensions_stay = record { profiles = h.profiles; said = said; extendable = λ k e c. extendable e; options = options }

  -- and so it is read backwards
  pub extensions_stayed : ExtensionsStay after seen files reads
  extensions_stayed = record { profiles = λ k. sym (h.profiles k); said = λ k. sym (said k); extendable = λ k e c. sym (extendable e); options = options_back }
