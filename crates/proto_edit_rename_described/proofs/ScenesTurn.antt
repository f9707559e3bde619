-- The names of a renamed scene are turned, and its references mean what they meant under the name map (for the crates above).
use Rattle.std.proofs.Common.{◌≡◌, ◌≢◌, ℕ, suc, ◌<◌, ◌==◌, Bool, List, [], ◌∷◌, ◌++◌, length, map, Option, Some, None, option_map, refl, sym, ap, subst, ◌∙◌, inl, inr, arith, Contains, find}
use Rattle.proto_base.proofs.Common.{Contains-append_cases, contains_map, from_map}
use Rattle.proto_case.proofs.Common.{entry_name, entry_differs}
use Rattle.proto_tree.specs.declared.tree.Reference.{Reference}
use Rattle.proto_tree.specs.References.{first_of}
use Rattle.proto_files.proofs.Common.{FileOf, ReadOf, read_at}
use Rattle.proto_names_rules.proofs.Common.{Renaming, ren, At, at, FileNames, all_declared, declared_of, file_declared, ArePlain, Symbol, Source, Declared, Used, spell, name_of, symbol_of, reference_of, renaming_of, shifted_declared, shifted_source, Placed, file_placed, map_append, name_after, last_parts, has_meaning, meant}
use Rattle.proto_names_outline.specs.FromTree.{items_in}
use Rattle.proto_names_imports.proofs.Common.{names_in, names_of_files, text_of, link_skeleton, used_named, uses_of, name_in, names_are_plain}
use Rattle.proto_ast.specs.Scenes.{MeantOf, meant_by}
use Rattle.proto_edit_rename_laws.proofs.Common.{meaning_of, meant_as, scene_of, IsRename, find_agree, find_there, meaning_after, used_here, uses_stay, NewWords}
use Rattle.proto_edit_rename_laws.proofs.TokenRoles.{placed_declared}
use Rattle.proto_edit_rename_described.specs.Common.{word_under, IsUnder}
use Rattle.proto_edit_rename_described.specs.ScenesTurn.{NamesTurn, MeaningsTurn}
use Rattle.proto_edit_rename_described.proofs.EnumDefaults.{found_in_map, meant_token}
use Rattle.proto_edit_rename_described.proofs.Mapped.{ren_more}

last_there : {A B : Type 0} (f : A → B) (xs : List A) (x : A) → map f (xs ++ x ∷ []) ≢ []
last_there f [] x e = cc
last_there f (y ∷ xs) x e = cc

-- no declaration is without a name
pub some_path : (n : ℕ) (fs : List FileNames) (d : Declared At) → Contains (all_declared n fs) d → d.path ≢ []
some_path n [] d c = absurd (omega (arith, c.1))
some_path n (x ∷ fs) d c = elim (Contains-append_cases (file_declared n x) (all_declared (suc n) fs) d c) [
  | inl h ↦ (let p = from_map (λ q. shifted_declared (at n) (declared_of n q)) (file_placed x.items) d h in λ z. last_there (shifted_source (at n)) p.0.above p.0.last (ap (λ (y : Declared At). y.path) p.2 ∙ z))
  | inr h ↦ some_path (suc n) fs d h
]

pub named_some : (text : At → List ℕ) (path : List (Source At)) → path ≢ [] → name_of text entry_name path ≢ []
named_some text [] h z = absurd (h refl)
named_some text (x ∷ path) h z = cc

module _ (files : List FileOf) (reads : List ReadOf) (c : NewWords) (after : List FileOf) (seen : List ReadOf) (token : At) (above : List (Source At)) (aim : Declared At) (is_map : Bool) (to : List ℕ)
    (r : IsRename files reads c after seen token above aim is_map to) where
  abbrev e : Renaming
  e = renaming_of (text_of files reads) entry_name token above is_map to

  module _ (file : ℕ) (l : file < length files) where
    own : ℕ → List ℕ
    own i = text_of files reads (at file i)

    new : ℕ → List ℕ
    new i = text_of after seen (at file i)

    -- what the file declares is declared
    pub there : (p : Placed) → Contains (file_placed (items_in (read_at reads file).tree)) p → Contains (link_skeleton files reads).declared (shifted_declared (at file) (declared_of file p))
    there p cp = placed_declared files reads r.read file (omega (arith, l, r.read.same)) p cp

    pub word_turns : (p : Placed) → Contains (file_placed (items_in (read_at reads file).tree)) p
        → spell (λ i. text_of after seen (at file i)) entry_name p.last ≡ word_under e (name_of (λ i. text_of files reads (at file i)) entry_name p.above) (spell (λ i. text_of files reads (at file i)) entry_name p.last)
    word_turns p cp =
        let d = shifted_declared (at file) (declared_of file p) in
        let whole = p.above ++ p.last ∷ [] in
        let after_is = name_after (text_of files reads) (text_of after seen) entry_name (link_skeleton files reads) token above aim is_map to r.linked r.woven r.is r.entry r.respelled entry_differs d (there p cp) in
        let x = name_of (λ i. text_of files reads (at file i)) entry_name p.above in
        let y = name_of (λ i. text_of after seen (at file i)) entry_name p.above in
        let v = spell (λ i. text_of files reads (at file i)) entry_name p.last in
        let z = spell (λ i. text_of after seen (at file i)) entry_name p.last in
        let old : name_of (text_of files reads) entry_name d.path ≡ x ++ v ∷ [] = name_in (text_of files reads) file whole ∙ map_append (spell (λ i. text_of files reads (at file i)) entry_name) p.above (p.last ∷ []) in
        let now : name_of (text_of after seen) entry_name d.path ≡ y ++ z ∷ [] = name_in (text_of after seen) file whole ∙ map_append (spell (λ i. text_of after seen (at file i)) entry_name) p.above (p.last ∷ []) in
        (last_parts y (ren e x) z (word_under e x v) (sym now ∙ after_is ∙ ap (ren e) old ∙ ren_more e x v)).1

    -- what a use means
    use_under : (u : Used ℕ) → Contains (uses_of reads file) u → IsUnder e (Some (meant_as files reads u.first (meaning_of files reads file u))) (Some (meant_as after seen u.first (meaning_of after seen file u)))
    use_under u cu =
        let used = contains_map (reference_of (text_of files reads) entry_name) (link_skeleton files reads).used _ (used_here files reads c after seen token above aim is_map to r file l u cu) in
        let m = has_meaning (meaning_of files reads file u) (r.linked.resolved (used_named (text_of files reads) file u) used) in
        let s = meant (names_of_files files reads) (used_named (text_of files reads) file u) m.0 m.1 in
        let d = from_map (symbol_of (text_of files reads) entry_name) (link_skeleton files reads).declared s.0 s.1 in
        let named : name_of (text_of files reads) entry_name d.0.path ≡ m.0 = ap (λ (z : Symbol). z.name) d.2 ∙ s.2 in
        let some : m.0 ≢ [] = λ z. named_some (text_of files reads) d.0.path (some_path 0 (map names_in reads) d.0 d.1) (named ∙ z) in
        let later = meaning_after files reads c after seen token above aim is_map to r file l u cu m.0 m.1 in (
          m.0,
          subst ArePlain s.2 (names_are_plain files reads r.read s.0 s.1),
          some,
          ap (λ o. (meant_as files reads u.first o).name) m.1,
          ap (λ o. (meant_as after seen u.first o).name) later,
        )

    all_under : (us : List (Used ℕ)) → ((u : Used ℕ) → Contains us u → Contains (uses_of reads file) u) → (o : Option (Used ℕ)) → ((u : Used ℕ) → o ≡ Some u → Contains (uses_of reads file) u)
        → IsUnder e (option_map (λ u. meant_as files reads u.first (meaning_of files reads file u)) o) (option_map (λ u. meant_as after seen u.first (meaning_of after seen file u)) o)
    all_under us inside None h = tt
    all_under us inside (Some u) h = use_under u (h u refl)

    means_turn : (x : Reference) → IsUnder e (meant_by (scene_of None files reads file) x) (meant_by (scene_of None after seen file) x)
    means_turn x =
        let first = first_of x.dot x.words in
        let us = uses_of reads file in
        let f : Used ℕ → MeantOf = λ u. meant_as files reads u.first (meaning_of files reads file u) in
        let g : Used ℕ → MeantOf = λ u. meant_as after seen u.first (meaning_of after seen file u) in
        let o = find (λ (u : Used ℕ). u.first == first) us in
        let old : meant_by (scene_of None files reads file) x ≡ option_map f o =
        found_in_map (λ (m : MeantOf). m.token == first) f us ∙ ap (option_map f) (find_agree (λ u. (f u).token == first) (λ (u : Used ℕ). u.first == first) us (λ u c. ap (λ n. n == first) (meant_token files reads u.first (meaning_of files reads file u)))) in
        let new_is : meant_by (scene_of None after seen file) x ≡ option_map g o =
        ap (λ vs. find (λ (m : MeantOf). m.token == first) (map g vs)) (uses_stay files reads c after seen token above aim is_map to r file)
        ∙ found_in_map (λ (m : MeantOf). m.token == first) g us ∙ ap (option_map g) (find_agree (λ u. (g u).token == first) (λ (u : Used ℕ). u.first == first) us (λ u c. ap (λ n. n == first) (meant_token after seen u.first (meaning_of after seen file u)))) in
        subst (λ z. IsUnder e z (meant_by (scene_of None after seen file) x)) (sym old) (subst (λ z. IsUnder e (option_map f o) z) (sym new_is)
        (all_under us (λ u c. c) o (λ u q. (find_there (λ (u : Used ℕ). u.first == first) us u q).0)))

pub names_are_turned : NamesTurn
names_are_turned files reads c after seen token above aim is_map to r file l p cp = word_turns files reads c after seen token above aim is_map to r file l p cp

pub meanings_are_turned : MeaningsTurn
meanings_are_turned files reads c after seen token above aim is_map to r file l x = means_turn files reads c after seen token above aim is_map to r file l x
