-- Where a map field is deleted, its entry is declared no more.
use Rattle.std.proofs.Common.{◌≡◌, ◌≢◌, ℕ, ◌+◌, ◌<◌, ◌==◌, inl, inr, List, [], ◌∷◌, ◌++◌, length, map, refl, sym, ◌∙◌, ap, subst, arith, Contains, eq-eqb}
use Rattle.proto_base.proofs.Common.{both_ways, cases_eq, contains_map, from_map}
use Rattle.proto_case.specs.Camel.{entry_name}
use Rattle.proto_tree.proofs.Common.{Move}
use Rattle.proto_tree.specs.Tree.{Tree}
use Rattle.proto_files.proofs.Common.{FileOf, ReadOf}
use Rattle.proto_files.specs.Faults.{HasNoFault}
use Rattle.proto_names_rules.proofs.Common.{map_agree, map_append, map_map, snoc_parts}
use Rattle.proto_names_rules.specs.Grown.{At, at, declared_of}
use Rattle.proto_names_rules.specs.Skeleton.{Declared, EntryOf, Given, Source, Token, name_of, shifted_declared, shifted_source, spell}
use Rattle.proto_names_rules.specs.Tree.{Placed, place}
use Rattle.proto_names_rules.specs.declared.kind.Kind.TheVariants.{Entry, Package}
use Rattle.proto_names_imports.proofs.Common.{name_in}
use Rattle.proto_names_imports.specs.Links.{LinkFaults, link_skeleton, text_of}
use Rattle.proto_ast.specs.Scenes.{Scene, text}
use Rattle.proto_edit_rename_laws.proofs.Common.{declared_by, files_are_linked, one_declaration}
use Rattle.proto_edit_rename_laws.proofs.TokenRoles.{placed_declared}
use Rattle.proto_edit_rules.specs.Statements.{tree_at}
use Rattle.proto_edit_statement_described.specs.Deletions.{written_name}
use Rattle.proto_edit_statement_described.specs.Files.{IsFileDeletion, scene_at}
use Rattle.proto_edit_statement_described.specs.NamedTrees.{AreNamed, TreesAreNamed}
use Rattle.proto_edit_statement_laws.proofs.Lists.{more_has}
use Rattle.proto_edit_statement_laws.specs.Files.{MayGoAt}
use Rattle.proto_edit_statement_laws.specs.Trees.{move_placed, placed_in}

-- the declaration of a file at this place of it
abbrev pub declares : ℕ → Placed → Declared At
declares file p = shifted_declared (at file) (declared_of file p)

-- its name, by the texts of the file
pub name_here : (files : List FileOf) (reads : List ReadOf) (file : ℕ) (p : Placed) → name_of (text_of files reads) entry_name (declares file p).path ≡ name_of (text (scene_at files reads file)) entry_name (p.above ++ p.last ∷ [])
name_here files reads file p = name_in (text_of files reads) file (p.above ++ p.last ∷ [])

-- by moved tokens it has the same name
pub name_moved : (g : Move) (was now : ℕ → List ℕ) → ((i : ℕ) → now (g i) ≡ was i) → (p : Placed) → name_of now entry_name ((move_placed g p).above ++ (move_placed g p).last ∷ []) ≡ name_of was entry_name (p.above ++ p.last ∷ [])
name_moved g was now e p =
    ap (name_of now entry_name) (sym (map_append (shifted_source g) p.above (p.last ∷ [])))
    ∙ map_map (shifted_source g) (spell now entry_name) (p.above ++ p.last ∷ [])
    ∙ map_agree (λ s. spell now entry_name (shifted_source g s)) (spell was entry_name) (p.above ++ p.last ∷ []) (λ s c. word s)
  where
    word : (s : Source ℕ) → spell now entry_name (shifted_source g s) ≡ spell was entry_name s
    word (Token i) = e i
    word (EntryOf i) = ap entry_name (e i)
    word (Given w) = refl

-- a moved source that is an entry's
entry_token : (g : Move) (file token : ℕ) (s : Source ℕ) → shifted_source (at file) (shifted_source g s) ≡ EntryOf (at file token) → (i : ℕ) × (g i ≡ token)
entry_token g file token (Token i) e = absurd cc
entry_token g file token (EntryOf i) e = (i, ap (λ (a : At). a.token) (same_entry (at file (g i)) (at file token) e))
  where
    same_entry : (x y : At) → ◌≡◌ {A = Source At} (EntryOf x) (EntryOf y) → x ≡ y
    same_entry x y e = cc
entry_token g file token (Given w) e = absurd cc

module _ (named : TreesAreNamed) (files : List FileOf) (reads : List ReadOf) (after : List FileOf) (seen : List ReadOf) (file token : ℕ) (ok : HasNoFault (LinkFaults files)) (d : IsFileDeletion files reads after seen file token) where
  here : file < length reads
  here = let w = d.others.within in let s = d.others.read.same in omega (arith, w, s)

  there : (k : ℕ) → k < length reads → (p : Placed) → Contains (placed_in (tree_at reads k)) p → Contains (link_skeleton files reads).declared (declares k p)
  there k l p c = placed_declared files reads d.others.read k l p c

  trees : AreNamed d.to_old d.to_new d.without (tree_at reads file) (tree_at seen file)
  trees = named d.to_old d.to_new d.field d.reservation d.without (tree_at reads file) (tree_at seen file) d.trees

  -- two declarations of one name, of which one is an entry
  one : (s t : Declared At) → Contains (link_skeleton files reads).declared s → Contains (link_skeleton files reads).declared t → t.kind ≡ Entry → name_of (text_of files reads) entry_name s.path ≡ name_of (text_of files reads) entry_name t.path → s ≡ t
  one s t cs ct k e = elim (one_declaration files reads d.others.read (files_are_linked files reads d.others.read ok) s t cs ct e) [
    | inl same ↦ same
    | inr both ↦ absurd (no (sym k ∙ both.1))
  ]
    where
      no : Entry ≡ Package → ⊥
      no e = cc

  module _ (path : List (Source ℕ)) (entry : Contains (placed_in (tree_at reads file)) (place path (EntryOf token) Entry)) where
    abbrev it : Declared At
    it = declares file (place path (EntryOf token) Entry)

    it_is_there : Contains (link_skeleton files reads).declared (declares file (place path (EntryOf token) Entry))
    it_is_there = there file here (place path (EntryOf token) Entry) entry

    -- a declaration of the new file
    not_here : (p : Placed) → Contains (placed_in (tree_at seen file)) p → name_of (text_of after seen) entry_name (declares file p).path ≡ name_of (text_of files reads) entry_name (declares file (place path (EntryOf token) Entry)).path → ⊥
    not_here p c e =
        let m = from_map (move_placed d.to_new) (placed_in d.without) p (subst (λ ps. Contains ps p) trees.same.placed c) in
        let q = move_placed d.to_old m.0 in
        let cq : Contains (placed_in (tree_at reads file)) q = more_has MayGoAt (map (move_placed d.to_old) (placed_in d.without)) (placed_in (tree_at reads file)) trees.more.placed q (contains_map (move_placed d.to_old) (placed_in d.without) m.0 m.1) in
        let new_name = name_here after seen file p ∙ ap (λ (z : Placed). name_of (text (scene_at after seen file)) entry_name (z.above ++ z.last ∷ [])) (sym m.2) ∙ name_moved d.to_new (text d.middle) (text (scene_at after seen file)) d.new.same.texts m.0 in
        let old_name = name_here files reads file q ∙ name_moved d.to_old (text d.middle) (text (scene_at files reads file)) d.old.same.texts m.0 in
        let same = one (declares file q) it (there file here q cq) it_is_there refl (old_name ∙ sym new_name ∙ e) in
        let paths : map (shifted_source (at file)) q.above ++ shifted_source (at file) q.last ∷ [] ≡ map (shifted_source (at file)) path ++ EntryOf (at file token) ∷ [] =
        sym (map_append (shifted_source (at file)) q.above (q.last ∷ [])) ∙ ap (λ (z : Declared At). z.path) same ∙ map_append (shifted_source (at file)) path (EntryOf token ∷ []) in
        let last = (snoc_parts (map (shifted_source (at file)) q.above) (map (shifted_source (at file)) path) (shifted_source (at file) q.last) (EntryOf (at file token)) paths).1 in
        let i = entry_token d.to_old file token m.0.last last in
        both_ways (d.to_old i.0 == written_name d.field) (d.fresh i.0) (eq-eqb (d.to_old i.0) (written_name d.field) (i.1 ∙ sym d.named))

    -- a declaration of another file
    not_there : (k : ℕ) → k ≢ file → k < length reads → (p : Placed) → Contains (placed_in (tree_at seen k)) p → name_of (text_of after seen) entry_name (declares k p).path ≡ name_of (text_of files reads) entry_name (declares file (place path (EntryOf token) Entry)).path → ⊥
    not_there k n l p c e =
        let cp : Contains (placed_in (tree_at reads k)) p = subst (λ (t : Tree). Contains (placed_in t) p) (d.others.trees k n) c in
        let same_name = name_here files reads k p ∙ ap (λ (s : Scene). name_of (text s) entry_name (p.above ++ p.last ∷ [])) (sym (d.others.scenes k n)) ∙ sym (name_here after seen k p) in
        let same = one (declares k p) it (there k l p cp) it_is_there refl (same_name ∙ e) in
        n (ap (λ (z : Declared At). z.file) same)

    -- it is not declared
    pub entry_is_gone : (s : Declared At) → Contains (link_skeleton after seen).declared s → name_of (text_of after seen) entry_name s.path ≡ name_of (text_of files reads) entry_name (declares file (place path (EntryOf token) Entry)).path → ⊥
    entry_is_gone s c e =
        let o = declared_by 0 seen s c in
        let zero_is : 0 + o.k ≡ o.k = omega arith in
        let is : declares o.k o.p ≡ s = subst (λ k. declares k o.p ≡ s) zero_is o.is in
        let named_so = ap (λ (z : Declared At). name_of (text_of after seen) entry_name z.path) is ∙ e in
        let many : length seen ≡ length reads = d.others.seen_are.same ∙ d.others.count ∙ sym d.others.read.same in
        elim (cases_eq o.k file) [
          | inl q ↦ not_here o.p (subst (λ k. Contains (placed_in (tree_at seen k)) o.p) q o.within) (subst (λ k. name_of (text_of after seen) entry_name (declares k o.p).path ≡ name_of (text_of files reads) entry_name it.path) q named_so)
          | inr n ↦ not_there o.k n (let l = o.inside in omega (arith, l, many)) o.p o.within named_so
        ]
