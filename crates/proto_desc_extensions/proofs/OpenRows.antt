-- The rows of a file's messages are those that its blocks give.
use Rattle.std.proofs.Common.{◌≡◌, ℕ, ◌<◌, Bool, true, false, cond, List, [], ◌∷◌, ◌++◌, length, get_or, Option, Some, None, refl, sym, ap, subst, inl, inr, arith, nat_eq, is_some, option_and_then, find, eqb-true, ◌==◌}
use Rattle.proto_base.proofs.Common.{IsPermutation-refl, option_or, get_or_past, find-append, slice_get_cases, lookup, Vec}
use Rattle.indexmap.specs.IndexMap.{IndexMap, IsEmpty, get}
use Rattle.proto_tree.specs.declared.tree.Block.{Block as Braced}
use Rattle.proto_tree.specs.declared.tree.EnumItem.{EnumItem}
use Rattle.proto_tree.specs.declared.tree.Extend.{Extend}
use Rattle.proto_tree.specs.declared.tree.OneofItem.{OneofItem}
use Rattle.proto_tree.specs.declared.tree.Member.{Member}
use Rattle.proto_tree.proofs.Common.{Tree, End}
use Rattle.proto_files.proofs.Common.{FileOf, file_at, Each, ReadOf, AreRead, read_at, IsTreeOf, same_tree}
use Rattle.proto_ast.proofs.Common.{BlockOf, blocks_in, Scene, past}
use Rattle.proto_ast.specs.declared.ranges.RangeAt.{RangeAt}
use Rattle.proto_desc_numbers.specs.RangeIndex.{IsRangeIndexOf}
use Rattle.proto_desc_numbers.proofs.IndexLemmas.{none_raised}
use Rattle.proto_resolved.specs.SceneOf.{scene_of}
use Rattle.proto_resolved.specs.Scenes.{IsSceneOf}
use Rattle.proto_resolved.specs.Blocks.{enum_block, extend_block, holders_in, message_block, oneof_block}
use Rattle.proto_resolved.proofs.Holders.{found_before, found_in_holders, or_none}
use Rattle.proto_desc_extensions.specs.Common.{is_message_at, extension_ranges_at, ranges_within, AreRowsOf, IsOpenTable, IsRangeRowOf, index_of_row}

abbrev is_it : ℕ → BlockOf → Bool
is_it token b = is_message_at token b.header

pub none_indexed : IsRangeIndexOf [] []
none_indexed = record { sorted = []; same = IsPermutation-refl []; order = λ i j d le lt. absurd (omega (arith, lt)); raised = none_raised }

module _ (scene : Scene) where
  pub rows_of_blocks : {S : Type 0} → (tree : Tree) (rows : IndexMap ℕ (Vec RangeAt) S) → AreRowsOf scene (holders_in tree) rows → AreRowsOf scene (blocks_in tree) rows
  rows_of_blocks tree rows h token = subst (λ (o : Option BlockOf). IsRangeRowOf scene o (get nat_eq rows token)) (found_in_holders (is_message_at token) (λ h. refl) (λ s. refl) tree) (h token)

  pub no_rows : {S : Type 0} → (rows : IndexMap ℕ (Vec RangeAt) S) → IsEmpty rows → AreRowsOf scene [] rows
  no_rows rows e token = subst (λ (o : Option (Vec RangeAt)). IsRangeRowOf scene None o) (sym (ap (λ (es : List (ℕ × Vec RangeAt)). lookup (nat_eq token) es) e)) tt

  -- ---- one block more

  pub oneof_added : {S : Type 0} → (blocks : List BlockOf) (o : Braced OneofItem) (rows : IndexMap ℕ (Vec RangeAt) S) → AreRowsOf scene blocks rows → AreRowsOf scene (blocks ++ oneof_block o ∷ []) rows
  oneof_added blocks o rows h token = subst (λ (o : Option BlockOf). IsRangeRowOf scene o (get nat_eq rows token)) (found_before (is_it token) blocks (oneof_block o) refl) (h token)

  pub enum_added : {S : Type 0} → (blocks : List BlockOf) (e : Braced EnumItem) (rows : IndexMap ℕ (Vec RangeAt) S) → AreRowsOf scene blocks rows → AreRowsOf scene (blocks ++ enum_block e ∷ []) rows
  enum_added blocks e rows h token = subst (λ (o : Option BlockOf). IsRangeRowOf scene o (get nat_eq rows token)) (found_before (is_it token) blocks (enum_block e) refl) (h token)

  pub extend_added : {S : Type 0} → (blocks : List BlockOf) (x : Extend) (rows : IndexMap ℕ (Vec RangeAt) S) → AreRowsOf scene blocks rows → AreRowsOf scene (blocks ++ extend_block x ∷ []) rows
  extend_added blocks x rows h token = subst (λ (o : Option BlockOf). IsRangeRowOf scene o (get nat_eq rows token)) (found_before (is_it token) blocks (extend_block x) refl) (h token)

  no_row : (o : Option (Vec RangeAt)) → is_some o ≡ true → IsRangeRowOf scene None o → ⊥
  no_row None t h = absurd (cc)
  no_row (Some row) t h = h

  no_message : (o : Option BlockOf) (r : Option (Vec RangeAt)) → is_some r ≡ false → IsRangeRowOf scene o r → o ≡ None
  no_message None r t h = refl
  no_message (Some b) None t h = absurd h
  no_message (Some b) (Some row) t h = absurd (cc)

  -- where its token has a row
  pub row_kept : {S : Type 0} → (blocks : List BlockOf) (m : Braced Member) (rows : IndexMap ℕ (Vec RangeAt) S) → is_some (get nat_eq rows m.name) ≡ true → AreRowsOf scene blocks rows → AreRowsOf scene (blocks ++ message_block m ∷ []) rows
  row_kept blocks m rows has h token =
      subst (λ (o : Option BlockOf). IsRangeRowOf scene o (get nat_eq rows token)) (sym (find-append (is_it token) blocks (message_block m ∷ []))) (go (find (is_it token) blocks) refl (m.name == token) refl)
    where
      go : (o : Option BlockOf) → find (is_it token) blocks ≡ o → (c : Bool) → (m.name == token) ≡ c → IsRangeRowOf scene (option_or o (cond c (Some (message_block m)) None)) (get nat_eq rows token)
      go (Some x) e c f = subst (λ (o : Option BlockOf). IsRangeRowOf scene o (get nat_eq rows token)) e (h token)
      go None e false f = subst (λ (o : Option BlockOf). IsRangeRowOf scene o (get nat_eq rows token)) e (h token)
      go None e true f =
          let same : m.name ≡ token = eqb-true m.name token f in
          absurd (no_row (get nat_eq rows token) (subst (λ (t : ℕ). is_some (get nat_eq rows t) ≡ true) same has) (subst (λ (o : Option BlockOf). IsRangeRowOf scene o (get nat_eq rows token)) e (h token)))

  -- where it has none
  pub row_added : {S : Type 0} → (blocks : List BlockOf) (m : Braced Member) (rows more : IndexMap ℕ (Vec RangeAt) S) (row : Vec RangeAt) → is_some (get nat_eq rows m.name) ≡ false
      → ((q : ℕ) → get nat_eq more q ≡ cond (nat_eq m.name q) (Some row) (get nat_eq rows q)) → IsRangeIndexOf (ranges_within scene (Some (message_block m))) row.items → AreRowsOf scene blocks rows → AreRowsOf scene (blocks ++ message_block m ∷ []) more
  row_added blocks m rows more row lacks put is h token =
      subst (λ (o : Option BlockOf). IsRangeRowOf scene o (get nat_eq more token)) (sym (find-append (is_it token) blocks (message_block m ∷ [])))
      (subst (λ (r : Option (Vec RangeAt)). IsRangeRowOf scene (option_or (find (is_it token) blocks) (cond (m.name == token) (Some (message_block m)) None)) r) (sym (put token)) (go (nat_eq m.name token) refl))
    where
      go : (c : Bool) → nat_eq m.name token ≡ c → IsRangeRowOf scene (option_or (find (is_it token) blocks) (cond c (Some (message_block m)) None)) (cond c (Some row) (get nat_eq rows token))
      go false f = subst (λ (o : Option BlockOf). IsRangeRowOf scene o (get nat_eq rows token)) (or_none (find (is_it token) blocks)) (h token)
      go true f =
          let same : m.name ≡ token = eqb-true m.name token f in
          let lacks' : is_some (get nat_eq rows token) ≡ false = subst (λ (t : ℕ). is_some (get nat_eq rows t) ≡ false) same lacks in
          let none : find (is_it token) blocks ≡ None = no_message (find (is_it token) blocks) (get nat_eq rows token) lacks' (h token) in
          subst (λ (o : Option BlockOf). IsRangeRowOf scene (option_or o (Some (message_block m))) (Some row)) (sym none) is

  row_index : (o : Option BlockOf) (r : Option (Vec RangeAt)) → IsRangeRowOf scene o r → IsRangeIndexOf (ranges_within scene o) (index_of_row r)
  row_index None None h = none_indexed
  row_index None (Some row) h = absurd h
  row_index (Some b) None h = absurd h
  row_index (Some b) (Some row) h = h

-- what the code reads of a file is what is read of it
pub rows_read : {S : Type 0} → (files : List FileOf) (file : ℕ) → file < length files → (scene : Scene) → IsSceneOf files file scene → (tree : Tree) → IsTreeOf (file_at files file) tree → (reads : List ReadOf) → AreRead files reads → (rows : IndexMap ℕ (Vec RangeAt) S)
    → AreRowsOf scene (blocks_in tree) rows → AreRowsOf (scene_of (Some past) files reads file) (blocks_in (read_at reads file).tree) rows
rows_read files file within scene is tree of_file reads are rows h =
    subst (λ (s : Scene). AreRowsOf s (blocks_in (read_at reads file).tree) rows) (is reads are)
    (subst (λ (t : Tree). AreRowsOf scene (blocks_in t) rows) (sym (same_tree files reads file tree are within of_file)) h)

-- ---- the table of all files

pub is_open_table : {S : Type 0} (files : List FileOf) (table : List (IndexMap ℕ (Vec RangeAt) S)) → length table ≡ length files
    → ((reads : List ReadOf) → AreRead files reads → Each (λ k rows. AreRowsOf (scene_of (Some past) files reads k) (blocks_in (read_at reads k).tree) rows) table) → IsOpenTable files table
is_open_table {S} files table n each reads are a =
    elim (slice_get_cases table a.file).1 [
      | inl s ↦
          subst (λ (o : Option (IndexMap ℕ (Vec RangeAt) S)). IsRangeIndexOf (extension_ranges_at (Some past) files reads a) (index_of_row (option_and_then (λ rows. get nat_eq rows a.token) o))) (sym s.2)
          (subst (λ (rows : IndexMap ℕ (Vec RangeAt) S). IsRangeIndexOf (extension_ranges_at (Some past) files reads a) (index_of_row (get nat_eq rows a.token))) s.3
          (row_index (scene_of (Some past) files reads a.file) (find (is_it a.token) (blocks_in (read_at reads a.file).tree)) (get nat_eq (get_or table a.file s.0) a.token) (each reads are a.file s.0 s.1 a.token)))
      | inr s ↦
          subst (λ (o : Option (IndexMap ℕ (Vec RangeAt) S)). IsRangeIndexOf (extension_ranges_at (Some past) files reads a) (index_of_row (option_and_then (λ rows. get nat_eq rows a.token) o))) (sym s.1)
          (subst (λ (r : ReadOf). IsRangeIndexOf (ranges_within (scene_of (Some past) files reads a.file) (find (is_it a.token) (blocks_in r.tree))) [])
          (sym (get_or_past reads a.file (record { tokens = []; tree = End }) (omega (arith, s.0, n, are.same)))) none_indexed)
    ]
