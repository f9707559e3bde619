-- The test of all blocks for a reserved name is that of the file.
use Rattle.std.proofs.Common.{◌≡◌, ℕ, ◌<◌, true, None, List, length, map, sym, ap, subst, ◌∙◌, Contains, bytes_eq}
use Rattle.proto_base.proofs.Common.{list_any, and_from, and_parts, any_from, any_to, contains_map, from_map, same_from_word, word_from_same, contains_filter, from_filter}
use Rattle.proto_text.specs.Tokens.{Lexeme}
use Rattle.proto_tree.specs.Tree.{Tree}
use Rattle.proto_files.proofs.Common.{FileOf, file_at, AreRead, ReadOf, read_at, IsTreeOf, same_tree}
use Rattle.proto_names_rules.proofs.Common.{at, file_placed}
use Rattle.proto_names_outline.specs.FromTree.{items_in}
use Rattle.proto_ast.proofs.Common.{blocks_in, reserved_names_in, Scene, value, value_in}
use Rattle.proto_edit_captures.proofs.Common.{scene_of, ReservesWord}
use Rattle.proto_edit_rename.specs.MembersCommon.{holders_in, may_hold, IsReadAs, has_member, reserves, says_word}
use Rattle.proto_edit_rename.proofs.MemberTests.{block_declared, member_from, member_to}

module _ (files : List FileOf) (reads : List ReadOf) (are : AreRead files reads) (file : ℕ) (within : file < length files) (scene : Scene) (as_read : IsReadAs files reads file scene) (tree : Tree) (of_file : IsTreeOf (file_at files file) tree) (token : ℕ) (word : List ℕ) where
  same_value : (t : ℕ) → value scene t ≡ value (scene_of None files reads file) t
  same_value t = ap (λ (ls : List Lexeme). value_in ls t) as_read.lexemes

  tree_is : (read_at reads file).tree ≡ tree
  tree_is = same_tree files reads file tree are within of_file

  pub reserves_to : list_any (reserves scene token word) (holders_in tree) ≡ true → ReservesWord files reads (at file token) word
  reserves_to e =
      let x = any_to (reserves scene token word) (holders_in tree) e in
      let names = reserved_names_in x.0.within in
      let c = (from_filter (λ b. may_hold b.header) (blocks_in tree) x.0 x.1).0 in
      let p = and_parts (has_member token x.0.header x.0.within) (says_word scene word names) x.2 in
      let s = any_to (λ t. bytes_eq (value scene t) word) names p.1 in
      let is : value (scene_of None files reads file) s.0 ≡ word = sym (same_value s.0) ∙ word_from_same (value scene s.0) word s.2 in (
        x.0,
        subst (λ t. Contains (blocks_in t) x.0) (sym tree_is) c,
        (member_to x.0.header x.0.within token p.0).0,
        subst (Contains (map (value (scene_of None files reads file)) names)) is (contains_map (value (scene_of None files reads file)) names s.0 s.1),
      )

  pub reserves_from : ReservesWord files reads (at file token) word → list_any (reserves scene token word) (holders_in tree) ≡ true
  reserves_from r =
      let names = reserved_names_in r.0.within in
      let m = member_from (file_placed (items_in (read_at reads file).tree)) r.0.header r.0.within token (block_declared files reads are file within r.0 r.1) r.2 in
      let h = (member_to r.0.header r.0.within token m).1 in
      let w = from_map (value (scene_of None files reads file)) names word r.3 in
      let said = any_from (λ t. bytes_eq (value scene t) word) names w.0 w.1 (same_from_word (value scene w.0) word (same_value w.0 ∙ w.2)) in
      any_from (reserves scene token word) (holders_in tree) r.0 (contains_filter (λ b. may_hold b.header) (blocks_in tree) r.0 (subst (λ t. Contains (blocks_in t) r.0) tree_is r.1) h)
      (and_from (has_member token r.0.header r.0.within) (says_word scene word names) m said)
