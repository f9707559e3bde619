-- The test of all blocks for a clash of JSON names is that of the file.
use Rattle.std.proofs.Common.{◌≡◌, ℕ, ◌<◌, ◌==◌, true, not, None, Some, Option, is_none, List, length, refl, sym, ap, subst, ◌∙◌, codes, Contains, bytes_eq, eq-eqb, eqb-true, true≢false}
use Rattle.proto_base.proofs.Common.{list_any, and_from, and_parts, false_from_ne_true, not_from_false, not_from_true, any_from, any_to, same_from_word, word_from_same, contains_filter, from_filter}
use Rattle.proto_text.proofs.Common.{word_at, Lexeme}
use Rattle.proto_tree.specs.Tree.{Tree}
use Rattle.proto_files.proofs.Common.{FileOf, file_at, AreRead, ReadOf, read_at, IsTreeOf, same_tree}
use Rattle.proto_names_rules.proofs.Common.{at, file_placed}
use Rattle.proto_names_outline.specs.FromTree.{items_in}
use Rattle.proto_ast.proofs.Common.{json_name_of, json_word, written_or, text_option, FieldOf, blocks_in, Scene, text, value, value_in}
use Rattle.proto_edit_rename_laws.proofs.Common.{has_json_names, scene_of, JsonNameClashes}
use Rattle.proto_edit_rename.proofs.Common.{holders_in, may_hold, IsReadAs, clash_in, fields_by, fields_clash, is_made, is_other, is_unwritten}
use Rattle.proto_edit_rename.proofs.MemberTests.{block_declared, field_from, field_to}

none_is : (o : Option (List ℕ)) → is_none o ≡ true → o ≡ None
none_is None e = refl
none_is (Some x) e = absurd cc

module _ (files : List FileOf) (reads : List ReadOf) (are : AreRead files reads) (file : ℕ) (within : file < length files) (scene : Scene) (as_read : IsReadAs files reads file scene) (tree : Tree) (of_file : IsTreeOf (file_at files file) tree) (token : ℕ) (word name : List ℕ)
    (named : name ≡ json_word word) where
  abbrev plain : Scene
  plain = scene_of None files reads file

  same_name : (f : FieldOf) → json_name_of scene f ≡ json_name_of plain f
  same_name f = ap (λ (ls : List Lexeme). written_or (text_option (word_at ls) (value_in ls) (codes "json_name") f.options) (word_at ls f.name)) as_read.lexemes

  same_written : (f : FieldOf) → text_option (text scene) (value scene) (codes "json_name") f.options ≡ text_option (text plain) (value plain) (codes "json_name") f.options
  same_written f = ap (λ (ls : List Lexeme). text_option (word_at ls) (value_in ls) (codes "json_name") f.options) as_read.lexemes

  tree_is : (read_at reads file).tree ≡ tree
  tree_is = same_tree files reads file tree are within of_file

  pub clash_to : scene.is_proto3 ≡ true → list_any (clash_in scene token name) (holders_in tree) ≡ true → JsonNameClashes files reads (at file token) word
  clash_to version e =
      let x = any_to (clash_in scene token name) (holders_in tree) e in
      let fs = fields_by x.0.header x.0.within in
      let c = (from_filter (λ b. may_hold b.header) (blocks_in tree) x.0 x.1).0 in
      let h = and_parts (has_json_names x.0.header) (fields_clash scene token name fs) x.2 in
      let p = and_parts (list_any (is_made scene token) fs) (list_any (is_other scene token name) fs) h.1 in
      let f = any_to (is_made scene token) fs p.0 in
      let o = any_to (is_other scene token name) fs p.1 in
      let fp = and_parts (f.0.name == token) (is_unwritten scene f.0) f.2 in
      let op = and_parts (not (o.0.name == token)) (bytes_eq (json_name_of scene o.0) name) o.2 in
      let is : f.0.name ≡ token = eqb-true f.0.name token fp.0 in
      record {
        b = x.0;
        f = f.0;
        other = o.0;
        field = record { block = subst (λ t. Contains (blocks_in t) x.0) (sym tree_is) c; field = field_to x.0.header x.0.within f.0 f.1; name = is };
        has_names = h.0;
        beside = field_to x.0.header x.0.within o.0 o.1;
        differs = λ q. true≢false (sym op.0 ∙ not_from_true (o.0.name == token) (eq-eqb o.0.name token (q ∙ is)));
        proto3 = sym as_read.version ∙ version;
        unwritten = sym (same_written f.0) ∙ none_is (text_option (text scene) (value scene) (codes "json_name") f.0.options) fp.1;
        same = sym named ∙ sym (word_from_same (json_name_of scene o.0) name op.1) ∙ same_name o.0;
      }

  pub clash_version : JsonNameClashes files reads (at file token) word → scene.is_proto3 ≡ true
  clash_version r = as_read.version ∙ r.proto3

  pub clash_from : JsonNameClashes files reads (at file token) word → list_any (clash_in scene token name) (holders_in tree) ≡ true
  clash_from r =
      let fs = fields_by r.b.header r.b.within in
      let d = block_declared files reads are file within r.b r.field.block in
      let f = field_from (file_placed (items_in (read_at reads file).tree)) r.b.header r.b.within r.f d r.field.field in
      let o = field_from (file_placed (items_in (read_at reads file).tree)) r.b.header r.b.within r.other d r.beside in
      let made : is_made scene token r.f ≡ true = and_from (r.f.name == token) (is_unwritten scene r.f) (eq-eqb r.f.name token r.field.name) (ap is_none (same_written r.f ∙ r.unwritten)) in
      let apart : (r.other.name == token) ≡ true → ⊥ = λ q. r.differs (eqb-true r.other.name token q ∙ sym r.field.name) in
      let other : is_other scene token name r.other ≡ true =
      and_from (not (r.other.name == token)) (bytes_eq (json_name_of scene r.other) name) (not_from_false (r.other.name == token) (false_from_ne_true (r.other.name == token) apart))
      (same_from_word (json_name_of scene r.other) name (same_name r.other ∙ sym r.same ∙ sym named)) in
      any_from (clash_in scene token name) (holders_in tree) r.b (contains_filter (λ b. may_hold b.header) (blocks_in tree) r.b (subst (λ t. Contains (blocks_in t) r.b) tree_is r.field.block) f.1)
      (and_from (has_json_names r.b.header) (fields_clash scene token name fs) r.has_names
      (and_from (list_any (is_made scene token) fs) (list_any (is_other scene token name) fs) (any_from (is_made scene token) fs r.f f.0 made) (any_from (is_other scene token name) fs r.other o.0 other)))
