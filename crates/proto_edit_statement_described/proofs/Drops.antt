-- A dropped import that no case refuses leaves files without a fault, and one descriptor with an import less.
use Rattle.std.proofs.Common.{◌≡◌, ℕ, false, List, ◌∷◌, length, get_or, map, Some, sym, ◌∙◌, ap, subst, Contains, bytes_eq}
use Rattle.proto_base.proofs.Common.{Contains-append_right, Contains-get_or, or_nothing, contains_head, contains_map, fails_from, word_from_same}
use Rattle.proto_text.proofs.Common.{moved, Lexeme, lexeme_at, value_of, value_again}
use Rattle.proto_tree.specs.declared.piece.Statement.TheVariants as statement
use Rattle.proto_tree.specs.Modifiers.{is_public}
use Rattle.proto_tree.specs.declared.tree.Import.{Import}
use Rattle.proto_tree.proofs.Common.{Move, Tree, End, Leaf}
use Rattle.proto_files.proofs.Common.{ReadOf, FileOf, paths_of, file_at}
use Rattle.proto_names_rules.proofs.Common.{file_with_path, at, Reference, Workspace, Follows, follows_first}
use Rattle.proto_names_outline.proofs.Common.{Wanted, imports_in, move_wanted}
use Rattle.proto_names_imports.specs.Links.{asked_as, names_of_files, text_of}
use Rattle.proto_ast.specs.Scenes.{value}
use Rattle.proto_descriptors.specs.Descriptors.{FileDesc}
use Rattle.proto_edit_statement_described.proofs.Common.{lexemes_of, AreDescribed, IsDrop, scene_at, tree_at, HasImport, without_dependency, changed_at, IsMovedScene, drops_leave_no_fault, drops_map_descriptors}
use Rattle.proto_edit_statement_laws.proofs.Common.{own, LexemesAreMoved, IsInsertion}
use Rattle.proto_edit_statement_laws.proofs.ChangesCommon.{DropsAreChanges, AreFiles, with_read, with_text}
use Rattle.proto_edit_statement_laws.proofs.NamesCommon.{AreClean, IsImportMore, DropsKeepLinks, DropsKeepMeanings, IsDropped, MeanTheSame}
use Rattle.proto_edit_statement_laws.proofs.NamesOut.{imports_are_more}
use Rattle.proto_edit_statement_described.specs.ImportsCommon.{AreMoved, AreFaultless, DropsAreMade, MayDrop}
use Rattle.proto_edit_statement_described.proofs.ChangedFile.{IsChange, change_back, is_change, lexemes_here, tree_here}
use Rattle.proto_edit_statement_described.proofs.ImportedExtensions.{extensions_stayed}
use Rattle.proto_edit_statement_described.proofs.ImportFaults.{follows_those, names_file, not_twice}
use Rattle.proto_edit_statement_described.proofs.Inserted.{IsInserted, are_moved, has_import, import_more, wanted_by}
use Rattle.proto_edit_statement_described.proofs.ImportedScenes.{moved_files_read}
use Rattle.proto_edit_statement_described.proofs.PathTokens.{path_value}

-- what is known of dropped imports
pub record Laws : Type 0 where
  pub changes : DropsAreChanges
  pub lexemes : LexemesAreMoved
  pub means : DropsKeepMeanings
  pub links : DropsKeepLinks

module _ (laws : Laws) (files : List FileOf) (reads : List ReadOf) (after : List FileOf) (seen : List ReadOf) (file path : List ℕ) (place : ℕ) (i : Import) (ls : List Lexeme) (may : MayDrop files reads file path place i)
    (still : AreFiles after seen) (c : IsChange files reads after seen place) (is : IsInserted after seen files reads place i.keyword i ls) where
  back : IsChange after seen files reads place
  back = change_back c

  trees : HasImport (moved i.keyword i.keyword (length ls)) (wanted_by i) (tree_at seen place) (tree_at reads place)
  trees = has_import after seen files reads place i.keyword i ls back is

  -- ---- the path

  imported : Contains (imports_in (tree_at reads place)) (wanted_by i)
  imported =
      let g : Move = moved i.keyword i.keyword (length ls) in
      subst (λ (ws : List Wanted). Contains ws (wanted_by i)) (sym trees.is) (Contains-append_right (map (move_wanted g) trees.front) (wanted_by i ∷ map (move_wanted g) trees.back) (wanted_by i) (contains_head (wanted_by i) (map (move_wanted g) trees.back)))

  value_is : value_of (text_of files reads (at place i.path)) ≡ Some path
  value_is = value_again (text_of files reads (at place i.path)) path may.imports.value

  -- the path of an import, as the descriptors have it and as the links have it
  path_of : (w : Wanted) → Contains (imports_in (tree_at reads place)) w → value (scene_at files reads place) w.path ≡ (asked_as (text_of files reads) place w).path
  path_of w d = path_value (file_at files place).profile (tree_at reads place) (lexemes_of files reads place) w (may.faultless.are.read.trees place may.imports.within).spells d

  says : value (scene_at files reads place) i.path ≡ path
  says = path_of (wanted_by i) imported ∙ ap or_nothing value_is

  -- ---- names

  less : IsImportMore after seen files reads place path (is_public i.modifier)
  less = import_more after seen files reads place i.keyword i ls back is laws.lexemes path value_is

  dropped : IsDropped files reads after seen file path
  dropped = record { from = place; place = may.at; is_public = is_public i.modifier; less = less; free = may.free }

  clean : AreClean files reads
  clean = record { read = may.faultless.are.read; clean = may.faultless.links }

  -- both refer to the same
  references : (names_of_files after seen).references ≡ (names_of_files files reads).references
  references =
      let to = names_file files reads may.faultless.are.read may.faultless.links place (wanted_by i) imported in
      let there : file_with_path (paths_of after) path ≡ Some to.0 = ap (λ (ps : List (List ℕ)). file_with_path ps path) c.one.paths ∙ ap (λ o. file_with_path (paths_of files) (or_nothing o)) (sym value_is) ∙ to.1 in
      sym (ap (λ (w : Workspace). w.references) (imports_are_more after seen files reads place to.0 path (is_public i.modifier) less there).0)

  means : MeanTheSame after seen files reads
  means r d = sym (laws.means files reads after seen file path clean dropped r (subst (λ (rs : List Reference). Contains rs r) references d))

  -- ---- descriptors

  moved_files : AreMoved after seen files reads place (moved i.keyword i.keyword (length ls))
  moved_files = are_moved after seen files reads place i.keyword i ls back is laws.lexemes

  scenes : IsMovedScene (moved i.keyword i.keyword (length ls)) (scene_at after seen place) (scene_at files reads place)
  scenes = (moved_files_read after seen files reads place (moved i.keyword i.keyword (length ls)) moved_files means).1

  -- no earlier import has the path
  other_path : (v : Wanted) → Contains trees.front v → bytes_eq (value (scene_at files reads place) i.path) (value (scene_at after seen place) v.path) ≡ false
  other_path v d = fails_from (bytes_eq (value (scene_at files reads place) i.path) (value (scene_at after seen place) v.path)) (λ t.
      let g : Move = moved i.keyword i.keyword (length ls) in
      let u : Wanted = move_wanted g v in
      let behind : Follows (imports_in (tree_at reads place)) u (wanted_by i) =
      subst (λ (ws : List Wanted). Follows ws u (wanted_by i)) (sym trees.is) (follows_those (map (move_wanted g) trees.front) (wanted_by i) (map (move_wanted g) trees.back) u (contains_map (move_wanted g) trees.front v d)) in
      let there : Contains (imports_in (tree_at reads place)) u = follows_first (imports_in (tree_at reads place)) u (wanted_by i) behind in
      not_twice files reads may.faultless.are.read may.faultless.links place u (wanted_by i) behind
      (sym (path_of u there) ∙ scenes.same.strings v.path ∙ sym (word_from_same (value (scene_at files reads place) i.path) (value (scene_at after seen place) v.path) t) ∙ path_of (wanted_by i) imported))

  pub drop : IsDrop files reads after seen place path
  drop = record {
    others = record {
      read = may.faultless.are.read;
      seen_are = still.read;
      count = c.files_many;
      within = may.imports.within;
      paths = c.path;
      trees = c.trees;
      scenes = λ k n. sym ((moved_files_read after seen files reads place (moved i.keyword i.keyword (length ls)) moved_files means).0 k n);
      extensions = extensions_stayed after seen files reads place (moved i.keyword i.keyword (length ls)) moved_files means;
    };
    move = moved i.keyword i.keyword (length ls);
    scenes = scenes;
    wanted = wanted_by i;
    trees = trees;
    first = λ k d l. other_path (get_or trees.front k d) (Contains-get_or trees.front k d l);
    says = says;
  }

  -- As in Additions, by the laws of dropped imports.
  faultless : AreFaultless after seen
  faultless = record {
    are = still;
    links = laws.links files reads after seen file path clean still.read dropped;
    checks = drops_leave_no_fault files reads after seen place path drop may.faultless.checks;
  }

  described : (ds new : List FileDesc) → AreDescribed files ds → AreDescribed after new → new ≡ changed_at place (without_dependency path) ds
  described = drops_map_descriptors files reads after seen place path drop

pub drops_are_made : Laws → DropsAreMade
drops_are_made laws files reads file path place i may =
    let within = may.imports.within in
    let same = may.faultless.are.read.same in
    let v = laws.changes files reads place path i may.faultless.are may.imports in
    let after = with_text files place v.0 in
    let seen = with_read reads place v.1 v.2 in
    let language = (file_at files place).profile in
    let mine : List Lexeme = own (statement.Import i) (lexemes_of files reads place) in
    let c = is_change files reads place v.0 v.1 v.2 within same in
    let is : IsInserted after seen files reads place i.keyword i mine = (
      language,
      subst (λ (z : List Lexeme). IsInsertion language i.keyword (Leaf (statement.Import i) End) mine (tree_at seen place) z (tree_at reads place) (lexemes_of files reads place)) (sym (lexemes_here files reads place v.0 v.1 v.2 within same))
          (subst (λ (u : Tree). IsInsertion language i.keyword (Leaf (statement.Import i) End) mine u (map (lexeme_at v.0) v.1) (tree_at reads place) (lexemes_of files reads place)) (sym (tree_here files reads place v.0 v.1 v.2 within same)) v.3.dropped.tree),
    ) in (
      after,
      seen,
      record {
        entry = v.3.changed.entry;
        put = v.3.changed.put;
        faultless = faultless laws files reads after seen file path place i mine may v.3.changed.still c is;
        described = described laws files reads after seen file path place i mine may v.3.changed.still c is;
      },
    )
