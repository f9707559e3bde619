-- An added import that no case refuses leaves files without a fault, and one descriptor with an import more.
use Rattle.std.proofs.Common.{◌≡◌, ℕ, ◌+◌, List, [], ◌∷◌, ◌++◌, map, take, drop, Some, None, refl, sym, ◌∙◌, ap, subst, arith, length-take, slice_get, append-nil}
use Rattle.proto_text.specs.declared.kind.TokenKind.TheVariants.{Text}
use Rattle.proto_text.proofs.Common.{QuotedStandsForItself, moved, quoted, Lexeme, lexeme_at, value_of, value_again}
use Rattle.proto_tree.specs.declared.tree.Import.{Import}
use Rattle.proto_tree.specs.Tree.{Tree}
use Rattle.proto_files.proofs.Common.{ReadOf, FileOf, paths_of, IsWorkspacePath, file_at}
use Rattle.proto_names_rules.specs.Faults.{file_with_path}
use Rattle.proto_names_outline.proofs.Common.{imports_in, move_wanted}
use Rattle.proto_ast.specs.Scenes.{string_of, value, value_or_none as value_by_kind}
use Rattle.proto_descriptors.specs.Descriptors.{FileDesc}
use Rattle.proto_edit_statement_described.proofs.Common.{lexemes_of, AreDescribed, IsFileAddition, scene_at, tree_at, with_dependency, changed_at, additions_leave_no_fault, additions_map_descriptors}
use Rattle.proto_edit_statement_described.proofs.MovedScenes.{text_in, word_by}
use Rattle.proto_edit_statement_laws.proofs.Common.{LexemesAreMoved, import_place, IsInsertion, import_tree, import_tokens, token_of_text}
use Rattle.proto_edit_statement_laws.proofs.ChangesCommon.{AdditionsAreChanges, AreFiles, with_read, with_text}
use Rattle.proto_edit_statement_laws.proofs.NamesCommon.{unknown_path, AreClean, AdditionsKeepLinks, AdditionsKeepMeanings, IsAdded, MeanTheSame}
use Rattle.proto_edit_statement_described.specs.ImportsCommon.{AreMoved, AdditionsAreMade, AreFaultless, MayAdd}
use Rattle.proto_edit_statement_described.proofs.ChangedFile.{IsChange, is_change, lexemes_here, tree_here}
use Rattle.proto_edit_statement_described.proofs.ImportedExtensions.{extensions_stay}
use Rattle.proto_edit_statement_described.proofs.FilePlaces.{place_named, place_within}
use Rattle.proto_edit_statement_described.proofs.ImportFaults.{none_or}
use Rattle.proto_edit_statement_described.proofs.Inserted.{IsInserted, are_moved, import_more, wanted_by}
use Rattle.proto_edit_statement_described.proofs.ImportedScenes.{moved_files_read}
use Rattle.proto_edit_statement_laws.proofs.Paths.{paths_are_plain}
use Rattle.proto_edit_statement_laws.proofs.LexemesMoved.{got_behind}

-- what is known of added imports
pub record Laws : Type 0 where
  pub changes : AdditionsAreChanges
  pub quoted : QuotedStandsForItself
  pub lexemes : LexemesAreMoved
  pub means : AdditionsKeepMeanings
  pub links : AdditionsKeepLinks

-- the statement that is put in
abbrev statement_at : ℕ → Import
statement_at p = record { keyword = p; modifier = None; path = p + 1; semicolon = p + 2 }

workspace_path_of : (files : List FileOf) (reads : List ReadOf) (file path : List ℕ) (place : ℕ) → MayAdd files reads file path place → IsWorkspacePath path
workspace_path_of files reads file path place may =
    let to = none_or (file_with_path (paths_of files) path) (λ e. may.free 11 (unknown_path e)) in
    place_named files path to.0 to.1 may.faultless.are.workspace

module _ (laws : Laws) (files : List FileOf) (reads : List ReadOf) (after : List FileOf) (seen : List ReadOf) (file path : List ℕ) (place p : ℕ) (may : MayAdd files reads file path place)
    (still : AreFiles after seen) (c : IsChange files reads after seen place) (is : IsInserted files reads after seen place p (statement_at p) (import_tokens path))
    (last : imports_in (tree_at seen place) ≡ map (move_wanted (moved p p 3)) (imports_in (tree_at reads place)) ++ wanted_by (statement_at p) ∷ []) where
  -- ---- the path

  string_there : slice_get (lexemes_of after seen place) (p + 1) ≡ Some (token_of_text Text (quoted path))
  string_there =
      let ls = lexemes_of files reads place in
      let fits = is.1.within in
      ap (λ (z : List Lexeme). slice_get z (p + 1)) is.1.tokens ∙ got_behind (take p ls) (import_tokens path ++ drop p ls) (p + 1) 1 (omega (arith, length-take p ls, fits))

  value_is : value_of (quoted path) ≡ Some path
  value_is = let plain = paths_are_plain path (workspace_path_of files reads file path place may) in value_again (quoted path) path (laws.quoted path plain.0 plain.1).1

  says : value (scene_at after seen place) (p + 1) ≡ path
  says = ap string_of string_there ∙ ap (value_by_kind Text) value_is

  -- ---- names

  added : IsAdded files reads after seen file path
  added = record {
    from = place;
    place = may.at;
    more = import_more files reads after seen place p (statement_at p) (import_tokens path) c is laws.lexemes path
        (ap value_of (word_by (lexemes_of after seen place) (p + 1) ∙ ap text_in string_there) ∙ value_is);
    free = may.free;
  }

  clean : AreClean files reads
  clean = record { read = may.faultless.are.read; clean = may.faultless.links }

  moved_files : AreMoved files reads after seen place (moved p p 3)
  moved_files = are_moved files reads after seen place p (statement_at p) (import_tokens path) c is laws.lexemes

  means : MeanTheSame files reads after seen
  means = laws.means files reads after seen file path clean added

  -- ---- descriptors

  pub addition : IsFileAddition files reads after seen place path
  addition = record {
    others = record {
      read = may.faultless.are.read;
      seen_are = still.read;
      count = c.files_many;
      within = place_within files file place may.at;
      paths = c.path;
      trees = c.trees;
      scenes = (moved_files_read files reads after seen place (moved p p 3) moved_files means).0;
      extensions = extensions_stay files reads after seen place (moved p p 3) moved_files means;
    };
    move = moved p p 3;
    scenes = (moved_files_read files reads after seen place (moved p p 3) moved_files means).1;
    wanted = wanted_by (statement_at p);
    trees = record { front = imports_in (tree_at reads place); back = []; was = sym (append-nil (imports_in (tree_at reads place))); is = last; others = moved_files.tree };
    last = refl;
    private = refl;
    strong = refl;
    says = says;
  }

  faultless : AreFaultless after seen
  faultless = record {
    are = still;
    links = laws.links files reads after seen file path clean still.read added;
    checks = additions_leave_no_fault files reads after seen place path addition may.faultless.checks;
  }

  described : (ds new : List FileDesc) → AreDescribed files ds → AreDescribed after new → new ≡ changed_at place (with_dependency path) ds
  described = additions_map_descriptors files reads after seen place path addition

pub additions_are_made : Laws → AdditionsAreMade
additions_are_made laws files reads file path place may =
    let within = place_within files file place may.at in
    let same = may.faultless.are.read.same in
    let language = (file_at files place).profile in
    let p = import_place (tree_at reads place) in
    let w = workspace_path_of files reads file path place may in
    let v = laws.changes files reads place path may.faultless.are within w may.short in
    let after = with_text files place v.0 in
    let seen = with_read reads place v.1 v.2 in
    let here : tree_at seen place ≡ v.2 = tree_here files reads place v.0 v.1 v.2 within same in
    let ls : lexemes_of after seen place ≡ map (lexeme_at v.0) v.1 = lexemes_here files reads place v.0 v.1 v.2 within same in
    let c = is_change files reads place v.0 v.1 v.2 within same in
    let is : IsInserted files reads after seen place p (statement_at p) (import_tokens path) = (
      language,
      subst (λ (z : List Lexeme). IsInsertion language p (import_tree p) (import_tokens path) (tree_at reads place) (lexemes_of files reads place) (tree_at seen place) z) (sym ls)
          (subst (λ (u : Tree). IsInsertion language p (import_tree p) (import_tokens path) (tree_at reads place) (lexemes_of files reads place) u (map (lexeme_at v.0) v.1)) (sym here) v.3.added.tree),
    ) in
    let last : imports_in (tree_at seen place) ≡ map (move_wanted (moved p p 3)) (imports_in (tree_at reads place)) ++ wanted_by (statement_at p) ∷ [] = ap imports_in here ∙ v.3.added.last in (
      after,
      seen,
      record {
        entry = v.3.changed.entry;
        put = v.3.changed.put;
        faultless = faultless laws files reads after seen file path place p may v.3.changed.still c is last;
        described = described laws files reads after seen file path place p may v.3.changed.still c is last;
      },
    )
