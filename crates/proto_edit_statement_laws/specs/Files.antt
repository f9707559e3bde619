-- Files before and after a field is deleted in one of them, and before and after one of them gets
-- an import: what is asked of the trees and texts, and the names that come out.
use Rattle.std.specs.Prelude.{◌≡◌, ◌≢◌, ℕ, Bool, true, List, ◌∷◌, ◌++◌, length, map, Some}
use Rattle.proto_base.specs.Texts.{Path, Text}
use Rattle.proto_text.specs.Values.{value_of}
use Rattle.proto_tree.specs.Moved.{Move}
use Rattle.proto_tree.specs.Tree.{Tree}
use Rattle.proto_files.specs.GivenFiles.{FileOf, paths_of}
use Rattle.proto_files.specs.FilesRead.{ReadOf}
use Rattle.proto_names_rules.specs.Edits.{with_imports}
use Rattle.proto_names_rules.specs.Faults.{file_with_path}
use Rattle.proto_names_rules.specs.Grown.{at}
use Rattle.proto_names_rules.specs.Skeleton.{shifted_used}
use Rattle.proto_names_rules.specs.Tree.{Placed}
use Rattle.proto_names_outline.specs.FromTree.{Wanted, file_names, imports_in}
use Rattle.proto_names_outline.specs.Moved.{move_wanted}
use Rattle.proto_names_imports.specs.Links.{link_imports, names_of_files, text_of}
use Rattle.proto_edit_statement_laws.specs.Less.{HasLess, goes_with_field}
use Rattle.proto_edit_statement_laws.specs.Lists.{HasMore, HasOneMore, IsAny}
use Rattle.proto_edit_statement_laws.specs.Trees.{MovesNames, move_placed, placed_in}

-- one file is read otherwise, and no path changes
pub record IsOneFile
    (files : List FileOf) (reads : List ReadOf) (after : List FileOf) (seen : List ReadOf)
    : Type 0 where
  pub before : List ReadOf
  pub old : ReadOf
  pub new : ReadOf
  pub behind : List ReadOf
  pub was : reads ≡ before ++ old ∷ behind
  pub is : seen ≡ before ++ new ∷ behind
  pub paths : paths_of after ≡ paths_of files

-- ---- a field less

-- what is declared here is of a kind that goes with a deleted field
abbrev pub MayGoAt : Placed → Type 0
MayGoAt p = goes_with_field p.kind ≡ true

-- With a field put in, a tree declares it and what goes with it, uses some more, and
-- imports the same; all else is moved.
pub record DeclaresMore (g : Move) (s t : Tree) : Type 0 where
  pub placed : HasMore MayGoAt (map (move_placed g) (placed_in s)) (placed_in t)
  pub used : HasMore IsAny (map (shifted_used g) (file_names s).used) (file_names t).used
  pub imports : imports_in t ≡ map (move_wanted g) (imports_in s)

-- The old tree is the middle one with the field put in, the new one the
-- middle one with what declares nothing.
pub record IsFieldLess
    (files : List FileOf) (reads : List ReadOf) (after : List FileOf) (seen : List ReadOf)
    : Type 0 where
  pub file : IsOneFile files reads after seen
  pub middle : Tree
  pub words : ℕ → Text
  pub to_old : Move
  pub to_new : Move
  pub more : DeclaresMore to_old middle file.old.tree
  pub same : MovesNames to_new middle file.new.tree
  pub imports : imports_in file.new.tree ≡ map (move_wanted to_new) (imports_in middle)
  pub of_old : (i : ℕ) → text_of files reads (at (length file.before) (to_old i)) ≡ words i
  pub of_new : (i : ℕ) → text_of after seen (at (length file.before) (to_new i)) ≡ words i
  pub others : (j i : ℕ)
      → j ≢ length file.before
      → text_of after seen (at j i) ≡ text_of files reads (at j i)

-- The names are those before without the field and what goes with it.
abbrev pub DeletionsHaveLess : Type 0
DeletionsHaveLess =
    (files : List FileOf) (reads : List ReadOf) (after : List FileOf) (seen : List ReadOf)
    → IsFieldLess files reads after seen
    → HasLess (names_of_files files reads) (names_of_files after seen)

-- ---- an import more

-- The file at this place imports this other one as well; all else is the same, moved.
pub record IsImportMore
    (files : List FileOf) (reads : List ReadOf) (after : List FileOf) (seen : List ReadOf)
    (from : ℕ) (path : Path) (is_public : Bool) : Type 0 where
  pub file : IsOneFile files reads after seen
  pub place : from ≡ length file.before
  pub move : Move
  pub same : MovesNames move file.old.tree file.new.tree
  pub wanted : Wanted
  pub more : HasOneMore wanted (map (move_wanted move) (imports_in file.old.tree))
      (imports_in file.new.tree)
  pub path_is : value_of (text_of after seen (at from wanted.path)) ≡ Some path
  pub public_is : wanted.is_public ≡ is_public
  pub own : (i : ℕ) → text_of after seen (at from (move i)) ≡ text_of files reads (at from i)
  pub others : (j i : ℕ) → j ≢ from → text_of after seen (at j i) ≡ text_of files reads (at j i)

-- The names are the same, with one import more.
abbrev pub ImportsAreMore : Type 0
ImportsAreMore =
    (files : List FileOf) (reads : List ReadOf) (after : List FileOf) (seen : List ReadOf)
    (from to : ℕ) (path : Path) (is_public : Bool)
    → IsImportMore files reads after seen from path is_public
    → file_with_path (paths_of files) path ≡ Some to
    → (names_of_files after seen
    ≡ with_imports (names_of_files files reads) (link_imports after seen))
    × HasOneMore (record { from = from; to = to; is_public = is_public }) (link_imports files reads)
    (link_imports after seen)
