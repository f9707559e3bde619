-- The descriptor of a file with an import more, and with one less, as functions of the old one.
use Rattle.std.specs.Prelude.{◌≡◌, false, List, [], ◌∷◌, ◌++◌, map}
use Rattle.std.specs.List.{All}
use Rattle.std.specs.Str.{bytes_eq}
use Rattle.proto_base.specs.Texts.{Path}
use Rattle.proto_tree.specs.Moved.{Move, move_tree}
use Rattle.proto_tree.specs.Tree.{Tree}
use Rattle.proto_names_outline.specs.FromTree.{Wanted, imports_in}
use Rattle.proto_names_outline.specs.Moved.{move_wanted}
use Rattle.proto_ast.specs.Scenes.{Scene, value}
use Rattle.proto_desc_checks_laws.specs.Imports.{without_imports}
use Rattle.proto_desc_build.specs.Described.{file_described}
use Rattle.proto_edit_statement_described.specs.Scenes.{IsMovedScene}
use Rattle.proto_edit_rules.specs.AddImport.{with_dependency}
use Rattle.proto_edit_rules.specs.DropImport.{without_dependency}

-- ---- trees

-- The second tree has this import more at one place among its imports; all
-- else is that of the first, moved.
pub record HasImport (g : Move) (w : Wanted) (s t : Tree) : Type 0 where
  pub front : List Wanted
  pub back : List Wanted
  pub was : imports_in s ≡ front ++ back
  pub is : imports_in t ≡ map (move_wanted g) front ++ w ∷ map (move_wanted g) back
  pub others : without_imports t ≡ move_tree g (without_imports s)

-- ---- laws

-- An import more as the last of all, which is neither public nor weak.
abbrev pub AdditionsAreMapped : Type 0
AdditionsAreMapped = (g : Move) (a b : Scene) (path : Path) (w : Wanted) (s t : Tree)
    → IsMovedScene g a b
    → (i : HasImport g w s t)
    → i.back ≡ []
    → w.is_public ≡ false
    → w.is_weak ≡ false
    → file_described b path t ≡ with_dependency (value b w.path) (file_described a path s)

-- An import less: the first tree has it no more, of which no earlier import had the path.
abbrev pub DropsAreMapped : Type 0
DropsAreMapped = (g : Move) (a b : Scene) (path : Path) (w : Wanted) (s t : Tree)
    → IsMovedScene g a b
    → (i : HasImport g w s t)
    → All (λ v. bytes_eq (value b w.path) (value a v.path) ≡ false) i.front
    → file_described a path s ≡ without_dependency (value b w.path) (file_described b path t)
