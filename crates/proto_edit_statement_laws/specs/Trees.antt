-- What a tree declares, uses and imports where its tokens are moved, and where
-- imports alone are put in or taken out.
use Rattle.std.specs.Prelude.{◌≡◌, List, map}
use Rattle.proto_tree.specs.Moved.{Move, move_tree}
use Rattle.proto_tree.specs.Tree.{Tree}
use Rattle.proto_names_rules.specs.Skeleton.{shifted_source, shifted_used}
use Rattle.proto_names_rules.specs.Tree.{Placed, file_placed}
use Rattle.proto_names_outline.specs.FromTree.{file_names, imports_in}
use Rattle.proto_names_outline.specs.Moved.{move_wanted}
use Rattle.proto_edit_rename_laws.specs.Imports.{without_imports}

-- a declaration by other tokens
abbrev pub move_placed : Move → Placed → Placed
move_placed g p = record {
  above = map (shifted_source g) p.above;
  last = shifted_source g p.last;
  kind = p.kind;
}

-- what a tree declares, by its tokens
abbrev pub placed_in : Tree → List Placed
placed_in t = file_placed (file_names t).items

-- The second tree declares and uses what the first does, by moved tokens.
pub record MovesNames (g : Move) (s t : Tree) : Type 0 where
  pub placed : placed_in t ≡ map (move_placed g) (placed_in s)
  pub used : (file_names t).used ≡ map (shifted_used g) (file_names s).used

-- A moved tree does so, and imports what the first does.
abbrev pub TreesMoveNames : Type 0
TreesMoveNames = (g : Move) (t : Tree) → MovesNames g t (move_tree g t)

-- A moved tree imports what the first does, by moved tokens.
abbrev pub TreesMoveImports : Type 0
TreesMoveImports = (g : Move) (t : Tree)
    → imports_in (move_tree g t) ≡ map (move_wanted g) (imports_in t)

-- So does one that besides its imports is the first, moved.
abbrev pub ImportsMoveNames : Type 0
ImportsMoveNames = (g : Move) (s t : Tree)
    → without_imports t ≡ move_tree g (without_imports s)
    → MovesNames g s t
