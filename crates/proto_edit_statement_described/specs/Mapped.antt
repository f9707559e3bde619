-- The descriptor of a file without a field, as a function of the old descriptor and of the place of
-- the field in the old tree, which its name token tells.
use Rattle.std.specs.Prelude.{◌≡◌, ℕ, ◌==◌, false}
use Rattle.proto_base.specs.Texts.{Path}
use Rattle.proto_tree.specs.Moved.{Move}
use Rattle.proto_tree.specs.Tree.{Tree}
use Rattle.proto_ast.specs.Scenes.{Scene}
use Rattle.proto_desc_build.specs.Described.{file_described}
use Rattle.proto_edit_statement_described.specs.Deletions.{IsDeletedIn, Reservation, Reserves, WrittenField, written_name}
use Rattle.proto_edit_statement_described.specs.Scenes.{IsMovedScene}
use Rattle.proto_edit_rules.specs.DeleteField.{mapped_deletion}

-- ---- descriptors

-- A deletion maps the descriptor so, where the field's name token
-- is not that of anything that stays.
abbrev pub DeletionsMapTheDescriptor : Type 0
DeletionsMapTheDescriptor =
    (g k : Move) (middle old new : Scene) (path : Path) (w : WrittenField) (r : Reservation)
    (x t u : Tree)
    → IsMovedScene g middle old
    → IsMovedScene k middle new
    → Reserves old new w r
    → IsDeletedIn g k w r x t u
    → ((i : ℕ) → (g i == written_name w) ≡ false)
    → file_described new path u ≡ mapped_deletion (written_name w) t (file_described old path t)
