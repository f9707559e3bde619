-- What scenes of edited files need besides what their references mean: moved indices that
-- stay apart, and a version that stays.
use Rattle.std.specs.Prelude.{◌≡◌, ◌≢◌, ℕ, ◌+◌, ◌<◌, ◌≤◌}
use Rattle.proto_base.specs.Texts.{Text}
use Rattle.proto_text.specs.Segments.{moved}
use Rattle.proto_tree.specs.Moved.{Move, move_tree}
use Rattle.proto_tree.specs.Tree.{Tree}
use Rattle.proto_ast.specs.Scenes.{is_proto3}
use Rattle.proto_desc_checks_laws.specs.Imports.{without_imports}
use Rattle.proto_edit_statement_described.specs.Deletions.{IsDeletedIn, Reservation, WrittenField}

-- Where so many tokens are put in at a place, two others keep apart,
abbrev pub OthersKeepApart : Type 0
OthersKeepApart = (place count i j : ℕ)
    → moved place place count i ≡ moved place place count j
    → i ≡ j

-- and none of them becomes one of those.
abbrev pub NewTokensAreOwn : Type 0
NewTokensAreOwn = (place count token i : ℕ)
    → place ≤ token
    → token < place + count
    → moved place place count i ≢ token

-- A file that but for its imports is another, moved, has its version.
abbrev pub ImportsKeepVersions : Type 0
ImportsKeepVersions = (g : Move) (before after : ℕ → Text) (s t : Tree)
    → ((i : ℕ) → after (g i) ≡ before i)
    → without_imports t ≡ move_tree g (without_imports s)
    → is_proto3 after t ≡ is_proto3 before s

-- So has one without a field.
abbrev pub DeletionsKeepVersions : Type 0
DeletionsKeepVersions =
    (g k : Move) (between before after : ℕ → Text) (w : WrittenField) (r : Reservation)
    (x t u : Tree)
    → ((i : ℕ) → before (g i) ≡ between i)
    → ((i : ℕ) → after (k i) ≡ between i)
    → IsDeletedIn g k w r x t u
    → is_proto3 after u ≡ is_proto3 before t
