-- The cases of a rename in their order.
use Rattle.std.specs.Prelude.{◌<◌, List, ℕ}
use Rattle.proto_base.specs.Texts.{Text}
use Rattle.proto_files.specs.GivenFiles.{FileOf}
use Rattle.proto_edit_rename.specs.Renames.{IsRenameCase}

-- no case before this one refuses it
abbrev pub IsFreeBefore : List FileOf → Text → Text → ℕ → Type 0
IsFreeBefore files name to n = (k : ℕ) → k < n → IsRenameCase files name to k → ⊥
