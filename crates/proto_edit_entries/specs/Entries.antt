-- Entries: what was changed, file by file, so that it can be undone.
use Rattle.std.specs.Prelude.{◌≡◌, ◌≢◌, ℕ, ◌+◌, ◌≤◌, List, [], ◌∷◌, length, map, sum_by}
use Rattle.std.specs.List.{All}
use Rattle.std.specs.String.{string_bytes}
use Rattle.proto_text.specs.Edits.{Edit, AreShort, inverse_from}
use Rattle.proto_base.specs.Texts.{Path, text_limit}
use Rattle.proto_files.specs.WorkspacePaths.{IsWorkspacePath, IsBefore}
use Rattle.proto_edit_entries.specs.declared.entry.Change.{Change}

-- one changed file: its lengths before and after, and its splices
pub record ChangeOf : Type 0 where
  pub path : Path
  pub before : ℕ
  pub after : ℕ
  pub splices : List Edit

-- a change as plain bytes: its path, its lengths and its splices
abbrev pub change_of : Change → ChangeOf
change_of c = record {
  path = string_bytes c.path;
  before = c.before;
  after = c.after;
  splices = c.splices;
}

-- the change that leads back
abbrev pub turned_round : ChangeOf → ChangeOf
turned_round c =
    record c { before = c.after; after = c.before; splices = inverse_from 0 0 c.splices }

-- the changes that lead back
abbrev pub inverted : List ChangeOf → List ChangeOf
inverted cs = map turned_round cs

-- no file is both as before and as after the change
pub record IsToldApart (splices : List Edit) : Type 0 where
  pub same_lengths : All (λ e. length e.old ≡ length e.new) splices
  pub differs : All (λ e. e.old ≡ e.new) splices → ⊥

-- the splices lie in a text of the length before, and the length after is that of the new text
pub record HasLengths (splices : List Edit) (before after : ℕ) : Type 0 where
  pub within : All (λ e. e.at + length e.old ≤ before) splices
  pub lengths : after + sum_by (λ e. length e.old) splices
      ≡ before + sum_by (λ e. length e.new) splices

-- The splices are in order and lie in the old text, and the lengths are those that they make.
pub record IsMeasured (c : ChangeOf) : Type 0 where
  pub before_fits : c.before ≤ text_limit
  pub after_fits : c.after ≤ text_limit
  pub some : c.splices ≢ []
  pub ordered : AreShort 0 0 c.splices
  pub lengths : HasLengths c.splices c.before c.after
  pub told_apart : c.after ≡ c.before → IsToldApart c.splices

-- a change of a file of a workspace
pub record IsChange (c : ChangeOf) : Type 0 where
  pub path : IsWorkspacePath c.path
  pub measured : IsMeasured c

-- the path of a change is before that of the first of these, if there is one
abbrev pub BeginsBefore : ChangeOf → List ChangeOf → Type 0
BeginsBefore c [] = Unit {0}
BeginsBefore c (d ∷ ds) = IsBefore c.path d.path

-- each path is before the next
abbrev pub AreRising : List ChangeOf → Type 0
AreRising [] = Unit {0}
AreRising (c ∷ cs) = BeginsBefore c cs × AreRising cs

-- an entry: at least one change, in rising order of paths, each of a file of a workspace
pub record IsEntry (cs : List ChangeOf) : Type 0 where
  pub some : cs ≢ []
  pub rising : AreRising cs
  pub each : All IsChange cs
