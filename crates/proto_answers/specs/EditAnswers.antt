-- The text edits of changes, and what is answered to an edit of a workspace.
use Rattle.std.specs.Prelude.{◌≡◌, ◌≢◌, List, map, Option, Some, None}
use Rattle.std.specs.Global.{Vec}
use Rattle.std.specs.List.{AllZip, Contains}
use Rattle.std.specs.String.{string_bytes}
use Rattle.proto_edit.specs.Workspaces.{Asked, IsMappedStep, IsRefusal}
use Rattle.proto_edit_entries.specs.Entries.{ChangeOf}
use Rattle.proto_edit_entries.specs.declared.refusal.Refusal.TheVariants.{NoMemory}
use Rattle.proto_files.specs.GivenFiles.{FileOf}
use Rattle.proto_positions.specs.EditViews.{edit_view}
use Rattle.proto_positions.specs.TextEdits.{text_edit}
use Rattle.proto_positions.specs.declared.encoding.Encoding.{Encoding}
use Rattle.proto_answers.specs.LineEnds.{SuitEditors}
use Rattle.proto_answers.specs.LspFiles.{lsp_files}
use Rattle.proto_answers.specs.declared.answers.Answer.{Answer}
use Rattle.proto_answers.specs.declared.answers.Answer.TheVariants as answer
use Rattle.proto_answers.specs.declared.answers.FileEdits.{FileEdits}

-- the text edits of a change of one of the files, of which all editors make the same
pub record AreEditsOf
    (files : List FileOf) (e : Encoding) (c : ChangeOf) (v : FileEdits) : Type 0 where
  pub path : string_bytes v.path ≡ c.path
  pub file : FileOf
  pub there : Contains files file
  pub changed : file.path ≡ c.path
  pub suit : SuitEditors file.bytes c.splices
  pub edits : map edit_view v.edits.items ≡ map (text_edit e file.bytes) c.splices

-- no file at the path of the change is one in which all editors make the same of it
abbrev pub SuitsNoFile : List FileOf → ChangeOf → Type 0
SuitsNoFile files c = (f : FileOf)
    → Contains files f
    → f.path ≡ c.path
    → SuitEditors f.bytes c.splices
    → ⊥

-- the text edits of a change, or none where it suits no file
abbrev pub AreEditsIfAny : List FileOf → Encoding → ChangeOf → Option FileEdits → Type 0
AreEditsIfAny files e c (Some v) = AreEditsOf files e c v
AreEditsIfAny files e c None = SuitsNoFile files c

-- the text edits of each of the changes, in their order
abbrev pub AreAllEdits : List FileOf → Encoding → List ChangeOf → List FileEdits → Type 0
AreAllEdits files e cs vs = AllZip (AreEditsOf files e) cs vs

-- one of the changes suits no file
abbrev pub HasUnsuited : List FileOf → List ChangeOf → Type 0
HasUnsuited files cs = (c : ChangeOf) × Contains cs c × SuitsNoFile files c

-- the text edits of all changes, or none where one of these suits no file
abbrev pub AreAllEditsIfAny : List FileOf → Encoding → List ChangeOf → Option (Vec FileEdits)
    → Type 0
AreAllEditsIfAny files e cs (Some vs) = AreAllEdits files e cs vs.items
AreAllEditsIfAny files e cs None = HasUnsuited files cs

-- What is answered to an edit: where it is admissible, its text edits, which make of the files what
-- the edit makes of them, or that editors would not all do so; else the least case that refuses it.
abbrev pub IsAnswerTo : List FileOf → Encoding → Asked → Answer → Type 0
IsAnswerTo files e edit (answer.Edits edits) = (cs : List ChangeOf) × (after : List FileOf)
    × IsMappedStep files edit cs after
    × AreAllEdits files e cs edits.items
    × (lsp_files e edits.items files ≡ after)
IsAnswerTo files e edit answer.LineEnds = (cs : List ChangeOf) × (after : List FileOf)
    × IsMappedStep files edit cs after
    × HasUnsuited files cs
IsAnswerTo files e edit (answer.Refused refusal) =
    IsRefusal files edit refusal × (refusal ≢ NoMemory)
