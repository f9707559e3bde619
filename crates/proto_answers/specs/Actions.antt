-- What an editor is offered to do.
use Rattle.std.specs.Prelude.{◌≡◌, ◌⊎◌, ℕ, List, Option, Some, None, String}
use Rattle.std.specs.Global.{Global, Vec}
use Rattle.std.specs.String.{string_bytes}
use Rattle.proto_base.specs.Texts.{Text}
use Rattle.proto_edit.specs.Workspaces.{Asked, delete_field}
use Rattle.proto_files.specs.FilesRead.{AreRead, ReadOf, read_at}
use Rattle.proto_files.specs.GivenFiles.{FileOf}
use Rattle.proto_names_at.specs.NamesAt.{DeclaresName}
use Rattle.proto_names_at.specs.Tokens.{IsWordAt}
use Rattle.proto_names_rules.specs.Grown.{at}
use Rattle.proto_positions.specs.declared.encoding.Encoding.{Encoding}
use Rattle.proto_answers.specs.EditAnswers.{IsAnswerTo}
use Rattle.proto_answers.specs.declared.answers.Answer.{Answer}
use Rattle.proto_answers.specs.declared.answers.Answer.TheVariants as answer
use Rattle.proto_answers.specs.declared.answers.FileEdits.{FileEdits}
use Rattle.proto_answers.specs.declared.standing.FileOffset.{FileOffset}

-- an answer without text edits
abbrev pub HasNoEdits : Answer → Type 0
HasNoEdits (answer.Edits edits) = ⊥
HasNoEdits answer.LineEnds = Unit {0}
HasNoEdits (answer.Refused refusal) = Unit {0}

-- the text edits that are answered to an edit; none, where it has another answer
abbrev pub AreOffered : List FileOf → Encoding → Asked → Option (Vec FileEdits) → Type 0
AreOffered files e edit (Some edits) = IsAnswerTo files e edit (answer.Edits edits)
AreOffered files e edit None = (other : Answer) × IsAnswerTo files e edit other × HasNoEdits other

-- the word at the offset declares what has the name, and that may be renamed
abbrev pub IsDeclaredAt : List FileOf → FileOffset → Text → Type 0
IsDeclaredAt files spot name = (reads : List ReadOf) × AreRead files reads × (token : ℕ)
    × IsWordAt (read_at reads spot.file).tokens spot.offset token
    × DeclaresName files reads (at spot.file token) name

-- the name of what is declared at the offset, or none where nothing is
abbrev pub IsDeclaredNameAt : List FileOf → FileOffset → Option (String Global) → Type 0
IsDeclaredNameAt files spot (Some name) = IsDeclaredAt files spot (string_bytes name)
IsDeclaredNameAt files spot None = (name : Text) → IsDeclaredAt files spot name → ⊥

-- The text edits that delete what is declared at an offset and reserve its number and its name,
-- where it is a field; none where nothing is declared there, and where the deletion has another
-- answer.
abbrev pub IsDeletionAt : List FileOf → Encoding → FileOffset → Option (Vec FileEdits) → Type 0
IsDeletionAt files e spot found =
    ((found ≡ None) × ((name : Text) → IsDeclaredAt files spot name → ⊥))
    ⊎ ((name : Text) × IsDeclaredAt files spot name × AreOffered files e (delete_field name) found)
