-- What is replied to each request.
use Rattle.std.specs.Prelude.{◌≡◌, ◌⊎◌, ◌++◌, ℕ, Bool, List, [], ◌∷◌, codes, position, Some, None, String, string_bytes}
use Rattle.std.specs.Global.{Global, Vec}
use Rattle.std.specs.List.{AllZip, Contains}
use Rattle.std.specs.Str.{bytes_eq}
use Rattle.serde_json.specs.Written.{compact_text}
use Rattle.proto_base.specs.GivenFiles.{FileOf, paths_of}
use Rattle.proto_base.specs.Texts.{Path, Text}
use Rattle.proto_files.specs.Faults.{FaultAt, HasNoFault, IsLeastFault}
use Rattle.proto_files.specs.GivenFiles.{file_at}
use Rattle.proto_desc.specs.Whole.{IsSortedOf, WorkspaceFaults}
use Rattle.proto_edit.specs.Compiled.{AreCompiled}
use Rattle.proto_answers.specs.Answers.{IsDefinitionAt, IsPreparedAt, IsRenamingAt}
use Rattle.proto_answers.specs.References.{AreReferencesAt}
use Rattle.proto_answers.specs.Standing.{NothingStandsAt}
use Rattle.proto_answers.specs.declared.answers.Answer.{Answer as EditAnswer}
use Rattle.proto_answers.specs.declared.answers.Answer.TheVariants as renaming
use Rattle.proto_answers.specs.declared.answers.FileEdits.{FileEdits}
use Rattle.proto_answers.specs.declared.preparing.Prepared.{Prepared}
use Rattle.proto_answers.specs.declared.ranges.Location.{Location}
use Rattle.proto_answers.specs.declared.ranges.Range.{Range}
use Rattle.proto_answers.specs.declared.standing.FileOffset.{FileOffset}
use Rattle.proto_messages.specs.Messages.{DocumentPositionOf, IdOf}
use Rattle.proto_messages.specs.Results.{answer_data}
use Rattle.proto_messages.specs.Writing.{failure_data, result_data}
use Rattle.proto_messages.specs.declared.position.Position.{Position as SentPosition}
use Rattle.proto_messages.specs.declared.position.Range.{Range as SentRange}
use Rattle.proto_messages.specs.declared.results.Answer.TheVariants as answer
use Rattle.proto_messages.specs.declared.results.DocumentEdit.{DocumentEdit}
use Rattle.proto_messages.specs.declared.results.ErrorCode.{ErrorCode}
use Rattle.proto_messages.specs.declared.results.ErrorCode.TheVariants.{RequestFailed}
use Rattle.proto_messages.specs.declared.results.Location.{Location as SentLocation}
use Rattle.proto_messages.specs.declared.results.TextEdit.{TextEdit}
use Rattle.proto_positions.specs.Positions.{offset_of}
use Rattle.proto_positions.specs.declared.edits.RangeEdit.{RangeEdit}
use Rattle.proto_positions.specs.declared.position.Position.{Position}
use Rattle.protoref_output.specs.EditLines.{refused_line}
use Rattle.protoref_output.specs.FaultLines.{IsLine}
use Rattle.proto_session_files.specs.Homes.{schema_of}
use Rattle.proto_session_files.specs.Places.{sent_position}
use Rattle.proto_session_files.specs.Views.{ViewOf, uri_at, version_at}
use Rattle.proto_session_replies.specs.declared.reply.Reply.TheVariants.{Result, Failure}
use Rattle.proto_session_replies.specs.declared.reply.Reply.{Reply}

-- the message of a reply under the id of its request
abbrev pub reply_text : IdOf → Reply → Text
reply_text id (Result a) = compact_text (result_data id (answer_data a))
reply_text id (Failure code text) = compact_text (failure_data (Some id) code (string_bytes text))

-- the failure of what no request is
abbrev pub nameless_failure : ErrorCode → Text → List Text
nameless_failure code text = compact_text (failure_data None code text) ∷ []

-- a failure of a code that says something of which this holds
pub record IsFailureOf (code : ErrorCode) (P : Text → Type 0) (r : Reply) : Type 0 where
  pub said : String Global
  pub is : r ≡ Failure code said
  pub holds : P (string_bytes said)

-- ---- the files and the place that a request is about

-- the files that the client sees compile, and these are they, in the order of their paths
pub record Compiles (v : ViewOf) (files : List FileOf) : Type 0 where
  pub sorted : IsSortedOf v.files files
  pub clean : HasNoFault (WorkspaceFaults v.files)

-- the position that a client counts
abbrev pub counted : SentPosition → Position
counted p = record { line = p.line; character = p.character }

-- the offset in one of the files that a client asks about
pub record IsAsked
    (v : ViewOf) (files : List FileOf) (asked : DocumentPositionOf) (spot : FileOffset)
    : Type 0 where
  pub path : Path
  pub names : schema_of v.home asked.uri ≡ Some path
  pub there : position (bytes_eq path) (paths_of files) ≡ Some spot.file
  pub offset_is : spot.offset
      ≡ offset_of v.encoding (file_at files spot.file).bytes (counted asked.position)

-- the client asks about no file of these
abbrev pub IsAskedNowhere : ViewOf → List FileOf → DocumentPositionOf → Type 0
IsAskedNowhere v files asked = (spot : FileOffset) → IsAsked v files asked spot → ⊥

-- ---- what the program's lines say, without their line feeds

-- the line of the least fault of files
pub record IsFaultText (files : List FileOf) (text : Text) : Type 0 where
  pub fault : FaultAt
  pub least : IsLeastFault (WorkspaceFaults files) fault
  pub line : IsLine files fault (text ++ codes "\n")

-- the failure that says why the files that the client sees do not compile
abbrev pub SaysFault : ViewOf → Reply → Type 0
SaysFault v r = IsFailureOf RequestFailed (IsFaultText v.files) r

-- ---- parts of answers

-- the range of the protocol's messages
abbrev pub sent_range : Range → SentRange
sent_range r = record { start = sent_position r.start; end = sent_position r.end }

-- a location of one of the files, under the URI that the client has for it
pub record IsSent
    (v : ViewOf) (files : List FileOf) (l : Location) (sent : SentLocation)
    : Type 0 where
  pub uri : string_bytes sent.uri ≡ uri_at v (file_at files l.file).path
  pub range : sent.range ≡ sent_range l.range

-- text edits as the protocol has them
pub record IsTextEdit (edit : RangeEdit) (sent : TextEdit) : Type 0 where
  pub range : sent.range
      ≡ record { start = sent_position edit.start; end = sent_position edit.end }
  pub text : string_bytes sent.text ≡ string_bytes edit.new

-- the edits of a file, under the client's URI and with the version of its text, where it is open
pub record IsDocumentEdit
    (v : ViewOf) (edits : FileEdits) (sent : DocumentEdit) : Type 0 where
  pub uri : string_bytes sent.uri ≡ uri_at v (string_bytes edits.path)
  pub version : sent.version ≡ version_at v (string_bytes edits.path)
  pub edits_are : AllZip IsTextEdit edits.edits.items sent.edits.items

-- ---- requests about what stands at a position

-- a request about a position is answered null: the files that the client sees compile, and it asks
-- about none of these, or about an offset of which this holds
abbrev pub IsNull : ViewOf → DocumentPositionOf → (List FileOf → FileOffset → Type 0) → Type 0
IsNull v asked P = (files : List FileOf) × Compiles v files
    × ((spot : FileOffset) → IsAsked v files asked spot → P files spot)

-- the client sees this file of these as it is
abbrev pub IsSeen : ViewOf → List FileOf → ℕ → Type 0
IsSeen v files file = Contains v.files (file_at files file)

-- Files from which a definition may be answered that leads from one of them to another: those that
-- the client sees, where they compile; while they do not, files that compile, in which it sees these
-- two as they are.
abbrev pub AreLooked : ViewOf → List FileOf → ℕ → ℕ → Type 0
AreLooked v files asked answered =
    Compiles v files
    ⊎ ((HasNoFault (WorkspaceFaults v.files) → ⊥)
    × AreCompiled files × IsSeen v files asked × IsSeen v files answered)

-- Where what stands at a position is declared. While the files do not compile it may be null, and is
-- no error, since editors ask where the pointer stands.
abbrev pub IsDefinitionReply : ViewOf → DocumentPositionOf → Reply → Type 0
IsDefinitionReply v asked (Result (answer.Locations sent)) =
    (files : List FileOf) × (spot : FileOffset) × IsAsked v files asked spot
    × (l : Location) × IsDefinitionAt files v.encoding spot (Some l)
    × AreLooked v files spot.file l.file
    × AllZip (IsSent v files) (l ∷ []) sent.items
IsDefinitionReply v asked (Result answer.Null) =
    (HasNoFault (WorkspaceFaults v.files) → ⊥) ⊎ IsNull v asked NothingStandsAt
IsDefinitionReply v asked _ = ⊥

-- where a name is used, and where it is declared, if the client wants that too
abbrev pub IsReferencesReply : ViewOf → DocumentPositionOf → Bool → Reply → Type 0
IsReferencesReply v asked declared (Result (answer.Locations sent)) =
    (files : List FileOf) × Compiles v files × (spot : FileOffset) × IsAsked v files asked spot
    × (found : Vec Location) × AreReferencesAt files v.encoding spot declared (Some found)
    × AllZip (IsSent v files) found.items sent.items
IsReferencesReply v asked declared (Result answer.Null) = IsNull v asked NothingStandsAt
IsReferencesReply v asked declared r = SaysFault v r

-- what a rename would replace
abbrev pub IsPreparedReply : ViewOf → DocumentPositionOf → Reply → Type 0
IsPreparedReply v asked (Result (answer.Renameable range word)) =
    (files : List FileOf) × Compiles v files × (spot : FileOffset) × IsAsked v files asked spot
    × (p : Prepared) × IsPreparedAt files v.encoding spot (Some p)
    × (range ≡ sent_range p.location.range) × (string_bytes word ≡ string_bytes p.word)
IsPreparedReply v asked (Result answer.Null) = IsNull v asked NothingStandsAt
IsPreparedReply v asked r = SaysFault v r

-- ---- edits

-- what is said where editors would not all make the same of an edit
abbrev pub line_ends_text : Text
line_ends_text = codes "a file that would change has line ends that editors treat in several ways"

-- what is said where no name stands that may be renamed
abbrev pub no_name_text : Text
no_name_text = codes "no name that may be renamed stands here"

-- why there are no edits of a rename: the least case that refuses it, or line ends
abbrev pub IsEditFailure : List FileOf → EditAnswer → Text → Type 0
IsEditFailure files (renaming.Edits edits) text = ⊥
IsEditFailure files renaming.LineEnds text = text ≡ line_ends_text
IsEditFailure files (renaming.Refused refusal) text =
    text ++ codes "\n" ≡ refused_line files refusal

-- a failed rename of what stands at an offset: no name does, or why the rename has no edits
pub data IsRenameFailure
    (v : ViewOf) (files : List FileOf) (spot : FileOffset) (to text : Text) : Type 0 where
  of_no_name : IsRenamingAt files v.encoding spot to None → text ≡ no_name_text
      → IsRenameFailure v files spot to text
  of_answer : (a : EditAnswer) → IsRenamingAt files v.encoding spot to (Some a)
      → IsEditFailure files a text → IsRenameFailure v files spot to text

-- The edits of a rename: where it is admissible in the files that the client sees, and all editors
-- make the same of it, text edits that make of these files what the rename makes of them.
abbrev pub IsRenameReply : ViewOf → DocumentPositionOf → Text → Reply → Type 0
IsRenameReply v asked to (Result (answer.Edits sent)) =
    (files : List FileOf) × Compiles v files × (spot : FileOffset) × IsAsked v files asked spot
    × (edits : Vec FileEdits)
    × IsRenamingAt files v.encoding spot to (Some (renaming.Edits edits))
    × AllZip (IsDocumentEdit v) edits.items sent.items
IsRenameReply v asked to (Result answer.Null) =
    (files : List FileOf) × Compiles v files × IsAskedNowhere v files asked
IsRenameReply v asked to (Failure RequestFailed text) =
    IsFaultText v.files (string_bytes text)
    ⊎ ((files : List FileOf) × Compiles v files
    × (spot : FileOffset) × IsAsked v files asked spot
    × IsRenameFailure v files spot to (string_bytes text))
IsRenameReply v asked to _ = ⊥
