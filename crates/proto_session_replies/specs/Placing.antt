-- What requests are answered by the way.
use Rattle.std.specs.Prelude.{◌≡◌, List, Option, Some, None}
use Rattle.std.specs.Global.{Vec}
use Rattle.std.specs.List.{AllZip}
use Rattle.proto_base.specs.GivenFiles.{FileOf}
use Rattle.proto_base.specs.Texts.{Text}
use Rattle.proto_answers.specs.declared.answers.Answer.{Answer as EditAnswer}
use Rattle.proto_answers.specs.declared.answers.Answer.TheVariants as renaming
use Rattle.proto_answers.specs.declared.ranges.Location.{Location}
use Rattle.proto_answers.specs.declared.standing.FileOffset.{FileOffset}
use Rattle.proto_messages.specs.Messages.{DocumentPositionOf}
use Rattle.proto_messages.specs.declared.position.Position.{Position as SentPosition}
use Rattle.proto_messages.specs.declared.results.Answer.TheVariants as answer
use Rattle.proto_messages.specs.declared.results.DocumentEdit.{DocumentEdit}
use Rattle.proto_messages.specs.declared.results.ErrorCode.TheVariants.{RequestFailed}
use Rattle.proto_messages.specs.declared.results.Location.{Location as SentLocation}
use Rattle.proto_session_files.specs.Views.{ViewOf}
use Rattle.proto_session_replies.specs.Replies.{IsAsked, IsAskedNowhere, IsDocumentEdit, IsEditFailure, IsFailureOf, IsSent}
use Rattle.proto_session_replies.specs.declared.reply.Reply.TheVariants.{Result}
use Rattle.proto_session_replies.specs.declared.reply.Reply.{Reply}

-- a position of a document
abbrev pub asked_at : Text → SentPosition → DocumentPositionOf
asked_at uri position = record { uri = uri; position = position }

-- the offset that a client asks about, or none where it asks about no file of these
abbrev pub IsSpotIfAny : ViewOf → List FileOf → DocumentPositionOf → Option FileOffset → Type 0
IsSpotIfAny v files asked None = IsAskedNowhere v files asked
IsSpotIfAny v files asked (Some spot) = IsAsked v files asked spot

-- the reply that has these locations
abbrev pub IsAllSent : ViewOf → List FileOf → List Location → Reply → Type 0
IsAllSent v files locations r = (sent : Vec SentLocation)
    × (r ≡ Result (answer.Locations sent)) × AllZip (IsSent v files) locations sent.items

-- the reply that says this answer to a rename
abbrev pub IsRenamingReply : ViewOf → List FileOf → EditAnswer → Reply → Type 0
IsRenamingReply v files (renaming.Edits edits) r = (sent : Vec DocumentEdit)
    × (r ≡ Result (answer.Edits sent)) × AllZip (IsDocumentEdit v) edits.items sent.items
IsRenamingReply v files renaming.LineEnds r =
    IsFailureOf RequestFailed (IsEditFailure files renaming.LineEnds) r
IsRenamingReply v files (renaming.Refused refusal) r =
    IsFailureOf RequestFailed (IsEditFailure files (renaming.Refused refusal)) r
