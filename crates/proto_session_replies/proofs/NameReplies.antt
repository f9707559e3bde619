-- What is replied to requests about what stands at a position.
use Rattle.std.proofs.Common.{◌≡◌, ◌∷◌, [], Bool, List, Some, None, inl, inr, refl, sym, subst}
use Rattle.proto_base.proofs.Common.{FileOf, Text, Vec}
use Rattle.proto_answers.specs.Answers.{IsDefinitionAt, IsRenamingAt}
use Rattle.proto_answers.specs.References.{AreReferencesAt}
use Rattle.proto_answers.specs.declared.answers.Answer.{Answer as EditAnswer}
use Rattle.proto_answers.specs.declared.answers.Answer.TheVariants as renaming
use Rattle.proto_answers.specs.declared.ranges.Location.{Location}
use Rattle.proto_answers.specs.declared.standing.FileOffset.{FileOffset}
use Rattle.proto_messages.specs.Messages.{DocumentPositionOf}
use Rattle.proto_messages.specs.declared.results.ErrorCode.TheVariants.{RequestFailed}
use Rattle.proto_session_files.specs.Views.{ViewOf}
use Rattle.proto_session_replies.specs.Placing.{IsAllSent, IsRenamingReply}
use Rattle.proto_session_replies.specs.Replies.{AreLooked, Compiles, IsAsked, IsDefinitionReply, IsFailureOf, IsPreparedReply, IsReferencesReply, IsRenameReply, SaysFault, no_name_text, of_answer, of_no_name}
use Rattle.proto_session_replies.specs.declared.reply.Reply.{Reply}

-- ---- while the files have a fault

pub faulty_references : (v : ViewOf) (asked : DocumentPositionOf) (declared : Bool) (r : Reply) → SaysFault v r → IsReferencesReply v asked declared r
faulty_references v asked declared r f = subst (IsReferencesReply v asked declared) (sym f.is) (record { said = f.said; is = refl; holds = f.holds })

pub faulty_prepared : (v : ViewOf) (asked : DocumentPositionOf) (r : Reply) → SaysFault v r → IsPreparedReply v asked r
faulty_prepared v asked r f = subst (IsPreparedReply v asked) (sym f.is) (record { said = f.said; is = refl; holds = f.holds })

pub faulty_rename : (v : ViewOf) (asked : DocumentPositionOf) (to : Text) (r : Reply) → SaysFault v r → IsRenameReply v asked to r
faulty_rename v asked to r f = subst (IsRenameReply v asked to) (sym f.is) (inl f.holds)

-- ---- while they compile

-- locations of the same files under another name
pub sent_in : (v : ViewOf) (files w : List FileOf) (ls : List Location) (r : Reply) → files ≡ w → IsAllSent v files ls r → IsAllSent v w ls r
sent_in v files w ls r same s = subst (λ (fs : List FileOf). IsAllSent v fs ls r) same s

pub definition_sent : (v : ViewOf) (w : List FileOf) (asked : DocumentPositionOf) (spot : FileOffset) (l : Location) → IsAsked v w asked spot → IsDefinitionAt w v.encoding spot (Some l) → AreLooked v w spot.file l.file → (r : Reply) → IsAllSent v w (l ∷ []) r → IsDefinitionReply v asked r
definition_sent v w asked spot l at is looked r s = subst (IsDefinitionReply v asked) (sym s.1) (w, spot, at, l, is, looked, s.2)

pub references_sent : (v : ViewOf) (w : List FileOf) (asked : DocumentPositionOf) (declared : Bool) (spot : FileOffset) (found : Vec Location) → Compiles v w → IsAsked v w asked spot → AreReferencesAt w v.encoding spot declared (Some found) → (r : Reply) → IsAllSent v w found.items r → IsReferencesReply v asked declared r
references_sent v w asked declared spot found compiles at are r s = subst (IsReferencesReply v asked declared) (sym s.1) (w, compiles, spot, at, found, are, s.2)

pub rename_replied : (v : ViewOf) (w : List FileOf) (asked : DocumentPositionOf) (to : Text) (spot : FileOffset) (a : EditAnswer) → Compiles v w → IsAsked v w asked spot → IsRenamingAt w v.encoding spot to (Some a) → (r : Reply) → IsRenamingReply v w a r → IsRenameReply v asked to r
rename_replied v w asked to spot (renaming.Edits edits) compiles at is r s = subst (IsRenameReply v asked to) (sym s.1) (w, compiles, spot, at, edits, is, s.2)
rename_replied v w asked to spot renaming.LineEnds compiles at is r f = subst (IsRenameReply v asked to) (sym f.is) (inr (w, compiles, spot, at, of_answer renaming.LineEnds is f.holds))
rename_replied v w asked to spot (renaming.Refused refusal) compiles at is r f = subst (IsRenameReply v asked to) (sym f.is) (inr (w, compiles, spot, at, of_answer (renaming.Refused refusal) is f.holds))

pub no_name_replied : (v : ViewOf) (w : List FileOf) (asked : DocumentPositionOf) (to : Text) (spot : FileOffset) → Compiles v w → IsAsked v w asked spot → IsRenamingAt w v.encoding spot to None → (r : Reply) → IsFailureOf RequestFailed (λ said. said ≡ no_name_text) r → IsRenameReply v asked to r
no_name_replied v w asked to spot compiles at is r f = subst (IsRenameReply v asked to) (sym f.is) (inr (w, compiles, spot, at, of_no_name is f.holds))
