-- What each message makes of a session: what is replied to it, what is told after it, and what the
-- session knows then.
use Rattle.std.specs.Prelude.{◌≡◌, ◌⊎◌, ℕ, ◌&&◌, Bool, true, false, not, List, [], ◌∷◌, ◌++◌, codes, Option, Some, None, option_map}
use Rattle.serde_json.specs.Data.{Data, null}
use Rattle.serde_json.specs.Written.{compact_text}
use Rattle.proto_base.specs.GivenFiles.{AreInLanguage, FileOf}
use Rattle.proto_base.specs.Texts.{Path, Text}
use Rattle.proto_base.specs.declared.profile.Profile.{Profile}
use Rattle.proto_messages.specs.Messages.{DocumentOf, IdOf, MessageOf, NotificationOf, RequestOf, request, notification, response, no_message, initialize, shutdown, definition, references, document_symbol, prepare_rename, rename, code_action, unknown_method, invalid_params, initialized, did_open, did_change, did_change_nothing, did_change_in_range, did_save, did_close, exit, malformed, other, message_view}
use Rattle.proto_messages.specs.Reading.{IsMessageOf}
use Rattle.proto_messages.specs.Results.{capabilities_data}
use Rattle.proto_messages.specs.Writing.{failure_data, result_data, shown_data}
use Rattle.proto_messages.specs.declared.message.Message.{Message}
use Rattle.proto_messages.specs.declared.results.ErrorCode.{ErrorCode}
use Rattle.proto_messages.specs.declared.results.ErrorCode.TheVariants.{InvalidParams, InvalidRequest, MethodNotFound, ParseError, RequestFailed, ServerNotInitialized}
use Rattle.proto_messages.specs.declared.results.MessageType.TheVariants.{Warning}
use Rattle.proto_messages.specs.declared.results.PositionEncoding.{PositionEncoding}
use Rattle.proto_messages.specs.declared.results.PositionEncoding.TheVariants as sent
use Rattle.proto_positions.specs.declared.encoding.Encoding.{Encoding}
use Rattle.proto_positions.specs.declared.encoding.Encoding.TheVariants.{Utf16, Utf8}
use Rattle.proto_session.specs.Sessions.{SessionOf, view_of}
use Rattle.proto_session.specs.declared.session.Phase.TheVariants.{Fresh, Running, ShutDown, Ended, EndedEarly}
use Rattle.proto_session.specs.declared.session.Phase.{Phase}
use Rattle.proto_session_files.specs.Homes.{HomeOf, home_of, schema_of}
use Rattle.proto_session_files.specs.Views.{OpenOf, ViewOf, closed, is_open, with_open, with_version}
use Rattle.proto_session_replies.specs.Edits.{IsActionsReply}
use Rattle.proto_session_replies.specs.Replies.{IsDefinitionReply, IsPreparedReply, IsReferencesReply, IsRenameReply, nameless_failure, reply_text}
use Rattle.proto_session_replies.specs.Symbols.{IsSymbolsReply}
use Rattle.proto_session_replies.specs.declared.reply.Reply.{Reply}
use Rattle.proto_session_told.specs.Telling.{IsToldOf, ToldOf, news}

-- what the folder at a path holds, read in a language, where that is known
abbrev pub Holds : Type 0
Holds = Profile → Path → Option (List FileOf)

-- these are the files of a folder; of one of which nothing is known nothing is said
abbrev pub AreFilesOf : Option (List FileOf) → List FileOf → Type 0
AreFilesOf None files = Unit {0}
AreFilesOf (Some held) files = files ≡ held

-- the folder of a home may be one that cannot be read: nothing is known of it; without a home there
-- is none
abbrev pub MayBeLost : (Path → Option (List FileOf)) → Option HomeOf → Type 0
MayBeLost holds None = Unit {0}
MayBeLost holds (Some home) = holds home.folder ≡ None

-- ---- the folder is read

-- The folder of a home was read, in the language of the session, and these are its files: where they
-- are others than before, there may be more to tell.
pub record IsReread (holds : Holds) (old new : SessionOf) : Type 0 where
  pub home : HomeOf
  pub home_is : old.home ≡ Some home
  pub disk : List FileOf
  pub waits : Bool
  pub are_files : AreFilesOf (holds old.profile home.folder) disk
  pub in_language : AreInLanguage old.profile disk
  pub stays : waits ≡ false → (old.waits ≡ false) × (disk ≡ old.disk)
  pub session : new ≡ record old { disk = disk; is_lost = false; waits = waits }

-- what is shown to the user where the folder cannot be read
abbrev pub lost_text : Text
lost_text = codes "protoref_serve cannot read the folder of the schemas"

-- the message that says so, unless the last reading failed too
abbrev pub lost_messages : Bool → List Text
lost_messages true = []
lost_messages false = compact_text (shown_data Warning lost_text) ∷ []

-- What a notification leaves after which the folder is read. Where that fails, its files are those
-- that were read last, and the user is told once.
abbrev pub IsReadAfter : Holds → SessionOf → SessionOf → List Text → Type 0
IsReadAfter holds old new replies =
    (IsReread holds old new × (replies ≡ []))
    ⊎ (MayBeLost (holds old.profile) old.home × (new ≡ record old { is_lost = true })
    × (replies ≡ lost_messages old.is_lost))

-- ---- replies

-- the failure of a request
abbrev pub failure : IdOf → ErrorCode → Text → List Text
failure id code text = compact_text (failure_data (Some id) code text) ∷ []

-- the request has this failure, and nothing changes
abbrev pub Fails : SessionOf → IdOf → ErrorCode → Text → SessionOf → List Text → Type 0
Fails old id code text new replies = (new ≡ old) × (replies ≡ failure id code text)

-- the request has a reply of which this holds, and nothing changes
abbrev pub IsAnswered : SessionOf → IdOf → (Reply → Type 0) → SessionOf → List Text → Type 0
IsAnswered old id P new replies =
    (new ≡ old) × (r : Reply) × P r × (replies ≡ reply_text id r ∷ [])

-- Before an edit the folder is read, so that files which are not open are as they stand there;
-- where that fails the request does, and nothing changes.
abbrev pub IsAnsweredAfterReading : Holds → SessionOf → IdOf → (ViewOf → Reply → Type 0)
    → SessionOf → List Text → Type 0
IsAnsweredAfterReading holds old id P new replies =
    (IsReread holds old new × (r : Reply) × P (view_of new) r × (replies ≡ reply_text id r ∷ []))
    ⊎ (MayBeLost (holds old.profile) old.home × Fails old id RequestFailed lost_text new replies)

-- ---- requests

-- the encoding of positions: UTF-8 where the client offers it
abbrev pub agreed : Bool → Encoding
agreed true = Utf8
agreed false = Utf16

-- the same in a message
abbrev pub sent_encoding : Encoding → PositionEncoding
sent_encoding Utf8 = sent.Utf8
sent_encoding Utf16 = sent.Utf16

-- the session of a client that says the root of its files; nothing was told of these
abbrev pub begun : SessionOf → Option Text → Bool → SessionOf
begun s root utf8 = record s {
  phase = Running;
  home = home_of s.word root;
  encoding = agreed utf8;
  waits = true;
}

-- the result of a request
abbrev pub success : IdOf → Data → List Text
success id d = compact_text (result_data id d) ∷ []

-- before `initialize` nothing else is asked
abbrev pub IsFreshRequest : SessionOf → IdOf → RequestOf → SessionOf → List Text → Type 0
IsFreshRequest old id (initialize root utf8) new replies = (new ≡ begun old root utf8)
    × (replies ≡ success id (capabilities_data (sent_encoding (agreed utf8))))
IsFreshRequest old id _ new replies =
    Fails old id ServerNotInitialized (codes "initialize has not come yet") new replies

-- what is asked while the session runs
abbrev pub IsRunningRequest : Holds → SessionOf → IdOf → RequestOf → SessionOf → List Text → Type 0
IsRunningRequest holds old id (initialize root utf8) new replies =
    Fails old id InvalidRequest (codes "initialize has come before") new replies
IsRunningRequest holds old id shutdown new replies =
    (new ≡ record old { phase = ShutDown }) × (replies ≡ success id null)
IsRunningRequest holds old id (definition asked) new replies =
    IsAnswered old id (IsDefinitionReply (view_of old) asked) new replies
IsRunningRequest holds old id (references asked declared) new replies =
    IsAnswered old id (IsReferencesReply (view_of old) asked declared) new replies
IsRunningRequest holds old id (document_symbol uri) new replies =
    IsAnswered old id (IsSymbolsReply (view_of old) uri) new replies
IsRunningRequest holds old id (prepare_rename asked) new replies =
    IsAnswered old id (IsPreparedReply (view_of old) asked) new replies
IsRunningRequest holds old id (rename asked to) new replies =
    IsAnsweredAfterReading holds old id (λ v. IsRenameReply v asked to) new replies
IsRunningRequest holds old id (code_action uri range) new replies =
    IsAnsweredAfterReading holds old id (λ v. IsActionsReply v uri range) new replies
IsRunningRequest holds old id unknown_method new replies =
    Fails old id MethodNotFound (codes "the method is not known") new replies
IsRunningRequest holds old id invalid_params new replies =
    Fails old id InvalidParams (codes "the parameters are not as they have to be") new replies

-- what is asked in each phase; of a session that has ended nothing is asked
abbrev pub IsRequestIn : Phase → Holds → SessionOf → IdOf → RequestOf → SessionOf → List Text
    → Type 0
IsRequestIn Fresh holds old id asked new replies = IsFreshRequest old id asked new replies
IsRequestIn Running holds old id asked new replies =
    IsRunningRequest holds old id asked new replies
IsRequestIn ShutDown holds old id asked new replies =
    Fails old id InvalidRequest (codes "the server is shut down") new replies
IsRequestIn Ended holds old id asked new replies =
    Fails old id InvalidRequest (codes "the server is shut down") new replies
IsRequestIn EndedEarly holds old id asked new replies =
    Fails old id InvalidRequest (codes "the server is shut down") new replies

-- A request is replied to once. Out of memory its reply says so, and nothing changes.
abbrev pub IsRequestTaken : Holds → SessionOf → IdOf → RequestOf → SessionOf → List Text → Type 0
IsRequestTaken holds old id asked new replies =
    IsRequestIn old.phase holds old id asked new replies
    ⊎ Fails old id RequestFailed (codes "out of memory") new replies

-- ---- notifications

-- nothing changes, and nothing is replied
abbrev pub IsPassedOver : SessionOf → SessionOf → List Text → Type 0
IsPassedOver old new replies = (new ≡ old) × (replies ≡ [])

-- the session with these open texts, so that there may be more to tell
abbrev pub with_opened : List OpenOf → SessionOf → SessionOf
with_opened opened s = record s { opened = opened; waits = true }

-- a text that is opened, or its whole new text, at a path
abbrev pub text_at : Path → DocumentOf → OpenOf
text_at path d = record { path = path; uri = d.uri; version = d.version; text = d.text }

-- a text is opened at the path of a schema; others are passed over
abbrev pub IsOpenedAt : Option Path → Holds → SessionOf → DocumentOf → SessionOf → List Text
    → Type 0
IsOpenedAt None holds old d new replies = IsPassedOver old new replies
IsOpenedAt (Some path) holds old d new replies =
    IsReadAfter holds (with_opened (with_open (text_at path d) old.opened) old) new replies

-- a text that is open has a new text, under the URI of this message
abbrev pub IsChangedAt : Option Path → SessionOf → DocumentOf → SessionOf → List Text → Type 0
IsChangedAt None old d new replies = IsPassedOver old new replies
IsChangedAt (Some path) old d new replies = (is_open path old.opened ≡ true)
    × (new ≡ with_opened (with_open (text_at path d) old.opened) old) × (replies ≡ [])

-- a text that is open has another version, and stays
abbrev pub IsRenumberedAt : Option Path → SessionOf → ℕ → SessionOf → List Text → Type 0
IsRenumberedAt None old version new replies = IsPassedOver old new replies
IsRenumberedAt (Some path) old version new replies =
    (new ≡ with_opened (with_version path version old.opened) old) × (replies ≡ [])

-- a text is closed: the file is seen as it stands in the folder
abbrev pub IsClosedAt : Option Path → Holds → SessionOf → SessionOf → List Text → Type 0
IsClosedAt None holds old new replies = IsPassedOver old new replies
IsClosedAt (Some path) holds old new replies =
    IsReadAfter holds (with_opened (closed path old.opened) old) new replies

-- what is said while the session runs
abbrev pub IsRunningNotification : Holds → SessionOf → NotificationOf → SessionOf → List Text
    → Type 0
IsRunningNotification holds old initialized new replies = IsReadAfter holds old new replies
IsRunningNotification holds old (did_open d) new replies =
    IsOpenedAt (schema_of old.home d.uri) holds old d new replies
IsRunningNotification holds old (did_change d) new replies =
    IsChangedAt (schema_of old.home d.uri) old d new replies
IsRunningNotification holds old (did_change_nothing uri version) new replies =
    IsRenumberedAt (schema_of old.home uri) old version new replies
IsRunningNotification holds old did_change_in_range new replies = ⊥
IsRunningNotification holds old (did_save uri) new replies = IsReadAfter holds old new replies
IsRunningNotification holds old (did_close uri) new replies =
    IsClosedAt (schema_of old.home uri) holds old new replies
IsRunningNotification holds old exit new replies =
    (new ≡ record old { phase = EndedEarly }) × (replies ≡ [])
IsRunningNotification holds old malformed new replies = ⊥
IsRunningNotification holds old other new replies = IsPassedOver old new replies

-- before `initialize` and after `shutdown` all is passed over but `exit`, which ends the session
abbrev pub IsIdleNotification : Phase → SessionOf → NotificationOf → SessionOf → List Text → Type 0
IsIdleNotification end old exit new replies = (new ≡ record old { phase = end }) × (replies ≡ [])
IsIdleNotification end old _ new replies = IsPassedOver old new replies

-- what is said in each phase; to a session that has ended nothing is said
abbrev pub IsNotificationIn : Phase → Holds → SessionOf → NotificationOf → SessionOf → List Text
    → Type 0
IsNotificationIn Fresh holds old said new replies =
    IsIdleNotification EndedEarly old said new replies
IsNotificationIn Running holds old said new replies =
    IsRunningNotification holds old said new replies
IsNotificationIn ShutDown holds old said new replies =
    IsIdleNotification Ended old said new replies
IsNotificationIn Ended holds old said new replies =
    IsIdleNotification Ended old said new replies
IsNotificationIn EndedEarly holds old said new replies =
    IsIdleNotification EndedEarly old said new replies

-- The notifications that are not taken in while the session runs: a change of a range, since whole
-- texts are asked for; a change of a text that is not open; one that is not as it has to be. A
-- server that went on would answer of other texts than the client has.
abbrev pub IsRefusedWhile : SessionOf → NotificationOf → Type 0
IsRefusedWhile s did_change_in_range = Unit {0}
IsRefusedWhile s malformed = Unit {0}
IsRefusedWhile s (did_change d) =
    (path : Path) × (schema_of s.home d.uri ≡ Some path) × (is_open path s.opened ≡ false)
IsRefusedWhile s _ = ⊥

-- ---- messages

-- what a message makes of a session, before the client is told of its files; none is no JSON in
-- UTF-8
abbrev pub IsMessageTaken : Holds → SessionOf → Option MessageOf → SessionOf → List Text → Type 0
IsMessageTaken holds old None new replies =
    (new ≡ old) × (replies ≡ nameless_failure ParseError (codes "no JSON in UTF-8"))
IsMessageTaken holds old (Some (request id asked)) new replies =
    IsRequestTaken holds old id asked new replies
IsMessageTaken holds old (Some (notification said)) new replies =
    IsNotificationIn old.phase holds old said new replies
IsMessageTaken holds old (Some response) new replies = IsPassedOver old new replies
IsMessageTaken holds old (Some no_message) new replies =
    (new ≡ old) × (replies ≡ nameless_failure InvalidRequest (codes "no message of JSON-RPC"))

-- whether the session runs
abbrev pub is_running : Phase → Bool
is_running Fresh = false
is_running Running = true
is_running ShutDown = false
is_running Ended = false
is_running EndedEarly = false

-- Whether the client is told of its files after a message: while the session runs, there is more to
-- tell, and no other message is waiting.
abbrev pub is_time : Bool → SessionOf → Bool
is_time is_followed s = is_running s.phase && s.waits && not is_followed

-- what the client is told after a message, and the session then
abbrev pub IsTelling : Bool → SessionOf → SessionOf → List Text → Type 0
IsTelling false mid new told = (new ≡ mid) × (told ≡ [])
IsTelling true mid new told = (all : List ToldOf) × IsToldOf (view_of mid) all
    × (new ≡ record mid { told = all; waits = false }) × (told ≡ news mid.told all)

-- One turn of a session: a message is taken, and the client told of its files where it is time.
-- None is a content that is no JSON in UTF-8.
pub record IsTurnOf
    (holds : Holds) (old : SessionOf) (message : Option MessageOf) (is_followed : Bool)
    (replies : List Text) (new : SessionOf)
    : Type 0 where
  pub mid : SessionOf
  pub answered : List Text
  pub taken : IsMessageTaken holds old message mid answered
  pub told : List Text
  pub telling : IsTelling (is_time is_followed mid) mid new told
  pub replies_are : replies ≡ answered ++ told

-- one turn over a content
abbrev pub IsTurn : Holds → SessionOf → Text → Bool → List Text → SessionOf → Type 0
IsTurn holds old content is_followed replies new = (message : Option Message)
    × IsMessageOf content message
    × IsTurnOf holds old (option_map message_view message) is_followed replies new

-- a content that a session does not take: a notification that it refuses while it runs
pub record IsRefused (s : SessionOf) (content : Text) : Type 0 where
  pub message : Message
  pub is_message : IsMessageOf content (Some message)
  pub said : NotificationOf
  pub notified : message_view message ≡ notification said
  pub running : s.phase ≡ Running
  pub refused : IsRefusedWhile s said

-- whether a session takes no more
abbrev pub has_ended : Phase → Bool
has_ended Fresh = false
has_ended Running = false
has_ended ShutDown = false
has_ended Ended = true
has_ended EndedEarly = true

-- the exit status of a program whose session is in this phase: 0 after `shutdown` and `exit`, else
-- 1
abbrev pub status_of : Phase → ℕ
status_of Ended = 0
status_of Fresh = 1
status_of Running = 1
status_of ShutDown = 1
status_of EndedEarly = 1
