-- What is replied to requests, before their ids.
use Rattle.std.specs.Prelude.{◌≡◌, ◌⊎◌, codes}
use Rattle.proto_base.specs.Texts.{Text}
use Rattle.proto_messages.specs.Messages.{RequestOf, initialize, shutdown, definition, references, document_symbol, prepare_rename, rename, code_action, unknown_method, invalid_params}
use Rattle.proto_messages.specs.declared.results.Answer.TheVariants as answer
use Rattle.proto_messages.specs.declared.results.ErrorCode.{ErrorCode}
use Rattle.proto_messages.specs.declared.results.ErrorCode.TheVariants.{InvalidParams, InvalidRequest, MethodNotFound, RequestFailed, ServerNotInitialized}
use Rattle.proto_session.specs.Sessions.{SessionOf, view_of}
use Rattle.proto_session.specs.Steps.{Holds, IsReread, MayBeLost, agreed, begun, lost_text, sent_encoding}
use Rattle.proto_session.specs.declared.session.Phase.TheVariants.{Ended, EndedEarly, Fresh, Running, ShutDown}
use Rattle.proto_session.specs.declared.session.Phase.{Phase}
use Rattle.proto_session_files.specs.Views.{ViewOf}
use Rattle.proto_session_replies.specs.Edits.{IsActionsReply}
use Rattle.proto_session_replies.specs.Replies.{IsDefinitionReply, IsFailureOf, IsPreparedReply, IsReferencesReply, IsRenameReply}
use Rattle.proto_session_replies.specs.Symbols.{IsSymbolsReply}
use Rattle.proto_session_replies.specs.declared.reply.Reply.TheVariants.{Result}
use Rattle.proto_session_replies.specs.declared.reply.Reply.{Reply}

-- the reply to a request about what stands in the files
abbrev pub IsNameReply : ViewOf → RequestOf → Reply → Type 0
IsNameReply v (definition asked) r = IsDefinitionReply v asked r
IsNameReply v (references asked declared) r = IsReferencesReply v asked declared r
IsNameReply v (document_symbol uri) r = IsSymbolsReply v uri r
IsNameReply v (prepare_rename asked) r = IsPreparedReply v asked r
IsNameReply v (rename asked to) r = r ≡ Result answer.Null
IsNameReply v (code_action uri range) r = r ≡ Result answer.Null
IsNameReply v (initialize root utf8) r = r ≡ Result answer.Null
IsNameReply v shutdown r = r ≡ Result answer.Null
IsNameReply v unknown_method r = r ≡ Result answer.Null
IsNameReply v invalid_params r = r ≡ Result answer.Null

-- the reply to a request for edits
abbrev pub IsEditReply : ViewOf → RequestOf → Reply → Type 0
IsEditReply v (rename asked to) r = IsRenameReply v asked to r
IsEditReply v (code_action uri range) r = IsActionsReply v uri range r
IsEditReply v _ r = r ≡ Result answer.Null

-- a failure that says this, and nothing changes
abbrev pub IsFailed : SessionOf → ErrorCode → Text → SessionOf → Reply → Type 0
IsFailed old code text new r = (new ≡ old) × IsFailureOf code (λ said. said ≡ text) r

-- what is replied to a request that comes before `initialize`
abbrev pub IsFreshReply : SessionOf → RequestOf → SessionOf → Reply → Type 0
IsFreshReply old (initialize root utf8) new r = (new ≡ begun old root utf8)
    × (r ≡ Result (answer.Capabilities (sent_encoding (agreed utf8))))
IsFreshReply old _ new r =
    IsFailed old ServerNotInitialized (codes "initialize has not come yet") new r

-- the reply to a request for edits, before which the folder is read
abbrev pub IsEditAnswered : Holds → SessionOf → RequestOf → SessionOf → Reply → Type 0
IsEditAnswered holds old asked new r =
    (IsReread holds old new × IsEditReply (view_of new) asked r)
    ⊎ (MayBeLost (holds old.profile) old.home × IsFailed old RequestFailed lost_text new r)

-- what is replied while the session runs
abbrev pub IsRunningReply : Holds → SessionOf → RequestOf → SessionOf → Reply → Type 0
IsRunningReply holds old (initialize root utf8) new r =
    IsFailed old InvalidRequest (codes "initialize has come before") new r
IsRunningReply holds old shutdown new r =
    (new ≡ record old { phase = ShutDown }) × (r ≡ Result answer.Null)
IsRunningReply holds old (rename asked to) new r =
    IsEditAnswered holds old (rename asked to) new r
IsRunningReply holds old (code_action uri range) new r =
    IsEditAnswered holds old (code_action uri range) new r
IsRunningReply holds old unknown_method new r =
    IsFailed old MethodNotFound (codes "the method is not known") new r
IsRunningReply holds old invalid_params new r =
    IsFailed old InvalidParams (codes "the parameters are not as they have to be") new r
IsRunningReply holds old asked new r = (new ≡ old) × IsNameReply (view_of old) asked r

-- what is replied in each phase
abbrev pub IsReplyIn : Phase → Holds → SessionOf → RequestOf → SessionOf → Reply → Type 0
IsReplyIn Fresh holds old asked new r = IsFreshReply old asked new r
IsReplyIn Running holds old asked new r = IsRunningReply holds old asked new r
IsReplyIn ShutDown holds old asked new r =
    IsFailed old InvalidRequest (codes "the server is shut down") new r
IsReplyIn Ended holds old asked new r =
    IsFailed old InvalidRequest (codes "the server is shut down") new r
IsReplyIn EndedEarly holds old asked new r =
    IsFailed old InvalidRequest (codes "the server is shut down") new r

-- the same in the phase of the session
abbrev pub IsAnsweredIn : Holds → SessionOf → RequestOf → SessionOf → Reply → Type 0
IsAnsweredIn holds old asked new r = IsReplyIn old.phase holds old asked new r
