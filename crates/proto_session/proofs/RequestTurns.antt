-- What is replied to a request, under its id.
use Rattle.std.proofs.Common.{◌≡◌, Bool, true, List, [], ◌∷◌, Option, Some, String, Global, Result as Tried, Ok, Err, inl, inr, option_map, refl, ap, subst, sym, ◌∙◌}
use Rattle.std.specs.Prelude.{IfOk, codes}
use Rattle.serde_json.specs.Written.{compact_text}
use Rattle.proto_base.proofs.Common.{Text}
use Rattle.proto_base.specs.declared.no_memory.NoMemory.{NoMemory}
use Rattle.proto_messages.specs.Messages.{IdOf, RequestOf, code_action, definition, document_symbol, initialize, invalid_params, prepare_rename, references, rename, request_view, shutdown, unknown_method}
use Rattle.proto_messages.specs.Writing.{failure_data}
use Rattle.proto_messages.specs.declared.message.DocumentPosition.{DocumentPosition}
use Rattle.proto_messages.specs.declared.message.Request.TheVariants as the
use Rattle.proto_messages.specs.declared.message.Request.{Request}
use Rattle.proto_messages.specs.declared.position.Range.{Range}
use Rattle.proto_messages.specs.declared.results.Answer.TheVariants as answer
use Rattle.proto_messages.specs.declared.results.ErrorCode.{ErrorCode}
use Rattle.proto_messages.specs.declared.results.ErrorCode.TheVariants.{InvalidParams, InvalidRequest, MethodNotFound, RequestFailed, ServerNotInitialized}
use Rattle.proto_positions.specs.declared.encoding.Encoding.{Encoding}
use Rattle.proto_serving.specs.Serving.{texts}
use Rattle.proto_session.specs.Answering.{IsAnsweredIn, IsEditAnswered, IsEditReply, IsFailed, IsFreshReply, IsNameReply, IsReplyIn, IsRunningReply}
use Rattle.proto_session.specs.Changes.{changed, no_change}
use Rattle.proto_session.specs.Sessions.{SessionOf, session_of, view_of}
use Rattle.proto_session.specs.Steps.{Fails, Holds, IsFreshRequest, IsRequestIn, IsRequestTaken, IsReread, IsRunningRequest, MayBeLost, agreed, begun, lost_text}
use Rattle.proto_session.specs.declared.answering.Answered.{Answered}
use Rattle.proto_session.specs.declared.changing.Change.{Change}
use Rattle.proto_session.specs.declared.changing.Outcome.{Outcome}
use Rattle.proto_session.specs.declared.session.Phase.TheVariants.{Ended, EndedEarly, Fresh, Running, ShutDown}
use Rattle.proto_session.specs.declared.session.Phase.{Phase}
use Rattle.proto_session.specs.declared.session.Session.{Session}
use Rattle.proto_session_files.specs.Homes.{HomeOf, home_of}
use Rattle.proto_session_files.specs.Views.{ViewOf, home_view}
use Rattle.proto_session_files.specs.declared.home.Home.{Home}
use Rattle.proto_session_replies.specs.Replies.{reply_text}
use Rattle.proto_session_replies.specs.declared.reply.Reply.TheVariants.{Result}
use Rattle.proto_session_replies.specs.declared.reply.Reply.{Reply}

-- the text of a reply, alone
abbrev told_alone : IdOf → Reply → List Text
told_alone id r = reply_text id r ∷ []

fails : (old : SessionOf) (id : IdOf) (code : ErrorCode) (text : Text) (new : SessionOf) (r : Reply) → IsFailed old code text new r → Fails old id code text new (told_alone id r)
fails old id code text new r f = (f.0, ap (told_alone id) f.1.is ∙ ap (λ (t : Text). compact_text (failure_data (Some id) code t) ∷ []) f.1.holds)

fresh_taken : (old : SessionOf) (id : IdOf) (asked : RequestOf) (new : SessionOf) (r : Reply) → IsFreshReply old asked new r → IsFreshRequest old id asked new (told_alone id r)
fresh_taken old id (initialize root utf8) new r t = (t.0, ap (told_alone id) t.1)
fresh_taken old id shutdown new r t = fails old id ServerNotInitialized (codes "initialize has not come yet") new r t
fresh_taken old id (definition asked) new r t = fails old id ServerNotInitialized (codes "initialize has not come yet") new r t
fresh_taken old id (references asked declared) new r t = fails old id ServerNotInitialized (codes "initialize has not come yet") new r t
fresh_taken old id (document_symbol uri) new r t = fails old id ServerNotInitialized (codes "initialize has not come yet") new r t
fresh_taken old id (prepare_rename asked) new r t = fails old id ServerNotInitialized (codes "initialize has not come yet") new r t
fresh_taken old id (rename asked to) new r t = fails old id ServerNotInitialized (codes "initialize has not come yet") new r t
fresh_taken old id (code_action uri range) new r t = fails old id ServerNotInitialized (codes "initialize has not come yet") new r t
fresh_taken old id unknown_method new r t = fails old id ServerNotInitialized (codes "initialize has not come yet") new r t
fresh_taken old id invalid_params new r t = fails old id ServerNotInitialized (codes "initialize has not come yet") new r t

running_taken : (holds : Holds) (old : SessionOf) (id : IdOf) (asked : RequestOf) (new : SessionOf) (r : Reply) → IsRunningReply holds old asked new r → IsRunningRequest holds old id asked new (told_alone id r)
running_taken holds old id (initialize root utf8) new r t = fails old id InvalidRequest (codes "initialize has come before") new r t
running_taken holds old id shutdown new r t = (t.0, ap (told_alone id) t.1)
running_taken holds old id (definition asked) new r t = (t.0, r, t.1, refl)
running_taken holds old id (references asked declared) new r t = (t.0, r, t.1, refl)
running_taken holds old id (document_symbol uri) new r t = (t.0, r, t.1, refl)
running_taken holds old id (prepare_rename asked) new r t = (t.0, r, t.1, refl)
running_taken holds old id (rename asked to) new r (inl t) = inl (t.0, r, t.1, refl)
running_taken holds old id (rename asked to) new r (inr (may, f)) = inr (may, fails old id RequestFailed lost_text new r f)
running_taken holds old id (code_action uri range) new r (inl t) = inl (t.0, r, t.1, refl)
running_taken holds old id (code_action uri range) new r (inr (may, f)) = inr (may, fails old id RequestFailed lost_text new r f)
running_taken holds old id unknown_method new r t = fails old id MethodNotFound (codes "the method is not known") new r t
running_taken holds old id invalid_params new r t = fails old id InvalidParams (codes "the parameters are not as they have to be") new r t

taken_in : (p : Phase) (holds : Holds) (old : SessionOf) (id : IdOf) (asked : RequestOf) (new : SessionOf) (r : Reply) → IsReplyIn p holds old asked new r → IsRequestIn p holds old id asked new (told_alone id r)
taken_in Fresh holds old id asked new r t = fresh_taken old id asked new r t
taken_in Running holds old id asked new r t = running_taken holds old id asked new r t
taken_in ShutDown holds old id asked new r t = fails old id InvalidRequest (codes "the server is shut down") new r t
taken_in Ended holds old id asked new r t = fails old id InvalidRequest (codes "the server is shut down") new r t
taken_in EndedEarly holds old id asked new r t = fails old id InvalidRequest (codes "the server is shut down") new r t

-- a request with its reply
pub reply_taken : (holds : Holds) (old : SessionOf) (id : IdOf) (asked : RequestOf) (new : SessionOf) (r : Reply) (replies : List Text) → IsAnsweredIn holds old asked new r → replies ≡ reply_text id r ∷ [] → IsRequestTaken holds old id asked new replies
reply_taken holds old id asked new r replies t is = subst (IsRequestTaken holds old id asked new) (sym is) (inl (taken_in old.phase holds old id asked new r t))

-- one for which memory does not suffice
pub memory_taken : (holds : Holds) (old : SessionOf) (id : IdOf) (asked : RequestOf) (new : SessionOf) (r : Reply) (replies : List Text) → IsFailed old RequestFailed (codes "out of memory") new r → replies ≡ reply_text id r ∷ [] → IsRequestTaken holds old id asked new replies
memory_taken holds old id asked new r replies f is = subst (IsRequestTaken holds old id asked new) (sym is) (inr (fails old id RequestFailed (codes "out of memory") new r f))

-- the reply of a request is put under its id
pub replied_is : (holds : Holds) (s : Session) (id : IdOf) (asked : RequestOf) (a : Answered) (r : Tried Outcome NoMemory) → IsAnsweredIn holds (session_of s) asked (changed (session_of s) a.change) a.reply
    → IfOk r (λ o. o.change ≡ a.change) → IfOk r (λ o. texts o.replies.items ≡ reply_text id a.reply ∷ [])
    → IfOk r (λ o. IsRequestTaken holds (session_of s) id asked (changed (session_of s) o.change) (texts o.replies.items))
replied_is holds s id asked a (Ok o) t same is =
    reply_taken holds (session_of s) id asked (changed (session_of s) o.change) a.reply (texts o.replies.items)
    (subst (λ (c : Change). IsAnsweredIn holds (session_of s) asked (changed (session_of s) c) a.reply) (sym same) t) is
replied_is holds s id asked a (Err e) t same is = tt

-- that it found no memory is
pub unreplied_is : (holds : Holds) (s : Session) (id : IdOf) (asked : RequestOf) (a : Answered) (r : Tried Outcome NoMemory) → IsFailed (session_of s) RequestFailed (codes "out of memory") (changed (session_of s) a.change) a.reply
    → IfOk r (λ o. o.change ≡ a.change) → IfOk r (λ o. texts o.replies.items ≡ reply_text id a.reply ∷ [])
    → IfOk r (λ o. IsRequestTaken holds (session_of s) id asked (changed (session_of s) o.change) (texts o.replies.items))
unreplied_is holds s id asked a (Ok o) f same is =
    memory_taken holds (session_of s) id asked (changed (session_of s) o.change) a.reply (texts o.replies.items)
    (subst (λ (c : Change). IsFailed (session_of s) RequestFailed (codes "out of memory") (changed (session_of s) c) a.reply) (sym same) f) is
unreplied_is holds s id asked a (Err e) f same is = tt

-- ---- what no arm of the code is for

pub fresh_failed : (old : SessionOf) (asked : Request) (new : SessionOf) (r : Reply) → ((root : Option (String Global)) (utf8 : Bool) → asked ≡ the.Initialize root utf8 → ⊥) → IsFailed old ServerNotInitialized (codes "initialize has not come yet") new r → IsFreshReply old (request_view asked) new r
fresh_failed old (the.Initialize root utf8) new r not f = absurd (not root utf8 refl)
fresh_failed old the.Shutdown new r not f = f
fresh_failed old (the.Definition at) new r not f = f
fresh_failed old (the.References at declared) new r not f = f
fresh_failed old (the.DocumentSymbol uri) new r not f = f
fresh_failed old (the.PrepareRename at) new r not f = f
fresh_failed old (the.Rename at to) new r not f = f
fresh_failed old (the.CodeAction uri range) new r not f = f
fresh_failed old the.UnknownMethod new r not f = f
fresh_failed old the.InvalidParams new r not f = f

pub unnamed_null : (v : ViewOf) (asked : Request) (r : Reply)
    → ((at : DocumentPosition) → asked ≡ the.Definition at → ⊥) → ((at : DocumentPosition) (declared : Bool) → asked ≡ the.References at declared → ⊥)
    → ((uri : String Global) → asked ≡ the.DocumentSymbol uri → ⊥) → ((at : DocumentPosition) → asked ≡ the.PrepareRename at → ⊥)
    → r ≡ Result answer.Null → IsNameReply v (request_view asked) r
unnamed_null v (the.Initialize root utf8) r d f s p is = is
unnamed_null v the.Shutdown r d f s p is = is
unnamed_null v (the.Definition at) r d f s p is = absurd (d at refl)
unnamed_null v (the.References at declared) r d f s p is = absurd (f at declared refl)
unnamed_null v (the.DocumentSymbol uri) r d f s p is = absurd (s uri refl)
unnamed_null v (the.PrepareRename at) r d f s p is = absurd (p at refl)
unnamed_null v (the.Rename at to) r d f s p is = is
unnamed_null v (the.CodeAction uri range) r d f s p is = is
unnamed_null v the.UnknownMethod r d f s p is = is
unnamed_null v the.InvalidParams r d f s p is = is

pub unedited_null : (v : ViewOf) (asked : Request) (r : Reply) → ((at : DocumentPosition) (to : String Global) → asked ≡ the.Rename at to → ⊥) → ((uri : String Global) (range : Range) → asked ≡ the.CodeAction uri range → ⊥) → r ≡ Result answer.Null → IsEditReply v (request_view asked) r
unedited_null v (the.Initialize root utf8) r e a is = is
unedited_null v the.Shutdown r e a is = is
unedited_null v (the.Definition at) r e a is = is
unedited_null v (the.References at declared) r e a is = is
unedited_null v (the.DocumentSymbol uri) r e a is = is
unedited_null v (the.PrepareRename at) r e a is = is
unedited_null v (the.Rename at to) r e a is = absurd (e at to refl)
unedited_null v (the.CodeAction uri range) r e a is = absurd (a uri range refl)
unedited_null v the.UnknownMethod r e a is = is
unedited_null v the.InvalidParams r e a is = is

-- a request about names is answered, and nothing changes
pub named_running : (holds : Holds) (old : SessionOf) (asked : Request) (new : SessionOf) (r : Reply)
    → ((root : Option (String Global)) (utf8 : Bool) → asked ≡ the.Initialize root utf8 → ⊥) → (asked ≡ the.Shutdown → ⊥)
    → ((at : DocumentPosition) (to : String Global) → asked ≡ the.Rename at to → ⊥) → ((uri : String Global) (range : Range) → asked ≡ the.CodeAction uri range → ⊥)
    → (asked ≡ the.UnknownMethod → ⊥) → (asked ≡ the.InvalidParams → ⊥)
    → new ≡ old → IsNameReply (view_of old) (request_view asked) r → IsRunningReply holds old (request_view asked) new r
named_running holds old (the.Initialize root utf8) new r i s e a u p same is = absurd (i root utf8 refl)
named_running holds old the.Shutdown new r i s e a u p same is = absurd (s refl)
named_running holds old (the.Definition at) new r i s e a u p same is = (same, is)
named_running holds old (the.References at declared) new r i s e a u p same is = (same, is)
named_running holds old (the.DocumentSymbol uri) new r i s e a u p same is = (same, is)
named_running holds old (the.PrepareRename at) new r i s e a u p same is = (same, is)
named_running holds old (the.Rename at to) new r i s e a u p same is = absurd (e at to refl)
named_running holds old (the.CodeAction uri range) new r i s e a u p same is = absurd (a uri range refl)
named_running holds old the.UnknownMethod new r i s e a u p same is = absurd (u refl)
named_running holds old the.InvalidParams new r i s e a u p same is = absurd (p refl)

-- the same of what may find no memory
pub named_is : (holds : Holds) (s : Session) (asked : Request) (r : Tried Answered NoMemory)
    → ((root : Option (String Global)) (utf8 : Bool) → asked ≡ the.Initialize root utf8 → ⊥) → (asked ≡ the.Shutdown → ⊥)
    → ((at : DocumentPosition) (to : String Global) → asked ≡ the.Rename at to → ⊥) → ((uri : String Global) (range : Range) → asked ≡ the.CodeAction uri range → ⊥)
    → (asked ≡ the.UnknownMethod → ⊥) → (asked ≡ the.InvalidParams → ⊥)
    → IfOk r (λ a. changed (session_of s) a.change ≡ session_of s) → IfOk r (λ a. IsNameReply (view_of (session_of s)) (request_view asked) a.reply)
    → IfOk r (λ a. IsRunningReply holds (session_of s) (request_view asked) (changed (session_of s) a.change) a.reply)
named_is holds s asked (Ok x) i h e a u p same is = named_running holds (session_of s) asked (changed (session_of s) x.change) x.reply i h e a u p same is
named_is holds s asked (Err x) i h e a u p same is = tt

-- ---- edits

-- the folder was read before
pub edited_read : (holds : Holds) (s : Session) (asked : RequestOf) (change : Change) (r : Tried Answered NoMemory) → IsReread holds (session_of s) (changed (session_of s) change) → IfOk r (λ a. a.change ≡ change) → IfOk r (λ a. IsEditReply (view_of (changed (session_of s) change)) asked a.reply)
    → IfOk r (λ a. IsEditAnswered holds (session_of s) asked (changed (session_of s) a.change) a.reply)
edited_read holds s asked change (Ok a) read same is =
    inl (subst (λ (c : Change). IsReread holds (session_of s) (changed (session_of s) c)) (sym same) read, subst (λ (c : Change). IsEditReply (view_of (changed (session_of s) c)) asked a.reply) (sym same) is)
edited_read holds s asked change (Err e) read same is = tt

-- it cannot be read
pub edited_lost : (holds : Holds) (s : Session) (asked : RequestOf) (r : Tried Answered NoMemory) → MayBeLost (holds s.profile) (session_of s).home → IfOk r (λ a. IsFailed (session_of s) RequestFailed lost_text (changed (session_of s) a.change) a.reply)
    → IfOk r (λ a. IsEditAnswered holds (session_of s) asked (changed (session_of s) a.change) a.reply)
edited_lost holds s asked (Ok a) may f = inr (may, f)
edited_lost holds s asked (Err e) may f = tt

-- ---- what `initialize` settles

pub begun_is : (s : Session) (change : Change) (home : Option Home) (e : Encoding) (root : Option Text) (utf8 : Bool) → change ≡ record (no_change s) { phase = Running } → option_map home_view home ≡ home_of (session_of s).word root → e ≡ agreed utf8
    → changed (session_of s) (record change { begun = Some (record { home = home; encoding = e }); waits = true }) ≡ begun (session_of s) root utf8
begun_is s change home e root utf8 is home_is e_is =
    ap (λ (x : Change). changed (session_of s) (record x { begun = Some (record { home = home; encoding = e }); waits = true })) is
    ∙ (ap (λ (h : Option HomeOf). record (session_of s) { phase = Running; home = h; encoding = e; waits = true }) home_is
    ∙ ap (λ (k : Encoding). record (session_of s) { phase = Running; home = home_of (session_of s).word root; encoding = k; waits = true }) e_is)
