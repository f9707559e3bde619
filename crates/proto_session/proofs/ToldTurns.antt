-- What each turn keeps of what the client was told.
use Rattle.std.proofs.Common.{◌≡◌, ℕ, Bool, true, false, ◌&&◌, not, List, [], ◌∷◌, Option, Some, None, option_map, inl, inr, refl, sym, subst, ◌∙◌, ap}
use Rattle.proto_base.specs.Texts.{Path, Text}
use Rattle.proto_base.specs.declared.profile.Profile.{Profile}
use Rattle.proto_messages.specs.Messages.{DocumentOf, IdOf, MessageOf, NotificationOf, RequestOf, request, notification, response, no_message, initialize, shutdown, definition, references, document_symbol, prepare_rename, rename, code_action, unknown_method, invalid_params, initialized, did_open, did_change, did_change_nothing, did_change_in_range, did_save, did_close, exit, malformed, message_view, other}
use Rattle.proto_serving.specs.Serving.{Run, Turn}
use Rattle.proto_session.specs.Laws.{IsCurrent}
use Rattle.proto_session.specs.Sessions.{SessionOf, fresh_session, view_of}
use Rattle.proto_session.specs.Steps.{Holds, IsAnswered, IsAnsweredAfterReading, IsChangedAt, IsClosedAt, IsIdleNotification, IsMessageTaken, IsNotificationIn, IsOpenedAt, IsReadAfter, IsRenumberedAt, IsRequestIn, IsReread, IsRunningNotification, IsRunningRequest, IsTelling, IsTurn, IsTurnOf, begun, has_ended, is_running, is_time, with_opened}
use Rattle.proto_session.specs.declared.session.Phase.{Phase}
use Rattle.proto_session.specs.declared.session.Phase.TheVariants.{Fresh, Running, ShutDown, Ended, EndedEarly}
use Rattle.proto_session_files.specs.Homes.{schema_of}
use Rattle.proto_session_files.specs.Views.{OpenOf, ViewOf}
use Rattle.proto_session_replies.specs.Edits.{IsActionsReply}
use Rattle.proto_session_replies.specs.Replies.{IsRenameReply}
use Rattle.proto_session_replies.specs.declared.reply.Reply.{Reply}
use Rattle.proto_session_told.specs.Telling.{IsToldOf}

-- true is not false
clash : {P : Type 0} → true ≡ false → P
clash e = cc

-- a phase in which a session does not run is another
other_phase : {P : Type 0} (p : Phase) → is_running p ≡ false → p ≡ Running → P
other_phase p idle is = clash (sym (ap is_running is) ∙ idle)

-- ---- sessions that are current

-- one that waits
waiting : (s : SessionOf) → s.waits ≡ true → IsCurrent s
waiting s w = λ _ n. clash (sym w ∙ n)

-- one that does not run
idle_is : (s : SessionOf) (p : Phase) → s.phase ≡ p → is_running p ≡ false → IsCurrent s
idle_is s p is e = λ r _. clash (sym (ap is_running (sym is ∙ r)) ∙ e)

same : (old new : SessionOf) → new ≡ old → IsCurrent old → IsCurrent new
same old new e c = subst IsCurrent (sym e) c

-- ---- after a reading

reread : (holds : Holds) (old new : SessionOf) → IsReread holds old new → IsCurrent old → IsCurrent new
reread holds old new r c =
    subst IsCurrent (sym r.session) (λ runs quiet.
    let stays : (old.waits ≡ false) × (r.disk ≡ old.disk) = r.stays quiet in
    subst (λ d. IsToldOf (view_of (record old { disk = d; is_lost = false; waits = r.waits })) old.told) (sym stays.1) (c runs stays.0))

lost : (old new : SessionOf) → new ≡ record old { is_lost = true } → IsCurrent old → IsCurrent new
lost old new e c = subst IsCurrent (sym e) (λ runs quiet. c runs quiet)

read_after : (holds : Holds) (old new : SessionOf) (replies : List Text) → IsReadAfter holds old new replies → IsCurrent old → IsCurrent new
read_after holds old new replies (inl (r, _)) c = reread holds old new r c
read_after holds old new replies (inr (_, e, _)) c = lost old new e c

-- ---- notifications

opened_waits : (opened : List OpenOf) (old : SessionOf) → IsCurrent (with_opened opened old)
opened_waits opened old = λ _ n. clash n

keeps_opened : (path : Option Path) (holds : Holds) (old : SessionOf) (d : DocumentOf) (new : SessionOf) (replies : List Text) → IsOpenedAt path holds old d new replies → IsCurrent old → IsCurrent new
keeps_opened None holds old d new replies (e, _) c = same old new e c
keeps_opened (Some path) holds old d new replies t c = read_after holds _ new replies t (opened_waits _ old)

keeps_changed : (path : Option Path) (old : SessionOf) (d : DocumentOf) (new : SessionOf) (replies : List Text) → IsChangedAt path old d new replies → IsCurrent old → IsCurrent new
keeps_changed None old d new replies (e, _) c = same old new e c
keeps_changed (Some path) old d new replies (_, e, _) c = same _ new e (opened_waits _ old)

keeps_renumbered : (path : Option Path) (old : SessionOf) (version : ℕ) (new : SessionOf) (replies : List Text) → IsRenumberedAt path old version new replies → IsCurrent old → IsCurrent new
keeps_renumbered None old version new replies (e, _) c = same old new e c
keeps_renumbered (Some path) old version new replies (e, _) c = same _ new e (opened_waits _ old)

keeps_closed : (path : Option Path) (holds : Holds) (old new : SessionOf) (replies : List Text) → IsClosedAt path holds old new replies → IsCurrent old → IsCurrent new
keeps_closed None holds old new replies (e, _) c = same old new e c
keeps_closed (Some path) holds old new replies t c = read_after holds _ new replies t (opened_waits _ old)

keeps_running : (holds : Holds) (old : SessionOf) (said : NotificationOf) (new : SessionOf) (replies : List Text) → IsRunningNotification holds old said new replies → IsCurrent old → IsCurrent new
keeps_running holds old initialized new replies t c = read_after holds old new replies t c
keeps_running holds old (did_open d) new replies t c = keeps_opened (schema_of old.home d.uri) holds old d new replies t c
keeps_running holds old (did_change d) new replies t c = keeps_changed (schema_of old.home d.uri) old d new replies t c
keeps_running holds old (did_change_nothing uri version) new replies t c = keeps_renumbered (schema_of old.home uri) old version new replies t c
keeps_running holds old did_change_in_range new replies t c = absurd t
keeps_running holds old (did_save uri) new replies t c = read_after holds old new replies t c
keeps_running holds old (did_close uri) new replies t c = keeps_closed (schema_of old.home uri) holds old new replies t c
keeps_running holds old exit new replies (e, _) c = same (record old { phase = EndedEarly }) new e (idle_is (record old { phase = EndedEarly }) EndedEarly refl refl)
keeps_running holds old malformed new replies t c = absurd t
keeps_running holds old other new replies (e, _) c = same old new e c

keeps_idle : (end : Phase) → is_running end ≡ false → (old : SessionOf) (said : NotificationOf) (new : SessionOf) (replies : List Text) → IsIdleNotification end old said new replies → IsCurrent old → IsCurrent new
keeps_idle end idle old exit new replies (e, _) c = same (record old { phase = end }) new e (idle_is (record old { phase = end }) end refl idle)
keeps_idle end idle old initialized new replies (e, _) c = same old new e c
keeps_idle end idle old (did_open d) new replies (e, _) c = same old new e c
keeps_idle end idle old (did_change d) new replies (e, _) c = same old new e c
keeps_idle end idle old (did_change_nothing uri version) new replies (e, _) c = same old new e c
keeps_idle end idle old did_change_in_range new replies (e, _) c = same old new e c
keeps_idle end idle old (did_save uri) new replies (e, _) c = same old new e c
keeps_idle end idle old (did_close uri) new replies (e, _) c = same old new e c
keeps_idle end idle old malformed new replies (e, _) c = same old new e c
keeps_idle end idle old other new replies (e, _) c = same old new e c

keeps_notified : (p : Phase) (holds : Holds) (old : SessionOf) (said : NotificationOf) (new : SessionOf) (replies : List Text) → IsNotificationIn p holds old said new replies → IsCurrent old → IsCurrent new
keeps_notified Fresh holds old said new replies t c = keeps_idle EndedEarly refl old said new replies t c
keeps_notified Running holds old said new replies t c = keeps_running holds old said new replies t c
keeps_notified ShutDown holds old said new replies t c = keeps_idle Ended refl old said new replies t c
keeps_notified Ended holds old said new replies t c = keeps_idle Ended refl old said new replies t c
keeps_notified EndedEarly holds old said new replies t c = keeps_idle EndedEarly refl old said new replies t c

-- ---- requests

keeps_answered : (old : SessionOf) (id : IdOf) (P : Reply → Type 0) (new : SessionOf) (replies : List Text) → IsAnswered old id P new replies → IsCurrent old → IsCurrent new
keeps_answered old id P new replies (e, _, _, _) c = same old new e c

keeps_read : (holds : Holds) (old : SessionOf) (id : IdOf) (P : ViewOf → Reply → Type 0) (new : SessionOf) (replies : List Text) → IsAnsweredAfterReading holds old id P new replies → IsCurrent old → IsCurrent new
keeps_read holds old id P new replies (inl (r, _, _, _)) c = reread holds old new r c
keeps_read holds old id P new replies (inr (_, f)) c = same old new f.0 c

keeps_asked : (holds : Holds) (old : SessionOf) (id : IdOf) (asked : RequestOf) (new : SessionOf) (replies : List Text) → IsRunningRequest holds old id asked new replies → IsCurrent old → IsCurrent new
keeps_asked holds old id (initialize root utf8) new replies (e, _) c = same old new e c
keeps_asked holds old id shutdown new replies (e, _) c = same (record old { phase = ShutDown }) new e (idle_is (record old { phase = ShutDown }) ShutDown refl refl)
keeps_asked holds old id (definition asked) new replies (e, _, _, _) c = same old new e c
keeps_asked holds old id (references asked declared) new replies (e, _, _, _) c = same old new e c
keeps_asked holds old id (document_symbol uri) new replies (e, _, _, _) c = same old new e c
keeps_asked holds old id (prepare_rename asked) new replies (e, _, _, _) c = same old new e c
keeps_asked holds old id (rename asked to) new replies t c = keeps_read holds old id (λ v. IsRenameReply v asked to) new replies t c
keeps_asked holds old id (code_action uri range) new replies t c = keeps_read holds old id (λ v. IsActionsReply v uri range) new replies t c
keeps_asked holds old id unknown_method new replies (e, _) c = same old new e c
keeps_asked holds old id invalid_params new replies (e, _) c = same old new e c

begun_waits : (s : SessionOf) (root : Option Text) (utf8 : Bool) → IsCurrent (begun s root utf8)
begun_waits s root utf8 = λ _ n. clash n

keeps_fresh : (holds : Holds) (old : SessionOf) (id : IdOf) (asked : RequestOf) (new : SessionOf) (replies : List Text) → IsRequestIn Fresh holds old id asked new replies → IsCurrent old → IsCurrent new
keeps_fresh holds old id (initialize root utf8) new replies (e, _) c = same _ new e (begun_waits old root utf8)
keeps_fresh holds old id shutdown new replies (e, _) c = same old new e c
keeps_fresh holds old id (definition asked) new replies (e, _) c = same old new e c
keeps_fresh holds old id (references asked declared) new replies (e, _) c = same old new e c
keeps_fresh holds old id (document_symbol uri) new replies (e, _) c = same old new e c
keeps_fresh holds old id (prepare_rename asked) new replies (e, _) c = same old new e c
keeps_fresh holds old id (rename asked to) new replies (e, _) c = same old new e c
keeps_fresh holds old id (code_action uri range) new replies (e, _) c = same old new e c
keeps_fresh holds old id unknown_method new replies (e, _) c = same old new e c
keeps_fresh holds old id invalid_params new replies (e, _) c = same old new e c

keeps_requested : (p : Phase) (holds : Holds) (old : SessionOf) (id : IdOf) (asked : RequestOf) (new : SessionOf) (replies : List Text) → IsRequestIn p holds old id asked new replies → IsCurrent old → IsCurrent new
keeps_requested Fresh holds old id asked new replies t c = keeps_fresh holds old id asked new replies t c
keeps_requested Running holds old id asked new replies t c = keeps_asked holds old id asked new replies t c
keeps_requested ShutDown holds old id asked new replies (e, _) c = same old new e c
keeps_requested Ended holds old id asked new replies (e, _) c = same old new e c
keeps_requested EndedEarly holds old id asked new replies (e, _) c = same old new e c

-- ---- messages and turns

keeps_taken : (holds : Holds) (old : SessionOf) (m : Option MessageOf) (new : SessionOf) (replies : List Text) → IsMessageTaken holds old m new replies → IsCurrent old → IsCurrent new
keeps_taken holds old None new replies (e, _) c = same old new e c
keeps_taken holds old (Some (request id asked)) new replies (inl t) c = keeps_requested old.phase holds old id asked new replies t c
keeps_taken holds old (Some (request id asked)) new replies (inr (e, _)) c = same old new e c
keeps_taken holds old (Some (notification said)) new replies t c = keeps_notified old.phase holds old said new replies t c
keeps_taken holds old (Some response) new replies (e, _) c = same old new e c
keeps_taken holds old (Some no_message) new replies (e, _) c = same old new e c

keeps_telling : (b : Bool) (mid new : SessionOf) (told : List Text) → IsTelling b mid new told → IsCurrent mid → IsCurrent new
keeps_telling false mid new told (e, _) c = same mid new e c
keeps_telling true mid new told (all, is, e, _) c = subst IsCurrent (sym e) (λ _ _. is)

pub keeps_turn : (holds : Holds) (old new : SessionOf) (m : Option MessageOf) (is_followed : Bool) (replies : List Text) → IsTurnOf holds old m is_followed replies new → IsCurrent old → IsCurrent new
keeps_turn holds old new m is_followed replies t c =
    keeps_telling (is_time is_followed t.mid) t.mid new t.told t.telling (keeps_taken holds old m t.mid t.answered t.taken c)

-- ---- runs

pub keeps_run : (holds : Holds) (old new : SessionOf) (turns : List Turn) (replies : List (List Text)) → Run (IsTurn holds) (λ s. has_ended s.phase) old turns replies new → IsCurrent old → IsCurrent new
keeps_run holds old new [] [] is c = subst IsCurrent (sym is) c
keeps_run holds old new (t ∷ ts) (r ∷ rs) (_, mid, (m, _, turn), rest) c =
    keeps_run holds mid new ts rs rest (keeps_turn holds old mid (option_map message_view m) t.is_followed r turn c)
keeps_run holds old new [] (r ∷ rs) x c = absurd x
keeps_run holds old new (t ∷ ts) [] x c = absurd x

pub run_told : (holds : Holds) (profile : Profile) (word : Option Path) (turns : List Turn) (replies : List (List Text)) (new : SessionOf) → Run (IsTurn holds) (λ s. has_ended s.phase) (fresh_session profile word) turns replies new → IsCurrent new
run_told holds profile word turns replies new run = keeps_run holds (fresh_session profile word) new turns replies run (idle_is (fresh_session profile word) Fresh refl refl)

-- ---- nothing waits where no message follows

-- a running session for which it is no time does not wait
no_time : (p : Phase) (w : Bool) → is_running p && w && not false ≡ false → p ≡ Running → w ≡ false
no_time Running false e is = refl
no_time Running true e is = clash e
no_time Fresh w e is = other_phase Fresh refl is
no_time ShutDown w e is = other_phase ShutDown refl is
no_time Ended w e is = other_phase Ended refl is
no_time EndedEarly w e is = other_phase EndedEarly refl is

quiet : (mid new : SessionOf) (told : List Text) (b : Bool) → is_time false mid ≡ b → IsTelling b mid new told → new.phase ≡ Running → new.waits ≡ false
quiet mid new told false time (e, _) runs =
    ap (λ s. s.waits) e ∙ no_time mid.phase mid.waits time (sym (ap (λ s. s.phase) e) ∙ runs)
quiet mid new told true time (all, is, e, _) runs = ap (λ s. s.waits) e

pub nothing_waits : (holds : Holds) (old new : SessionOf) (m : Option MessageOf) (replies : List Text) → IsTurnOf holds old m false replies new → new.phase ≡ Running → new.waits ≡ false
nothing_waits holds old new m replies t runs = quiet t.mid new t.told (is_time false t.mid) refl t.telling runs
