-- What each turn keeps of the texts that are open.
use Rattle.std.proofs.Common.{◌≡◌, ℕ, Bool, true, false, cond, not, if◌then◌else◌, List, [], ◌∷◌, All, Option, Some, None, option_map, inl, inr, filter, refl, sym, subst, ◌∙◌, ap}
use Rattle.proto_base.proofs.Common.{All-append, All-cons, All-head, All-nil, All-tail}
use Rattle.proto_base.specs.Texts.{Path, Text}
use Rattle.proto_base.specs.declared.profile.Profile.{Profile}
use Rattle.proto_messages.specs.Messages.{DocumentOf, IdOf, MessageOf, NotificationOf, RequestOf, request, notification, response, no_message, initialize, shutdown, definition, references, document_symbol, prepare_rename, rename, code_action, unknown_method, invalid_params, initialized, did_open, did_change, did_change_nothing, did_change_in_range, did_save, did_close, exit, malformed, message_view, other}
use Rattle.proto_serving.specs.Serving.{Run, Turn}
use Rattle.proto_session.specs.Laws.{IsNamed, IsSound}
use Rattle.proto_session.specs.Sessions.{SessionOf, fresh_session}
use Rattle.proto_session.specs.Steps.{Holds, IsAnsweredAfterReading, IsChangedAt, IsClosedAt, IsIdleNotification, IsMessageTaken, IsNotificationIn, IsOpenedAt, IsReadAfter, IsRenumberedAt, IsRequestIn, IsReread, IsRunningNotification, IsRunningRequest, IsTelling, IsTurn, IsTurnOf, begun, has_ended, is_time, text_at, with_opened}
use Rattle.proto_session.specs.declared.session.Phase.{Phase}
use Rattle.proto_session.specs.declared.session.Phase.TheVariants.{Fresh, Running, ShutDown, Ended, EndedEarly}
use Rattle.proto_session_files.specs.Homes.{HomeOf, schema_of}
use Rattle.proto_session_files.specs.Laws.{AreApart, OpenTextsStayApart}
use Rattle.proto_session_files.specs.Views.{OpenOf, ViewOf, closed, is_at, of_version, with_open, with_version}
use Rattle.proto_session_replies.specs.Edits.{IsActionsReply}
use Rattle.proto_session_replies.specs.Replies.{IsRenameReply}
use Rattle.proto_session_replies.specs.declared.reply.Reply.{Reply}

-- ---- each text at the path that its URI names

fewer : (home : Option HomeOf) (keep : OpenOf → Bool) (os : List OpenOf) → All (IsNamed home) os → All (IsNamed home) (filter keep os)
fewer home keep [] all = all
fewer home keep (o ∷ os) all = go (keep o) (fewer home keep os (All-tail (IsNamed home) o os all))
  where
    go : (b : Bool) → All (IsNamed home) (filter keep os) → All (IsNamed home) (cond b (o ∷ filter keep os) (filter keep os))
    go true later = All-cons (IsNamed home) o (filter keep os) (All-head (IsNamed home) o os all) later
    go false later = later

one_more : (home : Option HomeOf) (o : OpenOf) (os : List OpenOf) → IsNamed home o → All (IsNamed home) os → All (IsNamed home) (with_open o os)
one_more home o os is all =
    All-append (IsNamed home) (closed o.path os) (o ∷ []) (fewer home (λ p. not (is_at o.path p)) os all) (All-cons (IsNamed home) o [] is (All-nil (IsNamed home)))

same_named : (home : Option HomeOf) (path : Path) (version : ℕ) (o : OpenOf) → IsNamed home o → IsNamed home (of_version path version o)
same_named home path version o is = go (is_at path o)
  where
    go : (b : Bool) → IsNamed home (if b then record o { version = version } else o)
    go true = is
    go false = is

renumbered : (home : Option HomeOf) (path : Path) (version : ℕ) (os : List OpenOf) → All (IsNamed home) os → All (IsNamed home) (with_version path version os)
renumbered home path version [] all = All-nil (IsNamed home)
renumbered home path version (o ∷ os) all =
    All-cons (IsNamed home) (of_version path version o) (with_version path version os) (same_named home path version o (All-head (IsNamed home) o os all)) (renumbered home path version os (All-tail (IsNamed home) o os all))

-- ---- sessions

-- a sound session is left sound, and of its language
abbrev Keeps : SessionOf → SessionOf → Type 0
Keeps old new = IsSound old → IsSound new × (new.profile ≡ old.profile)

same : (old new : SessionOf) → new ≡ old → Keeps old new
same old new e = λ s. (subst IsSound (sym e) s, ap (λ x. x.profile) e)

both : (old mid new : SessionOf) → Keeps old mid → Keeps mid new → Keeps old new
both old mid new one two = λ s.
    (let first = one s in
    let second = two first.0 in
    (second.0, second.1 ∙ first.1))

running_fresh : {P : Type 0} → Running ≡ Fresh → P
running_fresh e = cc

-- one in another phase
of_phase : (end : Phase) → (end ≡ Fresh → ⊥) → (old new : SessionOf) → new ≡ record old { phase = end } → Keeps old new
of_phase end late old new e = λ s. (
  subst IsSound (sym e) (record { apart = s.apart; named = s.named; language = s.language; fresh = λ f. absurd (late f) }),
  ap (λ x. x.profile) e,
)

-- one whose folder was read
reread : (holds : Holds) (old new : SessionOf) → IsReread holds old new → Keeps old new
reread holds old new r = λ s. (
  subst IsSound (sym r.session) (record { apart = s.apart; named = s.named; language = r.in_language; fresh = s.fresh }),
  ap (λ x. x.profile) r.session,
)

lost : (old new : SessionOf) → new ≡ record old { is_lost = true } → Keeps old new
lost old new e = λ s. (subst IsSound (sym e) (record { apart = s.apart; named = s.named; language = s.language; fresh = s.fresh }), ap (λ x. x.profile) e)

read_after : (holds : Holds) (old new : SessionOf) (replies : List Text) → IsReadAfter holds old new replies → Keeps old new
read_after holds old new replies (inl (r, _)) = reread holds old new r
read_after holds old new replies (inr (_, e, _)) = lost old new e

-- one with these open texts
opened : (os : List OpenOf) (old : SessionOf) → old.phase ≡ Running → (IsSound old → AreApart os) → (IsSound old → All (IsNamed old.home) os) → Keeps old (with_opened os old)
opened os old runs apart named = λ s. (record { apart = apart s; named = named s; language = s.language; fresh = λ f. running_fresh (sym runs ∙ f) }, refl)

-- ---- notifications

module _ (law : OpenTextsStayApart) where
  opened_one : (path : Path) (old : SessionOf) (d : DocumentOf) → old.phase ≡ Running → schema_of old.home d.uri ≡ Some path → Keeps old (with_opened (with_open (text_at path d) old.opened) old)
  opened_one path old d runs names =
      opened (with_open (text_at path d) old.opened) old runs (λ s. law.with_one (text_at path d) old.opened s.apart) (λ s. one_more old.home (text_at path d) old.opened names s.named)

  keeps_opened : (path : Option Path) (holds : Holds) (old : SessionOf) (d : DocumentOf) (new : SessionOf) (replies : List Text) → old.phase ≡ Running → schema_of old.home d.uri ≡ path → IsOpenedAt path holds old d new replies → Keeps old new
  keeps_opened None holds old d new replies runs names (e, _) = same old new e
  keeps_opened (Some path) holds old d new replies runs names t = both old _ new (opened_one path old d runs names) (read_after holds _ new replies t)

  keeps_changed : (path : Option Path) (old : SessionOf) (d : DocumentOf) (new : SessionOf) (replies : List Text) → old.phase ≡ Running → schema_of old.home d.uri ≡ path → IsChangedAt path old d new replies → Keeps old new
  keeps_changed None old d new replies runs names (e, _) = same old new e
  keeps_changed (Some path) old d new replies runs names (_, e, _) = both old _ new (opened_one path old d runs names) (same _ new e)

  keeps_renumbered : (path : Option Path) (old : SessionOf) (version : ℕ) (new : SessionOf) (replies : List Text) → old.phase ≡ Running → IsRenumberedAt path old version new replies → Keeps old new
  keeps_renumbered None old version new replies runs (e, _) = same old new e
  keeps_renumbered (Some path) old version new replies runs (e, _) =
      both old _ new (opened (with_version path version old.opened) old runs (λ s. law.with_another path version old.opened s.apart) (λ s. renumbered old.home path version old.opened s.named)) (same _ new e)

  keeps_closed : (path : Option Path) (holds : Holds) (old new : SessionOf) (replies : List Text) → old.phase ≡ Running → IsClosedAt path holds old new replies → Keeps old new
  keeps_closed None holds old new replies runs (e, _) = same old new e
  keeps_closed (Some path) holds old new replies runs t =
      both old _ new (opened (closed path old.opened) old runs (λ s. law.without path old.opened s.apart) (λ s. fewer old.home (λ o. not (is_at path o)) old.opened s.named)) (read_after holds _ new replies t)

  keeps_running : (holds : Holds) (old : SessionOf) (said : NotificationOf) (new : SessionOf) (replies : List Text) → old.phase ≡ Running → IsRunningNotification holds old said new replies → Keeps old new
  keeps_running holds old initialized new replies runs t = read_after holds old new replies t
  keeps_running holds old (did_open d) new replies runs t = keeps_opened (schema_of old.home d.uri) holds old d new replies runs refl t
  keeps_running holds old (did_change d) new replies runs t = keeps_changed (schema_of old.home d.uri) old d new replies runs refl t
  keeps_running holds old (did_change_nothing uri version) new replies runs t = keeps_renumbered (schema_of old.home uri) old version new replies runs t
  keeps_running holds old did_change_in_range new replies runs t = absurd t
  keeps_running holds old (did_save uri) new replies runs t = read_after holds old new replies t
  keeps_running holds old (did_close uri) new replies runs t = keeps_closed (schema_of old.home uri) holds old new replies runs t
  keeps_running holds old exit new replies runs (e, _) = of_phase EndedEarly (λ f. cc) old new e
  keeps_running holds old malformed new replies runs t = absurd t
  keeps_running holds old other new replies runs (e, _) = same old new e

  keeps_idle : (end : Phase) → (end ≡ Fresh → ⊥) → (old : SessionOf) (said : NotificationOf) (new : SessionOf) (replies : List Text) → IsIdleNotification end old said new replies → Keeps old new
  keeps_idle end late old exit new replies (e, _) = of_phase end late old new e
  keeps_idle end late old initialized new replies (e, _) = same old new e
  keeps_idle end late old (did_open d) new replies (e, _) = same old new e
  keeps_idle end late old (did_change d) new replies (e, _) = same old new e
  keeps_idle end late old (did_change_nothing uri version) new replies (e, _) = same old new e
  keeps_idle end late old did_change_in_range new replies (e, _) = same old new e
  keeps_idle end late old (did_save uri) new replies (e, _) = same old new e
  keeps_idle end late old (did_close uri) new replies (e, _) = same old new e
  keeps_idle end late old malformed new replies (e, _) = same old new e
  keeps_idle end late old other new replies (e, _) = same old new e

  keeps_notified : (p : Phase) (holds : Holds) (old : SessionOf) (said : NotificationOf) (new : SessionOf) (replies : List Text) → old.phase ≡ p → IsNotificationIn p holds old said new replies → Keeps old new
  keeps_notified Fresh holds old said new replies at t = keeps_idle EndedEarly (λ f. cc) old said new replies t
  keeps_notified Running holds old said new replies at t = keeps_running holds old said new replies at t
  keeps_notified ShutDown holds old said new replies at t = keeps_idle Ended (λ f. cc) old said new replies t
  keeps_notified Ended holds old said new replies at t = keeps_idle Ended (λ f. cc) old said new replies t
  keeps_notified EndedEarly holds old said new replies at t = keeps_idle EndedEarly (λ f. cc) old said new replies t

  -- ---- requests

  keeps_read : (holds : Holds) (old : SessionOf) (id : IdOf) (P : ViewOf → Reply → Type 0) (new : SessionOf) (replies : List Text) → IsAnsweredAfterReading holds old id P new replies → Keeps old new
  keeps_read holds old id P new replies (inl (r, _, _, _)) = reread holds old new r
  keeps_read holds old id P new replies (inr (_, f)) = same old new f.0

  keeps_asked : (holds : Holds) (old : SessionOf) (id : IdOf) (asked : RequestOf) (new : SessionOf) (replies : List Text) → IsRunningRequest holds old id asked new replies → Keeps old new
  keeps_asked holds old id (initialize root utf8) new replies (e, _) = same old new e
  keeps_asked holds old id shutdown new replies (e, _) = of_phase ShutDown (λ f. cc) old new e
  keeps_asked holds old id (definition asked) new replies (e, _, _, _) = same old new e
  keeps_asked holds old id (references asked declared) new replies (e, _, _, _) = same old new e
  keeps_asked holds old id (document_symbol uri) new replies (e, _, _, _) = same old new e
  keeps_asked holds old id (prepare_rename asked) new replies (e, _, _, _) = same old new e
  keeps_asked holds old id (rename asked to) new replies t = keeps_read holds old id (λ v. IsRenameReply v asked to) new replies t
  keeps_asked holds old id (code_action uri range) new replies t = keeps_read holds old id (λ v. IsActionsReply v uri range) new replies t
  keeps_asked holds old id unknown_method new replies (e, _) = same old new e
  keeps_asked holds old id invalid_params new replies (e, _) = same old new e

  -- `initialize` comes while no text is open
  keeps_begun : (old : SessionOf) (root : Option Text) (utf8 : Bool) → old.phase ≡ Fresh → Keeps old (begun old root utf8)
  keeps_begun old root utf8 at = λ s. (
    record {
      apart = s.apart;
      named = subst (All (IsNamed (begun old root utf8).home)) (sym (s.fresh at)) (All-nil (IsNamed (begun old root utf8).home));
      language = s.language;
      fresh = λ f. running_fresh f;
    },
    refl,
  )

  keeps_fresh : (holds : Holds) (old : SessionOf) (id : IdOf) (asked : RequestOf) (new : SessionOf) (replies : List Text) → old.phase ≡ Fresh → IsRequestIn Fresh holds old id asked new replies → Keeps old new
  keeps_fresh holds old id (initialize root utf8) new replies at (e, _) = both old _ new (keeps_begun old root utf8 at) (same _ new e)
  keeps_fresh holds old id shutdown new replies at (e, _) = same old new e
  keeps_fresh holds old id (definition asked) new replies at (e, _) = same old new e
  keeps_fresh holds old id (references asked declared) new replies at (e, _) = same old new e
  keeps_fresh holds old id (document_symbol uri) new replies at (e, _) = same old new e
  keeps_fresh holds old id (prepare_rename asked) new replies at (e, _) = same old new e
  keeps_fresh holds old id (rename asked to) new replies at (e, _) = same old new e
  keeps_fresh holds old id (code_action uri range) new replies at (e, _) = same old new e
  keeps_fresh holds old id unknown_method new replies at (e, _) = same old new e
  keeps_fresh holds old id invalid_params new replies at (e, _) = same old new e

  keeps_requested : (p : Phase) (holds : Holds) (old : SessionOf) (id : IdOf) (asked : RequestOf) (new : SessionOf) (replies : List Text) → old.phase ≡ p → IsRequestIn p holds old id asked new replies → Keeps old new
  keeps_requested Fresh holds old id asked new replies at t = keeps_fresh holds old id asked new replies at t
  keeps_requested Running holds old id asked new replies at t = keeps_asked holds old id asked new replies t
  keeps_requested ShutDown holds old id asked new replies at (e, _) = same old new e
  keeps_requested Ended holds old id asked new replies at (e, _) = same old new e
  keeps_requested EndedEarly holds old id asked new replies at (e, _) = same old new e

  -- ---- messages, turns and runs

  keeps_taken : (holds : Holds) (old : SessionOf) (m : Option MessageOf) (new : SessionOf) (replies : List Text) → IsMessageTaken holds old m new replies → Keeps old new
  keeps_taken holds old None new replies (e, _) = same old new e
  keeps_taken holds old (Some (request id asked)) new replies (inl t) = keeps_requested old.phase holds old id asked new replies refl t
  keeps_taken holds old (Some (request id asked)) new replies (inr (e, _)) = same old new e
  keeps_taken holds old (Some (notification said)) new replies t = keeps_notified old.phase holds old said new replies refl t
  keeps_taken holds old (Some response) new replies (e, _) = same old new e
  keeps_taken holds old (Some no_message) new replies (e, _) = same old new e

  keeps_telling : (b : Bool) (mid new : SessionOf) (told : List Text) → IsTelling b mid new told → Keeps mid new
  keeps_telling false mid new told (e, _) = same mid new e
  keeps_telling true mid new told (all, is, e, _) = λ s. (subst IsSound (sym e) (record { apart = s.apart; named = s.named; language = s.language; fresh = s.fresh }), ap (λ x. x.profile) e)

  pub sound_turn : (holds : Holds) (old new : SessionOf) (m : Option MessageOf) (is_followed : Bool) (replies : List Text) → IsTurnOf holds old m is_followed replies new → Keeps old new
  sound_turn holds old new m is_followed replies t =
      both old t.mid new (keeps_taken holds old m t.mid t.answered t.taken) (keeps_telling (is_time is_followed t.mid) t.mid new t.told t.telling)

  sound_from : (holds : Holds) (old new : SessionOf) (turns : List Turn) (replies : List (List Text)) → Run (IsTurn holds) (λ s. has_ended s.phase) old turns replies new → Keeps old new
  sound_from holds old new [] [] is = same old new is
  sound_from holds old new (t ∷ ts) (r ∷ rs) (_, mid, (m, _, turn), rest) =
      both old mid new (sound_turn holds old mid (option_map message_view m) t.is_followed r turn) (sound_from holds mid new ts rs rest)
  sound_from holds old new [] (r ∷ rs) x = absurd x
  sound_from holds old new (t ∷ ts) [] x = absurd x

  pub sound_run : (holds : Holds) (profile : Profile) (word : Option Path) (turns : List Turn) (replies : List (List Text)) (new : SessionOf) → Run (IsTurn holds) (λ s. has_ended s.phase) (fresh_session profile word) turns replies new
      → IsSound new × (new.profile ≡ profile)
  sound_run holds profile word turns replies new run =
      sound_from holds (fresh_session profile word) new turns replies run (record { apart = tt; named = All-nil (IsNamed None); language = All-nil (λ f. f.profile ≡ profile); fresh = λ _. refl })
