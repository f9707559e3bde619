-- What changes make of a session.
use Rattle.std.proofs.Common.{◌≡◌, ◌+◌, ◌<◌, ◌≤◌, ◌++◌, ℕ, List, [], ◌∷◌, String, Global, get_or, length, map, take, take_all, true, false, true≢false, Option, Some, None, option_map, Result, Ok, Err, inl, inr, refl, sym, ap, subst, ◌∙◌}
use Rattle.std.specs.Prelude.{IfOk}
use Rattle.proto_base.proofs.Common.{FileOf, Path, Text, Vec, map_more, option_map_or}
use Rattle.proto_base.specs.GivenFiles.{AreInLanguage, file_of, files_of, files_of_as}
use Rattle.proto_messages.specs.Messages.{DocumentOf, notification_view}
use Rattle.proto_messages.specs.declared.message.Notification.TheVariants as the
use Rattle.proto_messages.specs.declared.message.Notification.{Notification}
use Rattle.proto_serving.specs.Serving.{texts}
use Rattle.proto_serving.specs.declared.fault.TakeFault.{TakeFault}
use Rattle.proto_session.specs.Changes.{IsOpenedChange, changed}
use Rattle.proto_session.specs.Sessions.{SessionOf, session_of}
use Rattle.proto_session.specs.Steps.{AreFilesOf, Holds, IsChangedAt, IsClosedAt, IsIdleNotification, IsOpenedAt, IsPassedOver, IsReadAfter, IsRenumberedAt, IsReread, MayBeLost, lost_messages, text_at, with_opened}
use Rattle.proto_session.specs.declared.changing.Begun.{Begun}
use Rattle.proto_session.specs.declared.changing.Change.{Change}
use Rattle.proto_session.specs.declared.changing.Outcome.{Outcome}
use Rattle.proto_session.specs.declared.session.Phase.{Phase}
use Rattle.proto_session.specs.declared.session.Session.{Session}
use Rattle.proto_session_files.proofs.InLanguage.{all_in}
use Rattle.proto_session_files.specs.Homes.{HomeOf}
use Rattle.proto_session_files.specs.Views.{OpenOf, closed, home_view, is_open, open_of, with_open, with_version}
use Rattle.proto_session_files.specs.declared.home.Home.{Home}
use Rattle.proto_session_files.specs.declared.open_text.OpenText.{OpenText}

-- ---- the same files

abbrev Given : Type 0
Given = String Global × Vec ℕ

pub same_more : (xs ys : List Given) (i : ℕ) (x y : Given) → i < length xs → i < length ys → x ≡ get_or xs i x → y ≡ get_or ys i y → files_of (take i xs) ≡ files_of (take i ys) → file_of x ≡ file_of y → files_of (take (i + 1) xs) ≡ files_of (take (i + 1) ys)
same_more xs ys i x y l m at there before here =
    map_more file_of xs i x l
    ∙ (ap (λ (z : Given). files_of (take i xs) ++ file_of z ∷ []) (sym at)
    ∙ (ap (λ (fs : List FileOf). fs ++ file_of x ∷ []) before
    ∙ (ap (λ (f : FileOf). files_of (take i ys) ++ f ∷ []) here
    ∙ (ap (λ (z : Given). files_of (take i ys) ++ file_of z ∷ []) there
    ∙ sym (map_more file_of ys i y m)))))

pub same_all : (xs ys : List Given) (i : ℕ) → length xs ≤ i → length ys ≤ i → files_of (take i xs) ≡ files_of (take i ys) → files_of xs ≡ files_of ys
same_all xs ys i l m before = ap files_of (sym (take_all i xs l)) ∙ (before ∙ ap files_of (take_all i ys m))

-- ---- a change, part by part

pub all_made : (old two three five : Session) (c : Change)
    → session_of two ≡ record (session_of (record old { phase = c.phase })) { home = option_map_or (λ (b : Begun). option_map home_view b.home) c.begun (session_of old).home; encoding = option_map_or (λ (b : Begun). b.encoding) c.begun old.encoding }
    → session_of three ≡ record (session_of two) { disk = option_map_or (λ (d : Vec Given). files_of_as two.profile d.items) c.disk (session_of two).disk }
    → session_of five ≡ record (session_of (record three { is_lost = c.is_lost })) { opened = option_map_or (λ (o : Vec OpenText). map open_of o.items) c.opened (session_of (record three { is_lost = c.is_lost })).opened }
    → session_of (record five { waits = c.waits }) ≡ changed (session_of old) c
all_made old two three five c begun disk opened =
    ap (λ (s : SessionOf). record s { waits = c.waits })
    (opened ∙ ap (λ (s : SessionOf). record s { is_lost = c.is_lost; opened = option_map_or (λ (o : Vec OpenText). map open_of o.items) c.opened s.opened })
    (disk ∙ ap (λ (s : SessionOf). record s { disk = option_map_or (λ (d : Vec Given). files_of_as s.profile d.items) c.disk s.disk }) begun))

-- a change that settles nothing has the home from before
same_home : (s : Session) (change : Change) → change.begun ≡ None → (changed (session_of s) change).home ≡ (session_of s).home
same_home s change kept = ap (λ (o : Option Begun). option_map_or (λ (b : Begun). option_map home_view b.home) o (session_of s).home) kept

-- ---- a reading

-- the files are the same as before
pub reread_same : (holds : Holds) (s : Session) (change : Change) (files : List FileOf) → change.disk ≡ None → files_of_as s.profile s.disk.items ≡ files → AreInLanguage s.profile files → (home : HomeOf) → (changed (session_of s) change).home ≡ Some home → AreFilesOf (holds s.profile home.folder) files → IsReread holds (changed (session_of s) change) (changed (session_of s) (record change { is_lost = false }))
reread_same holds s change files kept same language home home_is are =
    let disk : (changed (session_of s) change).disk ≡ files = ap (λ (o : Option (Vec Given)). option_map_or (λ (d : Vec Given). files_of_as s.profile d.items) o (files_of_as s.profile s.disk.items)) kept ∙ same in
    record {
      home = home;
      home_is = home_is;
      disk = (changed (session_of s) change).disk;
      waits = change.waits;
      are_files = subst (AreFilesOf (holds s.profile home.folder)) (sym disk) are;
      in_language = subst (AreInLanguage s.profile) (sym disk) language;
      stays = λ quiet. (quiet, refl);
      session = refl;
    }

-- they are others
pub reread_new : (holds : Holds) (s : Session) (change : Change) (files : Vec Given) (home : HomeOf) → (changed (session_of s) change).home ≡ Some home → AreFilesOf (holds s.profile home.folder) (files_of_as s.profile files.items) → IsReread holds (changed (session_of s) change) (changed (session_of s) (record change { is_lost = false; disk = Some files; waits = true }))
reread_new holds s change files home home_is are = record {
  home = home;
  home_is = home_is;
  disk = files_of_as s.profile files.items;
  waits = true;
  are_files = are;
  in_language = all_in s.profile files.items;
  stays = λ quiet. absurd (true≢false quiet);
  session = refl;
}

-- the folder of no home, and one of which nothing is known, may be lost
pub lost_nowhere : (holds : Path → Option (List FileOf)) (home : Option Home) → None ≡ home → MayBeLost holds (option_map home_view home)
lost_nowhere holds home none = subst (λ (h : Option Home). MayBeLost holds (option_map home_view h)) none tt

pub lost_there : (holds : Path → Option (List FileOf)) (home : Option Home) (there : Home) → Some there ≡ home → holds there.folder.items ≡ None → MayBeLost holds (option_map home_view home)
lost_there holds home there is unknown_ = subst (λ (h : Option Home). MayBeLost holds (option_map home_view h)) is unknown_

-- so after a change that settles no home
pub lost_still : (holds : Path → Option (List FileOf)) (s : Session) (change : Change) → change.begun ≡ None → MayBeLost holds (session_of s).home → MayBeLost holds (changed (session_of s) change).home
lost_still holds s change kept may = subst (MayBeLost holds) (sym (same_home s change kept)) may

-- the folder cannot be read
pub lost_after : (holds : Holds) (s : Session) (change : Change) (r : Result Outcome TakeFault) → MayBeLost (holds s.profile) (changed (session_of s) change).home → IfOk r (λ o. o.change ≡ record change { is_lost = true }) → IfOk r (λ o. texts o.replies.items ≡ lost_messages change.is_lost) → IfOk r (λ o. IsReadAfter holds (changed (session_of s) change) (changed (session_of s) o.change) (texts o.replies.items))
lost_after holds s change (Ok o) may is said = inr (may, ap (changed (session_of s)) is, said)
lost_after holds s change (Err fault) may is said = tt

-- the folder is read after a change that settles no home
pub read_there : (holds : Holds) (s : Session) (change next : Change) (files : List FileOf) (home : HomeOf) (replies : List Text) → change.begun ≡ None → (session_of s).home ≡ Some home → AreFilesOf (holds s.profile home.folder) files
    → ((h : HomeOf) → (changed (session_of s) change).home ≡ Some h → AreFilesOf (holds s.profile h.folder) files → IsReread holds (changed (session_of s) change) (changed (session_of s) next))
    → replies ≡ [] → IsReadAfter holds (changed (session_of s) change) (changed (session_of s) next) replies
read_there holds s change next files home replies kept is are reread none = inl (reread home (same_home s change kept ∙ is) are, none)

-- ---- texts that are opened, changed and closed

pub opened_is : (s : Session) (opened : List OpenOf) (c : Change) → IsOpenedChange s opened c → changed (session_of s) c ≡ with_opened opened (session_of s)
opened_is s opened c is = ap (changed (session_of s)) is.change ∙ ap (λ (o : List OpenOf). with_opened o (session_of s)) is.are_opened

-- the open texts with that of a document, whose parts are copied
pub opened_texts : (path : Path) (d : DocumentOf) (uri text : Text) (opened : List OpenOf) → uri ≡ d.uri → text ≡ d.text → with_open (record (text_at path d) { uri = uri; text = text }) opened ≡ with_open (text_at path d) opened
opened_texts path d uri text opened uri_is text_is =
    ap (λ (u : Text). with_open (record (text_at path d) { uri = u; text = text }) opened) uri_is
    ∙ ap (λ (t : Text). with_open (record (text_at path d) { text = t }) opened) text_is

-- a change to which nothing is replied
pub quiet_taken : (P : SessionOf → List Text → Type 0) (s : SessionOf) (c next : Change) (replies : List (Vec ℕ)) → c ≡ next → replies ≡ [] → P (changed s next) [] → P (changed s c) (texts replies)
quiet_taken P s c next replies same none taken =
    subst (λ (x : Change). P (changed s x) (texts replies)) (sym same) (subst (λ (r : List (Vec ℕ)). P (changed s next) (texts r)) (sym none) taken)

-- what a document at no path makes
pub opened_nowhere : (holds : Holds) (old : SessionOf) (d : DocumentOf) (path : Option Path) → path ≡ None → IsOpenedAt path holds old d old []
opened_nowhere holds old d path none = subst (λ (p : Option Path). IsOpenedAt p holds old d old []) (sym none) (refl, refl)

pub changed_nowhere : (old : SessionOf) (d : DocumentOf) (path : Option Path) → path ≡ None → IsChangedAt path old d old []
changed_nowhere old d path none = subst (λ (p : Option Path). IsChangedAt p old d old []) (sym none) (refl, refl)

pub renumbered_nowhere : (old : SessionOf) (version : ℕ) (path : Option Path) → path ≡ None → IsRenumberedAt path old version old []
renumbered_nowhere old version path none = subst (λ (p : Option Path). IsRenumberedAt p old version old []) (sym none) (refl, refl)

pub closed_nowhere : (holds : Holds) (old : SessionOf) (path : Option Path) → path ≡ None → IsClosedAt path holds old old []
closed_nowhere holds old path none = subst (λ (p : Option Path). IsClosedAt p holds old old []) (sym none) (refl, refl)

-- what one at a path makes
pub opened_there : (holds : Holds) (s : Session) (d : DocumentOf) (path : Path) (asked : Option Path) (c : Change) (new : SessionOf) (replies : List Text) → asked ≡ Some path → IsOpenedChange s (with_open (text_at path d) (session_of s).opened) c → IsReadAfter holds (changed (session_of s) c) new replies → IsOpenedAt asked holds (session_of s) d new replies
opened_there holds s d path asked c new replies is opened read =
    subst (λ (p : Option Path). IsOpenedAt p holds (session_of s) d new replies) (sym is)
    (subst (λ (o : SessionOf). IsReadAfter holds o new replies) (opened_is s (with_open (text_at path d) (session_of s).opened) c opened) read)

pub changed_there : (s : Session) (d : DocumentOf) (path : Path) (asked : Option Path) (c : Change) → asked ≡ Some path → is_open path (session_of s).opened ≡ true → IsOpenedChange s (with_open (text_at path d) (session_of s).opened) c → IsChangedAt asked (session_of s) d (changed (session_of s) c) []
changed_there s d path asked c is there opened =
    subst (λ (p : Option Path). IsChangedAt p (session_of s) d (changed (session_of s) c) []) (sym is)
    (there, opened_is s (with_open (text_at path d) (session_of s).opened) c opened, refl)

pub renumbered_there : (s : Session) (version : ℕ) (path : Path) (asked : Option Path) (c : Change) → asked ≡ Some path → IsOpenedChange s (with_version path version (session_of s).opened) c → IsRenumberedAt asked (session_of s) version (changed (session_of s) c) []
renumbered_there s version path asked c is opened =
    subst (λ (p : Option Path). IsRenumberedAt p (session_of s) version (changed (session_of s) c) []) (sym is)
    (opened_is s (with_version path version (session_of s).opened) c opened, refl)

pub closed_there : (holds : Holds) (s : Session) (path : Path) (asked : Option Path) (c : Change) (new : SessionOf) (replies : List Text) → asked ≡ Some path → IsOpenedChange s (closed path (session_of s).opened) c → IsReadAfter holds (changed (session_of s) c) new replies → IsClosedAt asked holds (session_of s) new replies
closed_there holds s path asked c new replies is opened read =
    subst (λ (p : Option Path). IsClosedAt p holds (session_of s) new replies) (sym is)
    (subst (λ (o : SessionOf). IsReadAfter holds o new replies) (opened_is s (closed path (session_of s).opened) c opened) read)

-- what is said to a session that does not run, where it is not `exit`
pub idle_passed : (end : Phase) (old : SessionOf) (said : Notification) (new : SessionOf) (replies : List Text) → (said ≡ the.Exit → ⊥) → IsPassedOver old new replies → IsIdleNotification end old (notification_view said) new replies
idle_passed end old the.Initialized new replies other passed = passed
idle_passed end old (the.DidOpen d) new replies other passed = passed
idle_passed end old (the.DidChange d) new replies other passed = passed
idle_passed end old (the.DidChangeNothing uri version) new replies other passed = passed
idle_passed end old the.DidChangeInRange new replies other passed = passed
idle_passed end old (the.DidSave uri) new replies other passed = passed
idle_passed end old (the.DidClose uri) new replies other passed = passed
idle_passed end old the.Exit new replies other passed = absurd (other refl)
idle_passed end old the.Malformed new replies other passed = passed
idle_passed end old the.Other new replies other passed = passed
