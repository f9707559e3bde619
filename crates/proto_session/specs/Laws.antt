-- What holds of every run of a session.
use Rattle.std.specs.Prelude.{◌≡◌, All, Bool, false, List, [], Option, Some}
use Rattle.proto_base.specs.GivenFiles.{AreInLanguage}
use Rattle.proto_base.specs.Texts.{Path, Text}
use Rattle.proto_base.specs.declared.profile.Profile.{Profile}
use Rattle.proto_messages.specs.Messages.{MessageOf}
use Rattle.proto_serving.specs.Serving.{Run, Turn}
use Rattle.proto_session.specs.Sessions.{SessionOf, fresh_session, view_of}
use Rattle.proto_session.specs.Steps.{Holds, IsTurn, IsTurnOf, has_ended}
use Rattle.proto_session.specs.declared.session.Phase.TheVariants.{Fresh, Running}
use Rattle.proto_session_files.specs.Homes.{HomeOf, schema_of}
use Rattle.proto_session_files.specs.Laws.{AreApart}
use Rattle.proto_session_files.specs.Views.{OpenOf}
use Rattle.proto_session_told.specs.Telling.{IsToldOf}

-- What the client was told last is what is to be told of the files that it sees, unless the session
-- does not run or there may be more to tell.
abbrev pub IsCurrent : SessionOf → Type 0
IsCurrent s = s.phase ≡ Running → s.waits ≡ false → IsToldOf (view_of s) s.told

-- Each turn keeps this, and after a turn that no message follows nothing waits.
pub record TurnsAreTold : Type 0 where
  pub current : (holds : Holds) (old new : SessionOf) (message : Option MessageOf)
      (is_followed : Bool) (replies : List Text)
      → IsTurnOf holds old message is_followed replies new → IsCurrent old → IsCurrent new
  pub told : (holds : Holds) (old new : SessionOf) (message : Option MessageOf)
      (replies : List Text)
      → IsTurnOf holds old message false replies new → new.phase ≡ Running → new.waits ≡ false

-- So it is at any time of a run, whatever comes in.
abbrev pub RunsAreTold : Type 0
RunsAreTold =
    (holds : Holds) (profile : Profile) (word : Option Path) (turns : List Turn)
    (replies : List (List Text)) (new : SessionOf)
    → Run (IsTurn holds) (λ s. has_ended s.phase) (fresh_session profile word) turns replies new
    → IsCurrent new

-- the open text is at the path of the schema that its URI names
abbrev pub IsNamed : Option HomeOf → OpenOf → Type 0
IsNamed home o = schema_of home o.uri ≡ Some o.path

-- No two texts are open at one path, and each is at the path of the schema that its URI names; none
-- is open before `initialize`. The files of the folder are read in the language of the session.
pub record IsSound (s : SessionOf) : Type 0 where
  pub apart : AreApart s.opened
  pub named : All (IsNamed s.home) s.opened
  pub language : AreInLanguage s.profile s.disk
  pub fresh : s.phase ≡ Fresh → s.opened ≡ []

-- Each turn keeps this, and the language.
abbrev pub TurnsAreSound : Type 0
TurnsAreSound =
    (holds : Holds) (old new : SessionOf) (message : Option MessageOf) (is_followed : Bool)
    (replies : List Text)
    → IsTurnOf holds old message is_followed replies new → IsSound old
    → IsSound new × (new.profile ≡ old.profile)

-- So it is at any time of a run, whatever comes in.
abbrev pub RunsAreSound : Type 0
RunsAreSound =
    (holds : Holds) (profile : Profile) (word : Option Path) (turns : List Turn)
    (replies : List (List Text)) (new : SessionOf)
    → Run (IsTurn holds) (λ s. has_ended s.phase) (fresh_session profile word) turns replies new
    → IsSound new × (new.profile ≡ profile)
