-- What a change makes of a session.
use Rattle.std.specs.Prelude.{◌≡◌, false, true, List, map, Option, Some, None, option_map}
use Rattle.std.specs.Global.{Vec}
use Rattle.std.specs.Option.{option_map_or}
use Rattle.proto_base.specs.GivenFiles.{files_of_as}
use Rattle.proto_session.specs.Sessions.{SessionOf}
use Rattle.proto_session.specs.declared.changing.Change.{Change}
use Rattle.proto_session.specs.declared.session.Session.{Session}
use Rattle.proto_session_files.specs.Views.{OpenOf, home_view, open_of}
use Rattle.proto_session_files.specs.declared.open_text.OpenText.{OpenText}
use Rattle.proto_session_told.specs.Telling.{told_of}
use Rattle.proto_session_told.specs.declared.telling.Told.{Told}

-- nothing changes
abbrev pub no_change : Session → Change
no_change s = record {
  phase = s.phase;
  begun = None;
  disk = None;
  is_lost = s.is_lost;
  opened = None;
  waits = s.waits;
}

-- a session after a change
abbrev pub changed : SessionOf → Change → SessionOf
changed s c = record s {
  phase = c.phase;
  home = option_map_or (λ b. option_map home_view b.home) c.begun s.home;
  encoding = option_map_or (λ b. b.encoding) c.begun s.encoding;
  disk = option_map_or (λ d. files_of_as s.profile d.items) c.disk s.disk;
  is_lost = c.is_lost;
  opened = option_map_or (λ o. map open_of o.items) c.opened s.opened;
  waits = c.waits;
}

-- a change to these open texts, after which there may be more to tell
pub record IsOpenedChange (s : Session) (opened : List OpenOf) (c : Change) : Type 0 where
  pub texts : Vec OpenText
  pub are_opened : map open_of texts.items ≡ opened
  pub change : c ≡ record (no_change s) { opened = Some texts; waits = true }

-- a session after the client was told this, if it was
abbrev pub told_after : SessionOf → Option (Vec Told) → SessionOf
told_after s None = s
told_after s (Some told) = record s { told = map told_of told.items; waits = false }
