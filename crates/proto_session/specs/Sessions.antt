-- What a session knows, and what its client sees.
use Rattle.std.specs.Prelude.{Bool, false, List, [], map, Option, None, option_map, string_bytes}
use Rattle.proto_base.specs.GivenFiles.{FileOf, files_of_as}
use Rattle.proto_base.specs.Texts.{Path}
use Rattle.proto_base.specs.declared.profile.Profile.{Profile}
use Rattle.proto_positions.specs.declared.encoding.Encoding.{Encoding}
use Rattle.proto_positions.specs.declared.encoding.Encoding.TheVariants.{Utf16}
use Rattle.proto_session.specs.declared.session.Phase.{Phase}
use Rattle.proto_session.specs.declared.session.Phase.TheVariants.{Fresh}
use Rattle.proto_session.specs.declared.session.Session.{Session}
use Rattle.proto_session_files.specs.Homes.{HomeOf}
use Rattle.proto_session_files.specs.Views.{OpenOf, ViewOf, home_view, open_of, seen_over}
use Rattle.proto_session_told.specs.Telling.{ToldOf, told_of}

-- What a session knows: the language of the schemas and the ROOT that it was started with, the home,
-- once the client has said its root, the files of the folder as they were read last and whether the
-- last reading failed, the texts that are open, the documents of which the client was told, and
-- whether there may be more to tell.
pub record SessionOf : Type 0 where
  pub profile : Profile
  pub phase : Phase
  pub word : Option Path
  pub home : Option HomeOf
  pub encoding : Encoding
  pub disk : List FileOf
  pub is_lost : Bool
  pub opened : List OpenOf
  pub told : List ToldOf
  pub waits : Bool

-- a session that was started in this language with this ROOT, and knows of no file
abbrev pub fresh_session : Profile → Option Path → SessionOf
fresh_session profile word = record {
  profile = profile;
  phase = Fresh;
  word = word;
  home = None;
  encoding = Utf16;
  disk = [];
  is_lost = false;
  opened = [];
  told = [];
  waits = false;
}

-- ---- what the records of the code say

-- a session
abbrev pub session_of : Session → SessionOf
session_of s = record {
  profile = s.profile;
  phase = s.phase;
  word = option_map string_bytes s.word;
  home = option_map home_view s.home;
  encoding = s.encoding;
  disk = files_of_as s.profile s.disk.items;
  is_lost = s.is_lost;
  opened = map open_of s.opened.items;
  told = map told_of s.told.items;
  waits = s.waits;
}

-- ---- what the client sees

-- the files that the client sees: those of the folder, with the open texts laid over them
abbrev pub seen : SessionOf → List FileOf
seen s = seen_over s.profile s.disk s.opened

-- what is seen in a session
abbrev pub view_of : SessionOf → ViewOf
view_of s = record {
  profile = s.profile;
  home = s.home;
  encoding = s.encoding;
  opened = s.opened;
  files = seen s;
}
