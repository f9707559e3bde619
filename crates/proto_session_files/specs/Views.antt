-- What a client sees: its open texts, the files, and the URIs of these.
use Rattle.std.specs.Prelude.{ℕ, Bool, not, List, [], ◌∷◌, ◌++◌, find, map, if◌then◌else◌, Option, option_map, string_bytes}
use Rattle.std.specs.Cmp.Lexicographic.{slice_cmp}
use Rattle.std.specs.List.{filter, fold, list_any}
use Rattle.std.specs.Option.{option_map_or}
use Rattle.std.specs.Ordering.{match_ordering, nat_cmp}
use Rattle.std.specs.Str.{bytes_eq}
use Rattle.proto_base.specs.GivenFiles.{FileOf, files_of_as}
use Rattle.proto_base.specs.Texts.{Path, Text}
use Rattle.proto_base.specs.declared.profile.Profile.{Profile}
use Rattle.proto_positions.specs.declared.encoding.Encoding.{Encoding}
use Rattle.proto_uris.specs.Uris.{uri_below}
use Rattle.proto_session_files.specs.Homes.{HomeOf, root_path}
use Rattle.proto_session_files.specs.declared.home.Home.{Home}
use Rattle.proto_session_files.specs.declared.open_text.OpenText.{OpenText}
use Rattle.proto_session_files.specs.declared.view.View.{View}

-- a text that the client has open
pub record OpenOf : Type 0 where
  pub path : Path
  pub uri : Text
  pub version : ℕ
  pub text : Text

-- What requests are answered from: the language of the files, where the client has them, how it
-- counts columns, its open texts, and the files that it sees.
pub record ViewOf : Type 0 where
  pub profile : Profile
  pub home : Option HomeOf
  pub encoding : Encoding
  pub opened : List OpenOf
  pub files : List FileOf

-- ---- what the records of the code say

-- an open text
abbrev pub open_of : OpenText → OpenOf
open_of o = record {
  path = string_bytes o.path;
  uri = string_bytes o.uri;
  version = o.version;
  text = string_bytes o.text;
}

-- a home
abbrev pub home_view : Home → HomeOf
home_view h = record { folder = h.folder.items; root = h.root.items }

-- the same, as the record of the code says it
abbrev pub view_at : View → ViewOf
view_at v = record {
  profile = v.profile;
  home = option_map (λ h. home_view h.now) v.home;
  encoding = v.encoding;
  opened = map open_of v.opened.now;
  files = files_of_as v.profile v.files.now;
}

-- ---- what the client sees

-- a file laid over those in the order of their paths, in the place of one at its own
abbrev pub laid : FileOf → List FileOf → List FileOf
laid f [] = f ∷ []
laid f (g ∷ gs) =
    match_ordering (slice_cmp nat_cmp f.path g.path) (f ∷ g ∷ gs) (f ∷ gs) (g ∷ laid f gs)

-- the file that an open text is in a language
abbrev pub open_file : Profile → OpenOf → FileOf
open_file p o = record { path = o.path; bytes = o.text; profile = p }

-- these files, with the open texts laid over them, which are read in the language
abbrev pub seen_over : Profile → List FileOf → List OpenOf → List FileOf
seen_over p disk opened = fold (λ files o. laid (open_file p o) files) disk opened

-- ---- open texts

-- whether an open text is that of a path
abbrev pub is_at : Path → OpenOf → Bool
is_at path o = bytes_eq o.path path

-- whether a text is open at the path
abbrev pub is_open : Path → List OpenOf → Bool
is_open path opened = list_any (is_at path) opened

-- the texts that are open without the one at a path
abbrev pub closed : Path → List OpenOf → List OpenOf
closed path opened = filter (λ o. not (is_at path o)) opened

-- the texts that are open with this one, in the place of the one at its path
abbrev pub with_open : OpenOf → List OpenOf → List OpenOf
with_open o opened = closed o.path opened ++ (o ∷ [])

-- an open text of another version, where it is that of the path
abbrev pub of_version : Path → ℕ → OpenOf → OpenOf
of_version path version o = if is_at path o then record o { version = version } else o

-- the texts that are open, the one at the path of another version
abbrev pub with_version : Path → ℕ → List OpenOf → List OpenOf
with_version path version opened = map (of_version path version) opened

-- ---- documents

-- the URI of the file at a path: the client's own where its text is open, else one below the root
abbrev pub uri_at : ViewOf → Path → Text
uri_at v path =
    option_map_or (λ o. o.uri) (find (is_at path) v.opened) (uri_below (root_path v.home) path)

-- the version of the text that is open at a path
abbrev pub version_at : ViewOf → Path → Option ℕ
version_at v path = option_map (λ o. o.version) (find (is_at path) v.opened)
