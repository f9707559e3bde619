-- What the client of a session sees.
use Rattle.std.proofs.Common.{◌≡◌, ℕ, List, map, Option, Some, None, option_map, String, Global, ap, refl, ◌∙◌}
use Rattle.proto_base.proofs.Common.{FileOf, Vec}
use Rattle.proto_base.specs.GivenFiles.{files_of_as}
use Rattle.proto_base.specs.declared.profile.Profile.{Profile}
use Rattle.proto_positions.specs.declared.encoding.Encoding.{Encoding}
use Rattle.proto_session.specs.Sessions.{SessionOf, seen, view_of}
use Rattle.proto_session_files.specs.Homes.{HomeOf}
use Rattle.proto_session_files.specs.Views.{OpenOf, home_view, open_of, seen_over}
use Rattle.proto_session_files.specs.declared.home.Home.{Home}
use Rattle.proto_session_files.specs.declared.open_text.OpenText.{OpenText}

abbrev Given : Type 0
Given = String Global × Vec ℕ

-- the files that are seen, where the open texts are laid over those of the folder
seen_files : (s : SessionOf) (disk files : List Given) (opened : List OpenText)
    → files_of_as s.profile disk ≡ s.disk → map open_of opened ≡ s.opened
    → ((p : Profile) → files_of_as p files ≡ seen_over p (files_of_as p disk) (map open_of opened))
    → files_of_as s.profile files ≡ seen s
seen_files s disk files opened disk_is opened_is files_are =
    files_are s.profile
    ∙ (ap (λ (d : List FileOf). seen_over s.profile d (map open_of opened)) disk_is
    ∙ ap (seen_over s.profile s.disk) opened_is)

-- what is seen with these parts is what the session sees
pub view_is : (s : SessionOf) (home : Option HomeOf) (encoding : Encoding) (disk files given : List Given) (opened : List OpenText)
    → home ≡ s.home → encoding ≡ s.encoding → files_of_as s.profile disk ≡ s.disk → map open_of opened ≡ s.opened
    → ((p : Profile) → files_of_as p files ≡ seen_over p (files_of_as p disk) (map open_of opened)) → given ≡ files
    → record (view_of s) { home = home; encoding = encoding; opened = map open_of opened; files = files_of_as s.profile given } ≡ view_of s
view_is s home encoding disk files given opened home_is encoding_is disk_is opened_is files_are given_is =
    ap (λ (h : Option HomeOf). record (view_of s) { home = h; encoding = encoding; opened = map open_of opened; files = files_of_as s.profile given }) home_is
    ∙ (ap (λ (e : Encoding). record (view_of s) { encoding = e; opened = map open_of opened; files = files_of_as s.profile given }) encoding_is
    ∙ (ap (λ (o : List OpenOf). record (view_of s) { opened = o; files = files_of_as s.profile given }) opened_is
    ∙ ap (λ (fs : List FileOf). record (view_of s) { files = fs }) (ap (files_of_as s.profile) given_is ∙ seen_files s disk files opened disk_is opened_is files_are)))

-- the home behind a reference
pub copied_home : {B : Type 0} (r : Option B) (now : B → Home) → option_map (λ h. home_view (now h)) r ≡ option_map home_view (option_map now r)
copied_home None now = refl
copied_home (Some h) now = refl
