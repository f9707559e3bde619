-- What a store of files holds, lists, reads and replaces (the choice of this program).
use Rattle.std.specs.Prelude.{◌≡◌, ℕ, ◌+◌, String, List, [], ◌∷◌, map, IsSome, MatchResult, Some, None, Option, Result, if◌then◌else◌}
use Rattle.std.specs.List.Sorted.{IsPermutation, IsStrictlySortedBy}
use Rattle.std.specs.Cmp.Lexicographic.{slice_cmp}
use Rattle.std.specs.Ordering.{nat_cmp}
use Rattle.std.specs.Str.{bytes_eq}
use Rattle.proto_base.specs.Texts.{Path, Text}
use Rattle.std.specs.Global.{Vec, Global}
use Rattle.proto_base.specs.GivenFiles.{AreInLanguage, FileOf, files_of_as, paths_of}
use Rattle.proto_base.specs.declared.profile.Profile.{Profile}

-- the files of a store, in the order of their paths, each path once, and the bytes of its journal
pub record Held : Type 0 where
  pub files : List FileOf
  pub journal : Text

-- what is said of the holdings of a store that no contract can tell
abbrev pub unknown : Option Held
unknown = None

-- it holds of what the store holds; of a store that does not tell what it holds nothing is said
abbrev pub Over : Option Held → (Held → Type 0) → Type 0
Over None P = Unit {0}
Over (Some held) P = P held

-- the languages of files, in order
abbrev pub languages_of : List FileOf → List Profile
languages_of files = map (λ f. f.profile) files

-- the path of each file comes before that of the next, so that none comes twice
abbrev pub AreInPathOrder : List FileOf → Type 0
AreInPathOrder files = IsStrictlySortedBy (slice_cmp nat_cmp) (paths_of files)

-- the bytes of the first file at the path
abbrev pub bytes_at : Path → List FileOf → Option Text
bytes_at path [] = None
bytes_at path (file ∷ files) =
    if bytes_eq path file.path then Some file.bytes else bytes_at path files

-- the first file at the path gets the bytes, and nothing else changes
abbrev pub with_bytes : Path → Text → List FileOf → List FileOf
with_bytes path bytes [] = []
with_bytes path bytes (file ∷ files) =
    if bytes_eq path file.path
    then record file { bytes = bytes } ∷ files
    else file ∷ with_bytes path bytes files

-- the file at the path gets the bytes, and the journal stays
abbrev pub with_file : Path → Text → Held → Held
with_file path bytes held = record held { files = with_bytes path bytes held.files }

-- the journal gets the bytes, and the files stay
abbrev pub with_journal : Text → Held → Held
with_journal bytes held = record held { journal = bytes }

-- the paths are those of the files, each once; of unknown files nothing is said, here and below
abbrev pub ListsPaths : Option Held → List Path → Type 0
ListsPaths None paths = Unit {0}
ListsPaths (Some held) paths =
    AreInPathOrder held.files × IsPermutation paths (paths_of held.files)

-- a file stands at the path
abbrev pub IsListed : Option Held → Path → Type 0
IsListed None path = Unit {0}
IsListed (Some held) path = IsSome (bytes_at path held.files)

-- the bytes are those of the file at the path
abbrev pub HoldsBytes : Option Held → Path → Text → Type 0
HoldsBytes None path bytes = Unit {0}
HoldsBytes (Some held) path bytes = bytes_at path held.files ≡ Some bytes

-- all files, in the order of their paths
abbrev pub HoldsFiles : Option Held → List FileOf → Type 0
HoldsFiles None files = Unit {0}
HoldsFiles (Some held) files = files ≡ held.files

-- its files are all of the language; of unknown files nothing is said
abbrev pub AreOf : Profile → Option Held → Type 0
AreOf p held = Over held (λ there. AreInLanguage p there.files)

-- all its files, in the order of their paths, in the language that they are of
abbrev pub HoldsGiven : Option Held → List (String Global × Vec ℕ) → Type 0
HoldsGiven held given = (p : Profile) → AreOf p held → HoldsFiles held (files_of_as p given)

-- the bytes of the journal
abbrev pub HoldsJournal : Option Held → Text → Type 0
HoldsJournal None bytes = Unit {0}
HoldsJournal (Some held) bytes = bytes ≡ held.journal

-- an error is counted, and nothing else is
abbrev pub Counts : {T E : Type 0} → ℕ → ℕ → Result T E → Type 0
Counts before after result = MatchResult result (λ _. after ≡ before) (λ _. after ≡ before + 1)
