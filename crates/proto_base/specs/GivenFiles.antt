-- What a file is that is given: a path, with the bytes that stand at it, and their language.
use Rattle.std.specs.Prelude.{◌≡◌, ℕ, List, map, String, All}
use Rattle.std.specs.Global.{Vec, Global}
use Rattle.std.specs.String.{string_bytes}
use Rattle.proto_base.specs.Texts.{Text, Path}
use Rattle.proto_base.specs.declared.profile.Profile.{Profile}
use Rattle.proto_base.specs.declared.profile.Profile.TheVariants as profile

-- a file: its path, its bytes, and the language that it is of
pub record FileOf : Type 0 where
  pub path : Path
  pub bytes : Text
  pub profile : Profile

-- the paths of files, in order
abbrev pub paths_of : List FileOf → List Path
paths_of files = map (λ f. f.path) files

-- all the files are of the language
abbrev pub AreInLanguage : Profile → List FileOf → Type 0
AreInLanguage p files = All (λ f. f.profile ≡ p) files

-- the file that a path and a list of bytes give in a language
abbrev pub file_of_as : Profile → String Global × Vec ℕ → FileOf
file_of_as p given = record { path = string_bytes given.0; bytes = given.1.items; profile = p }

-- the file that they give in the core language
abbrev pub file_of : String Global × Vec ℕ → FileOf
file_of given = file_of_as profile.Core given

-- all the files that are given in a language
abbrev pub files_of_as : Profile → List (String Global × Vec ℕ) → List FileOf
files_of_as p given = map (file_of_as p) given

-- all the files that are given in the core language
abbrev pub files_of : List (String Global × Vec ℕ) → List FileOf
files_of given = map file_of given
