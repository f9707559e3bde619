-- The files that may have an option with a word that is asked for, by an index.
use Rattle.std.specs.Prelude.{◌≡◌, ℕ, ◌<◌, Bool, false, List, ◌∷◌, length, get_or, map, option_map, option_to_list}
use Rattle.std.specs.List.{list_any}
use Rattle.proto_base.specs.Texts.{Text}
use Rattle.proto_base.specs.Words.{word_key}
use Rattle.proto_files.specs.FilesRead.{AreRead, ReadOf}
use Rattle.proto_files.specs.GivenFiles.{FileOf}
use Rattle.proto_names_affected.specs.FirstWords.{first_files}
use Rattle.proto_option_values.specs.FileWords.{HasNoWord}
use Rattle.proto_option_values.specs.declared.noted.Noted.{Noted}

-- the sets of an index for these words
abbrev pub sets_of : List (List Bool) → List Text → List (List Bool)
sets_of index these = map (λ word. first_files index (word_key word)) these

-- those that are at hand
abbrev pub noted_sets : Noted → List (List Bool)
noted_sets n = n.old.now ∷ option_to_list (option_map (λ x. x.now) n.new)

-- the file is in one of these sets
abbrev pub may_have : List (List Bool) → ℕ → Bool
may_have sets file = list_any (λ set. get_or set file false) sets

-- a file that is in none of these sets has no option with one of these words
abbrev pub AreNoted : List FileOf → List Text → List (List Bool) → Type 0
AreNoted files these sets = (file : ℕ) → file < length files → may_have sets file ≡ false
    → (reads : List ReadOf) → AreRead files reads → HasNoWord files reads these file
