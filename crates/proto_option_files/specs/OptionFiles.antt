-- Which files may have a custom option with a word, told by the remainders of keys.
use Rattle.std.specs.Prelude.{◌≡◌, ℕ, ◌<◌, ◌⊎◌, Bool, List, [], length, get_or, map, flat_map}
use Rattle.std.specs.List.{All, Contains}
use Rattle.proto_base.specs.Texts.{Text}
use Rattle.proto_base.specs.Words.{word_key}
use Rattle.proto_custom_options.specs.CustomOptions.{CustomOf, custom_words, customs_in}
use Rattle.proto_file_sets.specs.FileSets.{IsIn}
use Rattle.proto_files.specs.FilesRead.{ReadOf}
use Rattle.proto_files.specs.GivenFiles.{FileOf, file_at}
use Rattle.proto_names_affected.specs.FileMeanings.{place_of}
use Rattle.proto_names_affected.specs.FirstWords.{first_files}
use Rattle.proto_text.specs.Texts.{words}
use Rattle.proto_tree.specs.Reads.{ReadsIn}

-- ---- the keys of a file

-- the keys of the words of an option's path and value
abbrev pub option_keys : (ℕ → Text) → CustomOf → List ℕ
option_keys text o = map (λ t. word_key (text t)) (custom_words o.custom)

-- those of all options of a file, as it is read
abbrev pub file_keys : FileOf → ReadOf → List ℕ
file_keys f r = flat_map (option_keys (words f.bytes r.tokens)) (customs_in r.tree)

-- this is read of the file
abbrev pub IsReadOf : FileOf → ReadOf → Type 0
IsReadOf f r = ReadsIn f.profile f.bytes r.tokens r.tree

-- ---- all files that have a word of a key are in its set

-- the file is in the set of each of these keys
abbrev pub HasKeys : List (List Bool) → ℕ → List ℕ → Type 0
HasKeys sets file keys = All (λ key. IsIn (first_files sets key) file) keys

-- and in those of the words of its options
abbrev pub HasFileKeys : FileOf → List (List Bool) → ℕ → Type 0
HasFileKeys f sets file = (r : ReadOf) → IsReadOf f r → HasKeys sets file (file_keys f r)

-- so it is with these files
abbrev pub HaveFileKeys : List FileOf → List (List Bool) → List ℕ → Type 0
HaveFileKeys files sets places = All (λ file. HasFileKeys (file_at files file) sets file) places

-- so it is with each file, and the sets are those of so many files
pub record AreOptionFiles (files : List FileOf) (sets : List (List Bool)) : Type 0 where
  pub sized : All (λ set. length set ≡ length files) sets
  pub each : (file : ℕ) → file < length files → HasFileKeys (file_at files file) sets file

-- ---- and no others

-- one of these keys leaves this remainder
abbrev pub HasRemainder : ℕ → List ℕ → ℕ → Type 0
HasRemainder count keys place = Contains (map (place_of count) keys) place

-- a file is in a set only where the key of a word of its options leaves the remainder of the set
abbrev pub AreOnlyTheirs : List FileOf → List (List Bool) → Type 0
AreOnlyTheirs files sets = (place file : ℕ) → IsIn (get_or sets place []) file
    → (r : ReadOf) → IsReadOf (file_at files file) r
    → HasRemainder (length sets) (file_keys (file_at files file) r) place

-- no file is in a set in which it was not, but this one in those of these keys
abbrev pub AddsOnly : List (List Bool) → List (List Bool) → ℕ → List ℕ → Type 0
AddsOnly old new file keys = (place other : ℕ) → IsIn (get_or new place []) other
    → IsIn (get_or old place []) other
    ⊎ ((other ≡ file) × HasRemainder (length old) keys place)

-- no file but these is in a set in which it was not
abbrev pub OthersStay : List (List Bool) → List (List Bool) → (ℕ → Type 0) → Type 0
OthersStay old new These = (place other : ℕ) → (These other → ⊥)
    → IsIn (get_or new place []) other → IsIn (get_or old place []) other
