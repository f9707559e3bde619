-- Which files may have references that begin with a word, told by the remainders of keys.
use Rattle.std.specs.Prelude.{◌≡◌, ℕ, ◌<◌, ◌≤◌, ◌^◌, Bool, List, [], length, get_or}
use Rattle.std.specs.List.{All}
use Rattle.proto_file_sets.specs.FileSets.{IsIn}
use Rattle.proto_names_table.specs.declared.ids.Meant.{Meant}
use Rattle.proto_names_affected.specs.FileMeanings.{place_of}
use Rattle.proto_names_affected.specs.Marking.{MarksStay}

-- there is a set, and each is one of few files
pub record AreFirstSets (sets : List (List Bool)) : Type 0 where
  pub some : 0 < length sets
  pub few : All (λ set. length set ≤ 2 ^ 32) sets

-- the set of a key: that of its remainder
abbrev pub first_files : List (List Bool) → ℕ → List Bool
first_files sets key = get_or sets (place_of (length sets) key) []

-- the file is in the set of the first word of each of these references
abbrev pub HasFirsts : List (List Bool) → ℕ → List Meant → Type 0
HasFirsts sets file ms = All (λ m. IsIn (first_files sets m.first) file) ms

-- so it is with the references of each file, and the sets are those of these files
pub record AreFirstsOf (sets : List (List Bool)) (meant : List (List Meant)) : Type 0 where
  pub sized : All (λ set. length set ≡ length meant) sets
  pub each : (file : ℕ) → HasFirsts sets file (get_or meant file [])

-- the sets have the files that they had
pub record FirstsStay (old new : List (List Bool)) : Type 0 where
  pub count : length new ≡ length old
  pub each : (place : ℕ) → MarksStay (get_or old place []) (get_or new place [])
