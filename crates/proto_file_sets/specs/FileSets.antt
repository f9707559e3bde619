-- Sets of files, as a truth value for each file.
use Rattle.std.specs.Prelude.{◌≡◌, ℕ, Bool, true, false, not, ◌&&◌, ◌||◌, List, length, get_or, filter}
use Rattle.std.specs.List.{range_with_len}

-- the file is in the set
abbrev pub IsIn : List Bool → ℕ → Type 0
IsIn set file = get_or set file false ≡ true

-- the file is in both sets
abbrev pub IsInBoth : List Bool → List Bool → ℕ → Type 0
IsInBoth set other file = IsIn set file × IsIn other file

-- whether the file is in the set, or was seen and was not there before
abbrev pub is_in_or_new : List Bool → List Bool → List Bool → ℕ → Bool
is_in_or_new set seen before file = get_or set file false || get_or seen file false && not (get_or before file false)

-- the files of the set, by their numbers, in order
unfoldable pub files_in : List Bool → List ℕ
files_in set = filter (λ file. get_or set file false) (range_with_len 0 (length set))
