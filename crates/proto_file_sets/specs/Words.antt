-- Sets of files as words: the bit n % 64 of the word n / 64 says whether the file n is in the set.
use Rattle.std.specs.Prelude.{◌≡◌, ℕ, ◌/◌, ◌%◌, ◌≤◌, Bool, false, List, map, length, get_or, nat_eq}
use Rattle.std.specs.Int.{bit_at, div_ceil}
use Rattle.std.specs.List.{range_with_len}

-- whether the bit of a file is set
unfoldable pub has_file : List ℕ → ℕ → Bool
has_file words file = nat_eq (bit_at (get_or words (file / 64) 0) (file % 64)) 1

-- for each of so many files, whether its bit is set
unfoldable pub members : ℕ → List ℕ → List Bool
members file_count words = map (has_file words) (range_with_len 0 file_count)

-- as many words as so many files need, and no bit past the last file
pub record AreWords (file_count : ℕ) (words : List ℕ) : Type 0 where
  pub count : length words ≡ div_ceil file_count 64
  pub spare : (file : ℕ) → file_count ≤ file → has_file words file ≡ false
