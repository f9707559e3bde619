-- Keys of words.
use Rattle.std.specs.Prelude.{ℕ, ◌+◌, ◌*◌, ◌^◌, ◌%◌, List}
use Rattle.std.specs.List.{fold}

-- the key of a word: its bytes as the digits of a number, modulo 2 ^ 32
unfoldable pub word_key : List ℕ → ℕ
word_key word = fold (λ key byte. (key * 31 + byte) % 2 ^ 32) 0 word
