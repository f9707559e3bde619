-- The words as they are handed to `clap`: `--` stands before those that are texts.
use Rattle.std.specs.Prelude.{ℕ, ◌==◌, ◌&&◌, Bool, false, not, List, [], ◌∷◌, ◌++◌, codes, slice_index, if◌then◌else◌}
use Rattle.proto_base.specs.Ascii as ascii
use Rattle.proto_base.specs.Texts.{Text}
use Rattle.protoref_arguments.specs.CommandLines.{asks_help}

-- a word begins with `-`, and asks for no help
abbrev pub is_dashed : Text → Bool
is_dashed word = slice_index word 0 == ascii.hyphen && not (asks_help word)

-- the word with this index is the first behind the program's name, and begins so
abbrev pub is_bad_at : ℕ → Text → Bool
is_bad_at index word = index == 1 && is_dashed word

-- the first word behind the program's name begins with `-`, and asks for no help
abbrev pub begins_dashed : List Text → Bool
begins_dashed (name ∷ word ∷ words) = is_dashed word
begins_dashed _ = false

-- a word that stands first behind a command, with `--` before it unless it asks for help
abbrev pub marked_first : Text → List Text
marked_first word = if asks_help word then word ∷ [] else codes "--" ∷ word ∷ []

-- what stands for the word with this index, counted from the program's name as 0
abbrev pub marks_for_word : ℕ → Text → List Text
marks_for_word index word = if index == 2 then marked_first word else word ∷ []

-- the words that are handed for these, of which the first is the program's name
abbrev pub words_marked : List Text → List Text
words_marked [] = []
words_marked (name ∷ []) = name ∷ []
words_marked (name ∷ command ∷ []) = name ∷ command ∷ []
words_marked (name ∷ command ∷ word ∷ words) = name ∷ command ∷ marked_first word ++ words
