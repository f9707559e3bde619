-- What is answered of the words of options: the least that may stand for what an edit changes, and
-- its place.
use Rattle.std.specs.Prelude.{◌≡◌, List, ◌∷◌, Option, Some, None, option_map, option_to_list, string_bytes}
use Rattle.proto_base.specs.Texts.{Text}
use Rattle.proto_edit_entries.specs.declared.refusal.Refusal.{Refusal}
use Rattle.proto_edit_entries.specs.declared.refusal.Refusal.TheVariants as refusal
use Rattle.proto_edit_rules.specs.Options.{ComesBefore, IsFirstToken}
use Rattle.proto_files.specs.FilesRead.{ReadOf, read_at}
use Rattle.proto_files.specs.GivenFiles.{FileOf, file_at}
use Rattle.proto_names_rules.specs.Grown.{At, at}
use Rattle.proto_option_values.specs.declared.asked.OptionWords.{OptionWords}
use Rattle.proto_option_values.specs.declared.first.WordAt.{WordAt}
use Rattle.proto_text.specs.Texts.{offset_at}

-- the words that are asked for
abbrev pub words_asked : OptionWords → List Text
words_asked w = w.old.now ∷ option_to_list (option_map (λ x. x.now) w.new)

-- no token is one of these; or this is, and none before it
abbrev pub IsFirstOf : (At → Type 0) → Option WordAt → Type 0
IsFirstOf Holds None = (a : At) → Holds a → ⊥
IsFirstOf Holds (Some w) = Holds (at w.file w.token)
    × ((b : At) → Holds b → ComesBefore b (at w.file w.token) → ⊥)

-- the refusal is of a word of an option, and has the place of this token
abbrev pub IsOptionPlace : List FileOf → List ReadOf → WordAt → Refusal → Type 0
IsOptionPlace files reads w (refusal.OptionValue path offset) =
    (string_bytes path ≡ (file_at files w.file).path)
    × (offset ≡ offset_at (read_at reads w.file).tokens w.token)
IsOptionPlace files reads w r = ⊥

-- no token is one of these; or the refusal is of a word of an option, with the place of the least
abbrev pub IsOptionValue : List FileOf → List ReadOf → (At → Type 0) → Option Refusal → Type 0
IsOptionValue files reads Holds None = (a : At) → Holds a → ⊥
IsOptionValue files reads Holds (Some (refusal.OptionValue path offset)) =
    IsFirstToken files reads Holds (string_bytes path) offset
IsOptionValue files reads Holds (Some r) = ⊥
