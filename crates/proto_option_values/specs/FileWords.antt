-- The words of the custom options of a file that are asked for.
use Rattle.std.specs.Prelude.{◌≡◌, ℕ, ◌<◌, ◌≤◌, Bool, if◌then◌else◌, List, Option, Some, None}
use Rattle.std.specs.List.{Contains}
use Rattle.proto_base.specs.Texts.{Text}
use Rattle.proto_custom_options.specs.CustomOptions.{CustomOf, custom_words, customs_in}
use Rattle.proto_files.specs.FilesRead.{ReadOf, read_at}
use Rattle.proto_files.specs.GivenFiles.{FileOf}
use Rattle.proto_names.specs.Linking.{LinkOf}
use Rattle.proto_names_imports.specs.Links.{text_of}
use Rattle.proto_names_rules.specs.Grown.{at}
use Rattle.proto_option_values.specs.Extensions.{is_leading}
use Rattle.proto_option_values.specs.Words.{is_asked, least, least_word}
use Rattle.proto_option_values.specs.declared.first.WordAt.{WordAt}
use Rattle.proto_tree.specs.declared.tree.Custom.{Custom}

-- no word of an option of the file is one of these
abbrev pub HasNoWord : List FileOf → List ReadOf → List Text → ℕ → Type 0
HasNoWord files reads these file = (o : CustomOf) → Contains (customs_in (read_at reads file).tree) o
    → (token : ℕ) → Contains (custom_words o.custom) token
    → Contains these (text_of files reads (at file token)) → ⊥

-- the least token of an option that passes, if the option counts
abbrev pub option_word : (Custom → Bool) → (ℕ → Bool) → Custom → Option ℕ
option_word counts test c = if counts c then least_word test (custom_words c) else None

-- the least word of an option of a file that is one of these, where the option's extension is
-- declared in one of a set of files
abbrev pub file_word : LinkOf → List Bool → List Text → List FileOf → List ReadOf → ℕ → Option ℕ
file_word l set these files reads file =
    least (λ o. option_word (is_leading l set file)
    (λ token. is_asked these (text_of files reads (at file token))) o.custom)
    (customs_in (read_at reads file).tree)

-- the first of these files that has a word, and the word; none from this file on, up to a count
abbrev pub IsFirstFrom : (ℕ → Option ℕ) → ℕ → ℕ → Option WordAt → Type 0
IsFirstFrom word start count None = (file : ℕ) → start ≤ file → file < count → word file ≡ None
IsFirstFrom word start count (Some w) = (start ≤ w.file) × (w.file < count)
    × (word w.file ≡ Some w.token)
    × ((file : ℕ) → start ≤ file → file < w.file → word file ≡ None)
