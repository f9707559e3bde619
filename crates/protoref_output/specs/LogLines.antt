-- What is printed of a journal: the choice of this program.
use Rattle.std.specs.Prelude.{ℕ, ◌+◌, List, [], ◌∷◌, ◌++◌, codes, decimal, map, Option, Some, None}
use Rattle.std.specs.List.{join_with_byte}
use Rattle.proto_base.specs.Ascii as ascii
use Rattle.proto_base.specs.Texts.{Text}
use Rattle.proto_edit_entries.specs.EditsAsked.{Asked, rename, delete_field, add_import, drop_import}
use Rattle.proto_edit_entries.specs.Entries.{ChangeOf}
use Rattle.proto_journal_records.specs.RecordText.{state_name}
use Rattle.proto_journal_records.specs.Records.{RecordOf}

-- the paths of the changed files, joined by `,`
abbrev pub joined_paths : List ChangeOf → Text
joined_paths entry = join_with_byte ascii.comma (map (λ c. c.path) entry)

-- the word of a command and one word behind it, each with a space before it
abbrev pub one_word : Text → Text → Text
one_word command first = codes " " ++ (command ++ (codes " " ++ first))

-- the word of a command and two words behind it, each with a space before it
abbrev pub two_words : Text → Text → Text → Text
two_words command first second =
    codes " " ++ (command ++ (codes " " ++ (first ++ (codes " " ++ second))))

-- the words of an edit, as on the command line without ROOT, each with a space before it
abbrev pub edit_words : Asked → Text
edit_words (rename name to) = two_words (codes "rename") name to
edit_words (delete_field name) = one_word (codes "delete-field") name
edit_words (add_import file path) = two_words (codes "add-import") file path
edit_words (drop_import file path) = two_words (codes "drop-import") file path

-- the same, where an edit is told
abbrev pub told_words : Option Asked → Text
told_words None = []
told_words (Some e) = edit_words e

-- `INDEX STATE PATHS`, and the words of the edit, where it is told
abbrev pub record_line : ℕ → RecordOf → Text
record_line index r =
    decimal index ++ (codes " " ++ (state_name r.state ++ (codes " "
    ++ (joined_paths r.entry ++ (told_words r.edit ++ codes "\n")))))

-- the lines of records, counted from an index on
abbrev pub lines_from : ℕ → List RecordOf → Text
lines_from index [] = []
lines_from index (r ∷ rs) = record_line index r ++ lines_from (index + 1) rs

-- the lines of a journal's records, counted from 1
abbrev pub log_lines : List RecordOf → Text
log_lines records = lines_from 1 records
