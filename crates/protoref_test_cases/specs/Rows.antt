-- What rows write: files, edits, and answers.
use Rattle.std.specs.Prelude.{ℕ, Bool, true, false, ◌&&◌, ◌==◌, if◌then◌else◌, codes, Result, Ok, Err}
use Rattle.std.specs.Str.{bytes_eq}
use Rattle.proto_base.specs.Texts.{Text, Path}
use Rattle.proto_base.specs.declared.profile.Profile.{Profile}
use Rattle.proto_base.specs.declared.profile.Profile.TheVariants.{AsWritten, Core}
use Rattle.proto_files.specs.GivenFiles.{FileOf}
use Rattle.proto_edit_entries.specs.declared.refusal.Refusal.{Refusal}
use Rattle.proto_edit_entries.specs.RefusalTable.{refusal_number, refusal_name}
use Rattle.proto_edit.specs.Workspaces.{Asked, rename, delete_field, add_import, drop_import}

-- The file of the core language that a path and a text give.
abbrev pub row_file : Path → Text → FileOf
row_file path text = record { path = path; bytes = text; profile = Core }

-- Whether two languages are one.
abbrev pub is_language : Profile → Profile → Bool
is_language Core Core = true
is_language AsWritten AsWritten = true
is_language _ _ = false

-- Whether two files have one language, one path and one text.
abbrev pub is_file : FileOf → FileOf → Bool
is_file f g = is_language f.profile g.profile && (bytes_eq f.path g.path && bytes_eq f.bytes g.bytes)

-- The edit that a row asks: `rename`, `delete` or `add` with its names; any other word drops an
-- import.
abbrev pub row_edit : Text → Text → Text → Asked
row_edit kind of to = if bytes_eq kind (codes "rename") then rename of to
    else (if bytes_eq kind (codes "delete") then delete_field of
    else (if bytes_eq kind (codes "add") then add_import of to else drop_import of to))

-- Whether an answer is what a row says: a refusal's number and name, or 0 and `done`.
abbrev pub is_row_answer : {A : Type 0} → Result A Refusal → ℕ → Text → Bool
is_row_answer (Ok it) number name = number == 0 && bytes_eq name (codes "done")
is_row_answer (Err refusal) number name =
    refusal_number refusal == number && bytes_eq (refusal_name refusal) name
