-- What is printed of an edit and of an undo: the choice of this program.
use Rattle.std.specs.Prelude.{ℕ, List, [], ◌++◌, codes, decimal, flat_map}
use Rattle.std.specs.String.{string_bytes}
use Rattle.proto_edit_entries.specs.Entries.{ChangeOf}
use Rattle.proto_edit_entries.specs.RefusalTable as refusals
use Rattle.proto_edit_entries.specs.declared.refusal.Refusal.{Refusal}
use Rattle.proto_edit_entries.specs.declared.refusal.Refusal.TheVariants as refusal
use Rattle.proto_base.specs.Texts.{Path, Text}
use Rattle.proto_files.specs.GivenFiles.{FileOf}
use Rattle.protoref_output.specs.FoundLines.{text_of_path}
use Rattle.proto_journal_records.specs.FaultTable as journals
use Rattle.proto_journal_records.specs.declared.fault.JournalFault.{JournalFault}
use Rattle.proto_text.specs.Lines.{column_at, line_at}

-- `changed PATH`
abbrev pub changed_line : ChangeOf → Text
changed_line c = codes "changed " ++ (c.path ++ codes "\n")

-- a line for each file that an entry changed, in the order of their paths
abbrev pub changed_lines : List ChangeOf → Text
changed_lines entry = flat_map changed_line entry

-- ` path:line:column`, of an offset in one of the files
abbrev pub place_text : List FileOf → Path → ℕ → Text
place_text files path offset =
    codes " " ++ (path
    ++ (codes ":" ++ (decimal (line_at (text_of_path path files) offset)
    ++ (codes ":" ++ decimal (column_at (text_of_path path files) offset)))))

-- the place of the reference that is captured or needed, or of the word of an option
abbrev pub reference_text : List FileOf → Refusal → Text
reference_text files (refusal.Captured path offset) = place_text files (string_bytes path) offset
reference_text files (refusal.Needed path offset) = place_text files (string_bytes path) offset
reference_text files (refusal.OptionValue path offset) =
    place_text files (string_bytes path) offset
reference_text files _ = []

-- `refused: NUMBER NAME`, and the place of the reference
abbrev pub refused_line : List FileOf → Refusal → Text
refused_line files r =
    codes "refused: " ++ (decimal (refusals.refusal_number r)
    ++ (codes " " ++ (refusals.refusal_name r
    ++ (reference_text files r ++ codes "\n"))))

-- `journal: NUMBER NAME`
abbrev pub faulty_line : JournalFault → Text
faulty_line fault =
    codes "journal: " ++ (decimal (journals.journal_fault_number fault)
    ++ (codes " " ++ (journals.journal_fault_name fault ++ codes "\n")))
