-- Whether the field that is renamed has a written JSON name has one answer.
use Rattle.std.specs.Prelude.{◌≡◌, Bool, List}
use Rattle.proto_files.specs.FilesRead.{ReadOf, AreRead}
use Rattle.proto_files.specs.GivenFiles.{FileOf}
use Rattle.proto_edit_rules.specs.Rename.{Target, WritesJson}

-- It has an answer,
abbrev pub JsonIsWrittenOrNot : Type 0
JsonIsWrittenOrNot = (files : List FileOf) (reads : List ReadOf) (t : Target)
    → (written : Bool) × WritesJson files reads t written

-- and one alone.
abbrev pub JsonIsWrittenOnce : Type 0
JsonIsWrittenOnce = (files : List FileOf) (reads : List ReadOf) (t : Target)
    → AreRead files reads
    → (a b : Bool)
    → WritesJson files reads t a
    → WritesJson files reads t b
    → a ≡ b
