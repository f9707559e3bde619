-- The field of a full name that no case refuses, where files have no fault.
use Rattle.std.specs.Prelude.{◌<◌, ◌^◌, List}
use Rattle.proto_files.specs.Faults.{HasNoFault}
use Rattle.proto_files.specs.FilesRead.{AreRead, ReadOf}
use Rattle.proto_files.specs.GivenFiles.{FileOf}
use Rattle.proto_edit_statement_described.specs.Checked.{CheckFaults}
use Rattle.proto_edit_rules.specs.DeleteField.{FieldAt, IsFieldAt, field_number_value}

-- Without a fault of the checks the number of each field is below 2^64.
abbrev pub NumbersAreSmall : Type 0
NumbersAreSmall = (files : List FileOf) (reads : List ReadOf) (f : FieldAt)
    → AreRead files reads
    → HasNoFault (CheckFaults files)
    → IsFieldAt files reads f
    → field_number_value files reads f < 2 ^ 64
