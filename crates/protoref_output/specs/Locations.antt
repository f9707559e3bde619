-- Where references stand: the path of the file, the line and the column.
use Rattle.std.specs.Prelude.{ℕ, List}
use Rattle.proto_base.specs.Texts.{Path}
use Rattle.proto_files.specs.FilesRead.{ReadOf, read_at}
use Rattle.proto_files.specs.GivenFiles.{FileOf, file_at}
use Rattle.proto_names.specs.Linking.{RefId}
use Rattle.protoref_output.specs.declared.locations.Location.{Location}
use Rattle.protoref_output.specs.declared.place.Place.{Place}
use Rattle.proto_text.specs.Lines.{column_at, line_at}
use Rattle.proto_text.specs.Texts.{offset_at}

-- a place of a file: its path, the line and the column
pub record LocationOf : Type 0 where
  pub path : Path
  pub line : ℕ
  pub column : ℕ

-- what a location of the code says
abbrev pub location_of : Location → LocationOf
location_of l = record { path = l.path.now; line = l.line; column = l.column }

-- a place of the file with this number
abbrev pub location_at : List FileOf → ℕ → Place → LocationOf
location_at files file place = record {
  path = (file_at files file).path;
  line = place.line;
  column = place.column;
}

-- an offset of a file
abbrev pub location_in : FileOf → ℕ → LocationOf
location_in file offset = record {
  path = file.path;
  line = line_at file.bytes offset;
  column = column_at file.bytes offset;
}

-- where the first token of a reference begins; the beginning of its file where that has no such
-- token, and of an empty file with an empty path where there is no such file
abbrev pub reference_location : List FileOf → List ReadOf → RefId → LocationOf
reference_location files reads reference =
    location_in (file_at files reference.file)
    (offset_at (read_at reads reference.file).tokens reference.token)
