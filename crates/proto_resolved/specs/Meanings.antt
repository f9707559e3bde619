-- What a link has of references, with the enums that they mean.
use Rattle.std.specs.Prelude.{◌≡◌, ℕ, List, [], get_or, Option}
use Rattle.std.specs.List.{All}
use Rattle.std.specs.Option.{option_and_then}
use Rattle.proto_base.specs.Texts.{or_nothing}
use Rattle.proto_files.specs.FilesRead.{AreRead, ReadOf}
use Rattle.proto_files.specs.GivenFiles.{FileOf}
use Rattle.proto_names_rules.specs.Grown.{At, at}
use Rattle.proto_names.specs.Linking.{LinkOf, declaring_file, name_text, declaring_token}
use Rattle.proto_names.specs.Linking.{Meant}
use Rattle.proto_ast.specs.Scenes.{EnumOf, MeantOf}
use Rattle.proto_resolved.specs.Enums.{enum_in}
use Rattle.proto_resolved.specs.SceneOf.{enum_at}
use Rattle.proto_resolved.specs.declared.enum_table.EnumTable.{EnumTable}

-- the enum that stands at the file and token of the link's name in a row, if an enum stands there
abbrev pub enum_of_name : LinkOf → (At → Option EnumOf) → ℕ → Option EnumOf
enum_of_name l enum row =
    option_and_then
    (λ file. option_and_then (λ token. enum (at file token)) (declaring_token l row))
    (declaring_file l row)

-- what a reference means by the row that the link has for it: its token, the full name in that row,
-- and the enum at the place of that name, if it is an enum's
abbrev pub meant_in_table : LinkOf → (At → Option EnumOf) → Meant → MeantOf
meant_in_table l enum m = record {
  token = m.token;
  name = or_nothing (name_text l m.row);
  enum = enum_of_name l enum m.row;
}

-- the table has the enums that the references of the file mean
abbrev pub HasEnumsMeant : List FileOf → LinkOf → ℕ → EnumTable → Type 0
HasEnumsMeant files l file table =
    (reads : List ReadOf) → AreRead files reads
    → All (λ m. enum_of_name l (enum_in table) m.row ≡ enum_of_name l (enum_at files reads) m.row)
    (get_or l.meant file [])
