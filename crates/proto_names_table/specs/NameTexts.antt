-- Where the bytes of a row's full name stand.
use Rattle.std.specs.Prelude.{ℕ, List, string_bytes, take, IsCharBoundary}
use Rattle.std.specs.Arc.{arc_str_bytes}
use Rattle.proto_names_table.specs.declared.name.NameText.{NameText}
use Rattle.proto_names_table.specs.declared.name.NameText.TheVariants.{Own, First}

-- the bytes of a name: a text of its own, or the first ones of a shared text
abbrev pub bytes_of : NameText → List ℕ
bytes_of (Own text) = string_bytes text
bytes_of (First text len) = take len (arc_str_bytes text)

-- a shared text is cut between two characters
abbrev pub IsCut : NameText → Type 0
IsCut (Own text) = Unit {0}
IsCut (First text len) = IsCharBoundary (arc_str_bytes text) len
