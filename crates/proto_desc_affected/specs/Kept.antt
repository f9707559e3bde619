-- What is kept of files, as plain records.
use Rattle.std.specs.Prelude.{List, map, string_bytes}
use Rattle.proto_base.specs.Texts.{Text}
use Rattle.proto_desc_affected.specs.Checked.{EnumSummaryOf, FileSummaryOf, TypeUseOf}
use Rattle.proto_ast.specs.Scenes.{EnumOf}
use Rattle.proto_desc_affected.specs.declared.file_summary.EnumSummary.{EnumSummary}
use Rattle.proto_desc_affected.specs.declared.file_summary.FileSummary.{FileSummary}
use Rattle.proto_desc_affected.specs.declared.file_summary.TypeUse.{TypeUse}

-- a name that a reference meant
abbrev pub type_use_of : TypeUse → TypeUseOf
type_use_of k = record { text = string_bytes k.name; is_message = k.is_message }

-- this enum, as that of this full name
abbrev pub enum_with_name : Text → EnumOf → EnumSummaryOf
enum_with_name name enum = record { name = name; enum = enum }

-- what is read of an enum that a file declared
abbrev pub enum_kept : EnumSummary → EnumOf
enum_kept k = record {
  is_proto3 = k.is_proto3;
  starts_past_zero = k.starts_past_zero;
  values = map string_bytes k.values.items;
}

-- an enum that a file declared
abbrev pub enum_summary_of : EnumSummary → EnumSummaryOf
enum_summary_of k = enum_with_name (string_bytes k.name) (enum_kept k)

-- what is kept of a file
abbrev pub file_summary_of : FileSummary → FileSummaryOf
file_summary_of k = record {
  means = map type_use_of k.means.items;
  enums = map enum_summary_of k.enums.items;
  is_proto3 = k.is_proto3;
  has_extend = k.has_extend;
}

-- what is kept of files
abbrev pub file_summaries_of : List FileSummary → List FileSummaryOf
file_summaries_of ks = map file_summary_of ks
