use Rattle.std.proofs.Common.{List, ◌++◌, map, take}
use Rattle.proto_ast.specs.Views.{field_of}
use Rattle.proto_desc_extensions.specs.Common.{AreExtendedRows, Extending, extending}
use Rattle.proto_desc_extensions.proofs.extended_table.add_rows.Given as goal

abbrev pub invariant-loop-field : goal.invariant-loop-field
invariant-loop-field l = (es : List Extending) → AreExtendedRows es l.initial.rows → AreExtendedRows (es ++ map (extending l.extended.name.now) (map field_of (take l.field-index l.fields))) l.rows
