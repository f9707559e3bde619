use Rattle.std.proofs.Common.{◌≡◌, map, drop}
use Rattle.std.specs.List.{list_any}
use Rattle.proto_ast.specs.Views.{field_of}
use Rattle.proto_edit_rename.specs.Members.{is_other}
use Rattle.proto_edit_rename.proofs.json_names.has_other.Given as goal

abbrev pub invariant-loop-field : goal.invariant-loop-field
invariant-loop-field l = list_any (is_other l.scene l.token l.name) (map field_of l.fields) ≡ list_any (is_other l.scene l.token l.name) (map field_of (drop l.field-index l.fields))
