use Rattle.std.proofs.Common.{◌≡◌, map, drop}
use Rattle.std.specs.List.{list_any}
use Rattle.proto_ast.specs.Views.{field_of}
use Rattle.proto_edit_rename.specs.Members.{is_made}
use Rattle.proto_edit_rename.proofs.json_names.has_made.Given as goal

abbrev pub invariant-loop-field : goal.invariant-loop-field
invariant-loop-field l = list_any (is_made l.scene l.token) (map field_of l.fields) ≡ list_any (is_made l.scene l.token) (map field_of (drop l.field-index l.fields))
