use Rattle.std.proofs.Common.{◌≡◌, map, drop}
use Rattle.proto_ast.specs.Views.{field_of}
use Rattle.proto_edit_rename.specs.Members.{has_field}
use Rattle.proto_edit_rename.proofs.members.has_field.Given as goal

abbrev pub invariant-loop-field : goal.invariant-loop-field
invariant-loop-field l = has_field l.token (map field_of l.fields) ≡ has_field l.token (map field_of (drop l.field-index l.fields))
