use Rattle.std.proofs.Common.{◌≡◌, ◌++◌, map, drop, flat_map}
use Rattle.proto_ast.proofs.Common.{text, field_of}
use Rattle.proto_edit_rename.specs.Defaults.{asked_defaults}
use Rattle.proto_edit_rename.proofs.defaults.push_fields.Given as goal

abbrev pub invariant-loop-field : goal.invariant-loop-field
invariant-loop-field l = l.found.items ++ flat_map (asked_defaults (text l.scene) l.asked) (map field_of (drop l.field-index l.fields)) ≡ l.initial.found.items ++ flat_map (asked_defaults (text l.scene) l.asked) (map field_of l.fields)
