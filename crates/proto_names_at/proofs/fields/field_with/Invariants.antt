use Rattle.std.proofs.Common.{◌≡◌, map, drop, find}
use Rattle.proto_ast.specs.Scenes.{text}
use Rattle.proto_ast.specs.Views.{field_of}
use Rattle.proto_names_at.specs.Defaults.{has_default}
use Rattle.proto_names_at.proofs.fields.field_with.Given as goal

abbrev pub invariant-loop-field : goal.invariant-loop-field
invariant-loop-field l = find (has_default (text l.scene) l.token) (map field_of l.fields) ≡ find (has_default (text l.scene) l.token) (map field_of (drop l.field-index l.fields))
