use Rattle.std.proofs.Common.{◌≡◌, ◌++◌, take, map, flat_map}
use Rattle.proto_ast.specs.Views.{field_of}
use Rattle.proto_desc_checks.specs.FieldFlaws.{flaws_of_extension}
use Rattle.proto_desc_checks.proofs.extends.add_extensions.Given as goal

abbrev pub invariant-loop-field : goal.invariant-loop-field
invariant-loop-field l = l.found.items ≡ l.initial.found.items ++ flat_map (flaws_of_extension l.scene) (map field_of (take l.field-index l.fields))
