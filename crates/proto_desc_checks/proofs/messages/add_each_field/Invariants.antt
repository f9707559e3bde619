use Rattle.std.proofs.Common.{◌≡◌, ◌++◌, take, map, flat_map}
use Rattle.proto_ast.specs.Views.{field_of}
use Rattle.proto_ast.specs.declared.options.Element.TheVariants as element
use Rattle.proto_desc_checks.specs.FieldFlaws.{field_flaws}
use Rattle.proto_desc_checks.proofs.messages.add_each_field.Given as goal

abbrev pub invariant-loop-field : goal.invariant-loop-field
invariant-loop-field l = l.found.items ≡ l.initial.found.items ++ flat_map (field_flaws l.scene element.Field) (map field_of (take l.field-index l.fields))
