use Rattle.std.proofs.Common.{◌≡◌, take, map}
use Rattle.proto_ast.specs.Views.{field_of}
use Rattle.proto_desc_numbers.specs.NumberFlaws.{number_of_field}
use Rattle.proto_desc_numbers.proofs.number_lists.field_numbers.Given as goal

abbrev pub invariant-loop-field : goal.invariant-loop-field
invariant-loop-field l = l.numbers.items ≡ map (number_of_field l.scene) (map field_of (take l.field-index l.fields))
