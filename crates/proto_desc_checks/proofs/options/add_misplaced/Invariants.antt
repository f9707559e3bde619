use Rattle.std.proofs.Common.{◌≡◌, ◌++◌, map, take}
use Rattle.proto_ast.specs.Views.{option_of}
use Rattle.proto_desc_checks.specs.FieldFlaws.{misplaced_options}
use Rattle.proto_desc_checks.proofs.options.add_misplaced.Given as goal

abbrev pub invariant-loop-option : goal.invariant-loop-option
invariant-loop-option l = l.found.items ≡ l.fn.found.items ++ misplaced_options l.scene l.element (map option_of (take l.option-index l.options))
