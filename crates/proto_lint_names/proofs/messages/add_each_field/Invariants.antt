use Rattle.std.proofs.Common.{◌≡◌, ◌++◌, drop, map, flat_map}
use Rattle.proto_ast.specs.Views.{field_of}
use Rattle.proto_case.specs.Cases.{is_lower_snake}
use Rattle.proto_lint_rules.specs.declared.rule.Rule.TheVariants as rule
use Rattle.proto_lint_names.proofs.Common.{found_at, unless_word, reading_of}
use Rattle.proto_lint_names.proofs.messages.add_each_field.Given as goal

abbrev pub invariant-loop-field : goal.invariant-loop-field
invariant-loop-field l = l.found ++ map (found_at (reading_of l.reading) rule.FieldLowerSnakeCase) (flat_map (λ f. unless_word (reading_of l.reading) is_lower_snake l.message f.name) (map field_of (drop l.field-index l.fields))) ≡ l.initial.found ++ map (found_at (reading_of l.reading) rule.FieldLowerSnakeCase) (flat_map (λ f. unless_word (reading_of l.reading) is_lower_snake l.message f.name) (map field_of l.fields))
