use Rattle.std.proofs.Common.{◌≡◌, take, map}
use Rattle.proto_ast.specs.Views.{field_of}
use Rattle.proto_desc_checks.proofs.json_clashes.name_tokens.Given as goal

abbrev pub invariant-loop-field : goal.invariant-loop-field
invariant-loop-field l = l.tokens.items ≡ map (λ f. f.name) (map field_of (take l.field-index l.fields))
