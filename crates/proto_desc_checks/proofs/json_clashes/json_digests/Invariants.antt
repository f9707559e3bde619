use Rattle.std.proofs.Common.{◌≡◌, take, map}
use Rattle.proto_ast.proofs.Common.{field_of, json_name_of, name_digest}
use Rattle.proto_desc_checks.proofs.json_clashes.json_digests.Given as goal

abbrev pub invariant-loop-field : goal.invariant-loop-field
invariant-loop-field l = l.digests.items ≡ map (λ f. name_digest (json_name_of l.scene f)) (map field_of (take l.field-index l.fields))
