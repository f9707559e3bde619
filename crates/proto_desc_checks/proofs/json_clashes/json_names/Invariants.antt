use Rattle.std.proofs.Common.{◌≡◌, take, map, string_bytes}
use Rattle.proto_ast.proofs.Common.{field_of, json_name_of}
use Rattle.proto_desc_checks.proofs.json_clashes.json_names.Given as goal

abbrev pub invariant-loop-field : goal.invariant-loop-field
invariant-loop-field l = map string_bytes l.names.items ≡ map (json_name_of l.scene) (map field_of (take l.field-index l.fields))
