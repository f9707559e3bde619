use Rattle.std.proofs.Common.{◌≡◌, map, take}
use Rattle.proto_ast.specs.Views.{meant_of}
use Rattle.proto_resolved.specs.Common.{enum_in, meant_in_table}
use Rattle.proto_resolved.proofs.scenes.means.Given as goal

abbrev pub invariant-loop-reference : goal.invariant-loop-reference
invariant-loop-reference l = record {
  tokens : map (λ m. m.token) l.means.items ≡ map (λ m. m.token) (take l.reference-index l.reference-items);
  means : map meant_of l.means.items ≡ map (meant_in_table l.link (enum_in l.table)) (take l.reference-index l.reference-items);
}
