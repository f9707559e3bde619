use Rattle.std.proofs.Common.{◌≡◌, map, take}
use Rattle.proto_ast.proofs.Common.{text, option_of}
use Rattle.proto_desc_checks.proofs.options.add_repeated.Given as goal

abbrev pub invariant-loop-option : goal.invariant-loop-option
invariant-loop-option l = record {
  tokens : l.tokens.items ≡ map (λ o. o.name) (map option_of (take l.option-index l.options));
  names : map (λ n. n.now) l.names.items ≡ map (λ o. text l.scene o.name) (map option_of (take l.option-index l.options));
}
