use Rattle.std.proofs.Common.{◌≡◌, ◌++◌, map, take, codes, flat_map, ◌&&◌}
use Rattle.proto_base.specs.declared.fault.FaultKind.TheVariants as kind
use Rattle.proto_ast.proofs.Common.{is_named, text, option_of}
use Rattle.proto_desc_numbers.specs.Flaws.{flaw_if}
use Rattle.proto_desc_checks.proofs.defaults.add_proto3_defaults.Given as goal

abbrev pub invariant-loop-option : goal.invariant-loop-option
invariant-loop-option l =
    l.found.items ≡ l.fn.found.items ++ flat_map (λ o. flaw_if (l.scene.is_proto3 && is_named (text l.scene) (codes "default") o) kind.NotInProto3 o.name) (map option_of (take l.option-index l.option-items))
