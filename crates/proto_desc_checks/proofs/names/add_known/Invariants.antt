use Rattle.std.proofs.Common.{◌≡◌, ◌++◌, take, map, flat_map, bytes_eq}
use Rattle.std.specs.List.{list_any}
use Rattle.proto_base.specs.declared.fault.FaultKind.TheVariants as kind
use Rattle.proto_ast.specs.Scenes.{text}
use Rattle.proto_desc_numbers.specs.Flaws.{flaw_if}
use Rattle.proto_desc_checks.proofs.names.add_known.Given as goal

abbrev pub invariant-loop-name : goal.invariant-loop-name
invariant-loop-name l = l.found.items ≡ l.initial.found.items ++ flat_map (λ t. flaw_if (list_any (bytes_eq (text l.scene t)) (map (λ k. k.now) l.known.keys)) kind.ReservedName t) (take l.name-index l.names)
