use Rattle.std.proofs.Common.{◌≡◌, ◌++◌, take, flat_map}
use Rattle.proto_base.specs.declared.fault.FaultKind.TheVariants as kind
use Rattle.proto_desc_numbers.specs.Flaws.{flaw_if}
use Rattle.proto_desc_checks.proofs.messages.add_extensions.Given as goal

abbrev pub invariant-loop-word : goal.invariant-loop-word
invariant-loop-word l = l.found.items ≡ l.initial.found.items ++ flat_map (λ t. flaw_if l.scene.is_proto3 kind.NotInProto3 t) (take l.word-index l.words)
