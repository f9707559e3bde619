use Rattle.std.proofs.Common.{◌≡◌, ◌++◌, map, take, flat_map}
use Rattle.proto_base.specs.declared.fault.FaultKind.TheVariants as kind
use Rattle.proto_ast.proofs.Common.{option_of}
use Rattle.proto_desc_numbers.specs.Flaws.{flaw_if}
use Rattle.proto_desc_checks.specs.FieldFlaws.{is_misfit}
use Rattle.proto_desc_checks.proofs.fields.add_misfits.Given as goal

abbrev pub invariant-loop-option : goal.invariant-loop-option
invariant-loop-option l =
    l.found.items ≡ l.fn.found.items ++ flat_map (λ o. flaw_if (is_misfit l.scene l.field o) kind.BadOption o.name) (map option_of (take l.option-index l.option-items))
