use Rattle.std.proofs.Common.{◌≡◌, ◌++◌, Bool, List, flat_map, ap, ◌∙◌}
use Rattle.proto_base.specs.declared.fault.FaultKind.TheVariants as kind
use Rattle.proto_ast.proofs.Common.{FieldOf, OptionOf, option_of}
use Rattle.proto_desc_numbers.specs.declared.flaw.Flaw.{Flaw}
use Rattle.proto_desc_numbers.specs.Flaws.{flaw_if}
use Rattle.proto_desc_checks.specs.FieldFlaws.{is_misfit}
use Rattle.proto_base.proofs.Turns.{seen_more, seen_all}
use Rattle.proto_desc_checks.proofs.fields.add_misfits.Goals as goal

pub loop-option-preserved : goal.loop-option-preserved
loop-option-preserved c =
    let scene = c.args.scene.now in
    let option = c.option-item.result in
    let is : c.is_misfit-is_wrong.result ≡ is_misfit scene c.args.field.now (option_of option) = c.is_misfit-is_wrong.ensures ∙ ap (λ (f : FieldOf). is_misfit scene f (option_of option)) c.at.ensures in
    seen_more (λ o. flaw_if (is_misfit scene c.args.field.now o) kind.BadOption o.name) option_of c.options-option-items.result.now c.loop-option.option-index option option c.args.found.now.items c.loop-option.found.items _ c.loop-option-test.true c.option-item.is
    (c.in_ok-add_if.ensures ∙ ap (λ (b : Bool). c.loop-option.found.items ++ flaw_if b kind.BadOption option.name) is)
    c.loop-option.invariant

pub returns : goal.returns
returns c =
    let wrong : OptionOf → List Flaw = λ o. flaw_if (is_misfit c.args.scene.now c.args.field.now o) kind.BadOption o.name in
    seen_all wrong option_of c.options-option-items.result.now c.loop-option.option-index c.args.found.now.items c.loop-option.found.items c.loop-option-test.false c.loop-option.invariant
    ∙ ap (λ (os : List OptionOf). c.args.found.now.items ++ flat_map wrong os) c.options-option-items.ensures
