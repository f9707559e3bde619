use Rattle.std.proofs.Common.{◌≡◌, ◌++◌, ◌&&◌, Bool, List, flat_map, codes, ap, ◌∙◌, rules}
use Rattle.proto_base.specs.declared.fault.FaultKind.TheVariants as kind
use Rattle.proto_ast.proofs.Common.{is_named, OptionOf, text, option_of}
use Rattle.proto_desc_numbers.specs.Flaws.{flaw_if}
use Rattle.proto_base.proofs.Turns.{and_then, and_else, seen_more, seen_all}
use Rattle.proto_desc_checks.proofs.defaults.add_proto3_defaults.Goals.{then-is_proto3, else-is_proto3}
use Rattle.proto_desc_checks.proofs.defaults.add_proto3_defaults.Goals as goal

pub loop-option-preserved : goal.loop-option-preserved
loop-option-preserved c =
    let wrong = λ (o : OptionOf). c.args.scene.now.is_proto3 && is_named (text c.args.scene.now) (codes "default") o in
    let option = c.option-item.result in
    let is : c.if-is_proto3.is_wrong ≡ wrong (option_of option) = elim c.if-is_proto3.branch [
      | then-is_proto3 w ↦ and_then c.if-is_proto3.is_wrong (c.args.scene.now.is_proto3) (is_named (text c.args.scene.now) (codes "default") (option_of option)) (search rules) (search rules)
      | else-is_proto3 w ↦ and_else c.if-is_proto3.is_wrong (c.args.scene.now.is_proto3) (is_named (text c.args.scene.now) (codes "default") (option_of option)) (search rules) (w.is_wrong-is ∙ w.if-is_proto3.false)
    ] in
    seen_more (λ o. flaw_if (wrong o) kind.NotInProto3 o.name) option_of c.options-option-items.result.now c.loop-option.option-index option option c.args.found.now.items c.loop-option.found.items _ c.loop-option-test.true c.option-item.is
    (c.in_ok-add_if.ensures ∙ ap (λ (b : Bool). c.loop-option.found.items ++ flaw_if b kind.NotInProto3 option.name) is)
    c.loop-option.invariant

pub returns : goal.returns
returns c =
    seen_all (λ o. flaw_if (c.args.scene.now.is_proto3 && is_named (text c.args.scene.now) (codes "default") o) kind.NotInProto3 o.name) option_of c.options-option-items.result.now c.loop-option.option-index c.args.found.now.items c.loop-option.found.items c.loop-option-test.false c.loop-option.invariant
    ∙ ap (λ (os : List OptionOf). c.args.found.now.items ++ flat_map (λ o. flaw_if (c.args.scene.now.is_proto3 && is_named (text c.args.scene.now) (codes "default") o) kind.NotInProto3 o.name) os) c.options-option-items.ensures
