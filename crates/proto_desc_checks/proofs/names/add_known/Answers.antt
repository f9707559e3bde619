use Rattle.std.proofs.Common.{◌++◌, Bool, get_or, map, refl, ap, ◌∙◌, bytes_eq}
use Rattle.proto_base.proofs.Common.{list_any, added_more, added_all}
use Rattle.proto_base.specs.declared.fault.FaultKind.TheVariants as kind
use Rattle.proto_ast.specs.Scenes.{text}
use Rattle.proto_desc_numbers.specs.Flaws.{flaw_if}
use Rattle.proto_desc_checks.proofs.names.add_known.Goals as goal

pub loop-name-preserved : goal.loop-name-preserved
loop-name-preserved c =
    let name = get_or c.args.names.now c.loop-name.name-index 0 in
    added_more (λ t. flaw_if (list_any (bytes_eq (text c.args.scene.now t)) (map (λ k. k.now) c.args.known.now.keys)) kind.ReservedName t) c.args.names.now c.loop-name.name-index name 0 c.args.found.now.items c.loop-name.found.items _ c.loop-name-test.true refl
    (c.in_ok-add_if.ensures ∙ ap (λ (b : Bool). c.loop-name.found.items ++ flaw_if b kind.ReservedName name) c.is_known-is_known.ensures)
    c.loop-name.invariant

pub returns : goal.returns
returns c =
    added_all (λ t. flaw_if (list_any (bytes_eq (text c.args.scene.now t)) (map (λ k. k.now) c.args.known.now.keys)) kind.ReservedName t) c.args.names.now c.loop-name.name-index c.args.found.now.items c.loop-name.found.items c.loop-name-test.false c.loop-name.invariant
