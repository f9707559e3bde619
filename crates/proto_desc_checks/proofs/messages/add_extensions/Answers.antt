use Rattle.std.proofs.Common.{◌++◌, Bool, get_or, refl, ap, ◌∙◌}
use Rattle.proto_base.specs.declared.fault.FaultKind.TheVariants as kind
use Rattle.proto_desc_numbers.specs.Flaws.{flaw_if}
use Rattle.proto_base.proofs.Turns.{added_more, added_all}
use Rattle.proto_desc_checks.proofs.messages.add_extensions.Goals as goal

pub loop-word-preserved : goal.loop-word-preserved
loop-word-preserved c =
    added_more (λ t. flaw_if c.args.scene.now.is_proto3 kind.NotInProto3 t) c.args.words.now c.loop-word.word-index (get_or c.args.words.now c.loop-word.word-index 0) 0 c.args.found.now.items c.loop-word.found.items _ c.loop-word-test.true refl
    (c.in_ok-add_if.ensures ∙ ap (λ (b : Bool). c.loop-word.found.items ++ flaw_if b kind.NotInProto3 (get_or c.args.words.now c.loop-word.word-index 0)) c.is_proto3.ensures)
    c.loop-word.invariant

pub returns : goal.returns
returns c =
    added_all (λ t. flaw_if c.args.scene.now.is_proto3 kind.NotInProto3 t) c.args.words.now c.loop-word.word-index c.args.found.now.items c.loop-word.found.items c.loop-word-test.false c.loop-word.invariant
