use Rattle.std.proofs.Common.{◌++◌, List, false, sym, ap, ◌∙◌, get_or, take, append_assoc}
use Rattle.proto_desc_numbers.specs.Common.{Flaw, flaw_if, marked}
use Rattle.proto_desc_numbers.proofs.FlawLists.{marked_more, marked_whole}
use Rattle.proto_desc_numbers.proofs.flaw.add_marked.Goals as goal

pub loop-i-preserved : goal.loop-i-preserved
loop-i-preserved c =
    let one = flaw_if (get_or c.args.flags.now c.loop-i.i false) c.args.kind (get_or c.args.tokens.now c.loop-i.i 0) in
    c.in_ok-add_if.ensures
    ∙ ap (λ (z : List Flaw). z ++ one) c.loop-i.invariant
    ∙ append_assoc c.args.found.now.items (marked c.args.kind (take c.loop-i.i c.args.tokens.now) (take c.loop-i.i c.args.flags.now)) one
    ∙ ap (λ (z : List Flaw). c.args.found.now.items ++ z) (sym (marked_more c.args.kind c.args.tokens.now c.args.flags.now c.loop-i.i 0 false c.loop-i-test.true c.requires))

pub returns : goal.returns
returns c = c.loop-i.invariant ∙ ap (λ (z : List Flaw). c.args.found.now.items ++ z) (marked_whole c.args.kind c.args.tokens.now c.args.flags.now c.loop-i.i c.loop-i-test.false c.requires)
