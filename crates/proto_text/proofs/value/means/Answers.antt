use Rattle.std.proofs.Common.{sym, ◌∙◌}
use Rattle.proto_text.proofs.Values.{left_test}
use Rattle.proto_text.proofs.value.means.Goals as goal

pub returns : goal.returns
returns c =
    left_test c.loop-rest.rest.now c.loop-rest.left.now c.args.body.now c.args.value.now c.is_empty-2.result c.is_empty-2.ensures
    (sym c.is_empty.ensures ∙ c.loop-rest-test.false) c.loop-rest.invariant
