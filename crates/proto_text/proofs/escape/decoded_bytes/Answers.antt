use Rattle.std.proofs.Common.{sym, ◌∙◌, arith, tests}
use Rattle.proto_text.proofs.Units.{means_more, means_all, means_stops, plain_means}
use Rattle.proto_text.proofs.escape.decoded_bytes.Goals as goal

pub returns-in-None : goal.returns-in-None
returns-in-None c = means_stops c.args.body.now c.loop-rest.rest.now c.loop-rest.values.items c.loop-rest.invariant (grind (arith, tests)) (sym c.unit.ensures.value ∙ c.in-None.is)

pub loop-rest-preserved : goal.loop-rest-preserved
loop-rest-preserved c =
    let more = means_more c.args.body.now c.loop-rest.rest.now c.loop-rest.values.items c.in-Some.found.0 c.in-Some.found.1 c.loop-rest.invariant (sym c.unit.ensures.value ∙ c.in-Some.is) in
    rw (c.split_at.ensures.back, c.in_ok-push.ensures.items) more

pub returns : goal.returns
returns c = means_all c.args.body.now c.loop-rest.rest.now c.loop-rest.values.items c.loop-rest.invariant (grind (arith, tests))

pub returns-then-not-has_backslash : goal.returns-then-not-has_backslash
returns-then-not-has_backslash c = rw c.in_ok-from_slice.ensures.items (plain_means c.args.body.now (sym c.has_backslash.ensures ∙ c.if-not-has_backslash.true))
