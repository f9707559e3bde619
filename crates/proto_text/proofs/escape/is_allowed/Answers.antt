use Rattle.std.proofs.Common.{sym, ◌∙◌}
use Rattle.proto_text.proofs.Units.{allowed_as, plain_means}
use Rattle.proto_text.proofs.escape.is_allowed.Goals as goal

pub returns-then-not-has_backslash : goal.returns-then-not-has_backslash
returns-then-not-has_backslash c =
    allowed_as c.args.body.now c.args.body.now c.is_utf8.result (plain_means c.args.body.now (sym c.has_backslash.ensures ∙ c.if-not-has_backslash.true)) c.is_utf8.ensures

pub returns-in-Some : goal.returns-in-Some
returns-in-Some c =
    let means = rw c.in-Some.is at c.in_ok-decoded_bytes.ensures in
    let utf8 = rw c.as_slice.ensures.value at c.is_utf8-in-Some.ensures in
    allowed_as c.args.body.now c.in-Some.values.items c.is_utf8-in-Some.result means utf8
