use Rattle.std.proofs.Common.{◌≡◌, ap, string_bytes}
use Rattle.proto_text.specs.Values.{StandsFor}
use Rattle.proto_text.proofs.Values.{value_again, value_utf8}
use Rattle.proto_text.proofs.value.string_value.Goals as goal

pub unreachable-requires-in-Err : goal.unreachable-requires-in-Err
unreachable-requires-in-Err c =
    let m = rw c.in-Some-2.is at c.in_ok-values.ensures in
    let parts = rw c.as_bytes.ensures.value at c.in-Some.ensures in
    let s : StandsFor c.args.text.now c.in-Some-2.values.items = (parts.0, parts.1, c.in-Some.body.now, parts.2, m) in
    let wrong = c.in-Err.ensures.succeeds (value_utf8 c.args.text.now c.in-Some-2.values.items c.requires s) in
    absurd (cc)

pub returns-clause-means : goal.returns-clause-means
returns-clause-means c =
    let m = rw c.in-Some-2.is at c.in_ok-values.ensures in
    let parts = rw c.as_bytes.ensures.value at c.in-Some.ensures in
    let v : string_bytes c.in-Ok.value ≡ c.in-Some-2.values.items = ap (λ z. z.items) c.in-Ok.ensures.ok in
    rw v (parts.0, parts.1, c.in-Some.body.now, parts.2, m)

pub returns-clause-value : goal.returns-clause-value
returns-clause-value c =
    let m = rw c.in-Some-2.is at c.in_ok-values.ensures in
    let parts = rw c.as_bytes.ensures.value at c.in-Some.ensures in
    let v : string_bytes c.in-Ok.value ≡ c.in-Some-2.values.items = ap (λ z. z.items) c.in-Ok.ensures.ok in
    let s : StandsFor c.args.text.now (string_bytes c.in-Ok.value) = rw v (parts.0, parts.1, c.in-Some.body.now, parts.2, m) in
    value_again c.args.text.now (string_bytes c.in-Ok.value) s
