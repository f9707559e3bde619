use Rattle.proto_text.proofs.Values.{within, too_short}
use Rattle.proto_text.proofs.value.is_value.Goals as goal

pub returns-in-Some : goal.returns-in-Some
returns-in-Some c =
    let p = c.in-Some.ensures in
    let w = within c.args.text.now c.args.value.now p.0 p.1 c.in-Some.body.now p.2 in
    let h = c.means.ensures in
    (λ t. w.1 (h.0 t), λ s. h.1 (w.0 s))

pub returns-in-None : goal.returns-in-None
returns-in-None c = (λ t. absurd (cc), λ s. absurd (too_short c.args.text.now c.args.value.now c.in-None.ensures s))
