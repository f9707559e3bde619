use Rattle.std.proofs.Common.{codes, option_and_then, ap, sym, ◌∙◌}
use Rattle.std.proofs.lemmas.Result.{IfOk-weaker}
use Rattle.proto_messages.specs.Reading.{text_at}
use Rattle.proto_messages.proofs.Items.{last_is}
use Rattle.proto_messages.proofs.notifications.last_text.Goals as goal

pub returns-in-Some : goal.returns-in-Some
returns-in-Some c =
    IfOk-weaker c.text_at.result _ _ (λ text is. is ∙ sym (ap (option_and_then (text_at (codes "/text"))) (last_is c.args.changes.now c.in-Some.change.now c.in-Some.ensures.value)))
    c.text_at.ensures
