use Rattle.std.proofs.Common.{◌∙◌}
use Rattle.std.proofs.lemmas.Result.{IfOk-weaker}
use Rattle.proto_messages.proofs.objects.object_of.Goals as goal

pub returns : goal.returns
returns g c =
    IfOk-weaker c.into_value.result _ _ (λ value seen. seen.2 ∙ (c.put_members.ensures.fills c.new-out.ensures).is seen.0 seen.1)
    c.into_value.ensures
