use Rattle.std.proofs.Common.{◌≡◌, false, subst}
use Rattle.std.proofs.lemmas.Result.{IfOk-weaker}
use Rattle.serde_json.specs.Data.{Data}
use Rattle.serde_json.specs.Written.{compact_text, has_float}
use Rattle.proto_messages.proofs.objects.object_text.Goals as goal

pub returns : goal.returns
returns g c =
    IfOk-weaker c.to_vec.result _ _ (λ text is. subst (λ (d : Data). has_float d ≡ false → text.items ≡ compact_text d) c.in_ok-value.ensures is)
    c.to_vec.ensures.text
