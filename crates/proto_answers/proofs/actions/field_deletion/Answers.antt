use Rattle.std.proofs.Common.{refl, inl, inr, string_bytes}
use Rattle.std.proofs.lemmas.Result.{IfOk-weaker}
use Rattle.proto_answers.proofs.actions.field_deletion.Goals as goal

pub returns-in_default : goal.returns-in_default
returns-in_default c = inl (refl, rw c.in_default.is at c.in_ok-name.ensures)

pub returns : goal.returns
returns c =
    let declared = rw c.in-Some.is at c.in_ok-name.ensures in
    IfOk-weaker c.offered.result _ _ (λ found h. inr (string_bytes c.in-Some.name, declared, h)) c.offered.ensures
