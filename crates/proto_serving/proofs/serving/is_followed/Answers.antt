use Rattle.std.proofs.Common.{Option, IfSome, subst}
use Rattle.proto_base.specs.Texts.{Text}
use Rattle.proto_serving.specs.Serving.{HasPrefix}
use Rattle.proto_serving.proofs.Runs.{frame_before}
use Rattle.proto_serving.proofs.serving.is_followed.Goals as goal

pub returns : goal.returns
returns g c = λ bytes known yes.
    frame_before c.args.cap c.buffer.result.now bytes (c.has_frame.ensures yes)
    (subst (λ (o : Option Text). IfSome o (HasPrefix c.buffer.result.now)) known c.buffer.ensures)
