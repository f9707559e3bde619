use Rattle.std.proofs.Common.{refl}
use Rattle.proto_serving.proofs.Runs.{frame_read}
use Rattle.proto_serving.proofs.serving.has_frame.Goals as goal

pub returns-in-Ok-Some : goal.returns-in-Ok-Some
returns-in-Ok-Some c = λ yes.
    let read = rw c.in-Ok-Some.field-0-is at (c.in-Ok-Some.ensures c.args.bytes.now refl) in
    frame_read c.args.cap c.args.bytes.now c.in-Ok-Some.field-0-0.items read.0 read.2
