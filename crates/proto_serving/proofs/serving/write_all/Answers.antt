use Rattle.std.proofs.Common.{◌≡◌, ◌++◌, ◌+◌, subst, take, drop, flat_map}
use Rattle.std.specs.Io.KnownBytes.{Appends}
use Rattle.std.proofs.KnownBytes.{Appends-trans}
use Rattle.proto_base.specs.Texts.{Text}
use Rattle.proto_frames.specs.Frames.{frame}
use Rattle.proto_serving.specs.Serving.{texts}
use Rattle.proto_serving.proofs.Runs.{beginning, texts_more}
use Rattle.proto_serving.proofs.serving.write_all.Goals as goal

pub returns-in-Err-clause-err : goal.returns-in-Err-clause-err
returns-in-Err-clause-err g c =
    let part = c.in-Err.ensures.err in
    let front : Text = flat_map frame (texts (take c.loop-reply.reply-index c.args.replies.now)) in
    let cut : frame c.reply-item.result.items ≡ part.0 ++ part.1 = subst (λ (t : Text). frame t ≡ part.0 ++ part.1) c.as_slice.ensures.value part.2 in (
      front ++ part.0,
      part.1 ++ flat_map frame (texts (drop (c.loop-reply.reply-index + 1) c.args.replies.now)),
      beginning c.args.replies.now c.loop-reply.reply-index c.reply-item.result part.0 part.1 c.loop-reply-test.true c.reply-item.is cut,
      Appends-trans _ _ _ front part.0 c.loop-reply.invariant part.3,
    )

pub loop-reply-preserved : goal.loop-reply-preserved
loop-reply-preserved g c =
    let front : Text = flat_map frame (texts (take c.loop-reply.reply-index c.args.replies.now)) in
    let wrote = subst (λ (t : Text). Appends (g.W.Write.contents c.loop-reply.writer) (g.W.Write.contents c.write_frame.new.writer) (frame t)) c.as_slice.ensures.value c.in_default.ensures.ok in
    subst (λ (t : Text). Appends (g.W.Write.contents c.args.writer.now) (g.W.Write.contents c.write_frame.new.writer) t)
    (texts_more c.args.replies.now c.loop-reply.reply-index c.reply-item.result c.loop-reply-test.true c.reply-item.is)
    (Appends-trans _ _ _ front (frame c.reply-item.result.items) c.loop-reply.invariant wrote)
