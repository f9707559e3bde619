use Rattle.std.proofs.Common.{take, flat_map}
use Rattle.std.specs.Io.KnownBytes.{Appends}
use Rattle.proto_frames.specs.Frames.{frame}
use Rattle.proto_serving.specs.Serving.{texts}
use Rattle.proto_serving.proofs.serving.write_all.Given as goal

abbrev pub invariant-loop-reply : goal.invariant-loop-reply
invariant-loop-reply g l = Appends (g.W.Write.contents l.initial.writer) (g.W.Write.contents l.writer) (flat_map frame (texts (take l.reply-index l.replies)))
