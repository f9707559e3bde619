use Rattle.std.proofs.Common.{arith, refl}
use Rattle.proto_session_files.specs.Views.{view_at}
use Rattle.proto_session_replies.proofs.RepliedLists.{zipped_all, zipped_turn}
use Rattle.proto_session_replies.specs.Replies.{IsSent}
use Rattle.proto_session_replies.proofs.requesting.all_sent.Goals as goal

pub loop-location-preserved : goal.loop-location-preserved
loop-location-preserved c = zipped_turn (IsSent (view_at c.args.view.now) c.args.files.now) c.args.locations.now c.loop-location.all.items c.push.new.self.items c.loop-location.location-index _ c.in_ok-sent.field-0 c.loop-location-test.true c.loop-location.invariant c.in_ok-sent.ensures c.in_ok-push.ensures.items

pub returns : goal.returns
returns c = (c.loop-location.all, refl, zipped_all (IsSent (view_at c.args.view.now) c.args.files.now) c.args.locations.now c.loop-location.all.items c.loop-location.location-index (omega (arith, c.loop-location-test.false)) c.loop-location.invariant)
