use Rattle.proto_base.proofs.Turns.{listed_all}
use Rattle.proto_session_told.specs.Shown.{diagnostic_in, diagnostic_of, shown_of}
use Rattle.proto_session_told.proofs.Viewed.{viewed_more}
use Rattle.proto_session_told.proofs.diagnostics.diagnostics.Goals as goal
use Rattle.std.proofs.Common.{map, ap}

pub loop-shown-init : goal.loop-shown-init
loop-shown-init c = record {
  cursor = c.new-cursor.ensures.there c.args.encoding c.args.text.now;
  made = ap (map diagnostic_of) c.new-all.ensures.items;
}

pub loop-shown-preserved : goal.loop-shown-preserved
loop-shown-preserved c = record {
  cursor = c.in_ok-diagnostic.ensures.there;
  made = viewed_more diagnostic_of (diagnostic_in c.args.encoding c.args.text.now) shown_of c.args.run.now c.loop-shown.shown-index c.shown-item.result c.shown-item.result c.loop-shown.all.items _ _ c.loop-shown-test.true c.shown-item.is c.in_ok-push.ensures.items c.in_ok-diagnostic.ensures.diagnostic c.loop-shown.invariant.made;
}

pub returns : goal.returns
returns c =
    listed_all (diagnostic_in c.args.encoding c.args.text.now) shown_of c.args.run.now c.loop-shown.shown-index (map diagnostic_of c.loop-shown.all.items) c.loop-shown-test.false c.loop-shown.invariant.made
