use Rattle.std.proofs.Common.{map}
use Rattle.proto_base.proofs.Turns.{listed_all}
use Rattle.proto_files.specs.Faults.{fault_at}
use Rattle.proto_session_told.specs.Shown.{shown_fault, shown_of}
use Rattle.proto_session_told.proofs.Viewed.{viewed_more}
use Rattle.proto_session_told.proofs.shown.shown_faults.Goals as goal

pub loop-fault-preserved : goal.loop-fault-preserved
loop-fault-preserved c =
    viewed_more shown_of shown_fault fault_at c.args.listed.now c.loop-fault.fault-index c.fault-item.result c.fault-item.result c.loop-fault.shown.items _ _ c.loop-fault-test.true c.fault-item.is c.in_ok-push.ensures.items c.in_ok-shown_fault.ensures c.loop-fault.invariant

pub returns : goal.returns
returns c = listed_all shown_fault fault_at c.args.listed.now c.loop-fault.fault-index (map shown_of c.loop-fault.shown.items) c.loop-fault-test.false c.loop-fault.invariant
