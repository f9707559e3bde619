use Rattle.std.proofs.Common.{map, arith}
use Rattle.proto_base.proofs.Turns.{listed_more, listed_all}
use Rattle.proto_edit_entries.specs.Entries.{change_of, turned_round}
use Rattle.proto_edit_entries.proofs.change.all_turned_round.Goals as goal

pub loop-change-preserved : goal.loop-change-preserved
loop-change-preserved c =
    listed_more turned_round change_of c.args.changes.now c.loop-change.change-index c.change-item.result c.change-item.result (map change_of c.loop-change.back.items) (map change_of c.push_turned.new.back.items)
    c.loop-change-test.true c.change-item.is c.in_ok-push_turned.ensures c.loop-change.invariant

pub returns : goal.returns
returns c = listed_all turned_round change_of c.args.changes.now c.loop-change.change-index (map change_of c.loop-change.back.items) (omega arith) c.loop-change.invariant
