use Rattle.proto_names_faults.proofs.LocatedFlaws.{listed_located}
use Rattle.proto_names_faults.proofs.located.listed.Goals as goal

pub returns : goal.returns
returns c = listed_located c.args.files.now c.are_read.ensures.0 c.are_read.ensures.1 c.args.flaws.now c.in_ok-faults.faults.items c.in_order.result.items c.requires c.in_ok-faults.ensures c.in_order.ensures.rising c.in_order.ensures.same
