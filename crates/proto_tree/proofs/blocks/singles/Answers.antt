use Rattle.std.proofs.lemmas.Result.{err_from_is_err_and}
use Rattle.proto_tree.specs.File.{trees}
use Rattle.proto_tree.proofs.Nodes.{fault_behind, read_push}
use Rattle.proto_tree.proofs.blocks.singles.Goals as goal

pub returns-in_err-found : goal.returns-in_err-found
returns-in_err-found g c =
    let p = err_from_is_err_and c.from_residual.result c.from_residual.ensures.1 in
    rw (p.1, p.2) (fault_behind (trees g.T.Single.tree c.loop-items.items.items) c.in_err-found.field-0.0 g.met.T.Single.ends c.loop-items.invariant c.in_err-found.ensures)

pub loop-items-preserved : goal.loop-items-preserved
loop-items-preserved g c =
    let item = rw c.in-Item.is at c.in_ok-found.ensures in
    read_push g.T.Single.tree c.loop-items.items.items c.push.new.items.items c.in-Item.item g.met.T.Single.ends c.loop-items.invariant item c.in_ok-push-in-Item.ensures
