use Rattle.std.proofs.Common.{refl}
use Rattle.std.proofs.lemmas.Result.{err_from_is_err_and}
use Rattle.proto_tree.specs.declared.context.Context.TheVariants as context
use Rattle.proto_tree.specs.File.{trees, item_tree}
use Rattle.proto_tree.proofs.Nodes.{fault_start, file_push, last_push, outer_stays}
use Rattle.proto_tree.proofs.files.items.Goals as goal

pub item-requires-clause-outer : goal.item-requires-clause-outer
item-requires-clause-outer c = outer_stays context.Start c.loop-rest.context (trees item_tree c.loop-rest.items.items) c.loop-rest.invariant.last refl

pub returns-in_err-found : goal.returns-in_err-found
returns-in_err-found c =
    let p = err_from_is_err_and c.from_residual.result c.from_residual.ensures.1 in
    rw (p.1, p.2) (fault_start (trees item_tree c.loop-rest.items.items) c.in_err-found.field-0.0 c.loop-rest.invariant.last c.loop-rest.invariant.read c.in_err-found.ensures)

pub loop-rest-preserved : goal.loop-rest-preserved
loop-rest-preserved c = record {
  read = file_push item_tree c.loop-rest.items.items c.push.new.items.items c.in_ok-found.found c.loop-rest.invariant.last c.loop-rest.invariant.read c.in_ok-found.ensures.item c.in_ok-push.ensures;
  last = last_push context.Start c.loop-rest.context c.in_ok-found.next item_tree c.loop-rest.items.items c.push.new.items.items c.in_ok-found.found c.loop-rest.invariant.last c.in_ok-found.ensures.last c.in_ok-push.ensures;
}
