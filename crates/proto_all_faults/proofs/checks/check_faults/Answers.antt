use Rattle.std.proofs.Common.{map, Some, sym, subst}
use Rattle.proto_files.specs.Faults.{fault_at}
use Rattle.proto_ast.specs.Numbers.{past}
use Rattle.proto_all_faults.specs.Common.{AreFound, CheckFaultsUpTo}
use Rattle.proto_all_faults.proofs.CheckLists.{checks_found}
use Rattle.proto_all_faults.proofs.FirstPhases.{in_their_order}
use Rattle.proto_all_faults.proofs.checks.check_faults.Goals as goal

pub returns : goal.returns
returns c =
    let files = c.args.linked.now.files in
    let reads = c.files.ensures.linked.reads in
    let are = c.files.ensures.linked.read in
    let faults = CheckFaultsUpTo (Some past) files in
    in_their_order faults (map fault_at c.in_ok-found.found.items) (map fault_at c.in_order.result.items)
    (subst (AreFound faults) (sym (c.in_ok-found.ensures reads are)) (checks_found (Some past) files reads are))
    c.in_order.ensures.rising c.in_order.ensures.same
