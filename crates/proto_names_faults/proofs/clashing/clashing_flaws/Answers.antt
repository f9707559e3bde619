use Rattle.std.proofs.Common.{length, sym, ap, subst, arith, All}
use Rattle.std.proofs.lemmas.Result.{IfOk-weaker}
use Rattle.proto_names_table.proofs.Common.{AreSpelled}
use Rattle.proto_names_faults.proofs.NamesAsRead.{clashes_as_read}
use Rattle.proto_names_faults.proofs.clashing.clashing_flaws.Goals as goal

pub all_spelled-requires : goal.all_spelled-requires
all_spelled-requires c = c.requires

pub clash_flaws-requires-clause-count : goal.clash_flaws-requires-clause-count
clash_flaws-requires-clause-count c = omega (arith, ap length c.deref.ensures.value, c.in_ok-spelled.ensures.len, c.len-count.ensures.workspace.few)

pub clash_flaws-requires-clause-spelled : goal.clash_flaws-requires-clause-spelled
clash_flaws-requires-clause-spelled c = subst (All (λ v. AreSpelled v.items)) (sym c.deref.ensures.value) c.in_ok-spelled.ensures.spelled

pub returns : goal.returns
returns c = IfOk-weaker c.clash_flaws.result _ _
    (λ ws h reads are.
    clashes_as_read c.args.files.now reads are c.in_ok-spelled.spelled.items c.deref.result.now c.deref.ensures.value (c.in_ok-spelled.ensures.names reads are) ws.items h)
    c.clash_flaws.ensures
