use Rattle.std.proofs.Common.{List, ℕ, IfOk, IfErr, map, sym, subst}
use Rattle.std.proofs.lemmas.Result.{err_from_is_err_and}
use Rattle.proto_edit_entries.specs.Entries.{change_of}
use Rattle.proto_edit_rename.specs.Common.{IsFreeBefore, IsRenameRefusal, IsRenamed}
use Rattle.proto_edit_rename.proofs.renaming.rename.Goals as goal

pub returns-in_err-target-clause-err : goal.returns-in_err-target-clause-err
returns-in_err-target-clause-err c =
    let p = err_from_is_err_and c.from_residual.result c.from_residual.ensures.1 in
    rw (p.1, p.2) (c.in_err-target.ensures.err c.args.to.now)

pub changes_of_rename-requires-clause-before : goal.changes_of_rename-requires-clause-before
changes_of_rename-requires-clause-before c = subst (λ (n : List ℕ). IsFreeBefore c.args.linked.now.files n c.args.to.now 3) (sym c.in_ok-target.ensures.named) (c.in_ok-target.ensures.free c.args.to.now)

pub returns-clause-ok : goal.returns-clause-ok
returns-clause-ok c = subst (λ (n : List ℕ). IfOk c.changes_of_rename.result (λ cs. IsRenamed c.args.linked.now.files n c.args.to.now (map change_of cs.items))) c.in_ok-target.ensures.named c.changes_of_rename.ensures.ok

pub returns-clause-err : goal.returns-clause-err
returns-clause-err c = subst (λ (n : List ℕ). IfErr c.changes_of_rename.result (IsRenameRefusal c.args.linked.now.files n c.args.to.now)) c.in_ok-target.ensures.named c.changes_of_rename.ensures.err
