use Rattle.std.proofs.Common.{List, map, sym, subst}
use Rattle.proto_edit.specs.Common.{asked, AreChanges, IsAdmissible}
use Rattle.proto_edit_entries.specs.Entries.{ChangeOf, change_of}
use Rattle.proto_edit.proofs.EditSteps.{entry_is}
use Rattle.proto_edit.proofs.workspace.Workspace.entry_of.Goals as goal

pub unreachable-requires : goal.unreachable-requires
unreachable-requires c =
    let ok = c.in_ok-changes.ensures.ok in
    c.in-None.ensures (entry_is c.statements_are_known.ensures c.args.self.now (asked c.args.edit.now) (map change_of c.in_ok-changes.changes.items) c.files.ensures.compiled ok.0 ok.1)

pub returns-clause-ok : goal.returns-clause-ok
returns-clause-ok c =
    let ok = c.in_ok-changes.ensures.ok in
    subst (λ (z : List ChangeOf). IsAdmissible c.args.self.now (asked c.args.edit.now) × AreChanges c.args.self.now (asked c.args.edit.now) z) (sym c.in-Some.ensures.0) ok
