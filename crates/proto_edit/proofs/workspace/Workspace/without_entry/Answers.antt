use Rattle.std.proofs.Common.{◌∙◌, map, sym, ap, subst}
use Rattle.proto_edit_entries.proofs.Common.{change_of, AreRising, inverted, rising_back}
use Rattle.proto_edit.proofs.Reopening.{undo_taken, undo_not_taken}
use Rattle.proto_edit.proofs.workspace.Workspace.without_entry.Goals as goal

pub with_changes-requires : goal.with_changes-requires
with_changes-requires c =
    let back = ap (map change_of) c.deref.ensures.value ∙ c.in_ok-back.ensures ∙ ap inverted c.changes.ensures.items in
    subst AreRising (sym back) (rising_back c.args.entry.now c.changes.ensures.entry.rising)

pub returns-clause-ok : goal.returns-clause-ok
returns-clause-ok c =
    let back = ap (map change_of) c.deref.ensures.value ∙ c.in_ok-back.ensures ∙ ap inverted c.changes.ensures.items in
    undo_taken c.args.self.now c.args.entry.now (map change_of c.deref.result.now) c.with_changes.result back c.with_changes.ensures.put c.with_changes.ensures.compiled

pub returns-clause-err : goal.returns-clause-err
returns-clause-err c =
    let back = ap (map change_of) c.deref.ensures.value ∙ c.in_ok-back.ensures ∙ ap inverted c.changes.ensures.items in
    undo_not_taken c.args.self.now c.args.entry.now (map change_of c.deref.result.now) c.with_changes.result back c.with_changes.ensures.err
