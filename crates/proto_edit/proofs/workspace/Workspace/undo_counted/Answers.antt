use Rattle.std.proofs.Common.{◌+◌, ◌∙◌, map, sym, ap, subst}
use Rattle.std.proofs.lemmas.Result.{on_ok_weaker}
use Rattle.proto_edit_entries.proofs.Common.{change_of, AreRising, inverted, rising_back}
use Rattle.proto_edit.proofs.Reopening.{count_back, undo_made, undo_not_made}
use Rattle.proto_edit.proofs.workspace.Workspace.undo_counted.Goals as goal

pub put-requires-clause-rising : goal.put-requires-clause-rising
put-requires-clause-rising c =
    let back = ap (map change_of) c.deref.ensures.value ∙ c.in_ok-back.ensures ∙ ap inverted c.changes.ensures.items in
    subst AreRising (sym back) (rising_back c.args.entry.now c.changes.ensures.entry.rising)

pub returns-clause-ok : goal.returns-clause-ok
returns-clause-ok c =
    let back = ap (map change_of) c.deref.ensures.value ∙ c.in_ok-back.ensures ∙ ap inverted c.changes.ensures.items in
    undo_made c.args.self.now c.put.new.self c.args.entry.now (map change_of c.deref.result.now) c.put.result back c.put.ensures.put c.put.ensures.compiled

pub returns-clause-err : goal.returns-clause-err
returns-clause-err c =
    let back = ap (map change_of) c.deref.ensures.value ∙ c.in_ok-back.ensures ∙ ap inverted c.changes.ensures.items in
    undo_not_made c.args.self.now c.put.new.self c.args.entry.now (map change_of c.deref.result.now) c.put.result back c.put.ensures.err c.put.ensures.kept

pub returns-clause-counted : goal.returns-clause-counted
returns-clause-counted c =
    let back = ap (map change_of) c.deref.ensures.value ∙ c.in_ok-back.ensures ∙ ap inverted c.changes.ensures.items in
    on_ok_weaker c.put.result (λ e. e ∙ ap (λ n. c.args.steps.now + n) (count_back c.deref.result.now c.args.entry.now back)) c.put.ensures.counted
