use Rattle.std.proofs.Common.{◌<◌, ℕ, All, List, get_or, length, map, sym, subst, ◌∙◌, take_all}
use Rattle.std.proofs.lemmas.Result.{err_from_is_err_and}
use Rattle.proto_edit_entries.specs.Entries.{change_of}
use Rattle.proto_edit_rules.specs.Rename.{renamed_words}
use Rattle.proto_edit_rename.proofs.Refused.{fault_among}
use Rattle.proto_edit_rename.proofs.WholeChanges.{AreChangesAt, more_changes, whole_changes}
use Rattle.proto_edit_rename.proofs.changes.changes_with.Goals as goal

pub returns-in_err-change-clause-err : goal.returns-in_err-change-clause-err
returns-in_err-change-clause-err c =
    let files = c.args.scope.now.files in
    let i = c.loop-file.file-index in
    let file = get_or c.deref-file-items.result.now i 0 in
    let inside : file < length files = subst (All (λ (f : ℕ). f < length files)) (sym c.deref-file-items.ensures.value) c.in_ok-changed.ensures.within i 0 c.loop-file-test.true in
    let p = err_from_is_err_and c.from_residual-in_err-change.result c.from_residual-in_err-change.ensures.1 in
    rw (p.1, p.2) (fault_among files c.args.scope.now.target file inside c.args.to.now c.in_err-change.field-0.0 c.in_err-change.ensures.fault)

pub loop-file-preserved : goal.loop-file-preserved
loop-file-preserved c = λ reads r t aimed.
    (let files = c.args.scope.now.files in
    more_changes files reads (renamed_words files reads t c.args.to.now) c.deref-file-items.result.now c.loop-file.file-index c.loop-file-test.true c.loop-file.changes.items c.push_some.new.changes.items c.in_ok-change.change
    (c.loop-file.invariant reads r t aimed) c.in_ok-push_some.ensures (c.in_ok-change.ensures.change reads r t aimed))

pub returns-clause-ok : goal.returns-clause-ok
returns-clause-ok c = λ reads r t aimed.
    (let files = c.args.scope.now.files in
    let w = c.in_ok-changed.ensures.whole in
    let words = renamed_words files reads t c.args.to.now in
    let listed = c.deref-file-items.result.now in
    let all = take_all c.loop-file.file-index listed c.loop-file-test.false ∙ c.deref-file-items.ensures.value ∙ w.are in
    whole_changes files reads r words w.set w.as_many (λ k l off. w.others k c.args.to.now l off reads r t aimed) (map change_of c.loop-file.changes.items)
    (subst (λ (fs : List ℕ). AreChangesAt files reads words fs (map change_of c.loop-file.changes.items)) all (c.loop-file.invariant reads r t aimed)))
