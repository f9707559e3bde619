use Rattle.std.proofs.Common.{[], get_or, sym, ap, ◌∙◌}
use Rattle.proto_base.proofs.Common.{cond-true, cond-false}
use Rattle.proto_edit_rename.specs.ChangedFiles.{with_references}
use Rattle.proto_edit_rename.specs.StandingTokens.{goes_on}
use Rattle.proto_edit_rename.proofs.changed_files.mark_name.Goals as goal

pub returns-then-not-goes_on : goal.returns-then-not-goes_on
returns-then-not-goes_on c =
    let l = c.args.link.now in
    let before = c.args.changed.now in
    sym (cond-false (goes_on l c.args.name.now c.args.id.row) (with_references before (get_or l.references c.args.id.row [])) before (sym c.goes_on.ensures ∙ c.if-not-goes_on.true))

pub returns : goal.returns
returns c =
    let l = c.args.link.now in
    let before = c.args.changed.now in
    c.mark_references.ensures ∙ ap (with_references before) c.references.ensures.exact
    ∙ sym (cond-true (goes_on l c.args.name.now c.args.id.row) (with_references before (get_or l.references c.args.id.row [])) before (sym c.goes_on.ensures ∙ c.if-not-goes_on.false))
