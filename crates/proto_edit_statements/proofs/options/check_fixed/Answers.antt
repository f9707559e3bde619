use Rattle.std.proofs.Common.{sym, subst, ◌∙◌}
use Rattle.proto_base.proofs.Common.{both_ways}
use Rattle.proto_edit_rules.specs.Options.{HasWritten}
use Rattle.proto_edit_statements.proofs.OptionCases.{field_there, fixed_is, free_20, refused_20}
use Rattle.proto_edit_statements.proofs.options.check_fixed.Goals as goal
use Rattle.proto_edit_statements.proofs.options.check_fixed.Goals.{else-is_fixed-via-then-is_fixed+else-has_written, else-is_fixed-via-else-is_fixed}

pub returns-then-has_written-clause-err : goal.returns-then-has_written-clause-err
returns-then-has_written-clause-err c =
    let files = c.args.linked.now.files in
    let clean = c.files-files.ensures.clean in
    let name = c.args.name.now in
    let x = field_there files clean.reads clean.read name c.requires.before in
    refused_20 files clean.reads clean.read name c.requires.before x.0 x.1
    (subst HasWritten c.files-files.ensures.files (c.has_written.ensures.0 c.if-has_written.true))
    (sym (fixed_is files clean.reads clean.read name c.args.linked.now.link clean.link x.0 x.1 c.is_fixed.result c.is_fixed.ensures) ∙ c.if-is_fixed.true)

pub returns-clause-free : goal.returns-clause-free
returns-clause-free c =
    let files = c.args.linked.now.files in
    let clean = c.files-files.ensures.clean in
    let name = c.args.name.now in
    let x = field_there files clean.reads clean.read name c.requires.before in
    free_20 files clean.reads clean.read name clean.clean c.requires.before x.0 x.1 (λ written fixed. elim c.else-is_fixed.branch [
      | else-is_fixed-via-then-is_fixed+else-has_written w ↦ both_ways w.has_written.result w.if-has_written.false (w.has_written.ensures.1 (subst HasWritten (sym c.files-files.ensures.files) written))
      | else-is_fixed-via-else-is_fixed w ↦ both_ways c.is_fixed.result w.if-is_fixed.false (fixed_is files clean.reads clean.read name c.args.linked.now.link clean.link x.0 x.1 c.is_fixed.result c.is_fixed.ensures ∙ fixed)
    ])
