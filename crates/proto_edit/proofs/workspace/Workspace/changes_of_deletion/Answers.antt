use Rattle.std.proofs.Common.{List, map, sym, subst}
use Rattle.std.proofs.lemmas.Result.{IfOk-weaker, IfErr-weaker}
use Rattle.proto_files.proofs.Common.{FileOf}
use Rattle.proto_edit_entries.specs.Entries.{change_of}
use Rattle.proto_desc.specs.Whole.{of_check}
use Rattle.proto_edit_statements.specs.Edits.{HaveSmallNumbers, HasDeletionChanges, IsDeletionRefusal}
use Rattle.proto_option_files.specs.OptionFiles.{AreOptionFiles}
use Rattle.proto_edit.proofs.Refusals.{deletion_made, deletion_refused}
use Rattle.proto_edit.proofs.workspace.Workspace.changes_of_deletion.Goals as goal

pub delete_field-requires-clause-index : goal.delete_field-requires-clause-index
delete_field-requires-clause-index c = subst (λ (w : List FileOf). AreOptionFiles w c.options.result.now) (sym c.linked.ensures.linked) c.options.ensures

pub delete_field-requires-clause-small : goal.delete_field-requires-clause-small
delete_field-requires-clause-small c =
    subst HaveSmallNumbers (sym c.linked.ensures.linked) (λ reads are f at. c.numbers_are_read.ensures.small c.args.self.now reads f are (λ x h. c.linked.ensures.compiled.clean x (of_check x h)) at)

pub returns-clause-ok : goal.returns-clause-ok
returns-clause-ok c =
    IfOk-weaker c.delete_field.result _ _
    (λ cs h. deletion_made c.args.self.now c.args.name.now (map change_of cs.items) (subst (λ (w : List FileOf). HasDeletionChanges w c.args.name.now (map change_of cs.items)) c.linked.ensures.linked h))
    c.delete_field.ensures.ok

pub returns-clause-err : goal.returns-clause-err
returns-clause-err c =
    IfErr-weaker c.delete_field.result _ _
    (λ r h. deletion_refused c.args.self.now c.args.name.now r (subst (λ (w : List FileOf). IsDeletionRefusal w c.args.name.now r) c.linked.ensures.linked h))
    c.delete_field.ensures.err
