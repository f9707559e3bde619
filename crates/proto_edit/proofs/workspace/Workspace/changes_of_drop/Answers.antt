use Rattle.std.proofs.Common.{List, map, sym, subst}
use Rattle.std.proofs.lemmas.Result.{IfOk-weaker, IfErr-weaker}
use Rattle.proto_files.proofs.Common.{HasNoFault, FileOf}
use Rattle.proto_names_imports.specs.Links.{LinkFaults}
use Rattle.proto_edit_entries.specs.Entries.{change_of}
use Rattle.proto_edit_statements.specs.Edits.{HasDropChanges, IsDropRefusal}
use Rattle.proto_edit.proofs.Refusals.{compiled_is_linked, drop_made, drop_refused}
use Rattle.proto_edit.proofs.workspace.Workspace.changes_of_drop.Goals as goal

pub drop_import-requires-clause-linked : goal.drop_import-requires-clause-linked
drop_import-requires-clause-linked c = subst (λ (w : List FileOf). HasNoFault (LinkFaults w)) (sym c.files.ensures.files) (compiled_is_linked c.args.self.now c.files.ensures.compiled)

pub returns-clause-ok : goal.returns-clause-ok
returns-clause-ok c =
    IfOk-weaker c.drop_import.result _ _
    (λ cs h. drop_made c.args.self.now c.args.file.now c.args.path.now (map change_of cs.items) (subst (λ (w : List FileOf). HasDropChanges w c.args.file.now c.args.path.now (map change_of cs.items)) c.files.ensures.files h))
    c.drop_import.ensures.ok

pub returns-clause-err : goal.returns-clause-err
returns-clause-err c =
    IfErr-weaker c.drop_import.result _ _
    (λ r h. drop_refused c.args.self.now c.args.file.now c.args.path.now r (subst (λ (w : List FileOf). IsDropRefusal w c.args.file.now c.args.path.now r) c.files.ensures.files h))
    c.drop_import.ensures.err
