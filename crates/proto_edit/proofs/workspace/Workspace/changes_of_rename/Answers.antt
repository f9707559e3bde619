use Rattle.std.proofs.Common.{List, map, sym, subst}
use Rattle.std.proofs.lemmas.Result.{IfOk-weaker, IfErr-weaker}
use Rattle.proto_files.proofs.Common.{FileOf}
use Rattle.proto_edit_entries.specs.Entries.{change_of}
use Rattle.proto_edit_rename.specs.Renames.{IsRenamed, IsRenameRefusal}
use Rattle.proto_option_files.specs.OptionFiles.{AreOptionFiles}
use Rattle.proto_edit.proofs.Refusals.{rename_made, rename_refused}
use Rattle.proto_edit.proofs.workspace.Workspace.changes_of_rename.Goals as goal

pub rename-requires : goal.rename-requires
rename-requires c = record { index = subst (λ (w : List FileOf). AreOptionFiles w c.options.result.now) (sym c.linked.ensures.linked) c.options.ensures }

pub returns-clause-ok : goal.returns-clause-ok
returns-clause-ok c =
    IfOk-weaker c.rename.result _ _
    (λ cs h. rename_made c.args.self.now c.args.name.now c.args.to.now (map change_of cs.items) (subst (λ (w : List FileOf). IsRenamed w c.args.name.now c.args.to.now (map change_of cs.items)) c.linked.ensures.linked h))
    c.rename.ensures.ok

pub returns-clause-err : goal.returns-clause-err
returns-clause-err c =
    IfErr-weaker c.rename.result _ _
    (λ r h. rename_refused c.args.self.now c.args.name.now c.args.to.now r (subst (λ (w : List FileOf). IsRenameRefusal w c.args.name.now c.args.to.now r) c.linked.ensures.linked h))
    c.rename.ensures.err
