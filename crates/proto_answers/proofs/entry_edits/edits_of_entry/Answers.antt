use Rattle.std.proofs.Common.{◌≡◌, List, Option, Some, None, Result, Ok, Err, subst}
use Rattle.std.specs.Prelude.{IfOk, IfSome}
use Rattle.proto_base.proofs.Common.{Vec}
use Rattle.proto_base.specs.declared.no_memory.NoMemory.{NoMemory}
use Rattle.proto_edit_entries.proofs.Common.{AreRising, ChangeOf, IsPut}
use Rattle.proto_edit_entries.proofs.Walks.{Ordered}
use Rattle.proto_files.proofs.Common.{FileOf}
use Rattle.proto_positions.specs.declared.encoding.Encoding.{Encoding}
use Rattle.proto_answers.specs.Common.{AreAllEditsIfAny, EditsPutFiles, lsp_files}
use Rattle.proto_answers.specs.declared.answers.FileEdits.{FileEdits}
use Rattle.proto_answers.proofs.EditsOfFiles.{entry_put}
use Rattle.proto_answers.proofs.entry_edits.edits_of_entry.Goals as goal

edits_put : EditsPutFiles → (files : List FileOf) (e : Encoding) (cs : List ChangeOf) → Ordered files → AreRising cs → (r : Result (Option (Vec FileEdits)) NoMemory) → IfOk r (AreAllEditsIfAny files e cs)
    → IfOk r (λ o. IfSome o (λ vs. (after : List FileOf) → IsPut files cs after → lsp_files e vs.items files ≡ after))
edits_put law files e cs o rising (Ok (Some vs)) are = λ after put. entry_put law files after e cs vs.items o rising are put
edits_put law files e cs o rising (Ok None) are = tt
edits_put law files e cs o rising (Err m) are = tt

pub returns-clause-exact : goal.returns-clause-exact
returns-clause-exact c =
    subst (λ (cs : List ChangeOf). IfOk c.edits_of_changes.result (AreAllEditsIfAny c.args.files.now c.args.encoding cs)) c.changes.ensures.items c.edits_of_changes.ensures

pub returns-clause-put : goal.returns-clause-put
returns-clause-put c =
    let files = c.args.files.now in
    let e = c.args.encoding in
    edits_put c.edits_put_files.ensures files e c.args.entry.now c.len.ensures.workspace.ordered c.changes.ensures.entry.rising c.edits_of_changes.result
    (subst (λ (cs : List ChangeOf). IfOk c.edits_of_changes.result (AreAllEditsIfAny files e cs)) c.changes.ensures.items c.edits_of_changes.ensures)
