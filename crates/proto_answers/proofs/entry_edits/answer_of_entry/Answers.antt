use Rattle.std.proofs.Common.{◌≡◌, List, subst}
use Rattle.proto_edit_entries.proofs.Common.{IsPut}
use Rattle.proto_files.proofs.Common.{FileOf}
use Rattle.proto_answers.specs.Common.{AreAllEdits, HasUnsuited, lsp_files}
use Rattle.proto_answers.proofs.entry_edits.answer_of_entry.Goals as goal

pub returns-in-Some : goal.returns-in-Some
returns-in-Some c = λ edit after step.
    (let e = c.args.encoding in
    let cs = c.args.entry.now in
    let vs = c.in-Some.edits in
    let same = c.files.ensures.files in
    let exact = subst (λ (z : List FileOf). AreAllEdits z e cs vs.items) same (rw c.in-Some.is at c.in_ok-edits.ensures.exact) in
    let put = subst (λ (z : List FileOf). (new : List FileOf) → IsPut z cs new → lsp_files e vs.items z ≡ new) same (rw c.in-Some.is at c.in_ok-edits.ensures.put) in
    (cs, after, step, exact, put after step.step.put))

pub returns-in-None : goal.returns-in-None
returns-in-None c = λ edit after step.
    (let cs = c.args.entry.now in
    let exact = subst (λ (z : List FileOf). HasUnsuited z cs) c.files.ensures.files (rw c.in-None.is at c.in_ok-edits.ensures.exact) in
    (cs, after, step, exact))
