use Rattle.std.proofs.Common.{◌≡◌, ◌∙◌, sym, subst, List}
use Rattle.proto_text.proofs.Common.{Edit, AreShort, edits}
use Rattle.proto_journal_records.proofs.ReadSteps.{places_fit}
use Rattle.proto_journal_records.proofs.reading.read_splices.Goals as goal

pub returns-in_default : goal.returns-in_default
returns-in_default c = λ es short e.
    let h = c.in_ok-list.ensures es (places_fit 0 0 es short) e in
    rw c.in_default.is at h

pub returns-in-Ok : goal.returns-in-Ok
returns-in-Ok c = λ es short e.
    let h = c.in_ok-list.ensures es (places_fit 0 0 es short) e in
    let k : edits c.in-Some.list.items ≡ es = rw c.in-Some.is at h in
    c.in-Ok.ensures ∙ k

pub returns-in-Err : goal.returns-in-Err
returns-in-Err c = λ es short e.
    let h = c.in_ok-list.ensures es (places_fit 0 0 es short) e in
    let k : edits c.in-Some.list.items ≡ es = rw c.in-Some.is at h in
    c.in-Err.ensures.1 (subst (λ (x : List Edit). AreShort 0 0 x) (sym k) short)
