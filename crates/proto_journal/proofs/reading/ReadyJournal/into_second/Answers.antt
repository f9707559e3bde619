use Rattle.std.proofs.Common.{◌≡◌, ℕ, List, IfOk, subst, ◌∙◌}
use Rattle.proto_journal_records.specs.declared.record.Version.TheVariants.{Second}
use Rattle.proto_journal_records.proofs.Common.{IsJournalIn, RecordOf, journal_text}
use Rattle.proto_journal.specs.Written.{HasLast}
use Rattle.proto_journal.proofs.Recorded.{second_made, text_as_it_is}
use Rattle.proto_journal.proofs.reading.ReadyJournal.into_second.Goals as goal

pub returns-in-Second : goal.returns-in-Second
returns-in-Second c = λ held e.
    text_as_it_is c.self.inside.bytes.items c.self.inside.last (subst (λ v. HasLast v c.self.inside.bytes.items c.self.inside.last) c.in-Second.is c.self.invariant) held (c.self.view_is ∙ e)

pub returns-in-Ok : goal.returns-in-Ok
returns-in-Ok c =
    second_made c.second_text.result c.self.inside.bytes.items c.args.self c.self.inside.version c.self.inside.last c.in-Ok.records.items c.self.view_is c.journals_are_read_in_one_way.ensures c.self.invariant
    (c.in-Ok.ensures.ok.0, subst (λ (t : List ℕ). IsJournalIn c.in-Ok.ensures.ok.0 t c.in-Ok.records.items) c.as_slice.ensures.value c.in-Ok.ensures.ok.1)
    (subst (λ (rs : List RecordOf). IfOk c.second_text.result (λ text. text.items ≡ journal_text Second rs)) c.as_slice-in-Ok.ensures.value c.second_text.ensures)
