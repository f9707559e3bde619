use Rattle.std.proofs.Common.{◌≡◌, subst, sym}
use Rattle.std.specs.Prelude.{IfOk, OnOk, string_bytes}
use Rattle.proto_journal_records.specs.Common.{Second, RecordOf, IsNoted, IsRecord, record_text}
use Rattle.proto_journal_records.proofs.writing.entry_text.Goals as goal

pub line_of-requires : goal.line_of-requires
line_of-requires c = subst (λ (r : RecordOf). IsNoted r.edit) (sym c.parts.ensures.parts) c.parts.ensures.noted

pub returns-clause-text : goal.returns-clause-text
returns-clause-text c = subst (λ (r : RecordOf). IfOk c.line_of.result (λ s. string_bytes s ≡ record_text Second r)) c.parts.ensures.parts c.line_of.ensures.text

pub returns-clause-is : goal.returns-clause-is
returns-clause-is c = subst (λ (r : RecordOf). OnOk c.line_of.result (IsRecord Second r)) c.parts.ensures.parts c.line_of.ensures.is
