use Rattle.std.proofs.Common.{sym, ◌∙◌}
use Rattle.proto_journal_records.proofs.RecordTexts.{first_told, second_told}
use Rattle.proto_journal_records.proofs.journal.version_of.Goals as goal

pub returns-then-byte_at-eq102-clause-told : goal.returns-then-byte_at-eq102-clause-told
returns-then-byte_at-eq102-clause-told c = λ v r more e. first_told v r c.args.bytes.now more e (sym c.byte_at.ensures ∙ c.if-byte_at-eq102.true)

pub returns-else-byte_at-eq102-clause-told : goal.returns-else-byte_at-eq102-clause-told
returns-else-byte_at-eq102-clause-told c = λ v r more e. second_told v r c.args.bytes.now more e (λ is. c.if-byte_at-eq102.false (c.byte_at.ensures ∙ is))
