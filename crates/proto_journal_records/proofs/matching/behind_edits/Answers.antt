use Rattle.std.proofs.Common.{subst, List, All}
use Rattle.proto_text.specs.Edits.{Edit}
use Rattle.proto_journal_records.specs.Journals.{IsTextual}
use Rattle.proto_journal_records.proofs.RecordTexts.{edits_textual}
use Rattle.proto_journal_records.proofs.matching.behind_edits.Goals as goal

pub returns-clause-texts : goal.returns-clause-texts
returns-clause-texts c = subst (λ (es : List Edit). All IsTextual es) c.as_slice.ensures.items (edits_textual c.as_slice.result.now)
