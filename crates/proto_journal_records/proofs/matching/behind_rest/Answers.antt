use Rattle.std.proofs.Common.{subst, List}
use Rattle.proto_edit_entries.specs.Entries.{ChangeOf}
use Rattle.proto_journal_records.specs.Journals.{AreTextual}
use Rattle.proto_journal_records.proofs.Behind.{behind_both}
use Rattle.proto_journal_records.proofs.matching.behind_rest.Goals as goal

pub returns-clause-behind : goal.returns-clause-behind
returns-clause-behind c =
    let all =
    behind_both c.behind_changes-rest.ensures.behind (behind_both c.behind-rest.ensures (behind_both c.behind_string-rest.ensures (behind_both c.behind-rest-2.ensures
    (behind_both c.behind_number-rest.ensures c.behind.ensures)))) in
    rw (c.changes.ensures.items, c.state_text.ensures) at all

pub returns-clause-texts : goal.returns-clause-texts
returns-clause-texts c = subst (λ (cs : List ChangeOf). AreTextual cs) c.changes.ensures.items c.behind_changes-rest.ensures.texts
