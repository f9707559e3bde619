use Rattle.std.proofs.Common.{arith, ◌≤◌, ◌<◌, ℕ, List, length, subst, Some}
use Rattle.proto_journal_records.specs.declared.record.Version.TheVariants.{Second}
use Rattle.proto_journal_records.proofs.Common.{done, opened, journal_limit}
use Rattle.proto_journal.proofs.Grown.{adds, as_long_open}
use Rattle.proto_edit_entries.specs.EditsAsked.{asked}
use Rattle.proto_journal.proofs.committing.with_entry.Goals as goal

pub returns-then-len-gt-MAX_JOURNAL_LEN-clause-err : goal.returns-then-len-gt-MAX_JOURNAL_LEN-clause-err
returns-then-len-gt-MAX_JOURNAL_LEN-clause-err c =
    let long : journal_limit < length c.in_ok-last.last.items = omega arith in
    subst (λ (t : List ℕ). journal_limit < length t) c.in_ok-last.ensures.text long

pub returns-clause-first : goal.returns-clause-first
returns-clause-first c =
    let e = Some (asked c.args.edit.now) in
    let short : length c.in_ok-last.last.items ≤ journal_limit = omega arith in
    adds c.journals_grow_and_shrink.ensures.more c.journals_grow_and_shrink.ensures.second c.args.journal.now c.in_ok-first.first.items (opened e c.args.entry.now) c.in_ok-first.ensures.text c.in_ok-first.ensures.is
    (as_long_open Second c.args.journal.now c.in_ok-first.first.items c.in_ok-last.last.items e c.args.entry.now c.records_have_one_text.ensures.length c.in_ok-first.ensures.text c.in_ok-last.ensures.text short)

pub returns-clause-last : goal.returns-clause-last
returns-clause-last c =
    let short : length c.in_ok-last.last.items ≤ journal_limit = omega arith in
    adds c.journals_grow_and_shrink.ensures.more c.journals_grow_and_shrink.ensures.second c.args.journal.now c.in_ok-last.last.items (done (Some (asked c.args.edit.now)) c.args.entry.now) c.in_ok-last.ensures.text c.in_ok-last.ensures.is short
