use Rattle.std.proofs.Common.{sym, subst}
use Rattle.std.specs.Prelude.{Option}
use Rattle.proto_edit_entries.specs.EditsAsked.{Asked}
use Rattle.proto_journal_records.specs.Journals.{IsTold}
use Rattle.proto_journal.proofs.Grown.{both_ok, reopens_same}
use Rattle.proto_journal.proofs.undoing.reopened_journal.Goals as goal

pub with_record-requires : goal.with_record-requires
with_record-requires c = subst (λ (o : Option Asked). IsTold c.args.version o) (sym c.edit.ensures.edit) c.requires

pub returns : goal.returns
returns c =
    both_ok c.with_record.result _ _ _
    (λ v e is. reopens_same c.args.version c.args.journal.now c.shortened_journal-before.result.now v.items _ c.args.last.now.edit _ c.args.last.now.entry c.edit.ensures.edit c.entry.ensures
    c.journals_grow_and_shrink.ensures.more c.journals_grow_and_shrink.ensures.less c.records_have_one_text.ensures.length c.shortened_journal-before.ensures e is)
    c.with_record.ensures.text c.with_record.ensures.is
