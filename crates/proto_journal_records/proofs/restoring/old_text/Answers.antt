use Rattle.std.proofs.Common.{ℕ, Option, sym, ◌∙◌, subst}
use Rattle.std.specs.Global.{Vec}
use Rattle.proto_edit_entries.proofs.Common.{change_of, IsChangedText}
use Rattle.proto_journal_records.proofs.OldTexts.{neither_text}
use Rattle.proto_journal_records.proofs.restoring.old_text.Goals as goal

pub returns-in-None-clause-err : goal.returns-in-None-clause-err
returns-in-None-clause-err c =
    neither_text (change_of c.args.change.now) (change_of c.args.back.now) c.args.text.now c.in_ok-changed_text.field-0 c.requires.change c.requires.back c.in_ok-changed_text.ensures
    (sym c.is_some.ensures ∙ c.if-is_some.false) (subst (λ (o : Option (Vec ℕ)). IsChangedText c.args.text.now (change_of c.args.back.now) o) c.in-None.is c.in_ok-old.ensures)
