use Rattle.std.proofs.Common.{◌∙◌, ap, subst, Err}
use Rattle.proto_text.specs.Splicing.{IsApplied}
use Rattle.proto_edit_entries.specs.Entries.{change_of}
use Rattle.proto_edit_entries.proofs.Walks.{too_long}
use Rattle.proto_edit_entries.proofs.putting.changed_text.Goals as goal

pub returns-in-Err-TooLarge : goal.returns-in-Err-TooLarge
returns-in-Err-TooLarge c =
    let text = c.args.text.now in
    let change = change_of c.args.change.now in
    too_long text change (subst (IsApplied text change.splices) (c.in-Err-TooLarge.is ∙ ap Err c.in-Err-TooLarge.field-0-is) c.apply_splices.ensures)
