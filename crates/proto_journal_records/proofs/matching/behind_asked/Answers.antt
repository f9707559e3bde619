use Rattle.std.proofs.Common.{subst, sym}
use Rattle.serde_json.specs.Written.{compact_text}
use Rattle.json.specs.Print.{escape_byte}
use Rattle.proto_edit_entries.specs.declared.edit.Edit.{Edit}
use Rattle.proto_edit_entries.specs.EditsAsked.{asked}
use Rattle.proto_journal_records.specs.Behind.{IsBehind}
use Rattle.proto_journal_records.specs.RecordText.{asked_data}
use Rattle.proto_journal_records.proofs.Behind.{behind_both}
use Rattle.proto_journal_records.proofs.matching.behind_asked.Goals as goal

pub returns-in-Rename : goal.returns-in-Rename
unfolding asked_data escape_byte
returns-in-Rename c =
    let all = rw (c.deref.ensures, c.deref-in-Rename.ensures) at c.behind_texts.ensures in
    subst (λ (e : Edit). IsBehind (compact_text (asked_data (asked e))) c.args.bytes c.behind_texts.result) (sym c.in-Rename.is) all

pub returns-in-DeleteField : goal.returns-in-DeleteField
unfolding asked_data escape_byte
returns-in-DeleteField c =
    let both = behind_both c.behind-rest.ensures (behind_both c.behind_string-rest.ensures c.behind.ensures) in
    let all = rw c.deref-in-DeleteField.ensures at both in
    subst (λ (e : Edit). IsBehind (compact_text (asked_data (asked e))) c.args.bytes c.behind.result) (sym c.in-DeleteField.is) all

pub returns-in-AddImport : goal.returns-in-AddImport
unfolding asked_data escape_byte
returns-in-AddImport c =
    let all = rw (c.deref-in-AddImport.ensures, c.deref-in-AddImport-2.ensures) at c.behind_texts-in-AddImport.ensures in
    subst (λ (e : Edit). IsBehind (compact_text (asked_data (asked e))) c.args.bytes c.behind_texts-in-AddImport.result) (sym c.in-AddImport.is) all

pub returns-in-DropImport : goal.returns-in-DropImport
unfolding asked_data escape_byte
returns-in-DropImport c =
    let all = rw (c.deref-in-DropImport.ensures, c.deref-in-DropImport-2.ensures) at c.behind_texts-in-DropImport.ensures in
    subst (λ (e : Edit). IsBehind (compact_text (asked_data (asked e))) c.args.bytes c.behind_texts-in-DropImport.result) (sym c.in-DropImport.is) all
