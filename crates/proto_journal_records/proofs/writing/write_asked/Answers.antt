use Rattle.std.proofs.Common.{rules, ◌≡◌, subst, sym}
use Rattle.std.specs.Prelude.{OnOk}
use Rattle.std.specs.String.{string_bytes}
use Rattle.proto_edit_entries.specs.declared.edit.Edit.{Edit}
use Rattle.proto_edit_entries.specs.EditsAsked.{asked}
use Rattle.proto_journal_records.specs.Common.{asked_data}
use Rattle.proto_journal_records.specs.DataTokens.{AddsTokens, data_tokens}
use Rattle.proto_journal_records.proofs.writing.write_asked.Goals as goal

pub returns-in-DeleteField : goal.returns-in-DeleteField
unfolding asked_data
returns-in-DeleteField c =
    let name : c.deref-in-DeleteField.result.now ≡ string_bytes c.in-DeleteField.name = search rules in
    let written = rw name at c.write_pair.ensures in
    subst (λ (e : Edit). OnOk c.write_pair.result (AddsTokens c.args.writer.now c.write_pair.new.writer (data_tokens (asked_data (asked e))))) (sym c.in-DeleteField.is) written

pub returns-in-AddImport : goal.returns-in-AddImport
unfolding asked_data
returns-in-AddImport c =
    let file : c.deref-in-AddImport.result.now ≡ string_bytes c.in-AddImport.file = search rules in
    let path : c.deref-in-AddImport-2.result.now ≡ string_bytes c.in-AddImport.path = search rules in
    let written = rw (file, path) at c.write_three-in-AddImport.ensures in
    subst (λ (e : Edit). OnOk c.write_three-in-AddImport.result (AddsTokens c.args.writer.now c.write_three-in-AddImport.new.writer (data_tokens (asked_data (asked e))))) (sym c.in-AddImport.is) written

pub returns-in-DropImport : goal.returns-in-DropImport
unfolding asked_data
returns-in-DropImport c =
    let file : c.deref-in-DropImport.result.now ≡ string_bytes c.in-DropImport.file = search rules in
    let path : c.deref-in-DropImport-2.result.now ≡ string_bytes c.in-DropImport.path = search rules in
    let written = rw (file, path) at c.write_three-in-DropImport.ensures in
    subst (λ (e : Edit). OnOk c.write_three-in-DropImport.result (AddsTokens c.args.writer.now c.write_three-in-DropImport.new.writer (data_tokens (asked_data (asked e))))) (sym c.in-DropImport.is) written
