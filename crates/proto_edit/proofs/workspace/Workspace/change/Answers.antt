use Rattle.std.proofs.Common.{ap, ap₂, map, subst, sym, ◌∙◌, IfOk}
use Rattle.proto_edit.specs.Common.{asked, Asked, rename, delete_field, add_import, drop_import, AreChanges, IsAdmissible}
use Rattle.proto_edit_entries.specs.Entries.{change_of}
use Rattle.proto_edit.proofs.workspace.Workspace.change.Goals as goal

pub returns-in-Rename-clause-ok : goal.returns-in-Rename-clause-ok
returns-in-Rename-clause-ok c =
    let same = ap₂ rename c.as_str.ensures.value c.as_str-in-Rename.ensures.value ∙ sym (ap asked c.in-Rename.is) in
    subst (λ (e : Asked). IfOk c.changes_of_rename.result (λ cs. IsAdmissible c.args.self.now e × AreChanges c.args.self.now e (map change_of cs.items))) same c.changes_of_rename.ensures.ok

pub returns-in-DeleteField-clause-ok : goal.returns-in-DeleteField-clause-ok
returns-in-DeleteField-clause-ok c =
    let same = ap delete_field c.as_str-in-DeleteField.ensures.value ∙ sym (ap asked c.in-DeleteField.is) in
    subst (λ (e : Asked). IfOk c.changes_of_deletion.result (λ cs. IsAdmissible c.args.self.now e × AreChanges c.args.self.now e (map change_of cs.items))) same c.changes_of_deletion.ensures.ok

pub returns-in-AddImport-clause-ok : goal.returns-in-AddImport-clause-ok
returns-in-AddImport-clause-ok c =
    let same = ap₂ add_import c.as_str-in-AddImport.ensures.value c.as_str-in-AddImport-2.ensures.value ∙ sym (ap asked c.in-AddImport.is) in
    subst (λ (e : Asked). IfOk c.changes_of_addition.result (λ cs. IsAdmissible c.args.self.now e × AreChanges c.args.self.now e (map change_of cs.items))) same c.changes_of_addition.ensures.ok

pub returns-in-DropImport-clause-ok : goal.returns-in-DropImport-clause-ok
returns-in-DropImport-clause-ok c =
    let same = ap₂ drop_import c.as_str-in-DropImport.ensures.value c.as_str-in-DropImport-2.ensures.value ∙ sym (ap asked c.in-DropImport.is) in
    subst (λ (e : Asked). IfOk c.changes_of_drop.result (λ cs. IsAdmissible c.args.self.now e × AreChanges c.args.self.now e (map change_of cs.items))) same c.changes_of_drop.ensures.ok
