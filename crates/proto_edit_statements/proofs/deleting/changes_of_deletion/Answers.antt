use Rattle.std.proofs.Common.{refl, subst}
use Rattle.proto_files.specs.GivenFiles.{file_at}
use Rattle.proto_edit_rules.specs.DeleteField.{splice_of_deletion}
use Rattle.proto_edit_statements.specs.Spliced.{IsChangeOfDeletion}
use Rattle.proto_edit_statements.proofs.FieldCases.{free_16, refused_16}
use Rattle.proto_edit_statements.proofs.Spliced.{changes_are, not_long}
use Rattle.proto_edit_statements.proofs.deleting.changes_of_deletion.Goals as goal

pub returns-in_ok-only-in-Some-clause-changes : goal.returns-in_ok-only-in-Some-clause-changes
returns-in_ok-only-in-Some-clause-changes c =
    let files = c.args.files.now in
    let reads = c.are_read.ensures.0 in
    let are = c.are_read.ensures.1 in
    let x = subst (IsChangeOfDeletion files reads c.args.name.now) c.in-Some.is (c.in_ok-change.ensures reads are) in
    let e = splice_of_deletion files reads x.0 in
    (reads, are, (x.0, x.1, changes_are (file_at files x.0.file) e e c.in-Some.change c.in_ok-only-in-Some.field-0.items refl x.2 c.in_ok-only-in-Some.ensures))

pub returns-in_ok-only-in-Some-clause-free : goal.returns-in_ok-only-in-Some-clause-free
returns-in_ok-only-in-Some-clause-free c =
    let files = c.args.files.now in
    let reads = c.are_read.ensures.0 in
    let are = c.are_read.ensures.1 in
    let name = c.args.name.now in
    let x = subst (IsChangeOfDeletion files reads name) c.in-Some.is (c.in_ok-change.ensures reads are) in
    let e = splice_of_deletion files reads x.0 in
    free_16 files reads are name c.args.field (c.requires.field reads are) c.statements_are_one.ensures.one c.requires.linked c.requires.before x.0 x.1 (not_long (file_at files x.0.file) e e c.in-Some.change refl x.2)

pub returns-in-None-clause-err : goal.returns-in-None-clause-err
returns-in-None-clause-err c =
    let files = c.args.files.now in
    let reads = c.are_read.ensures.0 in
    let are = c.are_read.ensures.1 in
    let name = c.args.name.now in
    let x = subst (IsChangeOfDeletion files reads name) c.in-None.is (c.in_ok-change.ensures reads are) in
    refused_16 files reads are name c.args.field (c.requires.field reads are) c.requires.before x.0 x.1 x.2
