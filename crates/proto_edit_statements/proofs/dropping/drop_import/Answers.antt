use Rattle.std.proofs.Common.{◌∙◌, sym}
use Rattle.proto_edit_statements.proofs.Drops.{free_13, no_file, refused_13}
use Rattle.proto_edit_statements.proofs.NoImportFault.{none_missing}
use Rattle.proto_edit_statements.proofs.dropping.drop_import.Goals as goal

pub returns-in_default-clause-err : goal.returns-in_default-clause-err
returns-in_default-clause-err c = no_file c.args.files.now c.are_read.ensures.0 c.are_read.ensures.1 c.args.file.now c.args.path.now (sym c.place_of_path.ensures ∙ c.in_default.is)

pub returns-in_default-import_named-clause-err : goal.returns-in_default-import_named-clause-err
returns-in_default-import_named-clause-err c =
    refused_13 c.args.files.now c.are_read.ensures.0 c.are_read.ensures.1 c.args.file.now c.args.path.now c.in-Some.from
    (sym c.place_of_path.ensures ∙ c.in-Some.is)
    (c.in_default-import_named.ensures c.are_read.ensures.0 c.are_read.ensures.1)

pub unreachable-requires : goal.unreachable-requires
unreachable-requires c =
    let files = c.args.files.now in
    let reads = c.are_read.ensures.0 in
    let are = c.are_read.ensures.1 in
    none_missing files reads are c.requires.linked c.in-Some.from c.args.path.now (c.in-Some-import_named.ensures reads are).0 (sym c.place_of_path-2.ensures ∙ c.in_default-place_of_path.is)

pub check_needed-requires-clause-file : goal.check_needed-requires-clause-file
check_needed-requires-clause-file c = rw c.new.ensures.files (sym c.place_of_path.ensures ∙ c.in-Some.is)

pub check_needed-requires-clause-to : goal.check_needed-requires-clause-to
check_needed-requires-clause-to c = rw c.new.ensures.files (sym c.place_of_path-2.ensures ∙ c.in-Some-place_of_path.is)

pub check_needed-requires-clause-before : goal.check_needed-requires-clause-before
check_needed-requires-clause-before c =
    rw c.new.ensures.files (free_13 c.args.files.now c.are_read.ensures.0 c.are_read.ensures.1 c.args.file.now c.args.path.now c.in-Some.from
    (sym c.place_of_path.ensures ∙ c.in-Some.is)
    (c.in-Some-import_named.ensures c.are_read.ensures.0 c.are_read.ensures.1).0)

pub changes_of_drop-requires-clause-file : goal.changes_of_drop-requires-clause-file
changes_of_drop-requires-clause-file c = sym c.place_of_path.ensures ∙ c.in-Some.is

pub changes_of_drop-requires-clause-free : goal.changes_of_drop-requires-clause-free
changes_of_drop-requires-clause-free c = rw c.new.ensures.files at c.in_ok-check_needed.ensures.free
