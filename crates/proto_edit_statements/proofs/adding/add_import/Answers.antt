use Rattle.std.proofs.Common.{◌∙◌, sym}
use Rattle.proto_edit_statements.proofs.Additions.{no_file, no_path}
use Rattle.proto_edit_statements.proofs.adding.add_import.Goals as goal

pub returns-in_default-clause-err : goal.returns-in_default-clause-err
returns-in_default-clause-err c = no_file c.args.files.now c.are_read.ensures.0 c.are_read.ensures.1 c.args.file.now c.args.path.now (sym c.place_of_path.ensures ∙ c.in_default.is)

pub returns-in_default-place_of_path-clause-err : goal.returns-in_default-place_of_path-clause-err
returns-in_default-place_of_path-clause-err c = no_path c.args.files.now c.are_read.ensures.0 c.are_read.ensures.1 c.args.file.now c.args.path.now (sym c.place_of_path-2.ensures ∙ c.in_default-place_of_path.is)

pub check_captured-requires-clause-file : goal.check_captured-requires-clause-file
check_captured-requires-clause-file c = rw c.new-linked.ensures.files (sym c.place_of_path.ensures ∙ c.in-Some.is)

pub check_captured-requires-clause-to : goal.check_captured-requires-clause-to
check_captured-requires-clause-to c = rw c.new-linked.ensures.files (sym c.place_of_path-2.ensures ∙ c.in-Some-place_of_path.is)

pub check_new-requires-clause-file : goal.check_new-requires-clause-file
check_new-requires-clause-file c = sym c.place_of_path.ensures ∙ c.in-Some.is

pub check_new-requires-clause-to : goal.check_new-requires-clause-to
check_new-requires-clause-to c = sym c.place_of_path-2.ensures ∙ c.in-Some-place_of_path.is

pub changes_of_addition-requires-clause-file : goal.changes_of_addition-requires-clause-file
changes_of_addition-requires-clause-file c = sym c.place_of_path.ensures ∙ c.in-Some.is

pub check_new-requires-clause-before : goal.check_new-requires-clause-before
check_new-requires-clause-before c = rw c.new-linked.ensures.files at c.in_ok-check_captured.ensures.free
