use Rattle.proto_option_statement_laws.proofs.Made.{deletions_leave_options}
use Rattle.proto_option_statement_laws.proofs.laws.deletions_leave_options.Goals as goal

pub returns : goal.returns
returns c = deletions_leave_options (record {
  changes = c.deletions_are_changes.ensures;
  small = c.numbers_are_read.ensures.small;
  deletion = c.deletions_join.ensures.deletion;
  clean = c.deletions_leave_no_fault.ensures.faults;
  named = c.trees_are_deleted.ensures.named;
})
