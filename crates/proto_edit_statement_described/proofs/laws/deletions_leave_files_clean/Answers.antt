use Rattle.proto_edit_statement_described.proofs.OneFile.{deletions_leave_no_fault, deletions_map_descriptors}
use Rattle.proto_edit_statement_described.proofs.laws.deletions_leave_files_clean.Goals as goal

pub returns : goal.returns
returns c = record { faults = deletions_leave_no_fault; descriptors = deletions_map_descriptors }
