use Rattle.proto_edit_statement_described.proofs.OneFile.{additions_leave_no_fault, additions_map_descriptors}
use Rattle.proto_edit_statement_described.proofs.laws.additions_leave_files_clean.Goals as goal

pub returns : goal.returns
returns c = record { faults = additions_leave_no_fault; descriptors = additions_map_descriptors }
