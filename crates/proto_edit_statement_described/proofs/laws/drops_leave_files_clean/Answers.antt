use Rattle.proto_edit_statement_described.proofs.OneFile.{drops_leave_no_fault, drops_map_descriptors}
use Rattle.proto_edit_statement_described.proofs.laws.drops_leave_files_clean.Goals as goal

pub returns : goal.returns
returns c = record { faults = drops_leave_no_fault; descriptors = drops_map_descriptors }
