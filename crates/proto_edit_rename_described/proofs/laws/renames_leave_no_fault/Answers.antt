use Rattle.proto_edit_rename_described.proofs.DefaultsFit.{renames_leave_no_fault}
use Rattle.proto_edit_rename_described.proofs.laws.renames_leave_no_fault.Goals as goal

pub returns : goal.returns
returns c = renames_leave_no_fault
