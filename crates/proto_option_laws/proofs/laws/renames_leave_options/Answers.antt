use Rattle.proto_option_laws.proofs.Renames.{renames_keep_options, renames_leave_options}
use Rattle.proto_option_laws.proofs.laws.renames_leave_options.Goals as goal

pub returns : goal.returns
returns c = record { kept = renames_keep_options; same = renames_leave_options }
