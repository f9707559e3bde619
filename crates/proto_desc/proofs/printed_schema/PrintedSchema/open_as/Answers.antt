use Rattle.proto_files.specs.GivenFiles.{files_of_as}
use Rattle.proto_desc.proofs.Opened.{files_error, no_fault}
use Rattle.proto_desc.proofs.printed_schema.PrintedSchema.open_as.Goals as goal

pub printed_files-requires : goal.printed_files-requires
printed_files-requires c = c.in_ok-files.ensures.read.clean

pub returns-in-Ok-clause-clean : goal.returns-in-Ok-clause-clean
returns-in-Ok-clause-clean c = no_fault (files_of_as c.args.profile c.args.files.items) c.in_ok-files.files c.in_ok-files.ensures.read c.in-Ok.ensures.clean

pub returns-in-Err-clause-fault : goal.returns-in-Err-clause-fault
returns-in-Err-clause-fault c = files_error (files_of_as c.args.profile c.args.files.items) c.in_ok-files.files c.in-Err.fault c.in_ok-files.ensures.read c.in-Err.ensures.fault
