use Rattle.std.proofs.lemmas.Result.{err_from_is_err_and}
use Rattle.proto_files.specs.GivenFiles.{files_of_as}
use Rattle.proto_desc.proofs.Opened.{path_error, all_read, not_read}
use Rattle.proto_desc.proofs.schema.files_read.Goals as goal

pub returns-in_err-paths-clause-fault : goal.returns-in_err-paths-clause-fault
returns-in_err-paths-clause-fault c =
    let p = err_from_is_err_and c.from_residual.result c.from_residual.ensures.1 in
    rw (p.1, p.2) (path_error (files_of_as c.args.profile c.args.given.items) c.in_err-paths.field-0.0 c.in_err-paths.ensures.fault)

pub returns-clause-read : goal.returns-clause-read
returns-clause-read c =
    all_read (files_of_as c.args.profile c.args.given.items) c.in_ok-paths.paths c.read.result c.in_ok-paths.ensures.clean c.in_ok-paths.ensures.same c.in_ok-paths.ensures.in_order c.read.ensures.clean c.read.ensures.same

pub returns-clause-fault : goal.returns-clause-fault
returns-clause-fault c =
    not_read (files_of_as c.args.profile c.args.given.items) c.in_ok-paths.paths c.read.result c.in_ok-paths.ensures.clean c.in_ok-paths.ensures.same c.in_ok-paths.ensures.in_order c.read.ensures.fault
