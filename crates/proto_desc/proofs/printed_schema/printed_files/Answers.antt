use Rattle.std.proofs.lemmas.Result.{err_from_is_err_and}
use Rattle.proto_desc.proofs.Opened.{linking_error, checking_error, none_of_files}
use Rattle.proto_desc.proofs.printed_schema.printed_files.Goals as goal

pub returns-in_err-link-clause-fault : goal.returns-in_err-link-clause-fault
returns-in_err-link-clause-fault c =
    let p = err_from_is_err_and c.from_residual.result c.from_residual.ensures.1 in
    rw (p.1, p.2) (linking_error c.args.files.now c.in_err-link.field-0.0 c.requires c.in_err-link.ensures.fault)

pub returns-in-Ok-clause-clean : goal.returns-in-Ok-clause-clean
returns-in-Ok-clause-clean c = none_of_files c.args.files.now c.requires c.in_ok-link.ensures.clean (rw c.new-2.ensures.files at c.in-Ok.ensures.clean)

pub returns-in-Ok-clause-text : goal.returns-in-Ok-clause-text
returns-in-Ok-clause-text c = rw c.new-2.ensures.files at c.in-Ok.ensures.text

pub returns-in-Err-clause-fault : goal.returns-in-Err-clause-fault
returns-in-Err-clause-fault c = checking_error c.args.files.now c.in-Err.fault c.requires c.in_ok-link.ensures.clean (rw c.new-2.ensures.files at c.in-Err.ensures.fault)
