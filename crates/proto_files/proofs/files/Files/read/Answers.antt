use Rattle.std.proofs.Common.{◌∙◌}
use Rattle.std.proofs.lemmas.Result.{err_from_is_err_and}
use Rattle.proto_files.proofs.LeastOfFiles.{least_text, least_grammar, clean_files_read}
use Rattle.proto_files.proofs.files.Files.read.Goals as goal

pub returns-in_err-lexed-clause-fault : goal.returns-in_err-lexed-clause-fault
returns-in_err-lexed-clause-fault c =
    let p = err_from_is_err_and c.from_residual.result c.from_residual.ensures.1 in
    rw (p.1, p.2) (least_text _ c.args.paths c.into_files.ensures.same c.into_files.ensures.workspace _ c.in_err-lexed.ensures.fault)

pub returns-in_err-files-clause-fault : goal.returns-in_err-files-clause-fault
returns-in_err-files-clause-fault c =
    let p = err_from_is_err_and c.from_residual-in_err-files.result c.from_residual-in_err-files.ensures.1 in
    rw (p.1, p.2)
    (least_grammar c.in_ok-lexed.lexed.items c.args.paths (c.in_ok-lexed.ensures.same ∙ c.into_files.ensures.same) c.in_ok-lexed.ensures.lexed c.into_files.ensures.workspace _ c.in_err-files.ensures.fault)

pub returns-clause-clean : goal.returns-clause-clean
returns-clause-clean c =
    clean_files_read c.in_ok-lexed.lexed.items c.in_ok-files.files.items c.args.paths
    (c.in_ok-lexed.ensures.same ∙ c.into_files.ensures.same)
    (c.in_ok-files.ensures.same ∙ c.in_ok-lexed.ensures.same ∙ c.into_files.ensures.same)
    c.in_ok-lexed.ensures.lexed c.in_ok-files.ensures.read
