use Rattle.std.proofs.Common.{subst, map, string_bytes}
use Rattle.std.proofs.lemmas.Result.{err_from_is_err_and}
use Rattle.proto_files.proofs.Common.{IsFilesError, PathFaults}
use Rattle.proto_journal.proofs.PathsFirst.{paths_fault}
use Rattle.proto_journal.proofs.gathering.sound_files.Goals as goal

pub returns-in_err-ask-clause-fault : goal.returns-in_err-ask-clause-fault
returns-in_err-ask-clause-fault g c =
    let p = err_from_is_err_and c.from_residual-in_err-ask.result c.from_residual-in_err-ask.ensures.1 in
    let asked : IsFilesError (PathFaults 4096 (map string_bytes c.in_ok-paths.paths.items)) c.in_err-ask.field-0.0 =
    subst (λ ps. IsFilesError (PathFaults 4096 (map string_bytes ps)) c.in_err-ask.field-0.0) c.as_slice.ensures.value c.in_err-ask.ensures.fault in
    rw (p.1, p.2) (paths_fault (g.S.Store.holds c.args.store.now) (map string_bytes c.in_ok-paths.paths.items) c.in_err-ask.field-0.0 c.in_ok-paths.ensures.paths asked)
