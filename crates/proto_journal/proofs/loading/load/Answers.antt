use Rattle.std.proofs.Common.{sym, subst}
use Rattle.proto_files.specs.GivenFiles.{files_of_as}
use Rattle.proto_journal.specs.Loads.{IsLoadFault}
use Rattle.proto_journal.proofs.Loaded.{loaded, not_loaded}
use Rattle.proto_journal.proofs.loading.load.Goals as goal

pub returns-in-Ok-clause-outcome : goal.returns-in-Ok-clause-outcome
returns-in-Ok-clause-outcome g c =
    loaded (g.S.Store.holds c.args.store.now) (files_of_as c.profile-profile.result c.in_ok-files.files.items) c.in-Ok.workspace (c.in_ok-files.ensures.files c.profile-profile.result c.profile-profile.ensures.files) c.in_ok-files.ensures.order c.in-Ok.ensures.files c.in-Ok.ensures.compiled

pub returns-in-Err-clause-outcome : goal.returns-in-Err-clause-outcome
returns-in-Err-clause-outcome g c =
    let held = g.S.Store.holds c.args.store.now in
    subst (IsLoadFault held) (sym c.from.ensures)
    (not_loaded held (files_of_as c.profile-profile.result c.in_ok-files.files.items) c.in-Err.fault (c.in_ok-files.ensures.files c.profile-profile.result c.profile-profile.ensures.files) c.in-Err.ensures.fault)
