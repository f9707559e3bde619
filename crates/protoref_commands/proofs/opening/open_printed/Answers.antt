use Rattle.std.proofs.Common.{sym, subst}
use Rattle.proto_files.specs.GivenFiles.{files_of_as}
use Rattle.proto_journal.specs.Loads.{IsLoadFault}
use Rattle.proto_journal.proofs.Loaded.{not_loaded}
use Rattle.protoref_commands.proofs.Printing.{compiles}
use Rattle.protoref_commands.proofs.opening.open_printed.Goals as goal

pub returns-in-Ok-clause-compiles : goal.returns-in-Ok-clause-compiles
returns-in-Ok-clause-compiles g c =
    compiles (g.S.Store.holds c.args.store.now) (files_of_as c.profile-profile.result c.in_ok-files.files.items) c.in-Ok.schema.files (c.in_ok-files.ensures.files c.profile-profile.result c.profile-profile.ensures.files) c.in-Ok.ensures.files c.in-Ok.ensures.clean

pub returns-in-Err-clause-fault : goal.returns-in-Err-clause-fault
returns-in-Err-clause-fault g c =
    let held = g.S.Store.holds c.args.store.now in
    subst (IsLoadFault held) (sym c.from.ensures)
    (not_loaded held (files_of_as c.profile-profile.result c.in_ok-files.files.items) c.in-Err.fault (c.in_ok-files.ensures.files c.profile-profile.result c.profile-profile.ensures.files) c.in-Err.ensures.fault)
