use Rattle.std.proofs.Common.{List, map, subst, Some}
use Rattle.proto_base.proofs.Common.{IfOk-weaker, IsPermutation-sym}
use Rattle.proto_files.proofs.Common.{FileOf, fault_at}
use Rattle.proto_files.specs.GivenFiles.{files_of_as}
use Rattle.proto_ast.specs.Numbers.{past}
use Rattle.proto_names_faults.specs.AllFaults.{AreAllOf}
use Rattle.proto_all_faults.specs.Common.{AreAllFaults, FileFaultsUpTo, FirstPhase}
use Rattle.proto_all_faults.proofs.GivenPhases.{files_first, read_error_moved}
use Rattle.proto_all_faults.proofs.listing.faults_in_order.Goals as goal

pub read_faults-requires-clause-least : goal.read_faults-requires-clause-least
read_faults-requires-clause-least c =
    let given = files_of_as c.args.profile c.args.given.now in
    read_error_moved c.args.paths given (IsPermutation-sym given c.args.paths c.requires.same) c.in-Err.found c.in-Err.ensures.fault

pub returns-in-Ok : goal.returns-in-Ok
returns-in-Ok c =
    let given = files_of_as c.args.profile c.args.given.now in
    let sorted = c.args.paths in
    IfOk-weaker c.file_faults-listed.result (λ v. AreAllOf (FirstPhase (FileFaultsUpTo (Some past) c.in-Ok.files)) (map fault_at v.items)) (λ v. AreAllFaults given (map fault_at v.items))
    (λ v all. files_first given sorted c.requires (map fault_at v.items)
    (subst (λ (fs : List FileOf). AreAllOf (FirstPhase (FileFaultsUpTo (Some past) fs)) (map fault_at v.items)) c.in-Ok.ensures.same all)) c.file_faults-listed.ensures
