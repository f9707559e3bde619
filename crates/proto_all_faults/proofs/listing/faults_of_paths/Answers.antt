use Rattle.std.proofs.Common.{List, map, subst}
use Rattle.proto_base.proofs.Common.{IfOk-weaker}
use Rattle.proto_base.specs.Texts.{Path}
use Rattle.proto_base.specs.declared.profile.Profile.TheVariants as profile
use Rattle.proto_files.specs.Common.{IsFilesError, PathFaults, fault_at, files_of, files_of_as, paths_of}
use Rattle.proto_names_faults.specs.AllFaults.{AreAllOf}
use Rattle.proto_all_faults.specs.Common.{AreAllFaults}
use Rattle.proto_all_faults.proofs.GivenPhases.{paths_first, paths_of_given}
use Rattle.proto_all_faults.proofs.listing.faults_of_paths.Goals as goal

pub returns-in-Schema : goal.returns-in-Schema
returns-in-Schema c =
    let given = files_of_as c.args.profile c.args.given.now in
    let paths = paths_of (files_of c.args.given.now) in
    let same = paths_of_given profile.Core c.args.profile c.args.given.now in
    IfOk-weaker c.path_faults.result (λ v. AreAllOf (PathFaults 4096 paths) (map fault_at v.items)) (λ v. AreAllFaults given (map fault_at v.items))
    (λ v all. paths_first given (fault_at c.in-Schema._least) (map fault_at v.items) (subst (IsFilesError (PathFaults 4096 (paths_of given))) c.in-Schema.is c.requires)
    (subst (λ (ps : List Path). AreAllOf (PathFaults 4096 ps) (map fault_at v.items)) same all)) c.path_faults.ensures
