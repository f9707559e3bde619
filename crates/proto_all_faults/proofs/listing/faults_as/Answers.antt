use Rattle.std.proofs.Common.{List, subst}
use Rattle.proto_files.specs.Common.{FileOf, IsFilesError, PathFaults, paths_of}
use Rattle.proto_all_faults.specs.Common.{AreSortedOf}
use Rattle.proto_all_faults.proofs.GivenPhases.{same_given}
use Rattle.proto_all_faults.proofs.listing.faults_as.Goals as goal

pub faults_in_order-requires : goal.faults_in_order-requires
faults_in_order-requires c =
    let same = same_given c.args.profile c.in_ok-copies.copies.items c.args.given.now c.in_ok-copies.ensures in
    subst (λ (fs : List FileOf). AreSortedOf fs c.in-Ok.paths) same (record { named = c.in-Ok.ensures.clean; same = c.in-Ok.ensures.same; workspace = c.in-Ok.ensures.in_order })

pub faults_of_paths-requires : goal.faults_of_paths-requires
faults_of_paths-requires c =
    let same = same_given c.args.profile c.in_ok-copies.copies.items c.args.given.now c.in_ok-copies.ensures in
    subst (λ (fs : List FileOf). IsFilesError (PathFaults 4096 (paths_of fs)) c.in-Err.found) same c.in-Err.ensures.fault
