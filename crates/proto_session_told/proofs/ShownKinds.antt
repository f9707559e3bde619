-- Where files do not compile, faults are shown of them.
use Rattle.std.proofs.Common.{◌≡◌, Bool, false, List, Option, map, subst, inl}
use Rattle.proto_base.specs.GivenFiles.{FileOf}
use Rattle.proto_files.specs.Faults.{FaultAt, HasNoFault}
use Rattle.proto_desc.specs.Whole.{WorkspaceFaults}
use Rattle.proto_all_faults.specs.Laws.{AreAllFaults, NoneIsListed}
use Rattle.proto_session_files.specs.Compiling.{IsBrought}
use Rattle.proto_session_told.specs.Shown.{IsShown, ShownOf, shown_fault}

-- all faults are listed, and there is one
pub faults_are_shown : NoneIsListed → (files : List FileOf) (listed : List FaultAt) (shown : List ShownOf) → (HasNoFault (WorkspaceFaults files) → ⊥) → AreAllFaults files listed → shown ≡ map shown_fault listed → IsShown files shown
faults_are_shown law files listed shown faulty all is =
    inl (record { listed = listed; are_all = all; is_some = λ e. faulty ((law files listed all).0 e); shown_is = is })

-- they do not, where no workspace is brought
pub not_brought : (files : List FileOf) (good : Option (List FileOf)) (compiles : Bool) → compiles ≡ false → IsBrought files good compiles → HasNoFault (WorkspaceFaults files) → ⊥
not_brought files good compiles e brought = subst (IsBrought files good) e brought
