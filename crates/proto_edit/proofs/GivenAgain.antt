-- Files that compile are read, and compile when they are given again (for the crates above).
use Rattle.std.proofs.Common.{◌≡◌, List, length, refl, subst, inl, inr, arith}
use Rattle.proto_base.proofs.Common.{IsPermutation-sym, All-permutation, cases_lt, length_permutation, text_limit}
use Rattle.proto_base.specs.declared.fault.FaultKind.TheVariants.{TooLarge}
use Rattle.proto_files.proofs.Common.{FaultAt, IsLeastFault, FileOf, AreWorkspaceFiles, IsWorkspacePath, one_order}
use Rattle.proto_edit_entries.specs.Putting.{AreShortFiles}
use Rattle.proto_desc.specs.Whole.{IsSortedOf, FileFaults, WorkspaceFaults, of_path, of_files, of_read}
use Rattle.proto_desc.proofs.GivenInOrder.{no_fault_of_path}
use Rattle.proto_edit_rename_described.proofs.CleanFiles.{clean_files_are_read}
use Rattle.proto_edit.specs.Common.{AreCompiled, fault_of_kind, CompiledAreRead, WorkspacesAreClean}

pub compiled_are_read : CompiledAreRead
compiled_are_read w has = clean_files_are_read w (λ x h. has.clean x (of_read x h))

-- no file of what compiles is too large
pub are_short : (w : List FileOf) → AreCompiled w → AreShortFiles w
are_short w has g k = elim (cases_lt text_limit (length g.bytes)) [
  | inl lt ↦ absurd (has.clean (fault_of_kind g.path 0 TooLarge) (of_read (fault_of_kind g.path 0 TooLarge) (inl (g, k, refl, (refl, lt)))))
  | inr le ↦ le
]

-- files in their order are those given, where these are in order
pub sorted_again : (w files : List FileOf) → AreWorkspaceFiles w → IsSortedOf w files → files ≡ w
sorted_again w files workspace sorted = one_order files w (IsPermutation-sym w files sorted.same) as_workspace workspace
  where
    as_workspace : AreWorkspaceFiles files
    as_workspace =
        let long = length_permutation w files sorted.same in
        let few = workspace.few in
        record { few = omega (arith, long, few); named = All-permutation (λ (f : FileOf). IsWorkspacePath f.path) w files sorted.same workspace.named; ordered = sorted.ordered }

pub workspaces_are_clean : WorkspacesAreClean
workspaces_are_clean w has y (of_path z h) = no_fault_of_path w has.workspace y.kind y.path h.1
workspaces_are_clean w has y (of_files files z sorted h) = has.clean y (subst (λ (fs : List FileOf). FileFaults fs y) (sorted_again w files has.workspace sorted) h)

-- what compiles is opened again
pub opens_again : (w given : List FileOf) (x : FaultAt) → AreCompiled w → given ≡ w → IsLeastFault (WorkspaceFaults given) x → ⊥
opens_again w given x has same least = workspaces_are_clean w has x (subst (λ (z : List FileOf). WorkspaceFaults z x) same least.is_fault)
