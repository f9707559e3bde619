-- Workspaces that are loaded of a store, and why none is (for the crates above).
use Rattle.std.proofs.Common.{arith, ◌≡◌, ℕ, zero, suc, ◌<◌, ◌≤◌, List, [], ◌∷◌, length, get_or, Option, Some, None, Ok, sym, ◌∙◌, subst, nat_cmp}
use Rattle.proto_base.proofs.Common.{AllByRecursion, IsStrictlySortedBy, slice_cmp, Less, All-permutation, IsPermutation-sym, length_permutation}
use Rattle.proto_base.specs.declared.fault.SchemaFault.{SchemaFault}
use Rattle.proto_base.specs.declared.fault.SchemaFault.TheVariants as schemas
use Rattle.proto_files.proofs.Common.{AreWorkspaceFiles, FileOf, paths_of, IsBefore, IsLeastFault, IsWorkspacePath, fault_at}
use Rattle.proto_desc.specs.Opening.{IsOpenError}
use Rattle.proto_desc.specs.Whole.{IsSortedOf, WorkspaceFaults}
use Rattle.proto_edit.specs.Compiled.{AreCompiled}
use Rattle.proto_edit.proofs.GivenAgain.{sorted_again}
use Rattle.proto_store.specs.Stores.{AreInPathOrder, Held, HoldsFiles}
use Rattle.proto_journal_records.specs.Known.{Over}
use Rattle.proto_journal.specs.Loads.{IsLoadFault, LoadOutcome, schemas_fault}

below : (f : FileOf) (fs : List FileOf) → AllByRecursion (λ q. slice_cmp nat_cmp f.path q ≡ Less) (paths_of fs) → (j : ℕ) (d : FileOf) → j < length fs → IsBefore f.path (get_or fs j d).path
below f [] a j d l = absurd (omega arith)
below f (g ∷ gs) a zero d l = a.0
below f (g ∷ gs) a (suc j) d l = below f gs a.1 j d (omega arith)

-- each path is before all behind it
ordered : (files : List FileOf) → AreInPathOrder files → (i j : ℕ) (d : FileOf) → i < j → j < length files → IsBefore (get_or files i d).path (get_or files j d).path
unfolding IsStrictlySortedBy
ordered [] h i j d lt within = absurd (omega arith)
ordered (f ∷ fs) h i zero d lt within = absurd (omega arith)
ordered (f ∷ fs) h zero (suc j) d lt within = below f fs h.0 j d (omega arith)
ordered (f ∷ fs) h (suc i) (suc j) d lt within = ordered fs h.1 i j d (omega arith) (omega arith)

-- what was given is a workspace's files where those in its order are
given_files : (given files : List FileOf) → AreInPathOrder given → IsSortedOf given files → AreWorkspaceFiles files → AreWorkspaceFiles given
given_files given files order sorted is =
    let long : length files ≡ length given = length_permutation given files sorted.same in
    let few : length files ≤ 4096 = is.few in
    record {
      few = omega arith;
      named = All-permutation (λ (f : FileOf). IsWorkspacePath f.path) files given (IsPermutation-sym given files sorted.same) is.named;
      ordered = ordered given order;
    }

pub loaded : (h : Option Held) (given files : List FileOf) → HoldsFiles h given → Over h (λ there. AreInPathOrder there.files) → IsSortedOf given files → AreCompiled files → LoadOutcome h (Ok files)
loaded None given files e order sorted compiled = (compiled, tt)
loaded (Some there) given files e order sorted compiled =
    (compiled, sorted_again given files (given_files given files (subst AreInPathOrder (sym e) order) sorted compiled.workspace) sorted ∙ e)

-- the fault of what was given is that of the store's files
pub not_loaded : (h : Option Held) (given : List FileOf) (e : SchemaFault) → HoldsFiles h given → IsOpenError given e → IsLoadFault h (schemas_fault e)
not_loaded None given (schemas.Schema f) is least = tt
not_loaded (Some there) given (schemas.Schema f) is least = subst (λ (files : List FileOf). IsLeastFault (WorkspaceFaults files) (fault_at f)) is least
not_loaded h given schemas.NoMemory is least = tt
