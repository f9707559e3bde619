-- What opening files answers: the first step that finds a fault has the least of all.
use Rattle.std.proofs.Common.{◌≡◌, ◌<◌, ◌⊎◌, inl, inr, ⊎_elim, List, None, Result, Ok, Err, IfOk, IfErr, sym, subst, arith, IsPermutation}
use Rattle.proto_base.proofs.Common.{IsPermutation-sym, IsPermutation-trans, All-permutation, length_permutation, phase_of}
use Rattle.proto_files.proofs.Common.{FaultAt, fault_at, ComesBefore, IsLeastFault, HasNoFault, IsFilesError, FileOf, paths_of, AreWorkspaceFiles, PathFaults, ReadFaults, IsWorkspacePath, comes_before_cases, one_order, paths_are_phase_0, texts_are_phase_1, grammar_is_phase_2}
use Rattle.proto_files.proofs.OneLeast.{least_is_one}
use Rattle.proto_base.specs.declared.fault.SchemaFault.{SchemaFault}
use Rattle.proto_base.specs.declared.fault.SchemaFault.TheVariants.{Schema, NoMemory}
use Rattle.proto_names_imports.proofs.Common.{IsLinkError, LinkFaults, of_import, of_name, of_reference, import_found, name_found, reference_found}
use Rattle.proto_desc_extensions.proofs.WorkspaceFlaws.{all_of_checks}
use Rattle.proto_desc.specs.Checked.{CheckFaults, of_flaw, IsCheckError}
use Rattle.proto_desc.specs.Opening.{AreReadOf, IsOpenError, NoOpenFault, OneOpenFault}
use Rattle.proto_desc.specs.Whole.{IsSortedOf, FileFaults, of_read, of_link as of_linking, of_check as of_checking, WorkspaceFaults, of_path, of_files as of_sorted}

-- ---- phases

read_phase : (files : List FileOf) (x : FaultAt) → ReadFaults files x → (0 < phase_of x.kind) × (phase_of x.kind < 3)
read_phase files x (inl t) = (let e = texts_are_phase_1 files x t in (omega (arith, e), omega (arith, e)))
read_phase files x (inr g) = (let e = grammar_is_phase_2 files x g in (omega (arith, e), omega (arith, e)))

link_phase : (files : List FileOf) (x : FaultAt) → LinkFaults files x → (2 < phase_of x.kind) × (phase_of x.kind < 6)
link_phase files x (of_import reads f z are_read stands h) =
    let e : phase_of x.kind ≡ 3 = (import_found files reads are_read f h).in_phase x.kind stands.number in (omega (arith, e), omega (arith, e))
link_phase files x (of_name reads f z are_read stands h) =
    let e : phase_of x.kind ≡ 4 = (name_found files reads are_read f h).in_phase x.kind stands.number in (omega (arith, e), omega (arith, e))
link_phase files x (of_reference reads f z are_read stands h) =
    let e : phase_of x.kind ≡ 5 = (reference_found files reads are_read f h).in_phase x.kind stands.number in (omega (arith, e), omega (arith, e))

check_phase : (files : List FileOf) (x : FaultAt) → CheckFaults files x → phase_of x.kind ≡ 6
check_phase files x (of_flaw reads file f are_read within there) = all_of_checks None files reads file f there

file_phase : (files : List FileOf) (x : FaultAt) → FileFaults files x → 0 < phase_of x.kind
file_phase files x (of_read z h) = (read_phase files x h).0
file_phase files x (of_linking z h) = (let e = link_phase files x h in omega (arith, e.0))
file_phase files x (of_checking z h) = (let e = check_phase files x h in omega (arith, e))

-- ---- the least of all

-- no fault of a later phase comes before
later : (x y : FaultAt) → phase_of x.kind < phase_of y.kind → ComesBefore y x → ⊥
later x y after before =
    ⊎_elim (λ (lt : phase_of y.kind < phase_of x.kind). omega (arith, after, lt))
    (λ more. let same : phase_of y.kind ≡ phase_of x.kind = more.0 in omega (arith, after, same))
    (comes_before_cases y x before)

-- the least of some faults is the least of all, where all others are of a later phase
least_of_all : (Some All : FaultAt → Type 0) (x : FaultAt) → All x → ((y : FaultAt) → All y → Some y ⊎ (phase_of x.kind < phase_of y.kind)) → IsLeastFault Some x → IsLeastFault All x
least_of_all Some All x is others least =
    record { is_fault = is; is_least = λ y h before. ⊎_elim (λ some. least.is_least y some before) (λ after. later x y after before) (others y h) }

-- ---- the faults of files in order

read_first : (files : List FileOf) (x : FaultAt) → IsLeastFault (ReadFaults files) x → IsLeastFault (FileFaults files) x
read_first files x least = least_of_all (ReadFaults files) (FileFaults files) x (of_read x least.is_fault) others least
  where
    here : phase_of x.kind < 3
    here = (read_phase files x least.is_fault).1

    others : (y : FaultAt) → FileFaults files y → ReadFaults files y ⊎ (phase_of x.kind < phase_of y.kind)
    others y (of_read z h) = inl h
    others y (of_linking z h) = inr (let at = here in let e = link_phase files y h in omega (arith, at, e.0))
    others y (of_checking z h) = inr (let at = here in let e = check_phase files y h in omega (arith, at, e))

link_first : (files : List FileOf) (x : FaultAt) → HasNoFault (ReadFaults files) → IsLeastFault (LinkFaults files) x → IsLeastFault (FileFaults files) x
link_first files x clean least = least_of_all (LinkFaults files) (FileFaults files) x (of_linking x least.is_fault) others least
  where
    here : phase_of x.kind < 6
    here = (link_phase files x least.is_fault).1

    others : (y : FaultAt) → FileFaults files y → LinkFaults files y ⊎ (phase_of x.kind < phase_of y.kind)
    others y (of_read z h) = absurd (clean y h)
    others y (of_linking z h) = inl h
    others y (of_checking z h) = inr (let at = here in let e = check_phase files y h in omega (arith, at, e))

check_first : (files : List FileOf) (x : FaultAt) → HasNoFault (ReadFaults files) → HasNoFault (LinkFaults files) → IsLeastFault (CheckFaults files) x → IsLeastFault (FileFaults files) x
check_first files x clean linked least = least_of_all (CheckFaults files) (FileFaults files) x (of_checking x least.is_fault) others least
  where
    others : (y : FaultAt) → FileFaults files y → CheckFaults files y ⊎ (phase_of x.kind < phase_of y.kind)
    others y (of_read z h) = absurd (clean y h)
    others y (of_linking z h) = absurd (linked y h)
    others y (of_checking z h) = inl h

pub none_of_files : (files : List FileOf) → HasNoFault (ReadFaults files) → HasNoFault (LinkFaults files) → HasNoFault (CheckFaults files) → HasNoFault (FileFaults files)
none_of_files files clean linked checked y (of_read z h) = clean y h
none_of_files files clean linked checked y (of_linking z h) = linked y h
none_of_files files clean linked checked y (of_checking z h) = checked y h

-- ---- the files that are given, and those in order

-- there is one order of files
one_sorted : (given sorted files : List FileOf) → IsPermutation given sorted → AreWorkspaceFiles sorted → IsSortedOf given files → files ≡ sorted
one_sorted given sorted files same workspace in_order = one_order files sorted (IsPermutation-sym sorted files again) as_workspace workspace
  where
    again : IsPermutation sorted files
    again = IsPermutation-trans sorted given files (IsPermutation-sym given sorted same) in_order.same

    as_workspace : AreWorkspaceFiles files
    as_workspace =
        let long = length_permutation sorted files again in
        let few = workspace.few in
        record { few = omega (arith, long, few); named = All-permutation (λ (f : FileOf). IsWorkspacePath f.path) sorted files again workspace.named; ordered = in_order.ordered }

of_one : (given sorted : List FileOf) (y : FaultAt) → HasNoFault (PathFaults 4096 (paths_of given)) → IsPermutation given sorted → AreWorkspaceFiles sorted → WorkspaceFaults given y → FileFaults sorted y
of_one given sorted y named same workspace (of_path z h) = absurd (named y h)
of_one given sorted y named same workspace (of_sorted files z in_order h) = subst (λ (fs : List FileOf). FileFaults fs y) (one_sorted given sorted files same workspace in_order) h

is_sorted : (given sorted : List FileOf) → IsPermutation given sorted → AreWorkspaceFiles sorted → IsSortedOf given sorted
is_sorted given sorted same workspace = record { same = same; ordered = workspace.ordered }

paths_first : (given : List FileOf) (x : FaultAt) → IsLeastFault (PathFaults 4096 (paths_of given)) x → IsLeastFault (WorkspaceFaults given) x
paths_first given x least = least_of_all (PathFaults 4096 (paths_of given)) (WorkspaceFaults given) x (of_path x least.is_fault) others least
  where
    here : phase_of x.kind ≡ 0
    here = paths_are_phase_0 4096 (paths_of given) x least.is_fault

    others : (y : FaultAt) → WorkspaceFaults given y → PathFaults 4096 (paths_of given) y ⊎ (phase_of x.kind < phase_of y.kind)
    others y (of_path z h) = inl h
    others y (of_sorted files z in_order h) = inr (let at = here in let e = file_phase files y h in omega (arith, at, e))

files_first : (given sorted : List FileOf) (x : FaultAt) → HasNoFault (PathFaults 4096 (paths_of given)) → IsPermutation given sorted → AreWorkspaceFiles sorted → IsLeastFault (FileFaults sorted) x → IsLeastFault (WorkspaceFaults given) x
files_first given sorted x named same workspace least =
    least_of_all (FileFaults sorted) (WorkspaceFaults given) x (of_sorted sorted x (is_sorted given sorted same workspace) least.is_fault) (λ y h. inl (of_one given sorted y named same workspace h)) least

-- ---- the answers

pub path_error : (given : List FileOf) (e : SchemaFault) → IsFilesError (PathFaults 4096 (paths_of given)) e → IsOpenError given e
path_error given (Schema fault) h = paths_first given (fault_at fault) h
path_error given NoMemory h = tt

pub read_error : (given sorted : List FileOf) (e : SchemaFault) → HasNoFault (PathFaults 4096 (paths_of given)) → IsPermutation given sorted → AreWorkspaceFiles sorted → IsFilesError (ReadFaults sorted) e → IsOpenError given e
read_error given sorted (Schema fault) named same workspace h = files_first given sorted (fault_at fault) named same workspace (read_first sorted (fault_at fault) h)
read_error given sorted NoMemory named same workspace h = tt

-- the files given, in order and read
are_read : (given sorted files : List FileOf) → files ≡ sorted → HasNoFault (PathFaults 4096 (paths_of given)) → IsPermutation given sorted → AreWorkspaceFiles sorted → HasNoFault (ReadFaults sorted) → AreReadOf given files
are_read given sorted files e named same workspace clean = subst (AreReadOf given) (sym e) (record { named = named; same = same; workspace = workspace; clean = clean })

-- what reading answers
pub all_read : (given sorted : List FileOf) (r : Result (List FileOf) SchemaFault) → HasNoFault (PathFaults 4096 (paths_of given)) → IsPermutation given sorted → AreWorkspaceFiles sorted
    → IfOk r (λ _. HasNoFault (ReadFaults sorted)) → IfOk r (λ files. files ≡ sorted) → IfOk r (AreReadOf given)
all_read given sorted (Ok files) named same workspace clean is = are_read given sorted files is named same workspace clean
all_read given sorted (Err e) named same workspace clean is = tt

pub not_read : (given sorted : List FileOf) (r : Result (List FileOf) SchemaFault) → HasNoFault (PathFaults 4096 (paths_of given)) → IsPermutation given sorted → AreWorkspaceFiles sorted
    → IfErr r (IsFilesError (ReadFaults sorted)) → IfErr r (IsOpenError given)
not_read given sorted (Ok files) named same workspace h = tt
not_read given sorted (Err e) named same workspace h = read_error given sorted e named same workspace h

pub linking_error : (files : List FileOf) (e : SchemaFault) → HasNoFault (ReadFaults files) → IsLinkError files e → IsFilesError (FileFaults files) e
linking_error files (Schema fault) read h = link_first files (fault_at fault) read h
linking_error files NoMemory read h = tt

pub checking_error : (files : List FileOf) (e : SchemaFault) → HasNoFault (ReadFaults files) → HasNoFault (LinkFaults files) → IsCheckError files e → IsFilesError (FileFaults files) e
checking_error files (Schema fault) read linked h = check_first files (fault_at fault) read linked h
checking_error files NoMemory read linked h = tt

pub files_error : (given files : List FileOf) (e : SchemaFault) → AreReadOf given files → IsFilesError (FileFaults files) e → IsOpenError given e
files_error given files (Schema fault) r h = files_first given files (fault_at fault) r.named r.same r.workspace h
files_error given files NoMemory r h = tt

pub no_fault : (given files : List FileOf) → AreReadOf given files → HasNoFault (FileFaults files) → HasNoFault (WorkspaceFaults given)
no_fault given files r clean y h = clean y (of_one given files y r.named r.same r.workspace h)

-- ---- one answer

pub one_open_fault : OneOpenFault
one_open_fault given f g a b = least_is_one (WorkspaceFaults given) (fault_at f) (fault_at g) a b

pub no_open_fault : NoOpenFault
no_open_fault given f clean least = clean (fault_at f) least.is_fault
