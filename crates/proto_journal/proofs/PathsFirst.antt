-- A fault of the paths alone is the least of the files: all other faults are of later phases.
use Rattle.std.proofs.Common.{◌≡◌, ◌<◌, inl, inr, ⊎_elim, ℕ, List, Option, Some, None, subst, arith}
use Rattle.proto_base.proofs.Common.{phase_of}
use Rattle.proto_base.specs.declared.fault.SchemaFault.{SchemaFault}
use Rattle.proto_base.specs.declared.fault.SchemaFault.TheVariants.{Schema, NoMemory}
use Rattle.proto_files.proofs.Common.{FaultAt, ComesBefore, IsFilesError, IsLeastFault, fault_at, FileOf, paths_of, PathFaults, comes_before_cases, paths_are_phase_0, texts_are_phase_1, grammar_is_phase_2}
use Rattle.proto_names_imports.proofs.Common.{LinkFaults, of_import, of_name, of_reference, import_found, name_found, reference_found}
use Rattle.proto_desc.proofs.Common.{all_of_checks, CheckFaults, of_flaw, FileFaults, of_read, of_link, of_check, WorkspaceFaults, of_path, of_files}
use Rattle.proto_store.specs.Stores.{Held}
use Rattle.proto_journal.specs.Loads.{ArePathsOf, IsLoadFault, schemas_fault}

link_is_later : (files : List FileOf) (x : FaultAt) → LinkFaults files x → 0 < phase_of x.kind
link_is_later files x (of_import reads f z are stands h) = let e : phase_of x.kind ≡ 3 = (import_found files reads are f h).in_phase x.kind stands.number in omega (arith, e)
link_is_later files x (of_name reads f z are stands h) = let e : phase_of x.kind ≡ 4 = (name_found files reads are f h).in_phase x.kind stands.number in omega (arith, e)
link_is_later files x (of_reference reads f z are stands h) = let e : phase_of x.kind ≡ 5 = (reference_found files reads are f h).in_phase x.kind stands.number in omega (arith, e)

check_is_later : (files : List FileOf) (x : FaultAt) → CheckFaults files x → 0 < phase_of x.kind
check_is_later files x (of_flaw reads file f are within there) =
    let e : phase_of x.kind ≡ 6 = all_of_checks None files reads file f there in omega (arith, e)

is_later : (files : List FileOf) (x : FaultAt) → FileFaults files x → 0 < phase_of x.kind
is_later files x (of_read z (inl t)) = let e = texts_are_phase_1 files x t in omega (arith, e)
is_later files x (of_read z (inr g)) = let e = grammar_is_phase_2 files x g in omega (arith, e)
is_later files x (of_link z h) = link_is_later files x h
is_later files x (of_check z h) = check_is_later files x h

least_of_paths : (given : List FileOf) (x : FaultAt) → IsLeastFault (PathFaults 4096 (paths_of given)) x → IsLeastFault (WorkspaceFaults given) x
least_of_paths given x least = record { is_fault = of_path x least.is_fault; is_least = not_before }
  where
    here : phase_of x.kind ≡ 0
    here = paths_are_phase_0 4096 (paths_of given) x least.is_fault

    not_before : (y : FaultAt) → WorkspaceFaults given y → ComesBefore y x → ⊥
    not_before y (of_path z h) before = least.is_least y h before
    not_before y (of_files files z order h) before =
        let at = here in
        let after : 0 < phase_of y.kind = is_later files y h in
        ⊎_elim (λ (lt : phase_of y.kind < phase_of x.kind). omega (arith, at, lt)) (λ more. let same : phase_of y.kind ≡ phase_of x.kind = more.0 in omega (arith, at, after, same)) (comes_before_cases y x before)

-- so it is told of a store by its paths alone
pub paths_fault : (held : Option Held) (paths : List (List ℕ)) (e : SchemaFault) → ArePathsOf held paths → IsFilesError (PathFaults 4096 paths) e → IsLoadFault held (schemas_fault e)
paths_fault None paths (Schema f) are h = tt
paths_fault (Some now) paths (Schema f) are h = least_of_paths now.files (fault_at f) (subst (λ (ps : List (List ℕ)). IsLeastFault (PathFaults 4096 ps) (fault_at f)) are.1 h)
paths_fault held paths NoMemory are h = tt
