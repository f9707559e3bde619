-- Steps of the walk over named files, and what its answer says of the files that were given.
use Rattle.std.proofs.Common.{◌≡◌, ℕ, ◌+◌, ◌<◌, ◌≤◌, List, [], ◌∷◌, length, get_or, sym, ap, ◌∙◌, subst, arith, Option, Some, None, IsPermutation, String, Global, string_bytes}
use Rattle.proto_base.proofs.Common.{Vec, IsPermutation-map}
use Rattle.proto_base.specs.declared.fault.FaultKind.{FaultKind}
use Rattle.proto_base.specs.declared.profile.Profile.{Profile}
use Rattle.proto_files.specs.Common.{NamedFile, IsInPathOrder, IsLeastFault, HasNoFault, FileOf, paths_of, files_of_as, AreWorkspaceFiles, named_file, named_files, named_paths, PathFaults, fault_before, fault_or, first_fault}
use Rattle.proto_files.proofs.PathWalk.{Passed, Outcome, walked}
use Rattle.proto_files.proofs.NamedLists.{paths_of-named_files, length-named_paths, get_or-named_paths, workspace_files}

pub first_fault_stops : (place limit : ℕ) (left : List NamedFile) (f : NamedFile) (rest : List NamedFile) (path : List ℕ) (kind : FaultKind) (total : Option (ℕ × FaultKind)) → left ≡ f ∷ rest → path ≡ string_bytes f.path → Some kind ≡ fault_before place limit path (named_paths rest) → first_fault place limit (named_paths left) ≡ total → Some (place, kind) ≡ total
unfolding first_fault
first_fault_stops place limit left f rest path kind total e at is h =
    ap (λ r. fault_or place r (first_fault (place + 1) limit (named_paths rest))) (is ∙ ap (λ p. fault_before place limit p (named_paths rest)) at)
    ∙ ap (λ files. first_fault place limit (named_paths files)) (sym e) ∙ h

pub first_fault_goes : (place limit : ℕ) (left : List NamedFile) (f : NamedFile) (rest : List NamedFile) (path : List ℕ) (total : Option (ℕ × FaultKind)) → left ≡ f ∷ rest → path ≡ string_bytes f.path → None ≡ fault_before place limit path (named_paths rest) → first_fault place limit (named_paths left) ≡ total → first_fault (place + 1) limit (named_paths rest) ≡ total
unfolding first_fault
first_fault_goes place limit left f rest path total e at is h =
    ap (λ r. fault_or place r (first_fault (place + 1) limit (named_paths rest))) (is ∙ ap (λ p. fault_before place limit p (named_paths rest)) at)
    ∙ ap (λ files. first_fault place limit (named_paths files)) (sym e) ∙ h

pub first_fault_ends : (place limit : ℕ) (left : List NamedFile) (total : Option (ℕ × FaultKind)) → length left ≡ 0 → first_fault place limit (named_paths left) ≡ total → None ≡ total
unfolding first_fault
first_fault_ends place limit [] total e h = h
first_fault_ends place limit (f ∷ left) total e h = absurd (omega arith)

-- The files that are given have other names and another order than those that are walked.
pub same_files : (p : Profile) (given : List (String Global × Vec ℕ)) (named sorted : List NamedFile) → named_files named ≡ files_of_as p given → IsPermutation named sorted → IsPermutation (files_of_as p given) (named_files sorted)
same_files p given named sorted e h =
    subst (λ (xs : List FileOf). IsPermutation xs (named_files sorted)) e (IsPermutation-map named_file named sorted h)

pub same_paths : (p : Profile) (given : List (String Global × Vec ℕ)) (named sorted : List NamedFile) → named_files named ≡ files_of_as p given → IsPermutation named sorted → IsPermutation (paths_of (files_of_as p given)) (named_paths sorted)
same_paths p given named sorted e h =
    subst (λ (xs : List (List ℕ)). IsPermutation (paths_of (files_of_as p given)) xs) (paths_of-named_files sorted)
    (IsPermutation-map (λ (f : FileOf). f.path) (files_of_as p given) (named_files sorted) (same_files p given named sorted e h))

pub clean_walk : (p : Profile) (limit : ℕ) (given : List (String Global × Vec ℕ)) (named sorted : List NamedFile) → named_files named ≡ files_of_as p given → IsPermutation named sorted → IsInPathOrder (named_paths sorted) → None ≡ first_fault 0 limit (named_paths sorted) → HasNoFault (PathFaults limit (paths_of (files_of_as p given))) × Passed limit (named_paths sorted) []
clean_walk p limit given named sorted e h o is =
    let all = named_paths sorted in
    let paths = paths_of (files_of_as p given) in
    subst (λ (r : Option (ℕ × FaultKind)). Outcome limit paths all (same_paths p given named sorted e h) r) (sym is) (walked limit paths all (same_paths p given named sorted e h) o)

pub clean_files : (p : Profile) (limit : ℕ) (given : List (String Global × Vec ℕ)) (named sorted : List NamedFile) → limit ≤ 4096 → named_files named ≡ files_of_as p given → IsPermutation named sorted → IsInPathOrder (named_paths sorted) → None ≡ first_fault 0 limit (named_paths sorted) → AreWorkspaceFiles (named_files sorted)
clean_files p limit given named sorted small e h o is =
    workspace_files limit (named_files sorted) small
    (subst (λ (xs : List (List ℕ)). Passed limit xs []) (sym (paths_of-named_files sorted)) (clean_walk p limit given named sorted e h o is).1)

pub stopped_walk : (p : Profile) (limit : ℕ) (given : List (String Global × Vec ℕ)) (named sorted : List NamedFile) → named_files named ≡ files_of_as p given → IsPermutation named sorted → IsInPathOrder (named_paths sorted) → (place : ℕ) (kind : FaultKind) (file : NamedFile) → Some (place, kind) ≡ first_fault 0 limit (named_paths sorted) → file ≡ get_or sorted place file → IsLeastFault (PathFaults limit (paths_of (files_of_as p given))) (record { path = string_bytes file.path; offset = 0; kind = kind })
stopped_walk p limit given named sorted e h o place kind file is at =
    let all = named_paths sorted in
    let paths = paths_of (files_of_as p given) in
    let found : (place < length all) × IsLeastFault (PathFaults limit paths) (record { path = get_or all place []; offset = 0; kind = kind }) =
    subst (λ (r : Option (ℕ × FaultKind)). Outcome limit paths all (same_paths p given named sorted e h) r) (sym is) (walked limit paths all (same_paths p given named sorted e h) o) in
    let within : place < length sorted = omega (arith, found.0, length-named_paths sorted) in
    let path : get_or all place [] ≡ string_bytes file.path = get_or-named_paths sorted place file [] within ∙ ap (λ (f : NamedFile). string_bytes f.path) (sym at) in
    subst (λ (q : List ℕ). IsLeastFault (PathFaults limit paths) (record { path = q; offset = 0; kind = kind })) path found.1
