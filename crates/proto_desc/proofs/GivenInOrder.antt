-- Files in the order of their paths have no fault of these, and are those that were given.
use Rattle.std.proofs.Common.{ℕ, suc, List, [], ◌∷◌, subst, arith, AllPairs}
use Rattle.proto_base.proofs.Common.{IsPermutation-refl, from_map, length-map, length_permutation}
use Rattle.proto_base.specs.declared.fault.FaultKind.{FaultKind}
use Rattle.proto_base.specs.declared.fault.FaultKind.TheVariants.{BadPath, DoublePath, TooManyFiles}
use Rattle.proto_base.specs.declared.fault.SchemaFault.{SchemaFault}
use Rattle.proto_files.proofs.Common.{AreWorkspaceFiles, FileOf, HasNoFault, IsBefore, IsFilesError, IsPathFault, IsWorkspacePath, PathFaults, PathsRise, ReadFaults, count_once, paths_of}
use Rattle.proto_files.proofs.Members.{Contains-from_member}
use Rattle.proto_desc.proofs.Opened.{read_error}
use Rattle.proto_desc.specs.Opening.{AreReadOf, IsOpenError}

pub rises : (w : List FileOf) → AllPairs (λ f g. IsBefore f.path g.path) w → PathsRise (paths_of w)
rises [] h = tt
rises (f ∷ w) h = (
  (λ q m. (
      let c = from_map (λ (g : FileOf). g.path) w q (Contains-from_member q (paths_of w) m) in
      subst (IsBefore f.path) c.2 (subst (λ (g : FileOf). IsBefore f.path g.path) c.1.2 (h 0 (suc c.1.0) c.0 (omega arith) (omega (arith, c.1.1)))))),
  rises w (λ i j d lt within. h (suc i) (suc j) d (omega arith) (omega arith)),
)

pub no_fault_of_path : (w : List FileOf) → AreWorkspaceFiles w → (k : FaultKind) (p : List ℕ) → IsPathFault 4096 (paths_of w) k p → ⊥
no_fault_of_path w workspace BadPath p h =
    let c = from_map (λ (g : FileOf). g.path) w p h.0 in
    h.1 (subst IsWorkspacePath c.2 (subst (λ (g : FileOf). IsWorkspacePath g.path) c.1.2 (workspace.named c.1.0 c.0 c.1.1)))
no_fault_of_path w workspace DoublePath p h = (let once = count_once p (paths_of w) (rises w workspace.ordered) in omega (arith, once, h))
no_fault_of_path w workspace TooManyFiles p h =
    let few = workspace.few in
    let same = length_permutation (paths_of w) h.ordered h.same_paths in
    let long = length-map w (λ (f : FileOf). f.path) in
    let place = h.is_place in
    omega (arith, few, same, long, place)
no_fault_of_path w workspace _ p h = absurd h

no_path_fault : (w : List FileOf) → AreWorkspaceFiles w → HasNoFault (PathFaults 4096 (paths_of w))
no_path_fault w workspace y h = no_fault_of_path w workspace y.kind y.path h.1

-- files that are read, as they are given
pub read_in_order : (w : List FileOf) → AreWorkspaceFiles w → HasNoFault (ReadFaults w) → AreReadOf w w
read_in_order w workspace clean = record { named = no_path_fault w workspace; same = IsPermutation-refl w; workspace = workspace; clean = clean }

-- the least fault of reading them is the least of all
pub reading_error : (w : List FileOf) (e : SchemaFault) → AreWorkspaceFiles w → IsFilesError (ReadFaults w) e → IsOpenError w e
reading_error w e workspace h = read_error w w e (no_path_fault w workspace) (IsPermutation-refl w) workspace h
