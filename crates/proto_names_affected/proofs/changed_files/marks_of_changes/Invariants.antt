use Rattle.std.proofs.Common.{◌≡◌, ℕ, ◌<◌, [], get_or, length, map}
use Rattle.proto_names_affected.specs.ChangedFiles.{IsChangeMarked}
use Rattle.proto_names_affected.specs.Marking.{ArePlacesMarked}
use Rattle.proto_names_affected.proofs.changed_files.marks_of_changes.Given as goal

abbrev pub invariant-loop-k : goal.invariant-loop-k
invariant-loop-k l = record {
  len : length l.marks ≡ length l.linked.meant.now;
  places : ArePlacesMarked l.marks l.places;
  each : (j : ℕ) → j < l.k → IsChangeMarked l.linked.table.now l.marks (map (λ v. v.items) l.linked.references.now) (map (λ v. v.items) l.linked.meant.now)
      (get_or (map (λ v. v.items) l.before) j []) (get_or (map (λ v. v.items) l.now) j []);
}
