use Rattle.std.proofs.Common.{ℕ, ◌<◌, [], All, get_or, length, map}
use Rattle.proto_names_affected.specs.Marking.{IsMarked}
use Rattle.proto_names_affected.specs.Sight.{IsGathered}
use Rattle.proto_names_affected.proofs.shown_names.shown_names.Given as goal

abbrev pub invariant-loop-file : goal.invariant-loop-file
invariant-loop-file l = record {
  within : All (λ row. row < length l.table.rows.items) l.names.packages.keys;
  gathered : (file : ℕ) → file < l.file → IsMarked l.marks file → All (IsGathered l.table l.names.packages.keys l.names.keys.keys) (get_or (map (λ v. v.items) l.rows) file []);
}
