use Rattle.std.proofs.Common.{◌≡◌, map, take}
use Rattle.proto_names_affected.specs.ChangedFiles.{kind_rows_of}
use Rattle.proto_names_affected.proofs.changed_files.kind_rows_at.Given as goal

abbrev pub invariant-loop-place : goal.invariant-loop-place
invariant-loop-place l = map (λ v. v.items) l.found.items ≡ map (kind_rows_of l.table (map (λ v. v.items) l.rows)) (take l.place-index l.places)
