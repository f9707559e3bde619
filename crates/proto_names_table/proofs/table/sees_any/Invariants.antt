use Rattle.std.proofs.Common.{◌≡◌, false, drop, slice_index_or}
use Rattle.std.specs.List.{list_any}
use Rattle.proto_names_table.proofs.table.sees_any.Given as goal

abbrev pub invariant-loop-file : goal.invariant-loop-file
invariant-loop-file l = list_any (λ f. slice_index_or l.seen f false) l.files ≡ list_any (λ f. slice_index_or l.seen f false) (drop l.file-index l.files)
