use Rattle.std.proofs.Common.{◌≡◌, length}
use Rattle.proto_files.proofs.Common.{Each}
use Rattle.proto_desc_affected.specs.Checked.{IsKeptOf}
use Rattle.proto_desc_affected.specs.Common.{file_summaries_of}
use Rattle.proto_desc_affected.proofs.file_summary.file_summaries.Given as goal

abbrev pub invariant-loop-file : goal.invariant-loop-file
invariant-loop-file l = record {
  len : length (file_summaries_of l.kept.items) ≡ l.file;
  each : Each (λ file k. IsKeptOf l.linked.files file k) (file_summaries_of l.kept.items);
}
