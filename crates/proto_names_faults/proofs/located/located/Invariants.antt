use Rattle.std.proofs.Common.{◌≡◌, length, get_or}
use Rattle.proto_files.specs.Common.{fault_at}
use Rattle.proto_files.specs.FilesRead.{Each}
use Rattle.proto_names_faults.specs.Common.{Flaw, StandsAtFlaw}
use Rattle.proto_names_faults.proofs.located.located.Given as goal

abbrev pub invariant-loop-flaw : goal.invariant-loop-flaw
invariant-loop-flaw l = record {
  len : length l.faults.items ≡ l.flaw-index;
  each : Each (λ k x. (w : Flaw) → StandsAtFlaw l.files (get_or l.flaws k w) (fault_at x)) l.faults.items;
}
