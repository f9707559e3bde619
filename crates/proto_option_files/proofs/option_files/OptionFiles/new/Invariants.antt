use Rattle.std.proofs.Common.{◌≡◌, ℕ, ◌<◌, All, length}
use Rattle.proto_files.proofs.Common.{file_at}
use Rattle.proto_option_files.specs.OptionFiles.{AreOnlyTheirs, HasFileKeys}
use Rattle.proto_option_files.proofs.option_files.OptionFiles.new.Given as goal

abbrev pub invariant-loop-file : goal.invariant-loop-file
invariant-loop-file l = record {
  sized : All (λ set. length set ≡ length l.files) l.found;
  each : (file : ℕ) → file < l.file → HasFileKeys (file_at l.files file) l.found file;
  only : AreOnlyTheirs l.files l.found;
}
