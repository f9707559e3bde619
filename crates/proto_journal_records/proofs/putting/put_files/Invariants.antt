use Rattle.std.proofs.Common.{◌≡◌, take, option_map}
use Rattle.proto_files.specs.GivenFiles.{files_of}
use Rattle.proto_journal_records.specs.Restoring.{with_files}
use Rattle.proto_journal_records.proofs.putting.put_files.Given as goal

abbrev pub invariant-loop-file : goal.invariant-loop-file
invariant-loop-file g l = record {
  holds : g.S.Store.holds l.store ≡ option_map (with_files (files_of (take l.file-index l.files))) (g.S.Store.holds l.fn.store);
  count : g.S.Store.failure_count l.store ≡ g.S.Store.failure_count l.fn.store;
}
