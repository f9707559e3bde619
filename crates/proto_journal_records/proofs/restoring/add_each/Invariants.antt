use Rattle.std.proofs.Common.{◌≡◌, take, map}
use Rattle.proto_files.specs.GivenFiles.{files_of}
use Rattle.proto_edit_entries.specs.Entries.{change_of}
use Rattle.proto_journal_records.specs.Restoring.{AddsOldFiles}
use Rattle.proto_journal_records.proofs.restoring.add_each.Given as goal

abbrev pub invariant-loop-place : goal.invariant-loop-place
invariant-loop-place g l = record {
  so_far : AddsOldFiles (map change_of (take l.place l.changes)) (g.S.Store.holds l.fn.store) (files_of l.fn.files.items) (files_of l.files.items);
  same : g.S.Store.holds l.store ≡ g.S.Store.holds l.fn.store;
  count : g.S.Store.failure_count l.store ≡ g.S.Store.failure_count l.fn.store;
}
