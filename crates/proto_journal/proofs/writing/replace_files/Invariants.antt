use Rattle.std.proofs.Common.{◌≡◌, drop, map, option_map}
use Rattle.proto_edit_entries.specs.Entries.{change_of}
use Rattle.proto_journal.specs.Written.{DifferBy, with_these_files}
use Rattle.proto_journal.proofs.Between.{up_to}
use Rattle.proto_journal.proofs.writing.replace_files.Given as goal

abbrev pub invariant-loop-place : goal.invariant-loop-place
invariant-loop-place g l = record {
  holds : g.S.Store.holds l.store ≡ option_map (with_these_files (up_to l.place l.after l.before)) (g.S.Store.holds l.fn.store);
  differ : DifferBy (map change_of l.left) (drop l.place l.before) (drop l.place l.after);
  count : g.S.Store.failure_count l.store ≡ g.S.Store.failure_count l.fn.store;
}
