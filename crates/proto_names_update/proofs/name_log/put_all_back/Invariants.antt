use Rattle.std.proofs.Common.{◌≡◌, length, map, vec_len}
use Rattle.proto_base.specs.Undone.{AreWithin, undone}
use Rattle.proto_names_update.specs.NameLogs.{rest_of, standing_of}
use Rattle.proto_names_update.proofs.name_log.put_all_back.Given as goal

abbrev pub invariant-loop-change : goal.invariant-loop-change
invariant-loop-change l = record {
  standings : undone l.changes.items (map standing_of l.table.rows.items) ≡ undone l.initial.changes.items (map standing_of l.initial.table.rows.items);
  rests : map rest_of l.table.rows.items ≡ map rest_of l.initial.table.rows.items;
  below : l.table.below ≡ l.initial.table.below;
  size : length l.table.rows.items ≡ length l.initial.table.rows.items;
  within : AreWithin (length l.initial.table.rows.items) l.changes.items;
}

abbrev pub decreases-loop-change : goal.decreases-loop-change
decreases-loop-change l = vec_len l.changes
