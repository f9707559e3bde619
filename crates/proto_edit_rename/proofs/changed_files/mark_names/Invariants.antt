use Rattle.std.proofs.Common.{◌≡◌, drop}
use Rattle.proto_edit_rename.specs.ChangedFiles.{with_rows}
use Rattle.proto_edit_rename.proofs.changed_files.mark_names.Given as goal

abbrev pub invariant-loop-place : goal.invariant-loop-place
invariant-loop-place l = with_rows l.link l.name l.changed (drop l.place l.declared.rows.now) ≡ with_rows l.link l.name l.fn.changed l.declared.rows.now
