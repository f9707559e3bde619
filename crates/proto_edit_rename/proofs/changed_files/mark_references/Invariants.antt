use Rattle.std.proofs.Common.{◌≡◌, drop}
use Rattle.proto_edit_rename.specs.ChangedFiles.{with_references}
use Rattle.proto_edit_rename.proofs.changed_files.mark_references.Given as goal

abbrev pub invariant-loop-reference : goal.invariant-loop-reference
invariant-loop-reference l = with_references l.changed (drop l.reference-index l.references) ≡ with_references l.fn.changed l.references
