use Rattle.std.proofs.Common.{map, take}
use Rattle.proto_edit_entries.proofs.Common.{change_of}
use Rattle.proto_answers.specs.Common.{AreAllEdits}
use Rattle.proto_answers.proofs.entry_edits.edits_of_changes.Given as goal

abbrev pub invariant-loop-change : goal.invariant-loop-change
invariant-loop-change l = AreAllEdits l.files l.encoding (map change_of (take l.change-index l.changes)) l.all.items
