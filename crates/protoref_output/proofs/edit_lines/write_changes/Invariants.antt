use Rattle.std.proofs.Common.{map, take}
use Rattle.std.specs.Io.KnownBytes.{Appends}
use Rattle.proto_edit_entries.specs.Entries.{change_of}
use Rattle.protoref_output.specs.EditLines.{changed_lines}
use Rattle.protoref_output.proofs.edit_lines.write_changes.Given as goal

abbrev pub invariant-loop-change : goal.invariant-loop-change
invariant-loop-change g l = Appends (g.W.Write.contents l.initial.writer) (g.W.Write.contents l.writer) (changed_lines (map change_of (take l.change-index l.changes)))
