use Rattle.std.proofs.Common.{take}
use Rattle.proto_names_imports.specs.Walks.{Visits}
use Rattle.proto_names_imports.proofs.walk.visit.Given as goal

abbrev pub invariant-loop-file : goal.invariant-loop-file
invariant-loop-file l = Visits (take l.file-index l.next) l.initial.seen l.initial.todo.items l.seen l.todo.items
