use Rattle.std.proofs.Common.{map, take}
use Rattle.proto_edit.specs.Common.{asked, Run}
use Rattle.proto_edit.proofs.workspace.Workspace.apply_all.Given as goal

abbrev pub invariant-loop-edit : goal.invariant-loop-edit
invariant-loop-edit l = Run l.self (map asked (take l.edit-index l.edits)) l.answers.items l.workspace
