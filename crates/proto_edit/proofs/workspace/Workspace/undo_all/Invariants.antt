use Rattle.std.proofs.Common.{map}
use Rattle.proto_edit.specs.Workspaces.{Undone}
use Rattle.proto_edit.proofs.workspace.Workspace.undo_all.Given as goal

abbrev pub invariant-loop-entry : goal.invariant-loop-entry
invariant-loop-entry l = Undone l.self (map (λ x. x.now) l.yielded) l.workspace
