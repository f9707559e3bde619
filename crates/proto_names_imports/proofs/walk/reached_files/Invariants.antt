use Rattle.std.proofs.Common.{[], ◌∷◌, ◌+◌, ◌*◌, length, map}
use Rattle.proto_names_imports.specs.Walks.{unseen}
use Rattle.proto_names_imports.proofs.Walks.{IsPart}
use Rattle.proto_names_imports.proofs.walk.reached_files.Given as goal

abbrev pub invariant-loop-file : goal.invariant-loop-file
invariant-loop-file l = IsPart (map (λ v. v.items) l.next) (l.start ∷ []) l.seen l.todo.items

abbrev pub decreases-loop-file : goal.decreases-loop-file
decreases-loop-file l = 2 * unseen l.seen + length l.todo.items
