use Rattle.std.proofs.Common.{[], ◌∷◌, ◌+◌, ◌*◌, length, map, slice_set, Contains}
use Rattle.proto_names_imports.specs.Walks.{unseen}
use Rattle.proto_names_imports.proofs.SeenFiles.{own_of, public_of}
use Rattle.proto_names_imports.proofs.Walks.{IsPart}
use Rattle.proto_names_imports.proofs.sight.seen_from.Given as goal

abbrev pub invariant-loop-next : goal.invariant-loop-next
invariant-loop-next l = record {
  part : IsPart (slice_set (map (λ v. public_of v.items) l.imports) l.file (own_of l.own)) (l.file ∷ []) l.seen l.todo.items;
  apart : Contains l.todo.items l.file → ⊥;
}

abbrev pub decreases-loop-next : goal.decreases-loop-next
decreases-loop-next l = 2 * unseen l.seen + length l.todo.items
