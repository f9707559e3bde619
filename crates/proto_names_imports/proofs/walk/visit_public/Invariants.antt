use Rattle.std.proofs.Common.{map, filter, take}
use Rattle.proto_names_imports.specs.Walks.{Visits}
use Rattle.proto_names_imports.proofs.walk.visit_public.Given as goal

abbrev pub invariant-loop-import : goal.invariant-loop-import
invariant-loop-import l = Visits (map (λ i. i.to) (filter (λ i. i.is_public) (take l.import-index l.imports))) l.initial.seen l.initial.todo.items l.seen l.todo.items
