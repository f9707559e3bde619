use Rattle.std.proofs.Common.{◌≡◌, ◌++◌, map, drop}
use Rattle.proto_tree.specs.File.{trees, item_tree}
use Rattle.proto_lint.specs.Imports.{import_statements_in}
use Rattle.proto_lint.proofs.imports.import_statements.Given as goal

abbrev pub invariant-loop-item : goal.invariant-loop-item
invariant-loop-item l = map (λ i. i.now) l.imports.items ++ import_statements_in (trees item_tree (drop l.item-index l.item-items)) ≡ import_statements_in (trees item_tree l.item-items)
