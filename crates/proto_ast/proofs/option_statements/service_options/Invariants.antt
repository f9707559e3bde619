use Rattle.std.proofs.Common.{◌≡◌, ◌++◌, map, drop}
use Rattle.proto_tree.specs.File.{trees, service_item_tree}
use Rattle.proto_ast.specs.Common.{options_in, option_of}
use Rattle.proto_ast.proofs.option_statements.service_options.Given as goal

abbrev pub invariant-loop-item : goal.invariant-loop-item
invariant-loop-item l = map option_of l.found.items ++ options_in (trees service_item_tree (drop l.item-index l.items)) ≡ options_in (trees service_item_tree l.items)
