use Rattle.std.proofs.Common.{◌≡◌, drop}
use Rattle.proto_tree.specs.File.{enum_item_tree, trees}
use Rattle.proto_ast.specs.Parts.{values_in}
use Rattle.proto_lint_names.proofs.enums.add_first_value.Given as goal

abbrev pub invariant-loop-item : goal.invariant-loop-item
invariant-loop-item l = record {
  same : l.found ≡ l.initial.found;
  left : values_in (trees enum_item_tree (drop l.item-index l.items)) ≡ values_in (trees enum_item_tree l.items);
}
