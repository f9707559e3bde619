use Rattle.std.proofs.Common.{◌≡◌, length}
use Rattle.proto_tree.specs.File.{oneof_item_tree, trees}
use Rattle.proto_ast.specs.Common.{fields_in}
use Rattle.proto_ast.proofs.fields.next_field.Given as goal

abbrev pub invariant-loop-item : goal.invariant-loop-item
invariant-loop-item l = fields_in (trees oneof_item_tree l.left) ≡ fields_in (trees oneof_item_tree l.items)

abbrev pub decreases-loop-item : goal.decreases-loop-item
decreases-loop-item l = length l.left
