use Rattle.std.proofs.Common.{◌≡◌, drop}
use Rattle.proto_tree.specs.File.{item_tree, trees}
use Rattle.proto_ast.specs.Parts.{syntax_texts_in}
use Rattle.proto_ast.proofs.version.syntax_text.Given as goal

abbrev pub invariant-loop-item : goal.invariant-loop-item
invariant-loop-item l = syntax_texts_in (trees item_tree (drop l.item-index l.item-items)) ≡ syntax_texts_in (trees item_tree l.item-items)
