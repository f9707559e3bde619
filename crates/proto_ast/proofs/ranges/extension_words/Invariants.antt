use Rattle.std.proofs.Common.{◌≡◌, ◌++◌, drop, flat_map}
use Rattle.proto_tree.specs.File.{trees, member_tree}
use Rattle.proto_ast.specs.Parts.{extension_words, statements}
use Rattle.proto_ast.proofs.ranges.extension_words.Given as goal

abbrev pub invariant-loop-member : goal.invariant-loop-member
invariant-loop-member l = l.found.items ++ flat_map extension_words (statements (trees member_tree (drop l.member-index l.members))) ≡ flat_map extension_words (statements (trees member_tree l.members))
