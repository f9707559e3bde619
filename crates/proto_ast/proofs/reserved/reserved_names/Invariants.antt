use Rattle.std.proofs.Common.{◌≡◌, ◌++◌, drop}
use Rattle.proto_tree.specs.File.{trees, member_tree}
use Rattle.proto_ast.specs.Parts.{reserved_names_in}
use Rattle.proto_ast.proofs.reserved.reserved_names.Given as goal

abbrev pub invariant-loop-member : goal.invariant-loop-member
invariant-loop-member l = l.found.items ++ reserved_names_in (trees member_tree (drop l.member-index l.members)) ≡ reserved_names_in (trees member_tree l.members)
