use Rattle.std.proofs.Common.{◌≡◌, ◌++◌, map, drop}
use Rattle.proto_tree.specs.File.{trees, member_tree}
use Rattle.proto_ast.specs.Common.{options_in, option_of}
use Rattle.proto_ast.proofs.option_statements.message_options.Given as goal

abbrev pub invariant-loop-member : goal.invariant-loop-member
invariant-loop-member l = map option_of l.found.items ++ options_in (trees member_tree (drop l.member-index l.members)) ≡ options_in (trees member_tree l.members)
