use Rattle.std.proofs.Common.{◌≡◌, ◌++◌, ◌≤◌, map, drop}
use Rattle.proto_tree.specs.File.{trees, member_tree}
use Rattle.proto_ast.specs.Common.{fields_from, field_of}
use Rattle.proto_ast.proofs.fields.fields_of.Given as goal

abbrev pub invariant-loop-member : goal.invariant-loop-member
invariant-loop-member l = record {
  within : l.oneofs ≤ l.member-index;
  listed : map field_of l.fields.items ++ fields_from l.oneofs (trees member_tree (drop l.member-index l.members)) ≡ fields_from 0 (trees member_tree l.members);
}
