use Rattle.std.proofs.Common.{map, refl, arith}
use Rattle.proto_ast.specs.Common.{fields_from, fields_in, field_of}
use Rattle.proto_tree.specs.File.{member_tree, trees}
use Rattle.proto_base.proofs.Turns.{all_listed}
use Rattle.proto_ast.proofs.Statements.{fields_turn}
use Rattle.proto_ast.proofs.fields.fields_of.Goals as goal

pub loop-member-preserved : goal.loop-member-preserved
loop-member-preserved c = record {
  within = omega (arith, c.loop-member.invariant.within, c.oneof_count-oneofs.ensures.small);
  listed = fields_turn c.args.members.now c.loop-member.member-index c.loop-member.oneofs c.oneof_count-oneofs.result c.member-item.result (map field_of c.loop-member.fields.items) (map field_of c.push_fields.new.found.items) (fields_in (trees member_tree c.args.members.now))
      c.loop-member-test.true c.member-item.is c.oneof_count-oneofs.ensures.count c.in_ok-push_fields.ensures c.loop-member.invariant.listed;
}

pub returns : goal.returns
returns c = all_listed (λ members. fields_from c.loop-member.oneofs (trees member_tree members)) refl c.args.members.now c.loop-member.member-index _ _ (omega arith) c.loop-member.invariant.listed
