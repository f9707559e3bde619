use Rattle.std.proofs.Common.{arith}
use Rattle.proto_ast.specs.Parts.{extension_words}
use Rattle.proto_tree.specs.File.{member_tree}
use Rattle.proto_ast.proofs.Statements.{all_parts, parts_turn}
use Rattle.proto_ast.proofs.ranges.extension_words.Goals as goal

pub loop-member-preserved : goal.loop-member-preserved
loop-member-preserved c = parts_turn extension_words member_tree c.args.members.now c.loop-member.member-index c.member-item.result _ _ _ c.loop-member-test.true c.member-item.is c.in_ok-push_extension_word.ensures c.loop-member.invariant

pub returns : goal.returns
returns c = all_parts extension_words member_tree c.args.members.now c.loop-member.member-index _ _ (omega arith) c.loop-member.invariant
