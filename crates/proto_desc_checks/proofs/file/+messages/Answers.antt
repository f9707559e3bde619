use Rattle.std.proofs.Common.{◌++◌, List, flat_map, ◌∙◌, ap, sym, arith, take_all}
use Rattle.proto_tree.specs.declared.tree.Member.{Member}
use Rattle.proto_tree.specs.File.{member_tree}
use Rattle.proto_desc_numbers.specs.declared.flaw.Flaw.{Flaw}
use Rattle.proto_desc_checks.specs.FileFlaws.{flaws_in_blocks}
use Rattle.proto_desc_checks.proofs.Blocks.{flaws_of_trees}
use Rattle.proto_base.proofs.Turns.{added_more}
use Rattle.proto_desc_checks.proofs.file.+messages.Goals as goal

pub add_members-loop-member-preserved : goal.add_members-loop-member-preserved
add_members-loop-member-preserved t c =
    added_more (λ m. flaws_in_blocks c.args.scene.now (member_tree m)) c.args.members.now c.loop-member.member-index c.member-item.result c.member-item.result c.args.found.now.items c.loop-member.found.items _
    c.loop-member-test.true c.member-item.is c.in_ok-add_member.ensures c.loop-member.invariant

pub add_members-returns : goal.add_members-returns
add_members-returns t c =
    c.loop-member.invariant
    ∙ ap (λ (ms : List Member). c.args.found.now.items ++ flat_map (λ m. flaws_in_blocks c.args.scene.now (member_tree m)) ms) (take_all c.loop-member.member-index c.args.members.now (omega arith))
    ∙ ap (λ (fs : List Flaw). c.args.found.now.items ++ fs) (sym (flaws_of_trees member_tree c.args.scene.now c.args.members.now))
