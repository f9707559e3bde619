use Rattle.std.proofs.Common.{◌+◌, List, Some, None, drop, sym, ap, ◌∙◌, arith, Vec, Global, option_to_list, append-nil}
use Rattle.proto_tree.specs.File.{trees, member_tree}
use Rattle.proto_desc_build.specs.Described.{messages_described}
use Rattle.proto_descriptors.specs.Views.{messages_desc}
use Rattle.proto_descriptors.specs.declared.message.MessageDescriptor.{MessageDescriptor}
use Rattle.proto_desc_build.proofs.Levels.{messages_then, described_more, described_all}
use Rattle.proto_desc_build.proofs.described_message.+messages.Goals as goal
use Rattle.proto_desc_build.proofs.described_message.+messages.Goals.{nested_messages-in-Some+in_ok-push, nested_messages-in_default}

pub message_descriptor-nested_messages-requires : goal.message_descriptor-nested_messages-requires
message_descriptor-nested_messages-requires t c = (rw c.deref-2.ensures.value (omega arith), tt)

pub nested_messages-loop-member-preserved : goal.nested_messages-loop-member-preserved
nested_messages-loop-member-preserved t c =
    let more = described_more member_tree c.args.scene.now c.args.full.now c.args.members.now c.loop-member.member-index c.member-item.result c.loop-member.nested.items in
    let whole = messages_described c.args.scene.now c.args.full.now (trees member_tree c.args.members.now) in
    let rest = messages_described c.args.scene.now c.args.full.now (trees member_tree (drop (c.loop-member.member-index + 1) c.args.members.now)) in
    elim c.match-branch-2.branch [
      | nested_messages-in-Some+in_ok-push w ↦
          ap (λ (v : Vec MessageDescriptor Global). messages_then (messages_desc v.items) rest) w.nested-is
          ∙ ap (λ (ds : List MessageDescriptor). messages_then (messages_desc ds) rest) w.in_ok-push.ensures.items
          ∙ more (Some w.in-Some.message) whole c.loop-member-test.true c.member-item.is (ap (λ o. messages_desc (option_to_list o)) (sym w.in-Some.is) ∙ c.in_ok-message.ensures) c.loop-member.invariant
      | nested_messages-in_default w ↦
          ap (λ (v : Vec MessageDescriptor Global). messages_then (messages_desc v.items) rest) w.nested-is
          ∙ ap (λ (ds : List MessageDescriptor). messages_then (messages_desc ds) rest) (sym (append-nil c.loop-member.nested.items))
          ∙ more None whole c.loop-member-test.true c.member-item.is (ap (λ o. messages_desc (option_to_list o)) (sym w.in_default.is) ∙ c.in_ok-message.ensures) c.loop-member.invariant
    ]

pub nested_messages-returns : goal.nested_messages-returns
nested_messages-returns t c =
    described_all member_tree c.args.scene.now c.args.full.now c.args.members.now c.loop-member.member-index c.loop-member.nested.items _ (omega arith) c.loop-member.invariant
