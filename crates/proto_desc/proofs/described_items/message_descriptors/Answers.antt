use Rattle.std.proofs.Common.{◌+◌, List, Some, None, drop, sym, ap, ◌∙◌, arith, Vec, Global, option_to_list, append-nil}
use Rattle.proto_tree.specs.File.{trees, item_tree}
use Rattle.proto_desc_build.proofs.Common.{messages_described, messages_then, described_more, described_all}
use Rattle.proto_descriptors.specs.Views.{messages_desc}
use Rattle.proto_descriptors.specs.declared.message.MessageDescriptor.{MessageDescriptor}
use Rattle.proto_desc.proofs.described_items.message_descriptors.Goals as goal
use Rattle.proto_desc.proofs.described_items.message_descriptors.Goals.{in-Some+in_ok-push, in_default}

pub loop-item-preserved : goal.loop-item-preserved
loop-item-preserved c =
    let more = described_more item_tree c.args.scene.now c.args.around.now c.args.items.now c.loop-item.item-index c.item-item.result c.loop-item.descriptors.items in
    let whole = messages_described c.args.scene.now c.args.around.now (trees item_tree c.args.items.now) in
    let rest = messages_described c.args.scene.now c.args.around.now (trees item_tree (drop (c.loop-item.item-index + 1) c.args.items.now)) in
    elim c.match-branch-2.branch [
      | in-Some+in_ok-push w ↦
          ap (λ (v : Vec MessageDescriptor Global). messages_then (messages_desc v.items) rest) w.descriptors-is
          ∙ ap (λ (ds : List MessageDescriptor). messages_then (messages_desc ds) rest) w.in_ok-push.ensures.items
          ∙ more (Some w.in-Some.descriptor) whole c.loop-item-test.true c.item-item.is (ap (λ o. messages_desc (option_to_list o)) (sym w.in-Some.is) ∙ c.in_ok-descriptor.ensures) c.loop-item.invariant
      | in_default w ↦
          ap (λ (v : Vec MessageDescriptor Global). messages_then (messages_desc v.items) rest) w.descriptors-is
          ∙ ap (λ (ds : List MessageDescriptor). messages_then (messages_desc ds) rest) (sym (append-nil c.loop-item.descriptors.items))
          ∙ more None whole c.loop-item-test.true c.item-item.is (ap (λ o. messages_desc (option_to_list o)) (sym w.in_default.is) ∙ c.in_ok-descriptor.ensures) c.loop-item.invariant
    ]

pub returns : goal.returns
returns c =
    ap messages_desc c.shrink_to_fit.ensures.items
    ∙ described_all item_tree c.args.scene.now c.args.around.now c.args.items.now c.loop-item.item-index c.loop-item.descriptors.items _ (omega arith) c.loop-item.invariant
