use Rattle.std.proofs.Common.{◌∙◌, List, ap}
use Rattle.proto_tree.specs.declared.tree.Member.{Member}
use Rattle.proto_tree.specs.File.{member_tree, trees}
use Rattle.proto_descriptors.proofs.Common.{MessageDesc, messages_desc}
use Rattle.proto_desc_build.specs.Described.{message_described}
use Rattle.proto_desc_build.proofs.Levels.{level_of, same_parts}
use Rattle.proto_desc_build.proofs.described_message.message_around.Goals as goal

pub returns : goal.returns
returns c =
    let described = λ (members : List Member). message_described c.args.scene.now c.args.full.now c.args.message.now.name (trees member_tree members) in
    level_of _
    ∙ ap (λ (m : MessageDesc). record { message = m; nested_type = messages_desc c.args.nested.items })
    (same_parts _ (described c.as_slice-members.result.now)
    (c.in_ok-from_str.ensures.ok ∙ c.text.ensures)
    c.in_ok-field.ensures.fields
    c.in_ok-field.ensures.extensions
    c.in_ok-field.ensures.enums
    c.in_ok-extension_range.ensures.extensions
    c.in_ok-field.ensures.oneofs
    c.in_ok-extension_range.ensures.numbers
    c.in_ok-extension_range.ensures.names
    c.in_ok-options_of_message.ensures
    ∙ ap described c.as_slice-members.ensures.value)
