use Rattle.std.proofs.Common.{sym, ap, ◌∙◌}
use Rattle.proto_tree.specs.declared.tree.Member.{Member}
use Rattle.proto_tree.proofs.Common.{member_tree, member_tree-Enum, member_tree-Oneof}
use Rattle.proto_desc_extensions.specs.Common.{has_extend}
use Rattle.proto_desc_extensions.proofs.ExtendTrees.{not_in_enum, not_in_oneof}
use Rattle.proto_desc_extensions.proofs.extends.+extends.Goals as goal

pub has_extend_in_member-returns-in-Enum : goal.has_extend_in_member-returns-in-Enum
has_extend_in_member-returns-in-Enum t c =
    sym (ap (λ (m : Member). has_extend (member_tree m)) c.in-Enum.is ∙ ap has_extend (member_tree-Enum c.in-Enum.field-0) ∙ not_in_enum c.in-Enum.field-0)

pub has_extend_in_member-returns-in-Oneof : goal.has_extend_in_member-returns-in-Oneof
has_extend_in_member-returns-in-Oneof t c =
    sym (ap (λ (m : Member). has_extend (member_tree m)) c.in-Oneof.is ∙ ap has_extend (member_tree-Oneof c.in-Oneof.field-0) ∙ not_in_oneof c.in-Oneof.field-0)
