-- The messages, oneofs, enums and `extend` blocks of what stands in a file.
use Rattle.std.proofs.Common.{◌≡◌, List, [], ◌∷◌, ◌++◌, map, refl, sym, ap, ◌∙◌}
use Rattle.proto_base.proofs.Common.{map-append}
use Rattle.proto_tree.specs.declared.tree.Block.{Block as Braced}
use Rattle.proto_tree.specs.declared.tree.EnumItem.{EnumItem}
use Rattle.proto_tree.specs.declared.tree.Extend.{Extend}
use Rattle.proto_tree.specs.declared.tree.OneofItem.{OneofItem}
use Rattle.proto_tree.specs.declared.tree.Member.{Member}
use Rattle.proto_tree.specs.declared.tree.ServiceItem.{ServiceItem}
use Rattle.proto_tree.specs.File.{enum_item_tree, enum_tree, extend_tree, extension_tree, oneof_item_tree, member_tree, message_tree, oneof_tree, service_tree, trees}
use Rattle.proto_tree.specs.Tree.{Tree}
use Rattle.proto_ast.proofs.Common.{BlockOf, no_block_in_enum, no_method_within, none_within, wanted_within, no_block_in_oneof}
use Rattle.proto_resolved.specs.Common.{block_of, enum_block, extend_block, holders_in, may_hold, message_block, oneof_block}
use Rattle.proto_resolved.specs.declared.blocks.BlockAt.{BlockAt}

pub enum_alone : (e : Braced EnumItem) → holders_in (enum_tree e) ≡ enum_block e ∷ []
enum_alone e = ap (λ (bs : List BlockOf). enum_block e ∷ bs) (none_within may_hold enum_item_tree no_block_in_enum e.members.items)

pub message_holders : (m : Braced Member) → holders_in (message_tree m) ≡ message_block m ∷ holders_in (trees member_tree m.members.items)
message_holders m = ap (λ (bs : List BlockOf). message_block m ∷ bs) (wanted_within may_hold (trees member_tree m.members.items))

pub oneof_alone : (o : Braced OneofItem) → holders_in (oneof_tree o) ≡ oneof_block o ∷ []
oneof_alone o = ap (λ (bs : List BlockOf). oneof_block o ∷ bs) (none_within may_hold oneof_item_tree no_block_in_oneof o.members.items)

pub extend_alone : (e : Extend) → holders_in (extend_tree e) ≡ extend_block e ∷ []
extend_alone e = ap (λ (bs : List BlockOf). extend_block e ∷ bs) (none_within may_hold extension_tree (λ x. refl) e.fields.items)

-- one block more, where it is all of a tree
pub one_pushed : (found next : List BlockAt) (b : BlockAt) (tree : Tree) → next ≡ found ++ b ∷ [] → holders_in tree ≡ block_of b ∷ [] → map block_of next ≡ map block_of found ++ holders_in tree
one_pushed found next b tree new alone = ap (map block_of) new ∙ map-append block_of found (b ∷ []) ∙ ap (λ (bs : List BlockOf). map block_of found ++ bs) (sym alone)

pub no_holders : (s : Braced ServiceItem) → holders_in (service_tree s) ≡ []
no_holders s = no_method_within may_hold (λ m. refl) s.members.items
