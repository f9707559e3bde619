-- Whether an `extend` block stands in trees that stand one behind another, and in what has none.
use Rattle.std.proofs.Common.{◌≡◌, Bool, true, false, ◌||◌, List, [], ◌∷◌, ◌++◌, refl, ap, ◌∙◌, cond, filter, append-nil}
use Rattle.proto_base.proofs.Common.{list_any, list_any-append}
use Rattle.proto_tree.specs.declared.tree.Block.{Block as Braced}
use Rattle.proto_tree.specs.declared.tree.EnumItem.{EnumItem}
use Rattle.proto_tree.specs.declared.tree.OneofItem.{OneofItem}
use Rattle.proto_tree.specs.declared.tree.Member.{Member}
use Rattle.proto_tree.specs.declared.tree.ServiceItem.{ServiceItem}
use Rattle.proto_tree.specs.File.{enum_item_tree, enum_tree, oneof_item_tree, member_tree, message_tree, oneof_tree, service_item_tree, service_tree, trees}
use Rattle.proto_tree.proofs.Common.{Tree, joined_trees}
use Rattle.proto_ast.proofs.Common.{BlockOf, blocks_in, no_block_in_enum, no_method_within, none_within, no_block_in_oneof}
use Rattle.proto_ast.proofs.JoinedTrees.{blocks_joined}
use Rattle.proto_desc_extensions.specs.Common.{has_extend, is_extend}

pub in_joined : (t u : Tree) → has_extend (joined_trees t u) ≡ (has_extend t || has_extend u)
in_joined t u = ap (list_any (λ (b : BlockOf). is_extend b.header)) (blocks_joined t u) ∙ list_any-append (λ (b : BlockOf). is_extend b.header) (blocks_in t) (blocks_in u)

pub in_message : (m : Braced Member) → has_extend (message_tree m) ≡ has_extend (trees member_tree m.members.items)
in_message m = ap (list_any (λ (b : BlockOf). is_extend b.header)) (append-nil (blocks_in (trees member_tree m.members.items)))

kept : (x more : Bool) (b : BlockOf) (rest : List BlockOf) → (rest ≡ [] → more ≡ false) → cond x (b ∷ rest) rest ≡ [] → (x || more) ≡ false
kept true more b rest h e = absurd cc
kept false more b rest h e = h e

-- where none is kept, none is there
none_there : (bs : List BlockOf) → filter (λ b. is_extend b.header) bs ≡ [] → list_any (λ b. is_extend b.header) bs ≡ false
none_there [] e = refl
none_there (b ∷ bs) e = kept (is_extend b.header) (list_any (λ c. is_extend c.header) bs) b (filter (λ c. is_extend c.header) bs) (none_there bs) e

pub not_in_enum : (e : Braced EnumItem) → has_extend (enum_tree e) ≡ false
not_in_enum e = none_there (blocks_in (trees enum_item_tree e.members.items) ++ []) (none_within is_extend enum_item_tree no_block_in_enum e.members.items)

pub not_in_oneof : (o : Braced OneofItem) → has_extend (oneof_tree o) ≡ false
not_in_oneof o = none_there (blocks_in (trees oneof_item_tree o.members.items) ++ []) (none_within is_extend oneof_item_tree no_block_in_oneof o.members.items)

pub not_in_service : (s : Braced ServiceItem) → has_extend (service_tree s) ≡ false
not_in_service s = none_there (blocks_in (trees service_item_tree s.members.items) ++ []) (no_method_within is_extend (λ m. refl) s.members.items)
