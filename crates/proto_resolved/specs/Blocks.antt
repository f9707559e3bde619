-- The blocks of a tree that have fields or values.
use Rattle.std.specs.Prelude.{Bool, true, false, List}
use Rattle.std.specs.List.{filter}
use Rattle.proto_tree.specs.declared.piece.Header.{Header}
use Rattle.proto_tree.specs.declared.piece.Header.TheVariants as header
use Rattle.proto_tree.specs.declared.tree.Block.{Block as Braced}
use Rattle.proto_tree.specs.declared.tree.EnumItem.{EnumItem}
use Rattle.proto_tree.specs.declared.tree.Extend.{Extend}
use Rattle.proto_tree.specs.declared.tree.OneofItem.{OneofItem}
use Rattle.proto_tree.specs.declared.tree.Member.{Member}
use Rattle.proto_tree.specs.File.{enum_item_tree, extension_tree, oneof_item_tree, member_tree, trees}
use Rattle.proto_tree.specs.Tree.{Tree}
use Rattle.proto_ast.specs.Parts.{BlockOf, blocks_in}
use Rattle.proto_resolved.specs.declared.blocks.BlockAt.{BlockAt}
use Rattle.proto_resolved.specs.declared.blocks.BlockAt.TheVariants as block_at

-- a message, a oneof, an enum or an `extend`; no other block has fields or values
abbrev pub may_hold : Header → Bool
may_hold (header.Message h) = true
may_hold (header.Oneof h) = true
may_hold (header.Enum h) = true
may_hold (header.Service h) = false
may_hold (header.Method s) = false
may_hold (header.Extend e) = true

-- these blocks of a tree, each before those in it
abbrev pub holders_in : Tree → List BlockOf
holders_in tree = filter (λ b. may_hold b.header) (blocks_in tree)

-- a message as a block
abbrev pub message_block : Braced Member → BlockOf
message_block m = record {
  header = header.Message (record { keyword = m.keyword; name = m.name });
  within = trees member_tree m.members.items;
}

-- a oneof as a block
abbrev pub oneof_block : Braced OneofItem → BlockOf
oneof_block o = record {
  header = header.Oneof (record { keyword = o.keyword; name = o.name });
  within = trees oneof_item_tree o.members.items;
}

-- an enum as a block
abbrev pub enum_block : Braced EnumItem → BlockOf
enum_block e = record {
  header = header.Enum (record { keyword = e.keyword; name = e.name });
  within = trees enum_item_tree e.members.items;
}

-- an `extend` as a block
abbrev pub extend_block : Extend → BlockOf
extend_block e = record {
  header = header.Extend (record { keyword = e.keyword; extendee = e.extendee });
  within = trees extension_tree e.fields.items;
}

-- what was found, as a block
abbrev pub block_of : BlockAt → BlockOf
block_of (block_at.Message m) = message_block m.now
block_of (block_at.Oneof o) = oneof_block o.now
block_of (block_at.Enum e) = enum_block e.now
block_of (block_at.Extend e) = extend_block e.now
