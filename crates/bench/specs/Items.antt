-- Which kind an item is of.
use Rattle.std.specs.Prelude.{Bool, true, false}
use Rattle.bench.specs.declared.kind.Kind.{Kind}
use Rattle.bench.specs.declared.kind.Kind.TheVariants as kind
use Rattle.proto_tree.specs.declared.tree.Item.{Item}
use Rattle.proto_tree.specs.declared.tree.Item.TheVariants as item

-- the item of a file is of the kind
abbrev pub is_item_of_kind : Kind → Item → Bool
is_item_of_kind kind.Message (item.Message _) = true
is_item_of_kind kind.Enum (item.Enum _) = true
is_item_of_kind kind.Service (item.Service _) = true
is_item_of_kind kind.Import (item.Import _) = true
is_item_of_kind kind.Option (item.Option _) = true
is_item_of_kind _ _ = false
