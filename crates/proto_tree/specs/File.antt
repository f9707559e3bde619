-- The tree of what the library answers: a file, a message and its members, and so on, without where
-- they lie in memory.
use Rattle.std.specs.Prelude.{List, map}
use Rattle.proto_tree.specs.declared.tree.Field.{Field}
use Rattle.proto_tree.specs.declared.tree.Method.{Method}
use Rattle.proto_tree.specs.declared.tree.Signature.{Signature}
use Rattle.proto_tree.specs.declared.tree.MethodEnd.{MethodEnd}
use Rattle.proto_tree.specs.declared.tree.MethodEnd.TheVariants as method_end
use Rattle.proto_tree.specs.declared.tree.MethodItem.{MethodItem}
use Rattle.proto_tree.specs.declared.tree.MethodItem.TheVariants as method_item
use Rattle.proto_tree.specs.declared.tree.ServiceItem.{ServiceItem}
use Rattle.proto_tree.specs.declared.tree.ServiceItem.TheVariants as service_item
use Rattle.proto_tree.specs.declared.tree.EnumItem.{EnumItem}
use Rattle.proto_tree.specs.declared.tree.EnumItem.TheVariants as enum_item
use Rattle.proto_tree.specs.declared.tree.OneofItem.{OneofItem}
use Rattle.proto_tree.specs.declared.tree.OneofItem.TheVariants as oneof_item
use Rattle.proto_tree.specs.declared.tree.Block.{Block as Braced}
use Rattle.proto_tree.specs.declared.tree.Extend.{Extend}
use Rattle.proto_tree.specs.declared.tree.Extension.{Extension}
use Rattle.proto_tree.specs.declared.tree.Member.{Member}
use Rattle.proto_tree.specs.declared.tree.Member.TheOpen.{Member-F}
use Rattle.proto_tree.specs.declared.tree.Member.TheFolds.{fold-Member}
use Rattle.proto_tree.specs.declared.tree.Item.{Item}
use Rattle.proto_tree.specs.declared.tree.Item.TheVariants as item
use Rattle.proto_tree.specs.declared.tree.File.{File}
use Rattle.proto_tree.specs.declared.piece.Statement.TheVariants as statement
use Rattle.proto_tree.specs.declared.piece.Heading.{Heading}
use Rattle.proto_tree.specs.declared.piece.Header.{Header}
use Rattle.proto_tree.specs.declared.piece.Header.TheVariants as header
use Rattle.proto_tree.specs.Tree.{Tree, End, Leaf, Block, all_joined}

-- the trees of the items, one behind another
abbrev pub trees : {A : Type 0} → (A → Tree) → List A → Tree
trees view xs = all_joined (map view xs)

-- a block whose items are seen as the tree
abbrev pub block_tree : {A : Type 0} → (Heading → Header) → Tree → Braced A → Tree
block_tree make within b =
    Block (make (record { keyword = b.keyword; name = b.name })) b.open within b.close End

-- what stands in the block of a method: an option, or a lone `;`
abbrev pub method_item_tree : MethodItem → Tree
method_item_tree (method_item.Option o) = Leaf (statement.Option o) End
method_item_tree (method_item.Empty i) = Leaf (statement.Empty i) End

-- a method: its signature, and the `;` or the block that ends it
abbrev pub method_by : Signature → MethodEnd → Tree
method_by s (method_end.Semicolon i) = Leaf (statement.Method s i) End
method_by s (method_end.Block i items j) =
    Block (header.Method s) i (trees method_item_tree items.items) j End

-- the same of a whole method
abbrev pub method_tree : Method → Tree
method_tree m = method_by m.signature m.end

-- what stands in a service: a method, an option, or a lone `;`
abbrev pub service_item_tree : ServiceItem → Tree
service_item_tree (service_item.Method m) = method_tree m
service_item_tree (service_item.Option o) = Leaf (statement.Option o) End
service_item_tree (service_item.Empty i) = Leaf (statement.Empty i) End

-- a service: the block of its methods and options
abbrev pub service_tree : Braced ServiceItem → Tree
service_tree s = block_tree header.Service (trees service_item_tree s.members.items) s

-- what stands in an enum: a value, an option, a `reserved` statement, or a lone `;`
abbrev pub enum_item_tree : EnumItem → Tree
enum_item_tree (enum_item.Value v) = Leaf (statement.Value v) End
enum_item_tree (enum_item.Option o) = Leaf (statement.Option o) End
enum_item_tree (enum_item.Reserved r) = Leaf (statement.EnumReserved r) End
enum_item_tree (enum_item.Empty i) = Leaf (statement.Empty i) End

-- an enum: the block of its values, options and `reserved` statements
abbrev pub enum_tree : Braced EnumItem → Tree
enum_tree e = block_tree header.Enum (trees enum_item_tree e.members.items) e

-- a field: one statement
abbrev pub field_tree : Field → Tree
field_tree f = Leaf (statement.Field f) End

-- what stands in a oneof: a field, or a custom option
abbrev pub oneof_item_tree : OneofItem → Tree
oneof_item_tree (oneof_item.Field f) = field_tree f
oneof_item_tree (oneof_item.Option o) = Leaf (statement.Option o) End

-- a oneof: the block of its fields and options
abbrev pub oneof_tree : Braced OneofItem → Tree
oneof_tree o = block_tree header.Oneof (trees oneof_item_tree o.members.items) o

-- an extension: the statement of its field
abbrev pub extension_tree : Extension → Tree
extension_tree x = field_tree x.field

-- an `extend` block, with its fields in it
abbrev pub extend_tree : Extend → Tree
extend_tree e =
    Block (header.Extend (record { keyword = e.keyword; extendee = e.extendee })) e.«open»
    (trees extension_tree e.fields.items) e.close End

-- a member whose nested members are seen already
abbrev pub member_layer : Member-F Tree → Tree
member_layer (Member-F.Field f) = field_tree f
member_layer (Member-F.MapField f) = Leaf (statement.MapField f) End
member_layer (Member-F.Oneof o) = oneof_tree o
member_layer (Member-F.Message m) = block_tree header.Message (all_joined m.members.items) m
member_layer (Member-F.Enum e) = enum_tree e
member_layer (Member-F.Extend e) = extend_tree e
member_layer (Member-F.Option o) = Leaf (statement.Option o) End
member_layer (Member-F.Reserved r) = Leaf (statement.Reserved r) End
member_layer (Member-F.Extensions e) = Leaf (statement.Extensions e) End
member_layer (Member-F.Empty i) = Leaf (statement.Empty i) End

-- a member of a message, with all that is nested in it
abbrev pub member_tree : Member → Tree
member_tree = fold-Member Tree member_layer

-- a message: the block of its members
abbrev pub message_tree : Braced Member → Tree
message_tree m = block_tree header.Message (trees member_tree m.members.items) m

-- what stands in a file: a statement, a message, an enum, a service, or a lone `;`
abbrev pub item_tree : Item → Tree
item_tree (item.Syntax s) = Leaf (statement.Syntax s) End
item_tree (item.Import i) = Leaf (statement.Import i) End
item_tree (item.Package p) = Leaf (statement.Package p) End
item_tree (item.Option o) = Leaf (statement.Option o) End
item_tree (item.Message m) = message_tree m
item_tree (item.Enum e) = enum_tree e
item_tree (item.Service s) = service_tree s
item_tree (item.Extend e) = extend_tree e
item_tree (item.Empty i) = Leaf (statement.Empty i) End

-- a whole file: its items, one behind another
abbrev pub tree_of_file : File → Tree
tree_of_file f = trees item_tree f.items.items
