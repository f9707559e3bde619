-- What a file's tree declares and uses: the symbols of the language, and the references with their
-- scopes.
use Rattle.std.specs.Prelude.{ℕ, Bool, List, [], ◌∷◌, ◌++◌, map, flat_map, is_some, Option, Some, None}
use Rattle.proto_tree.specs.declared.tree.Reference.{Reference}
use Rattle.proto_tree.specs.declared.tree.FieldType.{FieldType}
use Rattle.proto_tree.specs.declared.tree.FieldType.TheVariants as field_type
use Rattle.proto_tree.specs.declared.tree.Setting.{Setting}
use Rattle.proto_tree.specs.declared.tree.Setting.TheVariants as setting
use Rattle.proto_tree.specs.declared.tree.Settings.{Settings}
use Rattle.proto_tree.specs.declared.tree.Signature.{Signature}
use Rattle.proto_tree.specs.declared.piece.Statement.{Statement}
use Rattle.proto_tree.specs.declared.piece.Statement.TheVariants as statement
use Rattle.proto_tree.specs.declared.piece.Header.{Header}
use Rattle.proto_tree.specs.declared.piece.Header.TheVariants as header
use Rattle.proto_tree.specs.Modifiers.{is_public, is_weak}
use Rattle.proto_tree.specs.Tree.{Tree, End, Leaf, Block}
use Rattle.proto_tree.specs.References.{dotted, first_of}
use Rattle.proto_names_rules.specs.declared.wants.Wants.{Wants}
use Rattle.proto_names_rules.specs.declared.wants.Wants.TheVariants as wants
use Rattle.proto_names_rules.specs.Skeleton.{Source, Token, Used}
use Rattle.proto_names_rules.specs.Tree.{field, map_field, oneof, message, enum, service, extend, Members, no_members, member, Items, no_items, packaged, item, package_of}
use Rattle.proto_names_rules.specs.Grown.{FileNames}

-- ---- declarations

-- the token of the name of a field that is no map: a oneof and an `extend` have no other
abbrev pub field_names : Statement → List ℕ
field_names (statement.Field f) = f.name ∷ []
field_names _ = []

-- the token of the name of a value of an enum
abbrev pub value_names : Statement → List ℕ
value_names (statement.Value v) = v.name ∷ []
value_names _ = []

-- the token of the name of a method that ends without a block
abbrev pub method_names : Statement → List ℕ
method_names (statement.Method s end) = s.name ∷ []
method_names _ = []

-- no token: a header that declares nothing here
abbrev pub no_names : Header → List ℕ
no_names h = []

-- the token of the name of a method that ends with a block
abbrev pub block_names : Header → List ℕ
block_names (header.Method s) = s.name ∷ []
block_names _ = []

-- the tokens that statements and headers of a tree give, in order
abbrev pub picked : (Statement → List ℕ) → (Header → List ℕ) → Tree → List ℕ
picked of_leaf of_block End = []
picked of_leaf of_block (Leaf s rest) = of_leaf s ++ picked of_leaf of_block rest
picked of_leaf of_block (Block h opens within closes rest) =
    of_block h ++ picked of_leaf of_block rest

-- a statement of a message before the rest of it: fields and map fields declare
abbrev pub add_statement : Statement → Members → Members
add_statement (statement.Field f) rest = member (field f.name) rest
add_statement (statement.MapField f) rest = member (map_field f.name) rest
add_statement _ rest = rest

-- a block of a message, given what it declares if it is a message
abbrev pub add_block : Header → Members → Tree → Members → Members
add_block (header.Message h) inner within rest = member (message h.name inner) rest
add_block (header.Oneof h) inner within rest =
    member (oneof h.name (picked field_names no_names within)) rest
add_block (header.Enum h) inner within rest =
    member (enum h.name (picked value_names no_names within)) rest
add_block (header.Service h) inner within rest = rest
add_block (header.Method s) inner within rest = rest
add_block (header.Extend e) inner within rest =
    member (extend (picked field_names no_names within)) rest

-- what stands between the braces of a message
abbrev pub members_in : Tree → Members
members_in End = no_members
members_in (Leaf s rest) = add_statement s (members_in rest)
members_in (Block h opens within closes rest) =
    add_block h (members_in within) within (members_in rest)

-- a statement of a file before the rest of it: a package declares
abbrev pub file_statement : Statement → Items → Items
file_statement (statement.Package p) rest = packaged (dotted p.name) rest
file_statement _ rest = rest

-- a block of a file before the rest of it: messages, enums, services and extensions are declared
abbrev pub file_block : Header → Tree → Items → Items
file_block (header.Message h) within rest = item (message h.name (members_in within)) rest
file_block (header.Enum h) within rest =
    item (enum h.name (picked value_names no_names within)) rest
file_block (header.Service h) within rest =
    item (service h.name (picked method_names block_names within)) rest
file_block (header.Oneof h) within rest = rest
file_block (header.Method s) within rest = rest
file_block (header.Extend e) within rest =
    item (extend (picked field_names no_names within)) rest

-- what a file declares
abbrev pub items_in : Tree → Items
items_in End = no_items
items_in (Leaf s rest) = file_statement s (items_in rest)
items_in (Block h opens within closes rest) = file_block h within (items_in rest)

-- ---- references

-- a use of a reference, in a scope, by what is wanted; the file is filled in where it is known
abbrev pub used_as : List (Source ℕ) → Wants → Reference → Used ℕ
used_as scope what r = record {
  file = 0;
  scope = scope;
  is_absolute = is_some r.dot;
  wants = what;
  first = first_of r.dot r.words;
  tokens = dotted r.words;
}

-- the references of a field's type
abbrev pub type_uses : List (Source ℕ) → FieldType → List (Used ℕ)
type_uses scope (field_type.Scalar t) = []
type_uses scope (field_type.Reference r) = used_as scope wants.Type r ∷ []

-- the references of a method: its input and its output
abbrev pub signature_uses : List (Source ℕ) → Signature → List (Used ℕ)
signature_uses scope s =
    used_as scope wants.Message s.input.reference
    ∷ used_as scope wants.Message s.output.reference ∷ []

-- the name of an option that is set, if it is a custom one
abbrev pub setting_uses : List (Source ℕ) → Setting → List (Used ℕ)
setting_uses scope (setting.Plain p) = []
setting_uses scope (setting.Custom c) = used_as scope wants.Extension c.name ∷ []

-- the names of the custom options between brackets
abbrev pub settings_uses : List (Source ℕ) → Option Settings → List (Used ℕ)
settings_uses scope None = []
settings_uses scope (Some s) =
    setting_uses scope s.list.first ++ flat_map (λ b. setting_uses scope b.item) s.list.rest

-- the name of the custom option that a statement is, if it is one, in a scope
abbrev pub option_uses : List (Source ℕ) → Statement → List (Used ℕ)
option_uses scope (statement.Option o) = setting_uses scope o.setting
option_uses scope (statement.Syntax s) = []
option_uses scope (statement.Import i) = []
option_uses scope (statement.Package p) = []
option_uses scope (statement.Field f) = []
option_uses scope (statement.MapField f) = []
option_uses scope (statement.Reserved r) = []
option_uses scope (statement.Extensions e) = []
option_uses scope (statement.Value v) = []
option_uses scope (statement.EnumReserved r) = []
option_uses scope (statement.Method s end) = []
option_uses scope (statement.Empty i) = []

-- the references of a statement: of an option in the scope around the block that it stands in, of
-- all else in the scope of what that block declares
abbrev pub statement_uses : List (Source ℕ) → List (Source ℕ) → Statement → List (Used ℕ)
statement_uses around scope (statement.Field f) =
    type_uses scope f.kind ++ settings_uses scope f.settings
statement_uses around scope (statement.MapField f) =
    type_uses scope f.value ++ settings_uses scope f.settings
statement_uses around scope (statement.Value v) = settings_uses scope v.settings
statement_uses around scope (statement.Method s end) = signature_uses scope s
statement_uses around scope (statement.Option o) = option_uses around (statement.Option o)
statement_uses around scope (statement.Syntax s) = []
statement_uses around scope (statement.Import i) = []
statement_uses around scope (statement.Package p) = []
statement_uses around scope (statement.Reserved r) = []
statement_uses around scope (statement.Extensions e) = []
statement_uses around scope (statement.EnumReserved r) = []
statement_uses around scope (statement.Empty i) = []

-- the references of a header: those of a method that has a block, and what an `extend` extends
abbrev pub header_uses : List (Source ℕ) → Header → List (Used ℕ)
header_uses scope (header.Method s) = signature_uses scope s
header_uses scope (header.Extend e) = used_as scope wants.Message e.extendee ∷ []
header_uses scope (header.Message h) = []
header_uses scope (header.Oneof h) = []
header_uses scope (header.Enum h) = []
header_uses scope (header.Service h) = []

-- the references in a oneof, an enum, a service, a method or an `extend`, in the scope of what it
-- declares and in that around it; the options of a method stand in its service
abbrev pub flat_uses : List (Source ℕ) → List (Source ℕ) → Tree → List (Used ℕ)
flat_uses around scope End = []
flat_uses around scope (Leaf s rest) =
    statement_uses around scope s ++ flat_uses around scope rest
flat_uses around scope (Block h opens within closes rest) =
    header_uses scope h ++ (flat_uses scope scope within ++ flat_uses around scope rest)

-- the references in a block, given those in it if it is a message: the scope is the message or
-- service around them; that of an `extend`, of a oneof and of an enum, and of all in these, is what
-- stands around the block, and so is that of a service's options
abbrev pub block_uses : List (Source ℕ) → Header → List (Used ℕ) → Tree → List (Used ℕ)
block_uses scope (header.Message h) inner within = inner
block_uses scope (header.Oneof h) inner within = flat_uses scope scope within
block_uses scope (header.Service h) inner within =
    flat_uses scope (scope ++ Token h.name ∷ []) within
block_uses scope (header.Enum h) inner within = flat_uses scope scope within
block_uses scope (header.Method s) inner within = []
block_uses scope (header.Extend e) inner within =
    header_uses scope (header.Extend e) ++ flat_uses scope scope within

-- the scope in a block: one level deeper in a message
abbrev pub scope_in : List (Source ℕ) → Header → List (Source ℕ)
scope_in scope (header.Message h) = scope ++ Token h.name ∷ []
scope_in scope _ = scope

-- the references in a message: its options stand in the scope around it
abbrev pub member_uses : List (Source ℕ) → List (Source ℕ) → Tree → List (Used ℕ)
member_uses around scope End = []
member_uses around scope (Leaf s rest) =
    statement_uses around scope s ++ member_uses around scope rest
member_uses around scope (Block (header.Service h) opens within closes rest) =
    member_uses around scope rest
member_uses around scope (Block h opens within closes rest) =
    block_uses scope h (member_uses scope (scope_in scope h) within) within
    ++ member_uses around scope rest

-- the references in a file, below its package, and the names of its options
abbrev pub item_uses : List (Source ℕ) → Tree → List (Used ℕ)
item_uses scope End = []
item_uses scope (Leaf s rest) = option_uses scope s ++ item_uses scope rest
item_uses scope (Block (header.Oneof h) opens within closes rest) = item_uses scope rest
item_uses scope (Block h opens within closes rest) =
    block_uses scope h (member_uses scope (scope_in scope h) within) within ++ item_uses scope rest

-- what a file declares and uses
abbrev pub file_names : Tree → FileNames
file_names tree = record {
  items = items_in tree;
  used = item_uses (map (λ t. Token t) (package_of (items_in tree))) tree;
}

-- ---- imports

-- an import: the token of its path, and whether it is public or weak
pub record Wanted : Type 0 where
  pub path : ℕ
  pub is_public : Bool
  pub is_weak : Bool

-- the import that a statement is, if it is one
abbrev pub statement_imports : Statement → List Wanted
statement_imports (statement.Import i) =
    record {
      path = i.path;
      is_public = is_public i.modifier;
      is_weak = is_weak i.modifier;
    } ∷ []
statement_imports _ = []

-- the imports of a file, by the tokens of their paths
abbrev pub imports_in : Tree → List Wanted
imports_in End = []
imports_in (Leaf s rest) = statement_imports s ++ imports_in rest
imports_in (Block h opens within closes rest) = imports_in rest
