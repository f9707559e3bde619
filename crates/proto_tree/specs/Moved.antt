-- A tree whose indices are moved.
use Rattle.std.specs.Prelude.{ℕ, map, Option, Some, None}
use Rattle.proto_tree.specs.declared.tree.Behind.{Behind}
use Rattle.proto_tree.specs.declared.tree.Separated.{Separated}
use Rattle.proto_tree.specs.declared.tree.Reference.{Reference}
use Rattle.proto_tree.specs.declared.tree.FieldType.{FieldType}
use Rattle.proto_tree.specs.declared.tree.FieldType.TheVariants as field_type
use Rattle.proto_tree.specs.declared.tree.Signed.{Signed}
use Rattle.proto_tree.specs.declared.tree.Joined.{Joined}
use Rattle.proto_tree.specs.declared.tree.Constant.{Constant}
use Rattle.proto_tree.specs.declared.tree.Constant.TheVariants as constant
use Rattle.proto_tree.specs.declared.tree.Atom.{Atom}
use Rattle.proto_tree.specs.declared.tree.Atom.TheVariants as atom
use Rattle.proto_tree.specs.declared.tree.Aggregate.{Aggregate}
use Rattle.proto_tree.specs.declared.tree.Custom.{Custom}
use Rattle.proto_tree.specs.declared.tree.Plain.{Plain}
use Rattle.proto_tree.specs.declared.tree.CustomValue.{CustomValue}
use Rattle.proto_tree.specs.declared.tree.CustomValue.TheVariants as custom_value
use Rattle.proto_tree.specs.declared.tree.Setting.TheVariants as setting
use Rattle.proto_tree.specs.declared.tree.Setting.{Setting}
use Rattle.proto_tree.specs.declared.tree.Settings.{Settings}
use Rattle.proto_tree.specs.declared.tree.Syntax.{Syntax}
use Rattle.proto_tree.specs.declared.tree.Import.{Import}
use Rattle.proto_tree.specs.declared.tree.Package.{Package}
use Rattle.proto_tree.specs.declared.tree.Option_.{Option_}
use Rattle.proto_tree.specs.declared.tree.Field.{Field}
use Rattle.proto_tree.specs.declared.tree.MapField.{MapField}
use Rattle.proto_tree.specs.declared.tree.RangeEnd.{RangeEnd}
use Rattle.proto_tree.specs.declared.tree.RangeEnd.TheVariants as range_end
use Rattle.proto_tree.specs.declared.tree.UpTo.{UpTo}
use Rattle.proto_tree.specs.declared.tree.Range.{Range}
use Rattle.proto_tree.specs.declared.tree.ReservedList.{ReservedList}
use Rattle.proto_tree.specs.declared.tree.ReservedList.TheVariants as reserved_list
use Rattle.proto_tree.specs.declared.tree.Reserved.{Reserved}
use Rattle.proto_tree.specs.declared.tree.Extensions.{Extensions}
use Rattle.proto_tree.specs.declared.tree.Value.{Value}
use Rattle.proto_tree.specs.declared.tree.MethodType.{MethodType}
use Rattle.proto_tree.specs.declared.tree.Modifier.{Modifier}
use Rattle.proto_tree.specs.declared.tree.Modifier.TheVariants as modifier
use Rattle.proto_tree.specs.declared.tree.Signature.{Signature}
use Rattle.proto_tree.specs.declared.piece.Statement.{Statement}
use Rattle.proto_tree.specs.declared.piece.Statement.TheVariants as statement
use Rattle.proto_tree.specs.declared.piece.Heading.{Heading}
use Rattle.proto_tree.specs.declared.piece.Extending.{Extending}
use Rattle.proto_tree.specs.declared.piece.Header.{Header}
use Rattle.proto_tree.specs.declared.piece.Header.TheVariants as header
use Rattle.proto_tree.specs.Flat.{Mark}
use Rattle.proto_tree.specs.Tree.{Tree, End, Leaf, Block}

-- the mark with another index
abbrev pub shift : (ℕ → ℕ) → Mark → Mark
shift g m = record { want = m.want; at = g m.at }

-- another index for each
abbrev pub Move : Type 0
Move = ℕ → ℕ

-- a part that may be left out: moved where it is there
abbrev pub move_option : {A : Type 0} → (A → A) → Option A → Option A
move_option f None = None
move_option f (Some x) = Some (f x)

-- a separator and the item behind it, moved
abbrev pub move_behind : {A : Type 0} → Move → (A → A) → Behind A → Behind A
move_behind g f b = record { separator = g b.separator; item = f b.item }

-- items with separators between them, moved
abbrev pub move_separated : {A : Type 0} → Move → (A → A) → Separated A → Separated A
move_separated g f s = record { first = f s.first; rest = map (move_behind g f) s.rest }

-- a reference, moved
abbrev pub move_reference : Move → Reference → Reference
move_reference g r = record { dot = move_option g r.dot; words = move_separated g g r.words }

-- the type of a field, moved
abbrev pub move_type : Move → FieldType → FieldType
move_type g (field_type.Scalar i) = field_type.Scalar (g i)
move_type g (field_type.Reference r) = field_type.Reference (move_reference g r)

-- a number that may have a `-`, moved
abbrev pub move_signed : Move → Signed → Signed
move_signed g n = record { minus = move_option g n.minus; number = g n.number }

-- strings that join to one text, moved
abbrev pub move_joined : Move → Joined → Joined
move_joined g t = record { first = g t.first; rest = map g t.rest }

-- a token between the braces of a value, moved
abbrev pub move_atom : Move → Atom → Atom
move_atom g (atom.Open i) = atom.Open (g i)
move_atom g (atom.Close i) = atom.Close (g i)
move_atom g (atom.Colon i) = atom.Colon (g i)
move_atom g (atom.Word i) = atom.Word (g i)
move_atom g (atom.Other i) = atom.Other (g i)

-- a value in braces, moved
abbrev pub move_aggregate : Move → Aggregate → Aggregate
move_aggregate g a = record {
  «open» = g a.«open»;
  atoms = map (move_atom g) a.atoms;
  close = g a.close;
}

-- the value of an option, moved
abbrev pub move_constant : Move → Constant → Constant
move_constant g (constant.Word i) = constant.Word (g i)
move_constant g (constant.Number n) = constant.Number (move_signed g n)
move_constant g (constant.Text t) = constant.Text (move_joined g t)

-- the value of a custom option, moved
abbrev pub move_custom_value : Move → CustomValue → CustomValue
move_custom_value g (custom_value.Constant c) = custom_value.Constant (move_constant g c)
move_custom_value g (custom_value.Aggregate a) = custom_value.Aggregate (move_aggregate g a)

-- a custom option that is set, moved
abbrev pub move_custom : Move → Custom → Custom
move_custom g c = record {
  «open» = g c.«open»;
  name = move_reference g c.name;
  close = g c.close;
  path = map (move_behind g g) c.path;
  equals = g c.equals;
  value = move_custom_value g c.value;
}

-- one that is set by its word, moved
abbrev pub move_plain : Move → Plain → Plain
move_plain g p = record { name = g p.name; equals = g p.equals; value = move_constant g p.value }

-- one setting, moved
abbrev pub move_setting : Move → Setting → Setting
move_setting g (setting.Plain p) = setting.Plain (move_plain g p)
move_setting g (setting.Custom c) = setting.Custom (move_custom g c)

-- settings between brackets, moved
abbrev pub move_settings : Move → Settings → Settings
move_settings g s = record {
  «open» = g s.«open»;
  list = move_separated g (move_setting g) s.list;
  close = g s.close;
}

-- an option, moved
abbrev pub move_option_statement : Move → Option_ → Option_
move_option_statement g o = record {
  keyword = g o.keyword;
  setting = move_setting g o.setting;
  semicolon = g o.semicolon;
}

-- the syntax statement, moved
abbrev pub move_syntax : Move → Syntax → Syntax
move_syntax g s = record {
  keyword = g s.keyword;
  equals = g s.equals;
  text = g s.text;
  semicolon = g s.semicolon;
}

-- what stands behind `import`, moved
abbrev pub move_modifier : Move → Modifier → Modifier
move_modifier g (modifier.Public i) = modifier.Public (g i)
move_modifier g (modifier.Weak i) = modifier.Weak (g i)

-- an import, moved
abbrev pub move_import : Move → Import → Import
move_import g i = record {
  keyword = g i.keyword;
  modifier = move_option (move_modifier g) i.modifier;
  path = g i.path;
  semicolon = g i.semicolon;
}

-- a package statement, moved
abbrev pub move_package : Move → Package → Package
move_package g p = record {
  keyword = g p.keyword;
  name = move_separated g g p.name;
  semicolon = g p.semicolon;
}

-- a field, moved
abbrev pub move_field : Move → Field → Field
move_field g f = record {
  label = move_option g f.label;
  kind = move_type g f.kind;
  name = g f.name;
  equals = g f.equals;
  number = g f.number;
  settings = move_option (move_settings g) f.settings;
  semicolon = g f.semicolon;
}

-- a map field, moved
abbrev pub move_map_field : Move → MapField → MapField
move_map_field g f = record {
  keyword = g f.keyword;
  «open» = g f.«open»;
  key = g f.key;
  comma = g f.comma;
  value = move_type g f.value;
  close = g f.close;
  name = g f.name;
  equals = g f.equals;
  number = g f.number;
  settings = move_option (move_settings g) f.settings;
  semicolon = g f.semicolon;
}

-- the end of a range, moved; f moves its number
abbrev pub move_range_end : {N : Type 0} → Move → (N → N) → RangeEnd N → RangeEnd N
move_range_end g f (range_end.Number n) = range_end.Number (f n)
move_range_end g f (range_end.Max i) = range_end.Max (g i)

-- `to` and the end of a range, moved
abbrev pub move_up_to : {N : Type 0} → Move → (N → N) → UpTo N → UpTo N
move_up_to g f u = record { to = g u.to; end = move_range_end g f u.end }

-- a range, moved; f moves its numbers
abbrev pub move_range : {N : Type 0} → Move → (N → N) → Range N → Range N
move_range g f r = record { first = f r.first; up_to = move_option (move_up_to g f) r.up_to }

-- what is reserved, names or ranges, moved; f moves the numbers
abbrev pub move_reserved_list : {N : Type 0} → Move → (N → N) → ReservedList N → ReservedList N
move_reserved_list g f (reserved_list.Names names) = reserved_list.Names (move_separated g g names)
move_reserved_list g f (reserved_list.Ranges ranges) =
    reserved_list.Ranges (move_separated g (move_range g f) ranges)

-- a `reserved` statement, moved; f moves its numbers
abbrev pub move_reserved : {N : Type 0} → Move → (N → N) → Reserved N → Reserved N
move_reserved g f r = record {
  keyword = g r.keyword;
  list = move_reserved_list g f r.list;
  semicolon = g r.semicolon;
}

-- an `extensions` statement, moved
abbrev pub move_extensions : Move → Extensions → Extensions
move_extensions g e = record {
  keyword = g e.keyword;
  ranges = move_separated g (move_range g g) e.ranges;
  semicolon = g e.semicolon;
}

-- a value of an enum, moved
abbrev pub move_value : Move → Value → Value
move_value g v = record {
  name = g v.name;
  equals = g v.equals;
  number = move_signed g v.number;
  settings = move_option (move_settings g) v.settings;
  semicolon = g v.semicolon;
}

-- the input or output of a method, moved
abbrev pub move_method_type : Move → MethodType → MethodType
move_method_type g t = record {
  «open» = g t.«open»;
  stream = move_option g t.stream;
  reference = move_reference g t.reference;
  close = g t.close;
}

-- the signature of a method, moved
abbrev pub move_signature : Move → Signature → Signature
move_signature g s = record {
  keyword = g s.keyword;
  name = g s.name;
  input = move_method_type g s.input;
  returns = g s.returns;
  output = move_method_type g s.output;
}

-- a statement, moved: each of its tokens has the index that the move gives
abbrev pub move_statement : Move → Statement → Statement
move_statement g (statement.Syntax s) = statement.Syntax (move_syntax g s)
move_statement g (statement.Import i) = statement.Import (move_import g i)
move_statement g (statement.Package p) = statement.Package (move_package g p)
move_statement g (statement.Option o) = statement.Option (move_option_statement g o)
move_statement g (statement.Field f) = statement.Field (move_field g f)
move_statement g (statement.MapField f) = statement.MapField (move_map_field g f)
move_statement g (statement.Reserved r) = statement.Reserved (move_reserved g g r)
move_statement g (statement.Extensions e) = statement.Extensions (move_extensions g e)
move_statement g (statement.Value v) = statement.Value (move_value g v)
move_statement g (statement.EnumReserved r) =
    statement.EnumReserved (move_reserved g (move_signed g) r)
move_statement g (statement.Method s i) = statement.Method (move_signature g s) (g i)
move_statement g (statement.Empty i) = statement.Empty (g i)

-- the keyword of a block and its name, moved
abbrev pub move_heading : Move → Heading → Heading
move_heading g h = record { keyword = g h.keyword; name = g h.name }

-- the beginning of an `extend` block, moved
abbrev pub move_extending : Move → Extending → Extending
move_extending g e = record { keyword = g e.keyword; extendee = move_reference g e.extendee }

-- what stands before the `{` of a block, moved
abbrev pub move_header : Move → Header → Header
move_header g (header.Message h) = header.Message (move_heading g h)
move_header g (header.Oneof h) = header.Oneof (move_heading g h)
move_header g (header.Enum h) = header.Enum (move_heading g h)
move_header g (header.Service h) = header.Service (move_heading g h)
move_header g (header.Method s) = header.Method (move_signature g s)
move_header g (header.Extend e) = header.Extend (move_extending g e)

-- a whole tree, moved: each of its tokens has the index that the move gives
abbrev pub move_tree : Move → Tree → Tree
move_tree g End = End
move_tree g (Leaf s rest) = Leaf (move_statement g s) (move_tree g rest)
move_tree g (Block h i within j rest) =
    Block (move_header g h) (g i) (move_tree g within) (g j) (move_tree g rest)
