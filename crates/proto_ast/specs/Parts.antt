-- The parts of a tree that checks and descriptors read: fields, values, ranges, reserved names,
-- options and blocks, by the indices of their tokens.
use Rattle.std.specs.Prelude.{ℕ, suc, List, [], ◌∷◌, ◌++◌, map, flat_map, Option, Some, None}
use Rattle.proto_tree.specs.declared.tree.Separated.{Separated}
use Rattle.proto_tree.specs.declared.tree.Constant.{Constant}
use Rattle.proto_tree.specs.declared.tree.Setting.{Setting}
use Rattle.proto_tree.specs.declared.tree.Setting.TheVariants as setting
use Rattle.proto_tree.specs.declared.tree.Settings.{Settings}
use Rattle.proto_tree.specs.declared.tree.FieldType.{FieldType}
use Rattle.proto_tree.specs.declared.tree.Field.{Field}
use Rattle.proto_tree.specs.declared.tree.MapField.{MapField}
use Rattle.proto_tree.specs.declared.tree.Range.{Range}
use Rattle.proto_tree.specs.declared.tree.ReservedList.{ReservedList}
use Rattle.proto_tree.specs.declared.tree.ReservedList.TheVariants as reserved_list
use Rattle.proto_tree.specs.declared.tree.Signed.{Signed}
use Rattle.proto_tree.specs.declared.tree.Value.{Value}
use Rattle.proto_tree.specs.declared.piece.Statement.{Statement}
use Rattle.proto_tree.specs.declared.piece.Statement.TheVariants as statement
use Rattle.proto_tree.specs.declared.piece.Header.{Header}
use Rattle.proto_tree.specs.declared.piece.Header.TheVariants as header
use Rattle.proto_tree.specs.Tree.{Tree, End, Leaf, Block}

-- items with a separator between each two
abbrev pub separated : {A : Type 0} → Separated A → List A
separated s = s.first ∷ map (λ b. b.item) s.rest

-- the statements right in a block or a file
abbrev pub statements : Tree → List Statement
statements End = []
statements (Leaf s rest) = s ∷ statements rest
statements (Block h opens within closes rest) = statements rest

-- ---- options

-- an option: the token of its name, and its value
pub record OptionOf : Type 0 where
  pub name : ℕ
  pub value : Constant

-- the option that a setting is, if it is set by its word: a custom option is none of these
abbrev pub setting_options : Setting → List OptionOf
setting_options (setting.Plain p) = record { name = p.name; value = p.value } ∷ []
setting_options (setting.Custom c) = []

-- the options between brackets that are set by their words
abbrev pub settings_of : Option Settings → List OptionOf
settings_of None = []
settings_of (Some s) = flat_map setting_options (separated s.list)

-- the option that a statement is, if it is one that is set by its word
abbrev pub statement_options : Statement → List OptionOf
statement_options (statement.Option o) = setting_options o.setting
statement_options _ = []

-- the options right in a block or a file that are set by their words
abbrev pub options_in : Tree → List OptionOf
options_in tree = flat_map statement_options (statements tree)

-- ---- fields

-- A field: plain, of a oneof (by its place among the message's oneofs, from 0), or of a map (by the
-- token of its key's type).
pub record FieldOf : Type 0 where
  pub label : Option ℕ
  pub map_key : Option ℕ
  pub oneof : Option ℕ
  pub kind : FieldType
  pub name : ℕ
  pub number : ℕ
  pub options : List OptionOf

-- a field that is no map; of a oneof, if a place of one is given
abbrev pub plain_field : Option ℕ → Field → FieldOf
plain_field oneof f = record {
  label = f.label;
  map_key = None;
  oneof = oneof;
  kind = f.kind;
  name = f.name;
  number = f.number;
  options = settings_of f.settings;
}

-- a map field: its kind is that of its values
abbrev pub map_field : MapField → FieldOf
map_field f = record {
  label = None;
  map_key = Some f.key;
  oneof = None;
  kind = f.value;
  name = f.name;
  number = f.number;
  options = settings_of f.settings;
}

-- the field that a statement is, if it is one; of a oneof, if a place of one is given
abbrev pub statement_fields : Option ℕ → Statement → List FieldOf
statement_fields oneof (statement.Field f) = plain_field oneof f ∷ []
statement_fields oneof (statement.MapField f) = map_field f ∷ []
statement_fields oneof _ = []

-- the fields right in a message, and those of its oneofs, of which so many stand before
abbrev pub fields_from : ℕ → Tree → List FieldOf
fields_from before End = []
fields_from before (Leaf s rest) = statement_fields None s ++ fields_from before rest
fields_from before (Block (header.Oneof h) opens within closes rest) =
    flat_map (statement_fields (Some before)) (statements within)
    ++ fields_from (suc before) rest
fields_from before (Block h opens within closes rest) = fields_from before rest

-- the fields of a message, of a oneof or of an `extend` block, in order (a message has none of the
-- blocks in it, but for those of its oneofs)
abbrev pub fields_in : Tree → List FieldOf
fields_in tree = fields_from 0 tree

-- how many oneofs stand right in a message
abbrev pub oneof_count : Tree → ℕ
oneof_count End = 0
oneof_count (Leaf s rest) = oneof_count rest
oneof_count (Block (header.Oneof h) opens within closes rest) = suc (oneof_count rest)
oneof_count (Block h opens within closes rest) = oneof_count rest

-- ---- ranges and reserved names

-- the ranges of a reserved list
abbrev pub ranges_of : {N : Type 0} → ReservedList N → List (Range N)
ranges_of (reserved_list.Names names) = []
ranges_of (reserved_list.Ranges ranges) = separated ranges

-- the tokens of the names of a reserved list
abbrev pub reserved_names_of : {N : Type 0} → ReservedList N → List ℕ
reserved_names_of (reserved_list.Names names) = separated names
reserved_names_of (reserved_list.Ranges ranges) = []

-- the ranges that a statement of a message reserves
abbrev pub reserved_ranges : Statement → List (Range ℕ)
reserved_ranges (statement.Reserved r) = ranges_of r.list
reserved_ranges _ = []

-- the ranges that a statement of a message leaves to extensions
abbrev pub extension_ranges : Statement → List (Range ℕ)
extension_ranges (statement.Extensions e) = separated e.ranges
extension_ranges _ = []

-- the ranges that a statement of a message reserves or leaves to extensions
abbrev pub closed_ranges : Statement → List (Range ℕ)
closed_ranges s = reserved_ranges s ++ extension_ranges s

-- the ranges that a statement of an enum reserves
abbrev pub enum_ranges : Statement → List (Range Signed)
enum_ranges (statement.EnumReserved r) = ranges_of r.list
enum_ranges _ = []

-- the tokens of reserved names, of a message or of an enum
abbrev pub reserved_names : Statement → List ℕ
reserved_names (statement.Reserved r) = reserved_names_of r.list
reserved_names (statement.EnumReserved r) = reserved_names_of r.list
reserved_names _ = []

-- the tokens of the reserved names of a block, in order
abbrev pub reserved_names_in : Tree → List ℕ
reserved_names_in tree = flat_map reserved_names (statements tree)

-- the word `extensions` of each such statement
abbrev pub extension_words : Statement → List ℕ
extension_words (statement.Extensions e) = e.keyword ∷ []
extension_words _ = []

-- ---- values of an enum

-- the value that a statement of an enum is, if it is one
abbrev pub statement_values : Statement → List Value
statement_values (statement.Value v) = v ∷ []
statement_values _ = []

-- the values of an enum, in order
abbrev pub values_in : Tree → List Value
values_in tree = flat_map statement_values (statements tree)

-- ---- the syntax of a file

-- the token of the string of a syntax statement
abbrev pub syntax_texts : Statement → List ℕ
syntax_texts (statement.Syntax s) = s.text ∷ []
syntax_texts _ = []

-- the tokens of the strings of the syntax statements of a file
abbrev pub syntax_texts_in : Tree → List ℕ
syntax_texts_in tree = flat_map syntax_texts (statements tree)

-- ---- blocks

-- a block: its header, and what stands between its braces
pub record BlockOf : Type 0 where
  pub header : Header
  pub within : Tree

-- the blocks of a tree, each before those in it
abbrev pub blocks_in : Tree → List BlockOf
blocks_in End = []
blocks_in (Leaf s rest) = blocks_in rest
blocks_in (Block h opens within closes rest) =
    record { header = h; within = within } ∷ (blocks_in within ++ blocks_in rest)
