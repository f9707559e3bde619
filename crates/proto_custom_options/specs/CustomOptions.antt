-- The custom options of a tree: the element that has each, its name, and the words of its path and
-- of its value; and the options messages that extensions extend to be options.
use Rattle.std.specs.List.{All, AllPairs, Contains}
use Rattle.std.specs.Prelude.{◌≡◌, ◌<◌, ℕ, Bool, List, [], ◌∷◌, ◌++◌, length, map, flat_map, Option, Some, None, codes}
use Rattle.proto_base.specs.Texts.{Text}
use Rattle.proto_base.specs.declared.profile.Profile.{Profile}
use Rattle.proto_text.specs.Tokens.{Lexeme}
use Rattle.proto_text.specs.declared.lexer.Token.{Token}
use Rattle.proto_tree.specs.Reads.{Reads}
use Rattle.proto_tree.specs.References.{first_of}
use Rattle.proto_tree.specs.Tree.{Tree, End, Leaf, Block, Spells, flat}
use Rattle.proto_tree.specs.Words.{classes_in}
use Rattle.proto_tree.specs.declared.piece.Header.{Header}
use Rattle.proto_tree.specs.declared.piece.Header.TheVariants as header
use Rattle.proto_tree.specs.declared.piece.Statement.{Statement}
use Rattle.proto_tree.specs.declared.piece.Statement.TheVariants as statement
use Rattle.proto_tree.specs.declared.tree.Atom.{Atom}
use Rattle.proto_tree.specs.declared.tree.Atom.TheVariants as atom
use Rattle.proto_tree.specs.declared.tree.Constant.{Constant}
use Rattle.proto_tree.specs.declared.tree.Constant.TheVariants as constant
use Rattle.proto_tree.specs.Flat.{Mark, flat_custom, flat_custom_value}
use Rattle.proto_tree.specs.declared.tree.Custom.{Custom}
use Rattle.proto_tree.specs.declared.tree.CustomValue.{CustomValue}
use Rattle.proto_tree.specs.declared.tree.CustomValue.TheVariants as custom_value
use Rattle.proto_tree.specs.declared.tree.Setting.{Setting}
use Rattle.proto_tree.specs.declared.tree.Setting.TheVariants as setting
use Rattle.proto_tree.specs.declared.tree.Settings.{Settings}
use Rattle.proto_ast.specs.Options.{is_one_of}
use Rattle.proto_ast.specs.Parts.{separated}

-- ---- options messages

-- the simple names of the nine options messages of descriptor.proto
abbrev pub options_messages : List Text
options_messages =
    codes "FileOptions" ∷ codes "MessageOptions" ∷ codes "FieldOptions" ∷ codes "OneofOptions"
    ∷ codes "ExtensionRangeOptions" ∷ codes "EnumOptions" ∷ codes "EnumValueOptions"
    ∷ codes "ServiceOptions" ∷ codes "MethodOptions" ∷ []

-- the full name of the options message with a simple name, by its words
abbrev pub options_words : Text → List Text
options_words message = codes "google" ∷ codes "protobuf" ∷ message ∷ []

-- the same as text
abbrev pub options_text : Text → Text
options_text message = codes "google.protobuf." ++ message

-- the full name is that of one of the nine
abbrev pub is_options_message : Text → Bool
is_options_message name = is_one_of (map options_text options_messages) name

-- the simple name of the options message of what a block declares; an `extend` declares nothing
-- that has options of its own
abbrev pub options_of_block : Header → Text
options_of_block (header.Message h) = codes "MessageOptions"
options_of_block (header.Oneof h) = codes "OneofOptions"
options_of_block (header.Enum h) = codes "EnumOptions"
options_of_block (header.Service h) = codes "ServiceOptions"
options_of_block (header.Method s) = codes "MethodOptions"
options_of_block (header.Extend e) = []

-- ---- custom options

-- a custom option, and the simple name of the options message of its element
pub record CustomOf : Type 0 where
  pub message : Text
  pub custom : Custom

-- the word that a token between the braces of a value is, if it is one
abbrev pub atom_words : Atom → List ℕ
atom_words (atom.Word w) = w ∷ []
atom_words (atom.Open i) = []
atom_words (atom.Close i) = []
atom_words (atom.Colon i) = []
atom_words (atom.Other i) = []

-- the word that a constant is, if it is one
abbrev pub constant_words : Constant → List ℕ
constant_words (constant.Word w) = w ∷ []
constant_words (constant.Number n) = []
constant_words (constant.Text j) = []

-- the words of a value
abbrev pub value_words : CustomValue → List ℕ
value_words (custom_value.Constant c) = constant_words c
value_words (custom_value.Aggregate a) = flat_map atom_words a.atoms

-- the tokens of the words of its path and of its value, in order
abbrev pub custom_words : Custom → List ℕ
custom_words c = map (λ b. b.item) c.path ++ value_words c.value

-- the first token of its name, and those words
abbrev pub named_words : Custom → List ℕ
named_words c = first_of c.name.dot c.name.words ∷ custom_words c

-- all tokens of its path and of its value, in order
abbrev pub custom_tokens : Custom → List ℕ
custom_tokens c = flat_map (λ b. b.separator ∷ b.item ∷ []) c.path
    ++ map (λ (m : Mark). m.at) (flat_custom_value c.value)

-- the custom option that is set, of an element with this options message, if it is one
abbrev pub setting_customs : Text → Setting → List CustomOf
setting_customs message (setting.Plain p) = []
setting_customs message (setting.Custom c) = record { message = message; custom = c } ∷ []

-- the custom options between brackets
abbrev pub settings_customs : Text → Option Settings → List CustomOf
settings_customs message None = []
settings_customs message (Some s) = flat_map (setting_customs message) (separated s.list)

-- the custom options of a statement: of an option that of the block that it stands in
abbrev pub statement_customs : Text → Statement → List CustomOf
statement_customs message (statement.Option o) = setting_customs message o.setting
statement_customs message (statement.Field f) = settings_customs (codes "FieldOptions") f.settings
statement_customs message (statement.MapField f) =
    settings_customs (codes "FieldOptions") f.settings
statement_customs message (statement.Value v) =
    settings_customs (codes "EnumValueOptions") v.settings
statement_customs message (statement.Syntax s) = []
statement_customs message (statement.Import i) = []
statement_customs message (statement.Package p) = []
statement_customs message (statement.Reserved r) = []
statement_customs message (statement.Extensions e) = []
statement_customs message (statement.EnumReserved r) = []
statement_customs message (statement.Method s end) = []
statement_customs message (statement.Empty i) = []

-- the custom options of a block with this options message, and of all in it, in order
abbrev pub customs_below : Text → Tree → List CustomOf
customs_below message End = []
customs_below message (Leaf s rest) = statement_customs message s ++ customs_below message rest
customs_below message (Block h opens within closes rest) =
    customs_below (options_of_block h) within ++ customs_below message rest

-- the custom options of a file, in the order of their offsets
abbrev pub customs_in : Tree → List CustomOf
customs_in tree = customs_below (codes "FileOptions") tree

-- A tree of the core language has none.
abbrev pub CoreTreesHaveNoCustom : Type 0
CoreTreesHaveNoCustom =
    (text : Text) (tokens : List Token) (t : Tree) → Reads text tokens t → customs_in t ≡ []

-- these places stand among those, one behind another
pub record IsStretch (ms xs : List Mark) : Type 0 where
  pub front : List Mark
  pub back : List Mark
  pub is : ms ≡ front ++ (xs ++ back)

-- The places of each option of a tree stand so among the places of the tree.
abbrev pub CustomsStand : Type 0
CustomsStand =
    (t : Tree) (c : CustomOf) → Contains (customs_in t) c → IsStretch (flat t) (flat_custom c.custom)

-- The names of options and their words stand at tokens of the text, each behind all before it.
abbrev pub CustomsRise : Type 0
CustomsRise =
    (p : Profile) (t : Tree) (ls : List Lexeme) → Spells t (classes_in p 0 ls)
    → AllPairs (λ i j. i < j) (flat_map (λ c. named_words c.custom) (customs_in t))
    × All (λ i. i < length ls) (flat_map (λ c. named_words c.custom) (customs_in t))
