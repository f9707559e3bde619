-- A tree, its tokens, and where each statement and block of it may stand.
use Rattle.std.specs.Prelude.{◌≡◌, ℕ, Bool, true, false, List, [], ◌∷◌, ◌++◌, Option, Some, None}
use Rattle.proto_tree.specs.declared.class.Class.TheVariants as class
use Rattle.proto_tree.specs.declared.class.Lexeme.{Lexeme}
use Rattle.proto_tree.specs.declared.piece.Statement.{Statement}
use Rattle.proto_tree.specs.declared.piece.Statement.TheVariants as statement
use Rattle.proto_tree.specs.declared.piece.Header.{Header}
use Rattle.proto_tree.specs.declared.piece.Header.TheVariants as header
use Rattle.proto_tree.specs.declared.piece.Piece.{Piece}
use Rattle.proto_tree.specs.declared.piece.Piece.TheVariants as piece
use Rattle.proto_tree.specs.declared.context.Context.{Context}
use Rattle.proto_tree.specs.declared.context.Context.TheVariants as context
use Rattle.proto_tree.specs.declared.context.Kind.{Kind}
use Rattle.proto_tree.specs.declared.context.Kind.TheVariants as kind
use Rattle.proto_tree.specs.declared.tree.Setting.{Setting}
use Rattle.proto_tree.specs.declared.tree.Setting.TheVariants as setting
use Rattle.proto_tree.specs.Flat.{Mark, one, Fit, flat_statement, flat_header}

-- what kind of field it is: with a label or without
abbrev pub field_kind : Option ℕ → Kind
field_kind None = kind.Field
field_kind (Some i) = kind.LabeledField

-- what kind of option it is: set by its word, or custom
abbrev pub option_kind : Setting → Kind
option_kind (setting.Plain p) = kind.Option
option_kind (setting.Custom c) = kind.CustomOption

-- what kind of piece a statement is
abbrev pub statement_kind : Statement → Kind
statement_kind (statement.Syntax s) = kind.Syntax
statement_kind (statement.Import i) = kind.Import
statement_kind (statement.Package p) = kind.Package
statement_kind (statement.Option o) = option_kind o.setting
statement_kind (statement.Field f) = field_kind f.label
statement_kind (statement.MapField f) = kind.MapField
statement_kind (statement.Reserved r) = kind.Reserved
statement_kind (statement.Extensions e) = kind.Extensions
statement_kind (statement.Value v) = kind.Value
statement_kind (statement.EnumReserved r) = kind.EnumReserved
statement_kind (statement.Method s i) = kind.Method
statement_kind (statement.Empty i) = kind.Empty

-- what kind of piece the beginning of a block is, by what the block is
abbrev pub header_kind : Header → Kind
header_kind (header.Message h) = kind.OpenMessage
header_kind (header.Oneof h) = kind.OpenOneof
header_kind (header.Enum h) = kind.OpenEnum
header_kind (header.Service h) = kind.OpenService
header_kind (header.Method s) = kind.OpenMethod
header_kind (header.Extend e) = kind.OpenExtend

-- what kind of piece it is: a statement, the beginning of a block, or the brace that ends one
abbrev pub kind_of : Piece → Kind
kind_of (piece.Statement s) = statement_kind s
kind_of (piece.Open h i) = header_kind h
kind_of (piece.Close i) = kind.Close

-- what may stand in a file at any place: all that a file may hold but `syntax` and `package`
abbrev pub in_file : Kind → Bool
in_file kind.Import = true
in_file kind.Option = true
in_file kind.CustomOption = true
in_file kind.Empty = true
in_file kind.OpenMessage = true
in_file kind.OpenEnum = true
in_file kind.OpenService = true
in_file kind.OpenExtend = true
in_file _ = false

-- what may stand in a file that has no package yet
abbrev pub before_package : Kind → Bool
before_package kind.Package = true
before_package k = in_file k

-- what may stand in a message
abbrev pub in_message : Kind → Bool
in_message kind.Field = true
in_message kind.LabeledField = true
in_message kind.MapField = true
in_message kind.Option = true
in_message kind.CustomOption = true
in_message kind.Reserved = true
in_message kind.Extensions = true
in_message kind.Empty = true
in_message kind.OpenMessage = true
in_message kind.OpenOneof = true
in_message kind.OpenEnum = true
in_message kind.OpenExtend = true
in_message kind.Close = true
in_message _ = false

-- what may stand in an enum
abbrev pub in_enum : Kind → Bool
in_enum kind.Value = true
in_enum kind.Option = true
in_enum kind.CustomOption = true
in_enum kind.EnumReserved = true
in_enum kind.Empty = true
in_enum kind.Close = true
in_enum _ = false

-- what may stand in a service
abbrev pub in_service : Kind → Bool
in_service kind.Method = true
in_service kind.OpenMethod = true
in_service kind.Option = true
in_service kind.CustomOption = true
in_service kind.Empty = true
in_service kind.Close = true
in_service _ = false

-- whether a piece of this kind may stand here
abbrev pub allows : Context → Kind → Bool
allows context.Start kind.Syntax = true
allows context.Start k = before_package k
allows context.File k = before_package k
allows context.Packaged k = in_file k
allows context.Message k = in_message k
allows context.Oneof kind.Field = true
allows context.Oneof kind.CustomOption = true
allows context.Oneof kind.Close = true
allows context.Oneof _ = false
allows context.Enum k = in_enum k
allows context.Service k = in_service k
allows context.Method kind.Option = true
allows context.Method kind.CustomOption = true
allows context.Method kind.Empty = true
allows context.Method kind.Close = true
allows context.Method _ = false
allows context.Extend kind.Field = true
allows context.Extend kind.LabeledField = true
allows context.Extend kind.Close = true
allows context.Extend _ = false

-- where the next piece of the same block stands: `syntax` is first alone, and a file has one
-- package
abbrev pub after : Context → Kind → Context
after context.Start kind.Package = context.Packaged
after context.Start _ = context.File
after context.File kind.Package = context.Packaged
after context.File _ = context.File
after c k = c

-- where the pieces in a block stand
abbrev pub inside : Header → Context
inside (header.Message h) = context.Message
inside (header.Oneof h) = context.Oneof
inside (header.Enum h) = context.Enum
inside (header.Service h) = context.Service
inside (header.Method s) = context.Method
inside (header.Extend e) = context.Extend

-- statements and blocks, in order: a block has its header, what is in it, and its two braces
pub data Tree : Type 0 where
  End : Tree
  Leaf : (s : Statement) (rest : Tree) → Tree
  Block : (h : Header) (opens : ℕ) (within : Tree) (closes : ℕ) (rest : Tree) → Tree

-- the tokens of a tree
abbrev pub flat : Tree → List Mark
flat End = []
flat (Leaf s rest) = flat_statement s ++ flat rest
flat (Block h i within j rest) =
    (flat_header h ++ one class.Open i) ++ (flat within ++ (one class.Close j ++ flat rest))

-- each statement and block stands where it may
abbrev pub IsWellFormed : Context → Tree → Type 0
IsWellFormed c End = Unit {0}
IsWellFormed c (Leaf s rest) =
    (allows c (statement_kind s) ≡ true) × IsWellFormed (after c (statement_kind s)) rest
IsWellFormed c (Block h i within j rest) =
    (allows c (header_kind h) ≡ true)
    × IsWellFormed (inside h) within
    × IsWellFormed (after c (header_kind h)) rest

-- where the tokens after a tree stand
abbrev pub last_of : Context → Tree → Context
last_of c End = c
last_of c (Leaf s rest) = last_of (after c (statement_kind s)) rest
last_of c (Block h i within j rest) = last_of (after c (header_kind h)) rest

-- a well-formed tree flattens to the tokens
pub record Spells (tree : Tree) (tokens : List Lexeme) : Type 0 where
  pub well_formed : IsWellFormed context.Start tree
  pub fits : Fit (flat tree) tokens

-- one tree behind another
abbrev pub joined_trees : Tree → Tree → Tree
joined_trees End u = u
joined_trees (Leaf s rest) u = Leaf s (joined_trees rest u)
joined_trees (Block h i within j rest) u = Block h i within j (joined_trees rest u)

-- trees, one behind another
abbrev pub all_joined : List Tree → Tree
all_joined [] = End
all_joined (t ∷ ts) = joined_trees t (all_joined ts)
