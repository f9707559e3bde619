-- The field of a name token: its statement, and the oneof around it.
use Rattle.std.specs.Prelude.{ℕ, ◌==◌, Bool, false, if◌then◌else◌, ◌||◌, List, [], ◌∷◌, Option, Some, None}
use Rattle.proto_tree.specs.declared.piece.Header.TheVariants as header
use Rattle.proto_tree.specs.declared.piece.Statement.{Statement}
use Rattle.proto_tree.specs.declared.piece.Statement.TheVariants as statement
use Rattle.proto_tree.specs.Tree.{Tree, End, Leaf, Block}
use Rattle.proto_ast.specs.Parts.{FieldOf, fields_in}
use Rattle.proto_edit_rules.specs.Statements.{first_token}
use Rattle.proto_edit_statements.specs.declared.fields.FieldPlace.{FieldPlace}

-- a field's statement, and the `}` of the oneof around it, if it is of one
pub record FieldStatement : Type 0 where
  pub statement : Statement
  pub close : Option ℕ

-- the statement is of a field with this name token
abbrev pub has_name : ℕ → Statement → Bool
has_name name (statement.Field f) = f.name == name
has_name name (statement.MapField f) = f.name == name
has_name name _ = false

-- the first of two, if it is there
abbrev pub or_else : {A : Type 0} → Option A → Option A → Option A
or_else (Some x) other = Some x
or_else None other = other

-- the statement, with the `}` of its oneof, if it declares the field with this name token
abbrev pub field_if : ℕ → Option ℕ → Statement → Option FieldStatement
field_if name close s =
    if has_name name s then Some (record { statement = s; close = close }) else None

-- the first such field among the statements of a block
abbrev pub field_among : ℕ → Option ℕ → Tree → Option FieldStatement
field_among name close End = None
field_among name close (Leaf s rest) = or_else (field_if name close s) (field_among name close rest)
field_among name close (Block h i within j rest) = field_among name close rest

-- the first such field of a tree: right in a message, or in a oneof of one, at any depth
abbrev pub field_in : ℕ → Tree → Option FieldStatement
field_in name End = None
field_in name (Leaf s rest) = or_else (field_if name None s) (field_in name rest)
field_in name (Block (header.Message h) i within j rest) =
    or_else (field_in name within) (field_in name rest)
field_in name (Block (header.Oneof h) i within j rest) =
    or_else (field_among name (Some j) within) (field_in name rest)
field_in name (Block h i within j rest) = field_in name rest

-- the token of the number of the statement of a field
abbrev pub number_token : Statement → ℕ
number_token (statement.Field f) = f.number
number_token (statement.MapField f) = f.number
number_token _ = 0

-- the `;` of the statement of a field
abbrev pub statement_end : Statement → ℕ
statement_end (statement.Field f) = f.semicolon
statement_end (statement.MapField f) = f.semicolon
statement_end _ = 0

-- the tokens that are told of it
abbrev pub place_of_statement : FieldStatement → FieldPlace
place_of_statement a = record {
  first = first_token a.statement;
  number = number_token a.statement;
  semicolon = statement_end a.statement;
  oneof = a.close;
}

-- ---- oneofs with one field

-- it is this one alone
abbrev pub is_only : ℕ → List FieldOf → Bool
is_only name [] = false
is_only name (f ∷ []) = f.name == name
is_only name (f ∷ g ∷ fs) = false

-- a oneof of a message, at any depth, whose only field has this name token
abbrev pub alone_in : ℕ → Tree → Bool
alone_in name End = false
alone_in name (Leaf s rest) = alone_in name rest
alone_in name (Block (header.Message h) i within j rest) =
    alone_in name within || alone_in name rest
alone_in name (Block (header.Oneof h) i within j rest) =
    is_only name (fields_in within) || alone_in name rest
alone_in name (Block h i within j rest) = alone_in name rest
