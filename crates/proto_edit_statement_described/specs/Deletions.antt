-- A field is deleted, and its number and its name are reserved: the
-- three trees of which one has neither.
use Rattle.std.specs.Prelude.{◌≡◌, ◌≢◌, ℕ, ◌==◌, false, [], Option, None}
use Rattle.std.specs.List.{Contains}
use Rattle.proto_tree.specs.declared.piece.Header.{Header}
use Rattle.proto_tree.specs.declared.piece.Header.TheVariants as header
use Rattle.proto_tree.specs.declared.piece.Heading.{Heading}
use Rattle.proto_tree.specs.declared.piece.Statement.{Statement}
use Rattle.proto_tree.specs.declared.piece.Statement.TheVariants as statement
use Rattle.proto_tree.specs.declared.tree.Field.{Field}
use Rattle.proto_tree.specs.declared.tree.MapField.{MapField}
use Rattle.proto_tree.specs.declared.tree.ReservedList.TheVariants as reserved_list
use Rattle.proto_tree.specs.Moved.{Move, move_header, move_statement, move_tree}
use Rattle.proto_tree.specs.Tree.{Tree, End, Leaf, Block, joined_trees}
use Rattle.proto_ast.specs.Parts.{BlockOf, FieldOf, blocks_in, fields_in, map_field, plain_field}
use Rattle.proto_ast.specs.Scenes.{Scene, number_at, text, value}
use Rattle.proto_desc_checks.specs.FileFlaws.{file_flaws, is_empty}
use Rattle.proto_desc_checks_laws.specs.Imports.{IsMoved}

-- ---- the field, and the reservation

-- a field as it is written
pub data WrittenField : Type 0 where
  Plain : Field → WrittenField
  OfMap : MapField → WrittenField

-- the statement that declares the field
abbrev pub statement_of : WrittenField → Statement
statement_of (Plain f) = statement.Field f
statement_of (OfMap f) = statement.MapField f

-- the field that it is in a oneof or in none
abbrev pub written_field : Option ℕ → WrittenField → FieldOf
written_field oneof (Plain f) = plain_field oneof f
written_field oneof (OfMap f) = map_field f

-- the token of its name
abbrev pub written_name : WrittenField → ℕ
written_name (Plain f) = f.name
written_name (OfMap f) = f.name

-- the token of its number
abbrev pub written_number : WrittenField → ℕ
written_number (Plain f) = f.number
written_number (OfMap f) = f.number

-- the tokens of `reserved N; reserved "name";`
pub record Reservation : Type 0 where
  pub keyword : ℕ
  pub number : ℕ
  pub semicolon : ℕ
  pub again : ℕ
  pub name : ℕ
  pub last : ℕ

-- the two statements of the reservation
abbrev pub reserved : Reservation → Tree
reserved r =
    Leaf (statement.Reserved (record {
      keyword = r.keyword;
      list = reserved_list.Ranges
          (record { first = record { first = r.number; up_to = None }; rest = [] });
      semicolon = r.semicolon;
    }))
    (Leaf (statement.Reserved (record {
      keyword = r.again;
      list = reserved_list.Names (record { first = r.name; rest = [] });
      semicolon = r.last;
    })) End)

-- ---- trees

-- The second tree is the first, moved, with the field put in: among the fields of a oneof.
pub data IsAmong (g : Move) (f : Field) : Tree → Tree → Type 0 where
  Found : (rest : Tree) → IsAmong g f rest (Leaf (statement.Field f) (move_tree g rest))
  FurtherOn : (a : Statement) (x t : Tree)
      → IsAmong g f x t
      → IsAmong g f (Leaf a x) (Leaf (move_statement g a) t)

-- The second tree is the first, moved, with the field put in, and the third is the first, moved,
-- with the reservation put in, in the same place or behind the field's oneof, which has another
-- field: among the members of a message.
pub data IsDeletedRight
    (g k : Move) (w : WrittenField) (r : Reservation) : Tree → Tree → Tree → Type 0 where
  AtField : (rest : Tree)
      → IsDeletedRight g k w r rest (Leaf (statement_of w) (move_tree g rest))
      (joined_trees (reserved r) (move_tree k rest))
  AtOneof : (h : Heading) (f : Field) (i : ℕ) (x t : Tree) (j : ℕ) (rest : Tree)
      → w ≡ Plain f
      → is_empty (fields_in x) ≡ false
      → IsAmong g f x t
      → IsDeletedRight g k w r (Block (header.Oneof h) i x j rest)
      (Block (move_header g (header.Oneof h)) (g i) t (g j) (move_tree g rest))
      (Block (move_header k (header.Oneof h)) (k i) (move_tree k x) (k j)
      (joined_trees (reserved r) (move_tree k rest)))
  PastLeaf : (a : Statement) (x t u : Tree)
      → IsDeletedRight g k w r x t u
      → IsDeletedRight g k w r (Leaf a x) (Leaf (move_statement g a) t)
      (Leaf (move_statement k a) u)
  PastBlock : (h : Header) (i : ℕ) (within : Tree) (j : ℕ) (x t u : Tree)
      → IsDeletedRight g k w r x t u
      → IsDeletedRight g k w r (Block h i within j x)
      (Block (move_header g h) (g i) (move_tree g within) (g j) t)
      (Block (move_header k h) (k i) (move_tree k within) (k j) u)

-- in a message at any depth
pub data IsDeletedIn
    (g k : Move) (w : WrittenField) (r : Reservation) : Tree → Tree → Tree → Type 0 where
  InMessage : (h : Heading) (i : ℕ) (x t u : Tree) (j : ℕ) (rest : Tree)
      → IsDeletedRight g k w r x t u
      → IsDeletedIn g k w r (Block (header.Message h) i x j rest)
      (Block (move_header g (header.Message h)) (g i) t (g j) (move_tree g rest))
      (Block (move_header k (header.Message h)) (k i) u (k j) (move_tree k rest))
  Deeper : (h : Heading) (i : ℕ) (x t u : Tree) (j : ℕ) (rest : Tree) → IsDeletedIn g k w r x t u
      → IsDeletedIn g k w r (Block (header.Message h) i x j rest)
      (Block (move_header g (header.Message h)) (g i) t (g j) (move_tree g rest))
      (Block (move_header k (header.Message h)) (k i) u (k j) (move_tree k rest))
  BehindLeaf : (a : Statement) (x t u : Tree)
      → IsDeletedIn g k w r x t u
      → IsDeletedIn g k w r (Leaf a x) (Leaf (move_statement g a) t) (Leaf (move_statement k a) u)
  BehindBlock : (h : Header) (i : ℕ) (within : Tree) (j : ℕ) (x t u : Tree)
      → IsDeletedIn g k w r x t u
      → IsDeletedIn g k w r (Block h i within j x)
      (Block (move_header g h) (g i) (move_tree g within) (g j) t)
      (Block (move_header k h) (k i) (move_tree k within) (k j) u)

-- ---- what is read of them

-- the reservation says the field's number and its name
pub record Reserves (old new : Scene) (w : WrittenField) (r : Reservation) : Type 0 where
  pub number : number_at new r.number ≡ number_at old (written_number w)
  pub name : value new r.name ≡ text old (written_name w)

-- fields of a message that stand at different tokens have different names
abbrev pub FieldNamesDiffer : Scene → Tree → Type 0
FieldNamesDiffer scene tree = (b : BlockOf) (h : Heading) (f g : FieldOf)
    → Contains (blocks_in tree) b
    → b.header ≡ header.Message h
    → Contains (fields_in b.within) f
    → Contains (fields_in b.within) g
    → f.name ≢ g.name
    → text scene f.name ≢ text scene g.name

-- No flaw comes in by a deletion, where the field's name token is not that of anything that stays.
abbrev pub DeletionsBringNoFlaw : Type 0
DeletionsBringNoFlaw =
    (g k : Move) (middle old new : Scene) (w : WrittenField) (r : Reservation) (x t u : Tree)
    → IsMoved g middle old
    → IsMoved k middle new
    → Reserves old new w r
    → IsDeletedIn g k w r x t u
    → ((i : ℕ) → (g i == written_name w) ≡ false)
    → FieldNamesDiffer old t
    → file_flaws old t ≡ []
    → file_flaws new u ≡ []
