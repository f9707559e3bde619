-- What the functions that read blocks answer.
use Rattle.std.specs.Prelude.{◌≡◌, ℕ, ◌+◌, ◌≤◌, List, [], ◌∷◌, ◌++◌, length, true, false, Option, Some, None}
use Rattle.std.specs.Global.{Vec}
use Rattle.proto_tree.specs.declared.class.Class.TheVariants as class
use Rattle.proto_tree.specs.declared.class.Lexeme.{Lexeme}
use Rattle.proto_tree.specs.declared.tree.Block.{Block as Braced}
use Rattle.proto_tree.specs.declared.piece.Statement.{Statement}
use Rattle.proto_tree.specs.declared.piece.Heading.{Heading}
use Rattle.proto_tree.specs.declared.piece.Extending.{Extending}
use Rattle.proto_tree.specs.declared.tree.Extend.{Extend}
use Rattle.proto_tree.specs.declared.tree.Extension.{Extension}
use Rattle.proto_tree.specs.declared.piece.Header.{Header}
use Rattle.proto_tree.specs.declared.piece.Piece.{Piece}
use Rattle.proto_tree.specs.declared.context.Context.{Context}
use Rattle.proto_tree.specs.declared.context.Kind.TheVariants as kind
use Rattle.proto_tree.specs.declared.blocks.Fault.{Fault}
use Rattle.proto_tree.specs.declared.blocks.Fault.TheVariants as fault
use Rattle.proto_tree.specs.declared.blocks.Found.{Found}
use Rattle.proto_tree.specs.declared.blocks.Found.TheVariants as found
use Rattle.proto_tree.specs.declared.files.Unread.{Unread}
use Rattle.proto_tree.specs.declared.files.Unread.TheVariants as unread
use Rattle.proto_tree.specs.Flat.{one, Fit}
use Rattle.proto_tree.specs.Tree.{Tree, End, Leaf, Block, flat, IsWellFormed, Spells, statement_kind, allows, inside, last_of}
use Rattle.proto_tree.specs.Place.{IsLongestFront, IsShallow, IsTooDeep}
use Rattle.proto_tree.specs.Walk.{any_piece_in, IsStuck}

-- a tree's tokens stand at the front
pub record IsRead (c : Context) (tokens : List Lexeme) (t : Tree) (rest : List Lexeme)
    : Type 0 where
  pub text : List Lexeme
  pub parts : tokens ≡ text ++ rest
  pub fits : Fit (flat t) text
  pub well_formed : IsWellFormed c t

-- an item of a block: its tree is read, and at least one token is taken
pub record IsItem (c : Context) (tokens : List Lexeme) (t : Tree) (rest : List Lexeme)
    : Type 0 where
  pub read : IsRead c tokens t rest
  pub shorter : length rest + 1 ≤ length tokens

-- the brace that ends a block stands at the front, where one may
pub record IsClose (c : Context) (tokens : List Lexeme) (j : ℕ) (rest : List Lexeme) : Type 0 where
  pub text : List Lexeme
  pub parts : tokens ≡ text ++ rest
  pub fits : Fit (one class.Close j) text
  pub may : allows c kind.Close ≡ true

-- the items of a block and the brace behind them
pub record IsBody (c : Context) (tokens : List Lexeme) (t : Tree) (j : ℕ) (rest : List Lexeme)
    : Type 0 where
  pub after : List Lexeme
  pub read : IsRead c tokens t after
  pub close : IsClose c after j rest

-- why a block is not read: memory ran out, or pieces can be read up to the last k tokens alone
abbrev pub FaultOf : Context → List Lexeme → Fault → Type 0
FaultOf c tokens fault.Memory = Unit {0}
FaultOf c tokens (fault.Syntax k) = IsStuck (c ∷ []) tokens k

-- what is met in a block: an item of it, or the brace that ends it
abbrev pub FoundIn : {A : Type 0} → Context → (A → Tree) → List Lexeme → Found A → List Lexeme
    → Type 0
FoundIn c view tokens (found.Item x) rest = IsItem c tokens (view x) rest
FoundIn c view tokens (found.Close j) rest = IsClose c tokens j rest

-- the piece stands at the front, whether it may or not
abbrev pub IsMet : Context → List Lexeme → Piece → List Lexeme → Type 0
IsMet c tokens u rest = any_piece_in c tokens ≡ Some (u, rest)

-- the context is that of a file
abbrev pub IsOuter : Context → Type 0
IsOuter c = allows c kind.Close ≡ false

-- what a statement is in the context, or that it may not stand there
abbrev pub IsItemOf : {A : Type 0} → Context → (A → Tree) → Statement → Option A → Type 0
IsItemOf c view s (Some x) = (allows c (statement_kind s) ≡ true) × (view x ≡ Leaf s End)
IsItemOf c view s None = allows c (statement_kind s) ≡ false

-- an item of a file, and the context behind it
pub record IsItemBefore (c : Context) (tokens : List Lexeme) (t : Tree) (d : Context)
    (rest : List Lexeme) : Type 0 where
  pub item : IsItem c tokens t rest
  pub last : last_of c t ≡ d

-- the tree is the block that begins so, with its members and the brace behind them
pub record IsBlockItem (h : Header) (i : ℕ) (tokens : List Lexeme) (t : Tree) (rest : List Lexeme)
    : Type 0 where
  pub within : Tree
  pub closes : ℕ
  pub body : IsBody (inside h) tokens within closes rest
  pub is : t ≡ Block h i within closes End

-- a block: a keyword and a name, and its members between two braces
abbrev pub braced : {A : Type 0} → Heading → ℕ → Vec A → ℕ → Braced A
braced h i members j = record {
  keyword = h.keyword;
  name = h.name;
  «open» = i;
  members = members;
  close = j;
}

-- an `extend` block, put together of its beginning, its fields and its braces
abbrev pub extended : Extending → ℕ → Vec Extension → ℕ → Extend
extended e i fields j = record {
  keyword = e.keyword;
  extendee = e.extendee;
  «open» = i;
  fields = fields;
  close = j;
}

-- why a file has no tree, by the index of a token
abbrev pub IsUnread : List Lexeme → Unread → Type 0
IsUnread tokens (unread.Syntax k) =
    IsShallow tokens × ((t : Tree) → Spells t tokens → ⊥) × IsLongestFront tokens k
IsUnread tokens (unread.TooDeep k) = IsTooDeep tokens k
IsUnread tokens unread.Memory = Unit {0}
