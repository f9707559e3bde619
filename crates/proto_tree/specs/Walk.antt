-- A file as a list of pieces: how they are read, and in which contexts they stand.
use Rattle.std.specs.Prelude.{◌≡◌, ℕ, true, List, [], ◌∷◌, ◌++◌, length, Some, None, option_and_then, if◌then◌else◌}
use Rattle.proto_tree.specs.declared.class.Lexeme.{Lexeme}
use Rattle.proto_tree.specs.declared.piece.Piece.{Piece}
use Rattle.proto_tree.specs.declared.piece.Piece.TheVariants as piece
use Rattle.proto_tree.specs.declared.context.Context.{Context}
use Rattle.proto_tree.specs.declared.context.Context.TheVariants as context
use Rattle.proto_tree.specs.declared.context.Kind.TheVariants as kind
use Rattle.proto_tree.specs.Flat.{Fit, flat_all, flat_piece}
use Rattle.proto_tree.specs.Reading.{Reader, inner_piece_at, enum_piece_at}
use Rattle.proto_tree.specs.Tree.{statement_kind, header_kind, kind_of, allows, after, inside}

-- reads a piece as it is read in this context, whether it may stand there or not
abbrev pub any_piece_in : Context → Reader Piece
any_piece_in context.Enum = enum_piece_at
any_piece_in _ = inner_piece_at

-- a piece that may stand here
unfoldable pub piece_in : Context → Reader Piece
piece_in c s =
    option_and_then (λ x. if allows c (kind_of x.0) then Some x else None) (any_piece_in c s)

-- the contexts after a piece, innermost first
abbrev pub moved_contexts : Context → Piece → List Context → List Context
moved_contexts c (piece.Statement s) contexts = after c (statement_kind s) ∷ contexts
moved_contexts c (piece.Open h i) contexts = inside h ∷ after c (header_kind h) ∷ contexts
moved_contexts c (piece.Close i) contexts = contexts

-- the pieces lead from the ones contexts to the others
abbrev pub Walk : List Context → List Piece → List Context → Type 0
Walk from [] to = from ≡ to
Walk [] (u ∷ us) to = ⊥
Walk (c ∷ from) (u ∷ us) to = (allows c (kind_of u) ≡ true) × Walk (moved_contexts c u from) us to

-- from these contexts pieces can be read, up to the last k tokens, where none can
pub record IsStuck (contexts : List Context) (tokens : List Lexeme) (k : ℕ) : Type 0 where
  pub pieces : List Piece
  pub front : List Lexeme
  pub rest : List Lexeme
  pub context : Context
  pub outer : List Context
  pub parts : tokens ≡ front ++ rest
  pub count : length rest ≡ k
  pub fits : Fit (flat_all flat_piece pieces) front
  pub walk : Walk contexts pieces (context ∷ outer)
  pub none : piece_in context rest ≡ None
  pub inner : rest ≡ [] → allows context kind.Close ≡ true
