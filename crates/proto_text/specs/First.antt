-- The piece at the front of some bytes: what reading one piece answers.
use Rattle.std.specs.Prelude.{◌≡◌, ℕ, ◌++◌, length, Result, Ok, Err}
use Rattle.proto_base.specs.Texts.{Text}
use Rattle.proto_text.specs.declared.kind.PieceKind.{PieceKind}
use Rattle.proto_base.specs.declared.or_no_memory.OrNoMemory.{OrNoMemory}
use Rattle.proto_base.specs.declared.or_no_memory.OrNoMemory.TheVariants as or
use Rattle.proto_text.specs.declared.fault.LexFault.{LexFault}
use Rattle.proto_text.specs.Pieces.{IsLexeme, EndsBefore, IsFault}

-- the bytes begin with a piece of the kind, n bytes long
pub record BeginsWith (kind : PieceKind) (bytes : Text) (n : ℕ) : Type 0 where
  pub piece : Text
  pub rest : Text
  pub parts : bytes ≡ piece ++ rest
  pub len : n ≡ length piece
  pub is : IsLexeme kind piece
  pub ends : EndsBefore kind rest

-- what reading one piece answers
abbrev pub IsFirstPiece : Text → Result (PieceKind × ℕ) (OrNoMemory LexFault) → Type 0
IsFirstPiece bytes (Ok found) = BeginsWith found.0 bytes found.1
IsFirstPiece bytes (Err (or.Fault fault)) = IsFault fault bytes
IsFirstPiece bytes (Err or.NoMemory) = Unit {0}
