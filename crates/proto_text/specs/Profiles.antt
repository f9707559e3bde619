-- The pieces of a text in a language. What the core language leaves out: no token of it is a `:`.
use Rattle.std.specs.Prelude.{◌≡◌, ℕ, Bool, true, not, List, [], ◌∷◌, ◌==◌}
use Rattle.proto_base.specs.Ascii as ascii
use Rattle.proto_base.specs.declared.profile.Profile.{Profile}
use Rattle.proto_base.specs.declared.profile.Profile.TheVariants as profile
use Rattle.proto_text.specs.Pieces.{Piece, IsMadeOf}

-- whether a piece of the language may begin so
abbrev pub may_begin : Profile → List ℕ → Bool
may_begin profile.AsWritten bytes = true
may_begin profile.Core [] = true
may_begin profile.Core (b ∷ bytes) = not (b == ascii.colon)

-- the language has each of the pieces
abbrev pub AreAllowed : Profile → List Piece → Type 0
AreAllowed p [] = Unit {0}
AreAllowed p (piece ∷ pieces) = (may_begin p piece.bytes ≡ true) × AreAllowed p pieces

-- the text is these pieces, each of which the language has
abbrev pub IsPiecesIn : Profile → List ℕ → List Piece → Type 0
IsPiecesIn p text ps = IsMadeOf text ps × AreAllowed p ps

-- the text is these pieces, in the core language
abbrev pub IsPieces : List ℕ → List Piece → Type 0
IsPieces text ps = IsPiecesIn profile.Core text ps
