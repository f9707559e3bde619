-- Pieces that differ in words alone, and edits at pieces.
use Rattle.std.specs.Prelude.{◌≡◌, ℕ, ◌+◌, List, [], ◌∷◌, ◌++◌, ◌⊎◌, length, map, Option, Some, None}
use Rattle.proto_base.specs.Texts.{Text}
use Rattle.proto_base.specs.declared.profile.Profile.{Profile}
use Rattle.proto_base.specs.declared.profile.Profile.TheVariants as profile
use Rattle.proto_text.specs.Edits.{Edit, Puts}
use Rattle.proto_text.specs.declared.class.Class.TheVariants.{Letter}
use Rattle.proto_text.specs.declared.kind.PieceKind.TheVariants.{Solid}
use Rattle.proto_text.specs.declared.kind.TokenKind.TheVariants.{Word}
use Rattle.proto_text.specs.Pieces.{Piece, IsRun, pieces_text}
use Rattle.proto_text.specs.Profiles.{IsPiecesIn}
use Rattle.proto_text.specs.Texts.{edit_if}

-- a piece that is a word token
abbrev pub IsWord : Piece → Type 0
IsWord p = (p.kind ≡ Solid Word) × IsRun Letter p.bytes

-- the same pieces, or a word in a word's place
abbrev pub SameButWords : List Piece → List Piece → Type 0
SameButWords [] [] = Unit {0}
SameButWords [] (q ∷ qs) = ⊥
SameButWords (p ∷ ps) [] = ⊥
SameButWords (p ∷ ps) (q ∷ qs) = ((p ≡ q) ⊎ (IsWord p × IsWord q)) × SameButWords ps qs

-- Pieces with other words in place of words are pieces.
abbrev pub WordsMayChangeIn : Profile → Type 0
WordsMayChangeIn p =
    (text : List ℕ) (ps qs : List Piece) → IsPiecesIn p text ps → SameButWords ps qs
    → IsPiecesIn p (pieces_text qs) qs

-- the same in the core language
abbrev pub WordsMayChange : Type 0
WordsMayChange = WordsMayChangeIn profile.Core

-- a piece, and the bytes that come in its place, if others do
abbrev pub piece_after : Piece × Option Text → Piece
piece_after (p, None) = p
piece_after (p, Some bytes) = record p { bytes = bytes }

-- the edits of pieces that begin at an offset
abbrev pub edits_from : ℕ → List (Piece × Option Text) → List Edit
edits_from at [] = []
edits_from at (c ∷ cs) =
    edit_if c.1 at c.0.bytes ++ edits_from (at + length c.0.bytes) cs

-- To edit a text at its pieces is to put other pieces in their place.
abbrev pub EditsChangePieces : Type 0
EditsChangePieces =
    (changes : List (Piece × Option (List ℕ)))
    → Puts 0 (pieces_text (map (λ c. c.0) changes)) (edits_from 0 changes)
    (pieces_text (map piece_after changes))
