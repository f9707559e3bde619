-- The pieces of a text in groups: trivia, token, trivia, .., token, trivia, as the language
-- specification describes a file.
use Rattle.std.specs.Prelude.{◌≡◌, ℕ, true, List, [], ◌∷◌, ◌++◌}
use Rattle.proto_base.specs.declared.profile.Profile.{Profile}
use Rattle.proto_base.specs.declared.profile.Profile.TheVariants as profile
use Rattle.proto_text.specs.declared.class.Class.TheVariants.{Space}
use Rattle.proto_text.specs.declared.kind.PieceKind.{PieceKind}
use Rattle.proto_text.specs.declared.kind.PieceKind.TheVariants.{Blank, LineComment, BlockComment, Solid}
use Rattle.proto_text.specs.declared.kind.TokenKind.{TokenKind}
use Rattle.proto_text.specs.declared.kind.TokenKind.TheVariants.{Word, Number, Text, Punctuation}
use Rattle.proto_text.specs.Bytes.{Stops}
use Rattle.proto_text.specs.Classes.{is_identifier}
use Rattle.proto_text.specs.Pieces.{Piece, IsOne, IsLineComment, IsBlockComment, IsLexeme, is_in_line, pieces_text}
use Rattle.proto_text.specs.Profiles.{AreAllowed, IsPiecesIn}

-- one white-space byte, a block comment through its first `*/`, or a line comment up to a line feed
-- or the end of the text
abbrev pub IsTrivium : PieceKind → List ℕ → List ℕ → Type 0
IsTrivium Blank bytes rest = IsOne Space bytes
IsTrivium BlockComment bytes rest = IsBlockComment bytes
IsTrivium LineComment bytes rest = IsLineComment bytes × Stops is_in_line rest
IsTrivium (Solid kind) bytes rest = ⊥

-- trivia: any run of these, also none; the rest of the text stands behind it
abbrev pub AreTrivia : List Piece → List ℕ → Type 0
AreTrivia [] rest = Unit {0}
AreTrivia (t ∷ ts) rest = IsTrivium t.kind t.bytes (pieces_text ts ++ rest) × AreTrivia ts rest

-- a token, and the trivia behind it
pub record Group : Type 0 where
  pub kind : TokenKind
  pub bytes : List ℕ
  pub behind : List Piece

-- the text of groups: each token, and the trivia behind it
abbrev pub groups_text : List Group → List ℕ
groups_text [] = []
groups_text (g ∷ gs) = g.bytes ++ (pieces_text g.behind ++ groups_text gs)

-- a word or a number
abbrev pub TakesIdentifiers : TokenKind → Type 0
TakesIdentifiers Word = Unit {0}
TakesIdentifiers Number = Unit {0}
TakesIdentifiers Text = ⊥
TakesIdentifiers Punctuation = ⊥

-- the bytes begin with an identifier character
abbrev pub BeginsIdentifier : List ℕ → Type 0
BeginsIdentifier [] = ⊥
BeginsIdentifier (b ∷ bytes) = is_identifier b ≡ true

-- Between a word or number and a token that begins with an identifier character the trivia is not
-- empty.
abbrev pub IsApart : Group → List Group → Type 0
IsApart g [] = Unit {0}
IsApart g (h ∷ hs) =
    TakesIdentifiers g.kind → BeginsIdentifier h.bytes → g.behind ≡ [] → ⊥

-- Each token is of the lexical set of its kind, and trivia stands behind it where that is needed.
abbrev pub AreGroups : List Group → Type 0
AreGroups [] = Unit {0}
AreGroups (g ∷ gs) =
    IsLexeme (Solid g.kind) g.bytes × AreTrivia g.behind (groups_text gs)
    × IsApart g gs × AreGroups gs

-- the text is this trivia, and then these groups, which either language may have
pub record IsMadeOfGroups (text : List ℕ) (first : List Piece) (groups : List Group)
    : Type 0 where
  pub trivia : AreTrivia first (groups_text groups)
  pub tokens : AreGroups groups
  pub whole : text ≡ pieces_text first ++ groups_text groups

-- the pieces of groups: each token, and the trivia behind it
abbrev pub pieces_of : List Group → List Piece
pieces_of [] = []
pieces_of (g ∷ gs) =
    record { kind = Solid g.kind; bytes = g.bytes } ∷ (g.behind ++ pieces_of gs)

-- the same, and the language has each of the pieces
abbrev pub IsGroupedIn : Profile → List ℕ → List Piece → List Group → Type 0
IsGroupedIn p text first groups =
    IsMadeOfGroups text first groups × AreAllowed p (first ++ pieces_of groups)

-- the same in the core language
abbrev pub IsGrouped : List ℕ → List Piece → List Group → Type 0
IsGrouped text first groups = IsGroupedIn profile.Core text first groups

-- A text in groups is a text in pieces.
abbrev pub GroupsArePiecesIn : Profile → Type 0
GroupsArePiecesIn p =
    (text : List ℕ) (first : List Piece) (groups : List Group) → IsGroupedIn p text first groups
    → IsPiecesIn p text (first ++ pieces_of groups)

-- the same in the core language
abbrev pub GroupsArePieces : Type 0
GroupsArePieces = GroupsArePiecesIn profile.Core

-- A text in pieces is a text in groups of the same pieces.
abbrev pub PiecesAreGroupsIn : Profile → Type 0
PiecesAreGroupsIn p =
    (text : List ℕ) (ps : List Piece) → IsPiecesIn p text ps
    → (first : List Piece) × (groups : List Group) × IsGroupedIn p text first groups
    × (ps ≡ first ++ pieces_of groups)

-- the same in the core language
abbrev pub PiecesAreGroups : Type 0
PiecesAreGroups = PiecesAreGroupsIn profile.Core

-- A text is grouped in one way at most.
abbrev pub OneGroupingIn : Profile → Type 0
OneGroupingIn p =
    (text : List ℕ) (a b : List Piece) (gs hs : List Group) → IsGroupedIn p text a gs
    → IsGroupedIn p text b hs → (a ≡ b) × (gs ≡ hs)

-- the same in the core language
abbrev pub OneGrouping : Type 0
OneGrouping = OneGroupingIn profile.Core
