-- What is read of a text in which statements replace statements.
use Rattle.std.specs.Prelude.{◌≡◌, ℕ, ◌+◌, ◌≤◌, false, List, [], ◌∷◌, ◌++◌, length}
use Rattle.proto_base.specs.Texts.{Text}
use Rattle.proto_base.specs.declared.profile.Profile.{Profile}
use Rattle.proto_text.specs.declared.lexer.Token.{Token}
use Rattle.proto_text.specs.Segments.{IsPlace, IsReplaced, IsSeam, IsSegment}
use Rattle.proto_text.specs.Tokens.{Lexeme}
use Rattle.proto_tree.specs.declared.context.Context.TheVariants as context
use Rattle.proto_tree.specs.Classes.{is_brace}
use Rattle.proto_tree.specs.Flat.{Fit}
use Rattle.proto_tree.specs.Moved.{Move}
use Rattle.proto_tree.specs.Place.{IsShallow, open_from}
use Rattle.proto_tree.specs.Reads.{ReadsIn}
use Rattle.proto_tree.specs.Tree.{Tree, End, Leaf, Block, flat}
use Rattle.proto_tree.specs.Words.{class_by, classes, classes_in}
use Rattle.proto_edit_statement_laws.specs.Exchanges.{IsExchanged, before, MovesBy}

-- no brace is among the tokens
abbrev pub HaveNoBrace : List Lexeme → Type 0
HaveNoBrace [] = Unit {0}
HaveNoBrace (l ∷ ls) = (is_brace (class_by l.kind l.text) ≡ false) × HaveNoBrace ls

-- as many braces are open behind the tokens as before them, however many these are (braces are of
-- one class in both languages)
abbrev pub LeaveDepth : List Lexeme → Type 0
LeaveDepth ls = (depth : ℕ) → open_from depth (classes 0 ls) ≡ depth

-- Where tokens without a brace replace tokens that leave the depth of braces, no more than 32
-- braces are open at once, as before.
abbrev pub DepthIsKept : Type 0
DepthIsKept = (profile : Profile) (front old new back : List Lexeme)
    → LeaveDepth old
    → HaveNoBrace new
    → IsShallow (classes_in profile 0 (front ++ (old ++ back)))
    → IsShallow (classes_in profile 0 (front ++ (new ++ back)))

-- statements alone, and no block
abbrev pub AreStatements : Tree → Type 0
AreStatements End = Unit {0}
AreStatements (Leaf s rest) = AreStatements rest
AreStatements (Block h i within j rest) = ⊥

-- A place of items begins and ends behind tokens that end by themselves.
abbrev pub PlacesAreSeams : Type 0
PlacesAreSeams =
    (profile : Profile) (text : Text) (tokens : List Token) (g : Move) (a b t u : Tree)
    (r : IsExchanged g a b context.Start t u)
    → ReadsIn profile text tokens t
    → IsSeam tokens (before r)
    × IsSeam tokens (before r + length (flat a))
    × (before r + length (flat a) ≤ length tokens)

-- Where the text from one place up to the other is replaced by a segment with the tokens of b, none
-- of which is a brace, the second tree is read of what comes out.
abbrev pub StatementsAreRead : Type 0
StatementsAreRead =
    (profile : Profile) (text : Text) (tokens : List Token) (g : Move) (a b t u : Tree)
    (r : IsExchanged g a b context.Start t u) (from to : ℕ) (new : Text) (ls : List Lexeme)
    → ReadsIn profile text tokens t
    → AreStatements a
    → HaveNoBrace ls
    → IsPlace tokens (before r) from
    → IsPlace tokens (before r + length (flat a)) to
    → from ≤ to
    → IsSegment new ls
    → Fit (flat b) (classes_in profile (before r) ls)
    → MovesBy g (before r) (length (flat a)) (length ls)
    → (result : Text) × (after : List Token)
    × IsReplaced text tokens (before r) (before r + length (flat a)) from to new ls result after
    × ReadsIn profile result after u
