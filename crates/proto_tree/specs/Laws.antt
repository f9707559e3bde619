-- Laws of trees, for the layers above.
use Rattle.std.specs.Prelude.{◌≡◌, ℕ, suc, ◌<◌, Bool, true, false, ◌==◌, ◌||◌, List, [], ◌∷◌, ◌⊎◌, length, get_or, Option, Some, is_some}
use Rattle.std.specs.List.{Contains}
use Rattle.proto_base.specs.Texts.{Text}
use Rattle.proto_text.specs.declared.class.Class.TheVariants.{Letter}
use Rattle.proto_text.specs.declared.kind.TokenKind.{TokenKind}
use Rattle.proto_text.specs.declared.kind.TokenKind.TheVariants.{Word}
use Rattle.proto_text.specs.declared.lexer.Token.{Token}
use Rattle.proto_text.specs.Pieces.{IsRun}
use Rattle.proto_text.specs.Texts.{changed, AreWords, IsReworded}
use Rattle.proto_text.specs.Tokens.{AreTokensIn, Lexeme}
use Rattle.proto_tree.specs.declared.class.Class.{Class}
use Rattle.proto_tree.specs.declared.class.Class.TheVariants as class
use Rattle.proto_tree.specs.declared.class.Expected.{Expected}
use Rattle.proto_tree.specs.declared.class.Expected.TheVariants as want
use Rattle.proto_tree.specs.declared.tree.Reference.{Reference}
use Rattle.proto_tree.specs.declared.piece.Statement.{Statement}
use Rattle.proto_tree.specs.declared.piece.Header.{Header}
use Rattle.proto_tree.specs.declared.parsing.ParseFault.{ParseFault}
use Rattle.proto_base.specs.declared.profile.Profile.{Profile}
use Rattle.proto_base.specs.declared.profile.Profile.TheVariants as profile
use Rattle.proto_tree.specs.Classes.{code, is_word, fits}
use Rattle.proto_tree.specs.Flat.{Mark, flat_reference, flat_statement, flat_header}
use Rattle.proto_tree.specs.Tree.{Tree, End, Leaf, Block, flat, Spells}
use Rattle.proto_tree.specs.Place.{IsShallow}
use Rattle.proto_tree.specs.Words.{class_by, classes_in, class_as}
use Rattle.proto_tree.specs.Reads.{Reads, ReadsIn, IsParseFaultIn}
use Rattle.proto_tree.specs.References.{dotted, first_of, word_token}

-- ---- one tree, or one fault

-- Two trees that are read of one text are the same tree.
abbrev pub OneTreeIn : Profile → Type 0
OneTreeIn p =
    (text : Text) (tokens : List Token) (a b : Tree)
    → ReadsIn p text tokens a → ReadsIn p text tokens b → a ≡ b

-- the same in the core language
abbrev pub OneTree : Type 0
OneTree = OneTreeIn profile.Core

-- Two faults of one text are the same fault.
abbrev pub OneFaultIn : Profile → Type 0
OneFaultIn p =
    (text : Text) (tokens : List Token) (a b : ParseFault)
    → IsParseFaultIn p text tokens a → IsParseFaultIn p text tokens b → a ≡ b

-- the same in the core language
abbrev pub OneFault : Type 0
OneFault = OneFaultIn profile.Core

-- A text of which a tree is read has no fault.
abbrev pub NoFaultWithTreeIn : Profile → Type 0
NoFaultWithTreeIn p =
    (text : Text) (tokens : List Token) (t : Tree) (f : ParseFault)
    → ReadsIn p text tokens t → IsParseFaultIn p text tokens f → ⊥

-- the same in the core language
abbrev pub NoFaultWithTree : Type 0
NoFaultWithTree = NoFaultWithTreeIn profile.Core

-- ---- other words in place of words

-- which tokens get a new word, by their indices, and which word
abbrev pub Change : Type 0
Change = ℕ → Option Text

-- each new word is one that its place wants
abbrev pub Suits : Change → List Mark → Type 0
Suits c [] = Unit {0}
Suits c (m ∷ ms) =
    ((w : Text) → c m.at ≡ Some w → fits m.want (class_by Word w) ≡ true) × Suits c ms

-- what is put is words
abbrev pub PutsWords : Change → Type 0
PutsWords c = (i : ℕ) (w : Text) → c i ≡ Some w → IsRun Letter w

-- The very same tree spells the new words, and no more braces are open at once.
abbrev pub WordsKeepTreesIn : Profile → Type 0
WordsKeepTreesIn p =
    (c : Change) (t : Tree) (ls : List Lexeme) → Suits c (flat t) → Spells t (classes_in p 0 ls)
    → Spells t (classes_in p 0 (changed c 0 ls))
    × (IsShallow (classes_in p 0 ls) → IsShallow (classes_in p 0 (changed c 0 ls)))

-- the same in the core language
abbrev pub WordsKeepTrees : Type 0
WordsKeepTrees = WordsKeepTreesIn profile.Core

-- Words stand where words are put.
abbrev pub WordsComeForWordsIn : Profile → Type 0
WordsComeForWordsIn p =
    (c : Change) (t : Tree) (ls : List Lexeme) → Suits c (flat t) → PutsWords c
    → Spells t (classes_in p 0 ls) → AreWords c 0 ls

-- the same in the core language
abbrev pub WordsComeForWords : Type 0
WordsComeForWords = WordsComeForWordsIn profile.Core

-- So the splices of the change put a text of which the very same tree is read.
abbrev pub EditsKeepTreesIn : Profile → Type 0
EditsKeepTreesIn p =
    (c : Change) (text : Text) (tokens : List Token) (t : Tree) → Suits c (flat t) → PutsWords c
    → ReadsIn p text tokens t
    → (new : Text) × (after : List Token) × IsReworded text tokens c new after
    × ReadsIn p new after t

-- the same in the core language
abbrev pub EditsKeepTrees : Type 0
EditsKeepTrees = EditsKeepTreesIn profile.Core

-- ---- indices and marks

-- the marks have the indices from n on, in order
abbrev pub Numbered : ℕ → List Mark → Type 0
Numbered n [] = Unit {0}
Numbered n (m ∷ ms) = (m.at ≡ n) × Numbered (suc n) ms

-- The places of a tree hold the indices 0, 1, 2, .. in order.
abbrev pub TreesAreNumberedIn : Profile → Type 0
TreesAreNumberedIn p =
    (t : Tree) (ls : List Lexeme) → Spells t (classes_in p 0 ls) → Numbered 0 (flat t)

-- the same in the core language
abbrev pub TreesAreNumbered : Type 0
TreesAreNumbered = TreesAreNumberedIn profile.Core

-- Two marks of a tree with one index are one.
abbrev pub OneMarkIn : Profile → Type 0
OneMarkIn p =
    (t : Tree) (ls : List Lexeme) (a b : Mark) → Spells t (classes_in p 0 ls)
    → Contains (flat t) a → Contains (flat t) b → a.at ≡ b.at → a ≡ b

-- the same in the core language
abbrev pub OneMark : Type 0
OneMark = OneMarkIn profile.Core

-- Each mark's token is there, and is what its place wants.
abbrev pub MarksFitIn : Profile → Type 0
MarksFitIn p =
    (t : Tree) (ls : List Lexeme) (m : Mark) (other : Lexeme) → Spells t (classes_in p 0 ls)
    → Contains (flat t) m
    → (m.at < length ls)
    × (fits m.want
    (class_as p (class_by (get_or ls m.at other).kind (get_or ls m.at other).text)) ≡ true)

-- the same in the core language
abbrev pub MarksFit : Type 0
MarksFit = MarksFitIn profile.Core

-- Each token has its mark.
abbrev pub EachTokenIsMarkedIn : Profile → Type 0
EachTokenIsMarkedIn p =
    (t : Tree) (ls : List Lexeme) (i : ℕ) → Spells t (classes_in p 0 ls) → i < length ls
    → (m : Mark) × Contains (flat t) m × (m.at ≡ i)

-- the same in the core language
abbrev pub EachTokenIsMarked : Type 0
EachTokenIsMarked = EachTokenIsMarkedIn profile.Core

-- A reference from a token on begins there, and each of its words stands at the token of its
-- number.
abbrev pub WordsStandApart : Type 0
WordsStandApart =
    (r : Reference) (first : ℕ) → Numbered first (flat_reference r)
    → (first_of r.dot r.words ≡ first)
    × ((number other : ℕ) → number < length (dotted r.words)
    → get_or (dotted r.words) number other ≡ word_token first (is_some r.dot) number)

-- the statement stands in the tree, at any depth
abbrev pub HasStatement : Statement → Tree → Type 0
HasStatement s End = ⊥
HasStatement s (Leaf x rest) = (x ≡ s) ⊎ HasStatement s rest
HasStatement s (Block h i within j rest) = HasStatement s within ⊎ HasStatement s rest

-- a block of the tree begins so
abbrev pub HasHeader : Header → Tree → Type 0
HasHeader h End = ⊥
HasHeader h (Leaf s rest) = HasHeader h rest
HasHeader h (Block k i within j rest) = (k ≡ h) ⊎ (HasHeader h within ⊎ HasHeader h rest)

-- The marks of a statement of a tree are marks of the tree.
abbrev pub StatementsHaveMarks : Type 0
StatementsHaveMarks =
    (s : Statement) (t : Tree) (m : Mark) → HasStatement s t
    → Contains (flat_statement s) m → Contains (flat t) m

-- the same of what a block begins with
abbrev pub HeadersHaveMarks : Type 0
HeadersHaveMarks =
    (h : Header) (t : Tree) (m : Mark) → HasHeader h t
    → Contains (flat_header h) m → Contains (flat t) m

-- ---- classes

-- A token is of the class of a word exactly where it is a word.
abbrev pub WordsHaveWordClasses : Type 0
WordsHaveWordClasses =
    (k : TokenKind) (w : Text)
    → (k ≡ Word → is_word (class_by k w) ≡ true) × (is_word (class_by k w) ≡ true → k ≡ Word)

-- ---- the core language and the language as written

-- the place wants a token of this class alone
abbrev pub is_for : Class → Expected → Bool
is_for c (want.One d) = code d == code c
is_for c want.Word = false
is_for c want.Name = false
is_for c want.OptionName = false
is_for c want.Constant = false
is_for c want.ValueName = false
is_for c want.Label = false
is_for c want.Text = false
is_for c want.Atom = false
is_for c want.Element = false
is_for c want.Nothing = false
is_for c want.Parenthesis = false
is_for c want.Modifier = false

-- one of the places does
abbrev pub any_for : Class → List Mark → Bool
any_for c [] = false
any_for c (m ∷ ms) = is_for c m.want || any_for c ms

-- A tree that is read in the core language has no custom option: each begins with a `(` of a class
-- of its own.
abbrev pub CoreTreesArePlain : Type 0
CoreTreesArePlain =
    (text : Text) (tokens : List Token) (t : Tree) → Reads text tokens t
    → any_for class.NameParenthesis (flat t) ≡ false

-- Nor has it a weak import: `weak` behind `import` is of a class of its own, too.
abbrev pub CoreTreesHaveNoWeakImport : Type 0
CoreTreesHaveNoWeakImport =
    (text : Text) (tokens : List Token) (t : Tree) → Reads text tokens t
    → any_for class.ImportWeak (flat t) ≡ false

-- A text of which a tree is read in a language has tokens of it; so in the core language no `:`.
abbrev pub TreesHaveTokens : Type 0
TreesHaveTokens =
    (p : Profile) (text : Text) (tokens : List Token) (t : Tree) → ReadsIn p text tokens t
    → AreTokensIn p text tokens

-- What is read in the core language is read as written, as the same tree.
abbrev pub CoreTreesAreWritten : Type 0
CoreTreesAreWritten =
    (text : Text) (tokens : List Token) (t : Tree) → Reads text tokens t
    → ReadsIn profile.AsWritten text tokens t
