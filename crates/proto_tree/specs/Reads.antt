-- A file as read: its tokens, and the tree that they spell; and what is wrong with a file that has
-- none.
use Rattle.std.specs.Prelude.{◌≡◌, ℕ, zero, suc, List, [], ◌∷◌, length, map, codes, Result, Ok, Err}
use Rattle.proto_base.specs.Texts.{Text}
use Rattle.proto_text.specs.declared.lexer.Token.{Token}
use Rattle.proto_text.specs.Tokens.{lexeme_at, AreTokens}
use Rattle.proto_tree.specs.declared.class.Lexeme.{Lexeme}
use Rattle.proto_tree.specs.declared.parsing.ParseFault.{ParseFault}
use Rattle.proto_tree.specs.declared.parsing.ParseFault.TheVariants as fault
use Rattle.proto_tree.specs.declared.tree.File.{File}
use Rattle.proto_tree.specs.File.{tree_of_file}
use Rattle.proto_tree.specs.Tree.{Tree, Spells}
use Rattle.proto_tree.specs.Place.{IsLongestFront, IsShallow, IsTooDeep}
use Rattle.proto_base.specs.declared.profile.Profile.{Profile}
use Rattle.proto_base.specs.declared.profile.Profile.TheVariants as profile
use Rattle.proto_tree.specs.Words.{classes_in}

-- the tokens of a text as the grammar of the language sees them
abbrev pub classed_in : Profile → Text → List Token → List Lexeme
classed_in p text tokens = classes_in p 0 (map (lexeme_at text) tokens)

-- the same in the core language
abbrev pub classed : Text → List Token → List Lexeme
classed text tokens = classed_in profile.Core text tokens

-- the tokens are those of the text, the tree spells them, and no more than 32 braces are open at
-- once
pub record ReadsIn (p : Profile) (text : Text) (tokens : List Token) (tree : Tree) : Type 0 where
  pub tokens_are : AreTokens text tokens
  pub spells : Spells tree (classed_in p text tokens)
  pub shallow : IsShallow (classed_in p text tokens)

-- the same in the core language
abbrev pub Reads : Text → List Token → Tree → Type 0
Reads text tokens tree = ReadsIn profile.Core text tokens tree

-- where the token with this index begins, or the text ends
abbrev pub place_at : Text → List Token → ℕ → ℕ
place_at text [] k = length text
place_at text (t ∷ ts) zero = t.span.start
place_at text (t ∷ ts) (suc k) = place_at text ts k

-- no tree spells the tokens, they are not too deep, and the longest good front ends at the offset
pub record IsSyntaxIn (p : Profile) (text : Text) (tokens : List Token) (offset : ℕ) : Type 0 where
  pub shallow : IsShallow (classed_in p text tokens)
  pub no_tree : (t : Tree) → Spells t (classed_in p text tokens) → ⊥
  pub at : ℕ
  pub place : IsLongestFront (classed_in p text tokens) at
  pub offset_is : offset ≡ place_at text tokens at

-- the same in the core language
abbrev pub IsSyntaxAt : Text → List Token → ℕ → Type 0
IsSyntaxAt text tokens offset = IsSyntaxIn profile.Core text tokens offset

-- the brace at the offset is the first that is one too many
pub record IsTooDeepIn (p : Profile) (text : Text) (tokens : List Token) (offset : ℕ) : Type 0 where
  pub at : ℕ
  pub place : IsTooDeep (classed_in p text tokens) at
  pub offset_is : offset ≡ place_at text tokens at

-- the same in the core language
abbrev pub IsTooDeepAt : Text → List Token → ℕ → Type 0
IsTooDeepAt text tokens offset = IsTooDeepIn profile.Core text tokens offset

-- what is wrong with a file, and where; out of memory is no fault of the file
abbrev pub IsParseFaultIn : Profile → Text → List Token → ParseFault → Type 0
IsParseFaultIn p text tokens (fault.Syntax offset) = IsSyntaxIn p text tokens offset
IsParseFaultIn p text tokens (fault.TooDeep offset) = IsTooDeepIn p text tokens offset
IsParseFaultIn p text tokens fault.NoMemory = ⊥

-- the same in the core language
abbrev pub IsParseFault : Text → List Token → ParseFault → Type 0
IsParseFault text tokens f = IsParseFaultIn profile.Core text tokens f

-- what is wrong with a file, or out of memory
abbrev pub is_fault_or_memory_in : Profile → Text → List Token → ParseFault → Type 0
is_fault_or_memory_in p text tokens fault.NoMemory = Unit {0}
is_fault_or_memory_in p text tokens f = IsParseFaultIn p text tokens f

-- the same in the core language
abbrev pub is_fault_or_memory : Text → List Token → ParseFault → Type 0
is_fault_or_memory text tokens f = is_fault_or_memory_in profile.Core text tokens f

-- what reading the tokens of a text answers
abbrev pub IsParsed : Profile → Text → List Token → Result File ParseFault → Type 0
IsParsed p text tokens (Ok f) =
    ReadsIn p text tokens (tree_of_file f)
    × ((t : Tree) → Spells t (classed_in p text tokens) → t ≡ tree_of_file f)
IsParsed p text tokens (Err f) = is_fault_or_memory_in p text tokens f

-- where a fault lies, in bytes from 0
abbrev pub fault_offset : ParseFault → ℕ
fault_offset (fault.Syntax offset) = offset
fault_offset (fault.TooDeep offset) = offset
fault_offset fault.NoMemory = 0

-- the number of a fault in the list of all faults, and 0 when out of memory
abbrev pub fault_number : ParseFault → ℕ
fault_number (fault.Syntax offset) = 8
fault_number (fault.TooDeep offset) = 9
fault_number fault.NoMemory = 0

-- the name of a fault
abbrev pub fault_name : ParseFault → Text
fault_name (fault.Syntax offset) = codes "Syntax"
fault_name (fault.TooDeep offset) = codes "TooDeep"
fault_name fault.NoMemory = codes "NoMemory"
