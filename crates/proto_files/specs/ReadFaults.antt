-- The faults of the texts of a workspace's files, and those of their grammar.
use Rattle.std.specs.Prelude.{◌≡◌, ℕ, ◌<◌, ◌≤◌, ◌⊎◌, List, length, Contains}
use Rattle.std.specs.Str.{IsUtf8}
use Rattle.proto_text.specs.declared.fault.LexFault.{LexFault}
use Rattle.proto_text.specs.declared.fault.LexFault.TheVariants as lex
use Rattle.proto_text.specs.declared.lexer.Token.{Token}
use Rattle.proto_text.specs.Tokens.{AreTokensIn, IsFaultIn}
use Rattle.proto_tree.specs.Reads.{IsSyntaxIn, IsTooDeepIn}
use Rattle.proto_base.specs.declared.fault.FaultKind.{FaultKind}
use Rattle.proto_base.specs.declared.fault.FaultKind.TheVariants.{TooLarge, NotUtf8, BadChar, OpenComment, OpenString, BadEscape, BadNumber, Syntax, TooDeep}
use Rattle.proto_base.specs.Texts.{Text, text_limit}
use Rattle.proto_files.specs.Faults.{FaultAt}
use Rattle.proto_files.specs.GivenFiles.{FileOf}

-- bytes of a text
pub record IsText (bytes : Text) : Type 0 where
  pub short : length bytes ≤ text_limit
  pub utf8 : IsUtf8 bytes

-- a file's bytes are a text, and in its language this is the fault of the text, at the offset
abbrev pub IsLexFault : FileOf → ℕ → LexFault → Type 0
IsLexFault file offset fault = IsText file.bytes × IsFaultIn file.profile file.bytes offset fault

-- what a fault of the text says of a file: its bytes are no text, or whole pieces stand before the
-- offset and none begins at it
abbrev pub IsTextFault : FileOf → ℕ → FaultKind → Type 0
IsTextFault file offset TooLarge = (offset ≡ 0) × (text_limit < length file.bytes)
IsTextFault file offset NotUtf8 =
    (offset ≡ 0) × (length file.bytes ≤ text_limit) × (IsUtf8 file.bytes → ⊥)
IsTextFault file offset BadChar = IsLexFault file offset lex.BadChar
IsTextFault file offset OpenComment = IsLexFault file offset lex.OpenComment
IsTextFault file offset OpenString = IsLexFault file offset lex.OpenString
IsTextFault file offset BadEscape = IsLexFault file offset lex.BadEscape
IsTextFault file offset BadNumber = IsLexFault file offset lex.BadNumber
IsTextFault file offset _ = ⊥

-- the tokens are those of the file in its language
abbrev pub AreFileTokens : FileOf → List Token → Type 0
AreFileTokens file tokens = AreTokensIn file.profile file.bytes tokens

-- what a fault of the grammar says of the tokens of a file
abbrev pub IsGrammarFault : FileOf → ℕ → FaultKind → Type 0
IsGrammarFault file offset Syntax =
    (tokens : List Token) × AreFileTokens file tokens
    × IsSyntaxIn file.profile file.bytes tokens offset
IsGrammarFault file offset TooDeep =
    (tokens : List Token) × AreFileTokens file tokens
    × IsTooDeepIn file.profile file.bytes tokens offset
IsGrammarFault file offset _ = ⊥

-- the faults of files by what a fault says of one
abbrev pub FaultsOf : (FileOf → ℕ → FaultKind → Type 0) → List FileOf → FaultAt → Type 0
FaultsOf says files x =
    (f : FileOf) × Contains files f × (x.path ≡ f.path) × says f x.offset x.kind

-- the faults of the texts of files
abbrev pub TextFaults : List FileOf → FaultAt → Type 0
TextFaults = FaultsOf IsTextFault

-- the faults of the grammar of files
abbrev pub GrammarFaults : List FileOf → FaultAt → Type 0
GrammarFaults = FaultsOf IsGrammarFault

-- the faults of the texts of files, and of their grammar
abbrev pub ReadFaults : List FileOf → FaultAt → Type 0
ReadFaults files x = TextFaults files x ⊎ GrammarFaults files x
