-- The tokens of the files of a workspace, by their indices, and what stands at them.
use Rattle.std.specs.Prelude.{◌≡◌, ℕ, ◌<◌, List, length, slice_get, Some}
use Rattle.proto_text.specs.declared.kind.TokenKind.TheVariants.{Text}
use Rattle.proto_text.specs.declared.lexer.Token.{Token}
use Rattle.proto_text.specs.Texts.{offset_at}
use Rattle.proto_text.specs.Tokens.{AreTokens}
use Rattle.proto_base.specs.declared.fault.FaultKind.{FaultKind}
use Rattle.proto_base.specs.declared.fault.SchemaFault.{SchemaFault}
use Rattle.proto_base.specs.declared.fault.SchemaFault.TheVariants.{Schema, NoMemory}
use Rattle.proto_files.specs.Faults.{FaultAt, fault_at}
use Rattle.proto_files.specs.GivenFiles.{FileOf, file_at}

-- the tokens are those of the file at the place
abbrev pub AreTokensOf : List FileOf → ℕ → List Token → Type 0
AreTokensOf files file tokens = AreTokens (file_at files file).bytes tokens

-- the file has a token with this index (a text has one list of tokens)
abbrev pub HasToken : List FileOf → ℕ → ℕ → Type 0
HasToken files file token =
    (tokens : List Token) × AreTokensOf files file tokens × (token < length tokens)

-- and it is a string
abbrev pub HasString : List FileOf → ℕ → ℕ → Type 0
HasString files file token =
    (tokens : List Token) × AreTokensOf files file tokens
    × ((t : Token) × (slice_get tokens token ≡ Some t) × (t.kind ≡ Text))

-- a fault of this kind, where the token with this index begins; at 0 where there is no such token
pub record StandsAtToken (files : List FileOf) (file token : ℕ) (kind : FaultKind) (x : FaultAt)
    : Type 0 where
  pub path : x.path ≡ (file_at files file).path
  pub offset : (tokens : List Token) → AreTokensOf files file tokens
      → x.offset ≡ offset_at tokens token
  pub kind_is : x.kind ≡ kind

-- the error is out of memory, or the fault of this kind at the token
abbrev pub IsAtToken : List FileOf → ℕ → ℕ → FaultKind → SchemaFault → Type 0
IsAtToken files file token kind (Schema fault) =
    StandsAtToken files file token kind (fault_at fault)
IsAtToken files file token kind NoMemory = Unit {0}
