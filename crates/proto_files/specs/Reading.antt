-- What is known of files that were read so far, and of the first that has a fault.
use Rattle.std.specs.Prelude.{◌≡◌, ℕ, ◌<◌, List, length, All, String}
use Rattle.std.specs.Global.{Global}
use Rattle.proto_text.specs.declared.fault.LexFault.{LexFault}
use Rattle.proto_text.specs.declared.fault.LexFault.TheVariants as lex
use Rattle.proto_text.specs.declared.fault.TextFault.{TextFault}
use Rattle.proto_text.specs.declared.fault.TextFault.TheVariants as text
use Rattle.proto_text.specs.SourceFacts.{IsSpan}
use Rattle.proto_tree.specs.declared.parsing.ParseFault.{ParseFault}
use Rattle.proto_tree.specs.declared.parsing.ParseFault.TheVariants as grammar
use Rattle.proto_tree.specs.File.{tree_of_file}
use Rattle.proto_tree.specs.Reads.{ReadsIn}
use Rattle.proto_base.specs.declared.fault.FaultKind.{FaultKind}
use Rattle.proto_base.specs.declared.fault.FaultKind.TheVariants as kind
use Rattle.proto_base.specs.declared.fault.SchemaFault.{SchemaFault}
use Rattle.proto_base.specs.declared.fault.SchemaFault.TheVariants.{Schema, NoMemory}
use Rattle.proto_files.specs.declared.stages.LexedFile.{LexedFile}
use Rattle.proto_files.specs.declared.stages.ReadFile.{ReadFile}
use Rattle.proto_files.specs.Faults.{FaultAt, fault_at}
use Rattle.proto_files.specs.GivenFiles.{FileOf, file_at, AreWorkspaceFiles}
use Rattle.proto_files.specs.ReadFaults.{AreFileTokens, IsTextFault, IsGrammarFault}
use Rattle.proto_files.specs.Stages.{lexed_file, read_file, read_files}

-- the kind of a fault of the lexer
abbrev pub lex_kind : LexFault → FaultKind
lex_kind lex.BadChar = kind.BadChar
lex_kind lex.OpenComment = kind.OpenComment
lex_kind lex.OpenString = kind.OpenString
lex_kind lex.BadEscape = kind.BadEscape
lex_kind lex.BadNumber = kind.BadNumber

-- a fault of the text at a path
abbrev pub text_error : String Global → TextFault → SchemaFault
text_error path text.TooLarge = Schema (record { path = path; offset = 0; kind = kind.TooLarge })
text_error path text.NotUtf8 = Schema (record { path = path; offset = 0; kind = kind.NotUtf8 })
text_error path (text.At offset fault) =
    Schema (record { path = path; offset = offset; kind = lex_kind fault })
text_error path text.NoMemory = NoMemory

-- a fault of the grammar at a path
abbrev pub grammar_error : String Global → ParseFault → SchemaFault
grammar_error path (grammar.Syntax offset) =
    Schema (record { path = path; offset = offset; kind = kind.Syntax })
grammar_error path (grammar.TooDeep offset) =
    Schema (record { path = path; offset = offset; kind = kind.TooDeep })
grammar_error path grammar.NoMemory = NoMemory

-- the file has no such fault
abbrev pub HasNone : (FileOf → ℕ → FaultKind → Type 0) → FileOf → Type 0
HasNone says file = (offset : ℕ) (kind : FaultKind) → says file offset kind → ⊥

-- the file has this fault and no other of its phase
pub record IsOnlyFault (says : FileOf → ℕ → FaultKind → Type 0) (file : FileOf) (x : FaultAt)
    : Type 0 where
  pub at_file : x.path ≡ file.path
  pub is_fault : says file x.offset x.kind
  pub only : (offset : ℕ) (kind : FaultKind) → says file offset kind
      → (offset ≡ x.offset) × (kind ≡ x.kind)

-- the error is out of memory, or the only fault of this file
abbrev pub IsFileError : (FileOf → ℕ → FaultKind → Type 0) → FileOf → SchemaFault → Type 0
IsFileError says file (Schema fault) = IsOnlyFault says file (fault_at fault)
IsFileError says file NoMemory = Unit {0}

-- the fault is that of the first file that has one
pub record IsFirstFault (says : FileOf → ℕ → FaultKind → Type 0) (files : List FileOf) (x : FaultAt)
    : Type 0 where
  pub place : ℕ
  pub within : place < length files
  pub none_before : (k : ℕ) → k < place → HasNone says (file_at files k)
  pub is_only : IsOnlyFault says (file_at files place) x

-- the error is out of memory, or the fault of the first file that has one
abbrev pub IsFirstError : (FileOf → ℕ → FaultKind → Type 0) → List FileOf → SchemaFault → Type 0
IsFirstError says files (Schema fault) = IsFirstFault says files (fault_at fault)
IsFirstError says files NoMemory = Unit {0}

-- a file with its tokens: they are those of its text, each can be asked for its own, no fault
pub record IsLexedFile (file : LexedFile) : Type 0 where
  pub tokens_are : AreFileTokens (lexed_file file) file.tokens.items
  pub spans : All (λ t. IsSpan file.source t.span) file.tokens.items
  pub no_fault : HasNone IsTextFault (lexed_file file)

-- a file that is read: its tokens spell its tree, and it has no fault of its text or grammar
pub record IsReadFile (file : ReadFile) : Type 0 where
  pub spans : All (λ t. IsSpan file.source t.span) file.tokens.items
  pub reads : ReadsIn file.profile file.source file.tokens.items (tree_of_file file.tree)
  pub no_text_fault : HasNone IsTextFault (read_file file)
  pub no_fault : HasNone IsGrammarFault (read_file file)

-- these are files of a workspace, each of them read
pub record AreReadFiles (files : List ReadFile) : Type 0 where
  pub workspace : AreWorkspaceFiles (read_files files)
  pub read : All IsReadFile files
