-- What is replied to a request for the declarations of a document.
use Rattle.std.specs.Prelude.{◌≡◌, ℕ, Bool, List, [], ◌∷◌, find, length, Some, string_bytes}
use Rattle.std.specs.List.{AllZip}
use Rattle.std.specs.Str.{bytes_eq}
use Rattle.proto_base.specs.GivenFiles.{FileOf}
use Rattle.proto_base.specs.Texts.{Path, Text}
use Rattle.proto_files.specs.Faults.{HasNoFault}
use Rattle.proto_files.specs.FilesRead.{AreRead, ReadOf}
use Rattle.proto_files.specs.PathFaults.{PathFaults}
use Rattle.proto_files.specs.ReadFaults.{ReadFaults}
use Rattle.proto_names_imports.specs.Links.{text_of}
use Rattle.proto_names_rules.specs.Grown.{at}
use Rattle.proto_names_rules.specs.declared.kind.Kind.{Kind}
use Rattle.proto_names_rules.specs.declared.kind.Kind.TheVariants as the_kind
use Rattle.proto_answers.specs.Symbols.{symbols_of}
use Rattle.proto_answers.specs.declared.symbols.Symbol.{Symbol}
use Rattle.proto_messages.specs.declared.position.Range.{Range as SentRange}
use Rattle.proto_messages.specs.declared.results.Answer.TheVariants as answer
use Rattle.proto_messages.specs.declared.results.Symbol.{Symbol as SentSymbol, fold-Symbol}
use Rattle.proto_messages.specs.declared.results.Symbol.TheOpen.{Symbol-F}
use Rattle.proto_messages.specs.declared.results.SymbolKind.{SymbolKind}
use Rattle.proto_messages.specs.declared.results.SymbolKind.TheVariants as sent
use Rattle.proto_session_files.specs.Homes.{schema_of}
use Rattle.proto_session_files.specs.Views.{ViewOf}
use Rattle.proto_session_replies.specs.Replies.{sent_range}
use Rattle.proto_session_replies.specs.declared.reply.Reply.TheVariants.{Result}
use Rattle.proto_session_replies.specs.declared.reply.Reply.{Reply}

-- the protocol's word for what is declared
abbrev pub sent_kind : Kind → SymbolKind
sent_kind the_kind.Package = sent.Package
sent_kind the_kind.Message = sent.Struct
sent_kind the_kind.Entry = sent.Struct
sent_kind the_kind.Field = sent.Field
sent_kind the_kind.EntryField = sent.Field
sent_kind the_kind.Oneof = sent.Field
sent_kind the_kind.Enum = sent.Enum
sent_kind the_kind.Value = sent.EnumMember
sent_kind the_kind.Extension = sent.Field
sent_kind the_kind.Service = sent.Interface
sent_kind the_kind.Method = sent.Method

-- what a symbol of the protocol says, and how many are in it
pub record SentOf : Type 0 where
  pub name : Text
  pub kind : SymbolKind
  pub range : SentRange
  pub selection : SentRange
  pub count : ℕ

-- the same, where those in it are seen already
abbrev pub sent_step : Symbol-F SentOf → SentOf
sent_step s = record {
  name = string_bytes s.name;
  kind = s.kind;
  range = s.range;
  selection = s.selection;
  count = length s.children.items;
}

-- what a symbol of the protocol says
abbrev pub sent_of : SentSymbol → SentOf
sent_of = fold-Symbol SentOf sent_step

-- a declaration as the protocol has it: the word of its name, where that stands, and none in it
abbrev pub shown_symbol : List FileOf → List ReadOf → Symbol → SentOf
shown_symbol files reads symbol = record {
  name = text_of files reads (at symbol.location.file symbol.token);
  kind = sent_kind symbol.kind;
  range = sent_range symbol.location.range;
  selection = sent_range symbol.location.range;
  count = 0;
}

-- a symbol of the protocol says this of a declaration
pub record IsSentSymbol
    (files : List FileOf) (reads : List ReadOf) (symbol : Symbol) (sent : SentSymbol)
    : Type 0 where
  pub says : sent_of sent ≡ shown_symbol files reads symbol

-- whether a file has the path
abbrev pub has_path : Path → FileOf → Bool
has_path path f = bytes_eq f.path path

-- the file that a client asks about, the first with its path of those that it sees
pub record IsFileAsked (v : ViewOf) (uri : Text) (file : FileOf) : Type 0 where
  pub names : schema_of v.home uri ≡ Some file.path
  pub there : find (has_path file.path) v.files ≡ Some file

-- The declarations of a document by its own text, so also where other files have faults. Null where
-- it is no schema that the client sees, and where it has a fault of its path, text or grammar.
abbrev pub IsSymbolsReply : ViewOf → Text → Reply → Type 0
IsSymbolsReply v uri (Result (answer.Symbols sent)) = (file : FileOf) × IsFileAsked v uri file
    × (reads : List ReadOf) × AreRead (file ∷ []) reads
    × AllZip (IsSentSymbol (file ∷ []) reads)
    (symbols_of v.encoding (file ∷ []) reads 0) sent.items
IsSymbolsReply v uri (Result answer.Null) =
    (file : FileOf) → IsFileAsked v uri file → HasNoFault (PathFaults 4096 (file.path ∷ []))
    → HasNoFault (ReadFaults (file ∷ [])) → ⊥
IsSymbolsReply v uri _ = ⊥
