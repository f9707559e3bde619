-- What is said of the bytes of a file.
use Rattle.std.specs.Prelude.{◌≡◌, ◌⊎◌, ◌<◌, ℕ, List, length, count_by}
use Rattle.std.specs.Str.{IsUtf8}
use Rattle.proto_base.specs.Texts.{text_limit}
use Rattle.proto_text.specs.declared.lexer.Token.{Token}
use Rattle.proto_text.specs.declared.fault.TextFault.{TextFault}
use Rattle.proto_text.specs.FaultTable.{text_number, text_name, text_offset}
use Rattle.proto_text.specs.Tokens.{AreTokens, IsLexError}
use Rattle.proto_tree.specs.declared.parsing.ParseFault.{ParseFault}
use Rattle.proto_tree.specs.declared.tree.File.{File}
use Rattle.proto_tree.specs.File.{tree_of_file}
use Rattle.proto_tree.specs.Reads.{Reads, is_fault_or_memory, fault_number, fault_name, fault_offset}
use Rattle.bench.specs.declared.kind.Kind.TheVariants as kind
use Rattle.bench.specs.declared.counts.Counts.{Counts}
use Rattle.bench.specs.declared.report.Fault.{Fault}
use Rattle.bench.specs.declared.report.Report.{Report}
use Rattle.bench.specs.declared.report.Report.TheVariants as report
use Rattle.bench.specs.Items.{is_item_of_kind}

-- the counts are those of the file's top
pub record AreCounts (file : File) (c : Counts) : Type 0 where
  pub messages : c.messages ≡ count_by (is_item_of_kind kind.Message) file.items.items
  pub enums : c.enums ≡ count_by (is_item_of_kind kind.Enum) file.items.items
  pub services : c.services ≡ count_by (is_item_of_kind kind.Service) file.items.items
  pub imports : c.imports ≡ count_by (is_item_of_kind kind.Import) file.items.items
  pub options : c.options ≡ count_by (is_item_of_kind kind.Option) file.items.items

-- the bytes are the text of a file with these counts
pub record HasCounts (bytes : List ℕ) (c : Counts) : Type 0 where
  pub tokens : List Token
  pub file : File
  pub reads : Reads bytes tokens (tree_of_file file)
  pub counts : AreCounts file c

-- what is said is a fault of the text, or out of memory
pub record SaysTextFault (bytes : List ℕ) (said : Fault) : Type 0 where
  pub fault : TextFault
  pub is : IsLexError bytes fault
  pub number : said.number ≡ text_number fault
  pub name : said.name.now ≡ text_name fault
  pub offset : said.offset ≡ text_offset fault

-- what is said is a fault of the grammar, or out of memory
pub record SaysGrammarFault (bytes : List ℕ) (said : Fault) : Type 0 where
  pub tokens : List Token
  pub are : AreTokens bytes tokens
  pub fault : ParseFault
  pub is : is_fault_or_memory bytes tokens fault
  pub number : said.number ≡ fault_number fault
  pub name : said.name.now ≡ fault_name fault
  pub offset : said.offset ≡ fault_offset fault

-- what is said of a file is true
abbrev pub IsReport : List ℕ → Report → Type 0
IsReport bytes (report.Counts counts) = HasCounts bytes counts
IsReport bytes (report.Fault fault) = SaysTextFault bytes fault ⊎ SaysGrammarFault bytes fault
IsReport bytes report.NoText = (text_limit < length bytes) ⊎ (IsUtf8 bytes → ⊥)
