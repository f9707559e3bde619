-- What compile prints, and how the schemas of a store are opened: the choice of this program.
use Rattle.std.specs.Prelude.{◌≡◌, List, ◌++◌, codes, Option}
use Rattle.proto_desc.specs.Checked.{described}
use Rattle.proto_base.specs.Texts.{Text}
use Rattle.proto_files.specs.Faults.{FaultAt, HasNoFault, IsLeastFault}
use Rattle.proto_files.specs.FilesRead.{ReadOf, AreRead}
use Rattle.proto_files.specs.GivenFiles.{FileOf}
use Rattle.proto_journal_records.specs.Known.{Over}
use Rattle.proto_descriptors_json.specs.DescriptorText.{json_text}
use Rattle.protoref_output.specs.Answers.{status_of, printed_text}
use Rattle.protoref_output.specs.FaultLines.{IsLine}
use Rattle.protoref_output.specs.declared.answer.Answer.{Answer}
use Rattle.protoref_output.specs.declared.status.Status.{Status}
use Rattle.protoref_output.specs.declared.status.Status.TheVariants.{Done, Problem}
use Rattle.proto_desc.specs.Whole.{IsSortedOf, WorkspaceFaults}
use Rattle.proto_store.specs.Stores.{Held}

-- the descriptors of the files as JSON, on a line, in the order of the paths
pub record IsCompiledText (files : List FileOf) (text : Text) : Type 0 where
  pub sorted : List FileOf
  pub reads : List ReadOf
  pub in_order : IsSortedOf files sorted
  pub are_read : AreRead sorted reads
  pub clean : HasNoFault (WorkspaceFaults files)
  pub text_is : text ≡ json_text (described sorted reads) ++ codes "\n"

-- the line of the least fault of the files
abbrev pub IsFaultText : List FileOf → Text → Type 0
IsFaultText files text =
    (fault : FaultAt) × IsLeastFault (WorkspaceFaults files) fault × IsLine files fault text

-- files that compile: their descriptors; others: the line of their least fault
abbrev pub PrintsCompiled : List FileOf → Text → Status → Type 0
PrintsCompiled files text Done = IsCompiledText files text
PrintsCompiled files text Problem = IsFaultText files text

-- these are the files of a store in the order of their paths, and they compile
abbrev pub Compiles : Option Held → List FileOf → Type 0
Compiles before files =
    Over before (λ held. IsSortedOf held.files files × HasNoFault (WorkspaceFaults held.files))

-- the answer is the line of the least fault of what a store holds, and a problem
abbrev pub TellsFault : Option Held → Answer → Type 0
TellsFault before answer =
    (status_of answer ≡ Problem) × Over before
    (λ held. IsFaultText held.files (printed_text answer))
