-- What lint prints (the choice of this program).
use Rattle.std.specs.Prelude.{◌≡◌, Bool, List, [], ◌∷◌, flat_map}
use Rattle.proto_base.specs.Texts.{Text}
use Rattle.proto_files.specs.GivenFiles.{FileOf}
use Rattle.proto_files.specs.Faults.{FaultAt, HasNoFault, IsLeastFault}
use Rattle.proto_lint_names.specs.Listings.{FindingOf, IsListingOf}
use Rattle.proto_lint.specs.Findings.{findings}
use Rattle.proto_files.specs.FilesRead.{ReadOf, AreRead}
use Rattle.protoref_output.specs.FaultLines.{IsLine}
use Rattle.protoref_output.specs.FoundLines.{found_line}
use Rattle.proto_desc.specs.Whole.{IsSortedOf, WorkspaceFaults}
use Rattle.protoref_output.specs.declared.status.Status.{Status}
use Rattle.protoref_output.specs.declared.status.Status.TheVariants.{Done, Problem}

-- something found is a problem
abbrev pub status_over : List FindingOf → Status
status_over [] = Done
status_over (f ∷ fs) = Problem

-- over files in the order of their paths: the lines of the
-- listing of what the rules find, and whether there is one
pub record IsLintOf (files : List FileOf) (rules : List Bool) (text : Text) (status : Status)
    : Type 0 where
  pub reads : List ReadOf
  pub listed : List FindingOf
  pub are_read : AreRead files reads
  pub is_listing : IsListingOf (findings rules files reads) listed
  pub text_is : text ≡ flat_map (found_line files) listed
  pub status_is : status ≡ status_over listed

-- files that compile: what lint says of them; others: the line of their least fault, and a problem
pub data PrintsLinted (files : List FileOf) (rules : List Bool) (text : Text) (status : Status)
    : Type 0 where
  of_findings : (sorted : List FileOf) → IsSortedOf files sorted
      → HasNoFault (WorkspaceFaults files) → IsLintOf sorted rules text status
      → PrintsLinted files rules text status
  of_fault : (fault : FaultAt) → IsLeastFault (WorkspaceFaults files) fault
      → IsLine files fault text → status ≡ Problem → PrintsLinted files rules text status
