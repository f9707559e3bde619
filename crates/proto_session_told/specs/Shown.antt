-- What is shown of files: all faults of the first phase that has one, else what lint rules find.
use Rattle.std.specs.Prelude.{◌≡◌, ◌≢◌, ◌⊎◌, ℕ, ◌+◌, ◌||◌, ◌&&◌, ◌==◌, Bool, true, false, nat_eq, List, [], ◌∷◌, ◌++◌, codes, decimal, drop, map, if◌then◌else◌, string_bytes}
use Rattle.std.specs.List.{prefix_len, starts_with}
use Rattle.std.specs.Str.{bytes_eq}
use Rattle.proto_base.specs.Ascii as ascii
use Rattle.proto_base.specs.FaultTable.{kind_name, kind_number}
use Rattle.proto_base.specs.GivenFiles.{FileOf}
use Rattle.proto_base.specs.Texts.{Path, Text}
use Rattle.proto_base.specs.declared.fault.FaultKind.TheVariants.{UnknownImport}
use Rattle.proto_files.specs.Faults.{FaultAt, HasNoFault}
use Rattle.proto_files.specs.FilesRead.{AreRead, ReadOf}
use Rattle.proto_files.specs.WorkspacePaths.{is_between}
use Rattle.proto_desc.specs.Whole.{IsSortedOf, WorkspaceFaults}
use Rattle.proto_all_faults.specs.Laws.{AreAllFaults}
use Rattle.proto_lint.specs.Findings.{findings}
use Rattle.proto_lint_names.specs.Listings.{FindingOf, IsListingOf}
use Rattle.proto_lint_rules.specs.Rules.{identifier, is_chosen}
use Rattle.proto_lint_rules.specs.declared.rule.Rule.{Rule}
use Rattle.proto_messages.specs.declared.position.Range.{Range as SentRange}
use Rattle.proto_messages.specs.declared.results.Diagnostic.{Diagnostic}
use Rattle.proto_messages.specs.declared.results.Severity.{Severity}
use Rattle.proto_messages.specs.declared.results.Severity.TheVariants.{Error, Warning}
use Rattle.proto_positions.specs.declared.encoding.Encoding.{Encoding}
use Rattle.proto_session_files.specs.Places.{position_in, sent_position}
use Rattle.proto_session_told.specs.declared.shown.Shown.{Shown}

-- what is shown at an offset of the file at a path: how grave it is, what it is called, what a user
-- reads, and whether an import of a path that is not there stands at the offset
pub record ShownOf : Type 0 where
  pub path : Path
  pub offset : ℕ
  pub severity : Severity
  pub code : Text
  pub message : Text
  pub is_unknown_import : Bool

-- what the record of the code says
abbrev pub shown_of : Shown → ShownOf
shown_of s = record {
  path = string_bytes s.path;
  offset = s.offset;
  severity = s.severity;
  code = string_bytes s.code;
  message = string_bytes s.message;
  is_unknown_import = s.is_unknown_import;
}

-- a fault, as `NUMBER NAME`
abbrev pub shown_fault : FaultAt → ShownOf
shown_fault x = record {
  path = x.path;
  offset = x.offset;
  severity = Error;
  code = kind_name x.kind;
  message = decimal (kind_number x.kind) ++ (codes " " ++ kind_name x.kind);
  is_unknown_import = kind_number x.kind == kind_number UnknownImport;
}

-- a finding, as `RULE name`
abbrev pub shown_finding : FindingOf → ShownOf
shown_finding f = record {
  path = f.path;
  offset = f.offset;
  severity = Warning;
  code = identifier f.rule;
  message = identifier f.rule ++ (codes " " ++ f.name);
  is_unknown_import = false;
}

-- files that have a fault: all of the first phase that has one are shown
pub record ShowsFaults (files : List FileOf) (shown : List ShownOf) : Type 0 where
  pub listed : List FaultAt
  pub are_all : AreAllFaults files listed
  pub is_some : listed ≢ []
  pub shown_is : shown ≡ map shown_fault listed

-- what all lint rules find in files in the order of their paths is shown
pub record AreFindingsShown (files : List FileOf) (shown : List ShownOf) : Type 0 where
  pub reads : List ReadOf
  pub are_read : AreRead files reads
  pub rules : List Bool
  pub are_all : (rule : Rule) → is_chosen rules rule ≡ true
  pub listed : List FindingOf
  pub is_listing : IsListingOf (findings rules files reads) listed
  pub shown_is : shown ≡ map shown_finding listed

-- files that compile: what all lint rules find is shown
pub record ShowsFindings (files : List FileOf) (shown : List ShownOf) : Type 0 where
  pub sorted : List FileOf
  pub is_sorted : IsSortedOf files sorted
  pub clean : HasNoFault (WorkspaceFaults files)
  pub findings_are : AreFindingsShown sorted shown

-- what is shown of files
abbrev pub IsShown : List FileOf → List ShownOf → Type 0
IsShown files shown = ShowsFaults files shown ⊎ ShowsFindings files shown

-- ---- as the client counts

-- an ASCII letter, a digit or `_`
abbrev pub is_of_word : ℕ → Bool
is_of_word b =
    is_between ascii.upper_a ascii.upper_z b || is_between ascii.lower_a ascii.lower_z b
    || is_between ascii.zero ascii.nine b || b == ascii.underscore

-- the end of the word that begins at an offset; the offset, where none does
abbrev pub word_end : Text → ℕ → ℕ
word_end text offset = offset + prefix_len is_of_word (drop offset text)

-- the range of the word that begins at an offset of a text; of no length, where none does
abbrev pub word_range : Encoding → Text → ℕ → SentRange
word_range e text offset = record {
  start = sent_position (position_in e text offset);
  end = sent_position (position_in e text (word_end text offset));
}

-- whether the string that begins at an offset of a text names a path below `google/protobuf/`
abbrev pub is_of_google : Text → ℕ → Bool
is_of_google text offset = starts_with nat_eq (drop (offset + 1) text) (codes "google/protobuf/")

-- what is said besides where a file of google/protobuf is imported and not there
abbrev pub google_advice : Text
google_advice = codes ". The files of google/protobuf are not bundled, and have to lie below ROOT."

-- what a user reads at an offset of a text: with that, where such an import stands there
abbrev pub message_in : Text → ShownOf → Text
message_in text s =
    if s.is_unknown_import && is_of_google text s.offset then s.message ++ google_advice
    else s.message

-- a diagnostic, its texts as bytes
pub record DiagnosticOf : Type 0 where
  pub range : SentRange
  pub severity : Severity
  pub code : Text
  pub message : Text

-- what the record of a message says
abbrev pub diagnostic_of : Diagnostic → DiagnosticOf
diagnostic_of d = record {
  range = d.range;
  severity = d.severity;
  code = string_bytes d.code;
  message = string_bytes d.message;
}

-- what is shown at an offset of a text, as a diagnostic
abbrev pub diagnostic_in : Encoding → Text → ShownOf → DiagnosticOf
diagnostic_in e text s = record {
  range = word_range e text s.offset;
  severity = s.severity;
  code = s.code;
  message = message_in text s;
}

-- ---- by file

-- one more thing that is shown before others, of which each list is of one path
abbrev pub onto_runs : ShownOf → List (List ShownOf) → List (List ShownOf)
onto_runs x [] = (x ∷ []) ∷ []
onto_runs x ([] ∷ rs) = (x ∷ []) ∷ rs
onto_runs x ((y ∷ ys) ∷ rs) =
    if bytes_eq y.path x.path then (x ∷ y ∷ ys) ∷ rs else (x ∷ []) ∷ (y ∷ ys) ∷ rs

-- what is shown, in lists of one path each: faults and findings of a path stand together
abbrev pub runs : List ShownOf → List (List ShownOf)
runs [] = []
runs (x ∷ xs) = onto_runs x (runs xs)
