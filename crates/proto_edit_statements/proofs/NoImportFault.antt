-- Linked files have no fault of an import.
use Rattle.std.proofs.Common.{ℕ, List, refl, ap, ◌∙◌}
use Rattle.proto_base.specs.declared.fault.FaultKind.{FaultKind}
use Rattle.proto_base.specs.declared.fault.FaultKind.TheVariants as kind
use Rattle.proto_files.proofs.Common.{FaultAt, HasNoFault, ReadOf, AreRead, read_at, FileOf, file_at, paths_of}
use Rattle.proto_text.specs.Texts.{offset_at}
use Rattle.proto_names_rules.specs.Faults.{Fault, ImportFault, cycle, double, fault, file_with_path, unknown}
use Rattle.proto_names_imports.specs.Links.{LinkFaults, all_wanted, of_import, text_of}
use Rattle.proto_edit_rules.specs.AddImport.{IsImported}
use Rattle.proto_edit_rules.specs.Statements.{IsNoFile}

module _ (files : List FileOf) (reads : List ReadOf) (are : AreRead files reads) (clean : HasNoFault (LinkFaults files)) where
  abbrev standing : Fault → FaultKind → FaultAt
  standing f k = record { path = (file_at files f.place.file).path; offset = offset_at (read_at reads f.place.file).tokens f.place.token; kind = k }

  no_import : (f : Fault) → ImportFault (paths_of files) (all_wanted (text_of files reads) 0 reads) f → ⊥
  no_import f (unknown a ca h) = clean (standing f kind.UnknownImport) (of_import reads f (standing f kind.UnknownImport) are (record { path = refl; offset = refl; number = refl }) (unknown a ca h))
  no_import f (double a h) = clean (standing f kind.DoubleImport) (of_import reads f (standing f kind.DoubleImport) are (record { path = refl; offset = refl; number = refl }) (double a h))
  no_import f (cycle a to ca h l) = clean (standing f kind.ImportCycle) (of_import reads f (standing f kind.ImportCycle) are (record { path = refl; offset = refl; number = refl }) (cycle a to ca h l))

  -- so each path that is imported is that of a file
  pub none_missing : (k : ℕ) (path : List ℕ) → IsImported files reads k path → IsNoFile files path → ⊥
  none_missing k path x none = no_import (fault x.0.place 10) (unknown x.0 x.1 (ap (file_with_path (paths_of files)) x.3 ∙ none))
