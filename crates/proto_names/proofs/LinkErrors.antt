-- The errors of the imports and of the references are the least fault of the files; and what references are read by.
use Rattle.std.proofs.Common.{◌≡◌, ℕ, ◌<◌, Bool, List, [], length, get_or, Result, Ok, Err, sym, subst, IfErr, IsErrAnd}
use Rattle.proto_base.proofs.Common.{Vec, kind_number as number_of_kind}
use Rattle.proto_base.specs.declared.fault.FaultKind.{FaultKind}
use Rattle.proto_files.proofs.Common.{FileOf, paths_of, AreWorkspaceFiles, ReadOf, AreRead, IsAtToken}
use Rattle.proto_names_rules.proofs.Common.{Fault, fault, AskedImport, IsLeast, ImportFault, ReferenceFault, at, MarksSeen}
use Rattle.proto_names.specs.Common.{AreLinked, flaw_number, AreNamesOf, HasNoImportFault, HasNoNameFault, BadReference}
use Rattle.proto_names.specs.Sight.{IsSightOf}
use Rattle.proto_names_imports.proofs.Common.{fault_of, import_flaw_number, IsLinkError, FaultStandsAt, all_wanted, link_skeleton, names_of_files, text_of, import_found, reference_found, least_import, least_reference, link_error}
use Rattle.proto_names_imports.specs.declared.import.BadImport.{BadImport}
use Rattle.proto_base.specs.declared.fault.SchemaFault.{SchemaFault}
use Rattle.proto_names_table.specs.declared.table.Table.{Table}

module _ (files : List FileOf) (reads : List ReadOf) (are_read : AreRead files reads) where
  abbrev Imports : Fault → Type 0
  Imports = ImportFault (paths_of files) (all_wanted (text_of files reads) 0 reads)

  abbrev References : Fault → Type 0
  References = ReferenceFault (text_of files reads) (link_skeleton files reads)

  -- the least fault of the imports as they were written is that of the imports as they are read
  pub least_as_read : (paths : List (List ℕ)) (asked : List AskedImport) (f : Fault)
      → paths ≡ paths_of files → asked ≡ all_wanted (text_of files reads) 0 reads → IsLeast (ImportFault paths asked) f → IsLeast Imports f
  least_as_read paths asked f same_paths same_asked least =
      subst (λ (ps : List (List ℕ)). IsLeast (ImportFault ps (all_wanted (text_of files reads) 0 reads)) f) same_paths
      (subst (λ (xs : List AskedImport). IsLeast (ImportFault paths xs) f) same_asked least)

  pub import_file : (b : BadImport) → IsLeast Imports (fault_of b) → b.file < length files
  import_file b least = (import_found files reads are_read (fault_of b) least.holds).there.0

  pub import_error : AreWorkspaceFiles files → (b : BadImport) (kind : FaultKind) (e : SchemaFault) → IsLeast Imports (fault_of b)
      → number_of_kind kind ≡ import_flaw_number b.flaw → IsAtToken files b.file b.token kind e → IsLinkError files e
  import_error are_files b kind e least n h =
      link_error files are_files reads are_read b.file b.token kind e (import_file b least) h
      (λ x s. least_import files are_files reads are_read (fault_of b) x least (subst (λ (k : ℕ). FaultStandsAt files reads (fault (at b.file b.token) k) x) n s))

  abbrev flawed_at : BadReference → Fault
  flawed_at b = fault (at b.file b.token) (flaw_number b.flaw)

  pub reference_file : (b : BadReference) → IsLeast References (flawed_at b) → b.file < length files
  reference_file b least = (reference_found files reads are_read (flawed_at b) least.holds).there.0

  pub reference_error : AreWorkspaceFiles files → HasNoImportFault files → HasNoNameFault files → (b : BadReference) (kind : FaultKind) (e : SchemaFault)
      → IsLeast References (flawed_at b) → number_of_kind kind ≡ flaw_number b.flaw → IsAtToken files b.file b.token kind e → IsLinkError files e
  reference_error are_files no_import no_name b kind e least n h =
      link_error files are_files reads are_read b.file b.token kind e (reference_file b least) h
      (λ x s. least_reference files are_files reads are_read (no_import reads are_read) (no_name reads are_read) (flawed_at b) x least
      (subst (λ (k : ℕ). FaultStandsAt files reads (fault (at b.file b.token) k) x) n s))

-- what the table, the marks and the rows are says that the references can be read by them
are_linked : (files : List FileOf) (reads : List ReadOf) (t : Table) (seen : List (List Bool)) (rows : List (Vec ℕ))
    → ((k : ℕ) → k < length files → MarksSeen (names_of_files files reads) k (get_or seen k [])) → AreNamesOf files reads t rows → AreLinked t seen rows files reads
are_linked files reads t seen rows marks names k l = record {
  index = names.index;
  marks = marks k l;
  paired = names.counts k l;
  plain = names.plain k l;
  named = λ j m. names.named k j l m;
}

-- so it is with the marks of what files see, where they were handed on
pub linked_by_sight : (files : List FileOf) (reads : List ReadOf) (t : Table) (seen given : List (List Bool)) (rows : List (Vec ℕ)) → given ≡ seen → IsSightOf files reads seen → AreNamesOf files reads t rows → AreLinked t given rows files reads
linked_by_sight files reads t seen given rows e sight names =
    are_linked files reads t given rows (subst (λ (vs : List (List Bool)). (k : ℕ) → k < length files → MarksSeen (names_of_files files reads) k (get_or vs k [])) (sym e) sight.marks) names

-- what holds of the error that is known holds of whatever error there is
pub error_is : {T E : Type 0} (r : Result T E) (Q : E → Type 0) (e : E) → IsErrAnd r (λ x. x ≡ e) → Q e → IfErr r Q
error_is (Ok x) Q e h q = tt
error_is (Err y) Q e h q = subst Q (sym h) q
