-- Names that clash are the faults of names of files, and the least of them is that of their link.
use Rattle.std.proofs.Common.{◌≡◌, ℕ, ◌<◌, List, length, map, sym, subst}
use Rattle.proto_base.specs.declared.fault.FaultKind.TheVariants as kinds
use Rattle.proto_files.proofs.Common.{FileOf, AreWorkspaceFiles, AreRead, ReadOf, IsAtToken}
use Rattle.proto_names_rules.proofs.Common.{Fault, fault, IsLeast, NameFault, at}
use Rattle.proto_names_imports.proofs.Common.{IsLinkError, link_skeleton, names_in, text_of, name_found, least_name, link_error}
use Rattle.proto_names.specs.LinkOfFiles.{HasNoImportFault}
use Rattle.proto_names_table.proofs.Common.{tree_named, ClashFault, Named, clashes_are_faults}
use Rattle.proto_base.specs.declared.fault.SchemaFault.{SchemaFault}
use Rattle.proto_names_update.proofs.FilesDeclare.{spans}

module _ (files : List FileOf) (reads : List ReadOf) (are : AreRead files reads) (ds : List Named) (same : ds ≡ tree_named (text_of files reads) 0 (map names_in reads)) where
  abbrev Faults : Fault → Type 0
  Faults = NameFault (text_of files reads) (link_skeleton files reads).declared

  to_fault : (f : Fault) → ClashFault ds f → Faults f
  to_fault f c = (clashes_are_faults (text_of files reads) (map names_in reads) (spans files reads are) f).0 (subst (λ (xs : List Named). ClashFault xs f) same c)

  from_fault : (f : Fault) → Faults f → ClashFault ds f
  from_fault f n = subst (λ (xs : List Named). ClashFault xs f) (sym same) ((clashes_are_faults (text_of files reads) (map names_in reads) (spans files reads are) f).1 n)

  pub no_name_fault : ((f : Fault) → ClashFault ds f → ⊥) → (f : Fault) → Faults f → ⊥
  no_name_fault none f n = none f (from_fault f n)

  least_fault : (f : Fault) → IsLeast (ClashFault ds) f → IsLeast Faults f
  least_fault f least = record { holds = to_fault f least.holds; least = λ g n. least.least g (from_fault g n) }

  -- the file of a clash is there
  pub clash_within : (file token : ℕ) → IsLeast (ClashFault ds) (fault (at file token) 13) → file < length files
  clash_within file token least = (name_found files reads are (fault (at file token) 13) (to_fault (fault (at file token) 13) least.holds)).there.0

  pub clash_error : AreWorkspaceFiles files → HasNoImportFault files → (file token : ℕ) (e : SchemaFault) → IsLeast (ClashFault ds) (fault (at file token) 13) → IsAtToken files file token kinds.DuplicateName e → IsLinkError files e
  clash_error are_files no_import file token e least there =
      let f = fault (at file token) 13 in
      link_error files are_files reads are file token kinds.DuplicateName e (clash_within file token least) there (λ x. least_name files are_files reads are (no_import reads are) f x (least_fault f least))
