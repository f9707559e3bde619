-- Files without faults, once some are edited, have none if their imports, names and the references of marked files have none (for the crates above).
use Rattle.std.proofs.Common.{◌≡◌, ℕ, Bool, true, false, List, [], map, refl, subst, arith, get_or, Contains, AllPairs}
use Rattle.proto_base.proofs.Common.{kind_number}
use Rattle.proto_base.specs.declared.fault.FaultKind.{FaultKind}
use Rattle.proto_base.specs.declared.fault.FaultKind.TheVariants as kind
use Rattle.proto_case.specs.Camel.{entry_name}
use Rattle.proto_text.specs.Texts.{offset_at}
use Rattle.proto_files.proofs.Common.{AreRead, FaultAt, FileOf, HasNoFault, ReadOf, file_at, paths_of, read_at, read_once}
use Rattle.proto_names_rules.proofs.Common.{AreApart, At, Fault, ImportFault, IsLinked, IsNested, NameFault, Reference, ReferenceFault, Skeleton, cycle, double, earlier, files_nested, linked_from, of_entry, of_package, references_sound, unknown, unresolved, wrong_kind}
use Rattle.proto_names_imports.proofs.Common.{LinkFaults, FaultStandsAt, all_wanted, link_imports, link_skeleton, names_in, names_of_files, of_import, of_name, of_reference, text_of}
use Rattle.proto_names_rules.proofs.Marked.{unmarked_mean_the_same, marked_decide}
use Rattle.proto_names_rules.specs.Kept.{IsFlawless}
use Rattle.proto_names_update.proofs.Differing.{edited_files_differ}
use Rattle.proto_names_update.proofs.OwnScopes.{scopes_are_own}
use Rattle.proto_names_update.specs.Edited.{AreEdited}
use Rattle.proto_names_update.specs.Relinked.{NoImportIsFaulty, NoNameClashes, HasToLook, UnmarkedFilesMeanTheSame, RelinkedAreClean}

pub nested : (files : List FileOf) (reads : List ReadOf) → IsNested (names_of_files files reads).symbols
nested files reads = files_nested (text_of files reads) entry_name (link_imports files reads) (map names_in reads)

-- ---- files without faults are linked

module _ (files : List FileOf) (reads : List ReadOf) (r : AreRead files reads) (clean : HasNoFault (LinkFaults files)) where
  standing : Fault → FaultKind → FaultAt
  standing f k = record { path = (file_at files f.place.file).path; offset = offset_at (read_at reads f.place.file).tokens f.place.token; kind = k }

  stands : (f : Fault) (k : FaultKind) → kind_number k ≡ f.number → FaultStandsAt files reads f (standing f k)
  unfolding standing
  stands f k e = record { path = refl; offset = refl; number = e }

  pub no_import : NoImportIsFaulty files reads
  no_import f (unknown a c none) = clean (standing f kind.UnknownImport) (of_import reads f (standing f kind.UnknownImport) r (stands f kind.UnknownImport refl) (unknown a c none))
  no_import f (double a after) = clean (standing f kind.DoubleImport) (of_import reads f (standing f kind.DoubleImport) r (stands f kind.DoubleImport refl) (double a after))
  no_import f (cycle a to c named leads) = clean (standing f kind.ImportCycle) (of_import reads f (standing f kind.ImportCycle) r (stands f kind.ImportCycle refl) (cycle a to c named leads))

  pub no_name : NoNameClashes files reads
  no_name f (earlier d h other) = clean (standing f kind.DuplicateName) (of_name reads f (standing f kind.DuplicateName) r (stands f kind.DuplicateName refl) (earlier d h other))
  no_name f (of_package d e cd ce other p same) = clean (standing f kind.DuplicateName) (of_name reads f (standing f kind.DuplicateName) r (stands f kind.DuplicateName refl) (of_package d e cd ce other p same))

  pub no_reference : (f : Fault) → ReferenceFault (text_of files reads) (link_skeleton files reads) f → ⊥
  no_reference f (unresolved u cu h) = clean (standing f kind.Unresolved) (of_reference reads f (standing f kind.Unresolved) r (stands f kind.Unresolved refl) (unresolved u cu h))
  no_reference f (wrong_kind u s cu cs h m e) = clean (standing f kind.WrongKind) (of_reference reads f (standing f kind.WrongKind) r (stands f kind.WrongKind refl) (wrong_kind u s cu cs h m e))
  no_reference f (of_entry u s cu cs h e) = clean (standing f kind.MapEntryRef) (of_reference reads f (standing f kind.MapEntryRef) r (stands f kind.MapEntryRef refl) (of_entry u s cu cs h e))

  pub linked : IsLinked (names_of_files files reads)
  linked = linked_from (text_of files reads) (link_skeleton files reads) (nested files reads) no_name no_reference

-- ---- names that do not clash are apart

-- the same declarations without references
abbrev unused : Skeleton At → Skeleton At
unused k = record { files = k.files; declared = k.declared; imports = k.imports; used = [] }

nothing_used : (text : At → List ℕ) (k : Skeleton At) (f : Fault) → ReferenceFault text (unused k) f → ⊥
nothing_used text k f (unresolved u cu h) = omega (arith, cu.1)
nothing_used text k f (wrong_kind u s cu cs h m e) = omega (arith, cu.1)
nothing_used text k f (of_entry u s cu cs h e) = omega (arith, cu.1)

pub names_apart : (files : List FileOf) (reads : List ReadOf) → NoNameClashes files reads → AllPairs AreApart (names_of_files files reads).symbols
names_apart files reads names =
    let k = link_skeleton files reads in
    (linked_from (text_of files reads) (unused k) (nested files reads) names (nothing_used (text_of files reads) k)).unique

-- ---- edited files

pub unmarked_files_mean_the_same : UnmarkedFilesMeanTheSame
unmarked_files_mean_the_same key places before was files reads marks is clean marked r c left =
    unmarked_mean_the_same key places (names_of_files before was) (names_of_files files reads) marks
    (linked before was is.were_read clean) (nested files reads) (scopes_are_own files reads is.are_read) (edited_files_differ places before was files reads is) marked r c left

module _ (key : List ℕ → ℕ) (places : List ℕ) (before : List FileOf) (was : List ReadOf) (files : List FileOf) (reads : List ReadOf) (marks : List Bool) (is : AreEdited places before was files reads) (clean : HasNoFault (LinkFaults before)) (marked : HasToLook key places before was files reads marks)
    (imports : NoImportIsFaulty files reads) (names : NoNameClashes files reads) (again : (r : Reference) → Contains (names_of_files files reads).references r → get_or marks r.file false ≡ true → IsFlawless (names_of_files files reads) r) where
  linked_now : IsLinked (names_of_files files reads)
  linked_now = marked_decide key places (names_of_files before was) (names_of_files files reads) marks
      (linked before was is.were_read clean) (nested files reads) (scopes_are_own files reads is.are_read) (names_apart files reads names) (edited_files_differ places before was files reads is) marked again

  no_fault : HasNoFault (LinkFaults files)
  no_fault x (of_import others f y are stand h) =
      imports f (subst (λ (rs : List ReadOf). ImportFault (paths_of files) (all_wanted (text_of files rs) 0 rs) f) (read_once files others reads are is.are_read) h)
  no_fault x (of_name others f y are stand h) =
      names f (subst (λ (rs : List ReadOf). NameFault (text_of files rs) (link_skeleton files rs).declared f) (read_once files others reads are is.are_read) h)
  no_fault x (of_reference others f y are stand h) =
      references_sound (text_of files reads) (link_skeleton files reads) linked_now f (subst (λ (rs : List ReadOf). ReferenceFault (text_of files rs) (link_skeleton files rs) f) (read_once files others reads are is.are_read) h)

pub relinked_are_clean : RelinkedAreClean
relinked_are_clean key places before was files reads marks is clean marked imports names again = no_fault key places before was files reads marks is clean marked imports names again
