-- A deletion, an added and a dropped import that no case refuses are mapped steps.
use Rattle.std.proofs.Common.{◌≡◌, ℕ, ◌∙◌, List, refl, sym, Some}
use Rattle.std.proofs.lemmas.List.Elements.{Contains-get_or}
use Rattle.proto_files.proofs.Common.{FaultAt, HasNoFault, AreRead, ReadOf, AreWorkspaceFiles, FileOf, file_at, ReadFaults}
use Rattle.proto_names_imports.specs.Links.{LinkFaults}
use Rattle.proto_descriptors.specs.Descriptors.{FileDesc}
use Rattle.proto_desc.proofs.Common.{FileFaults, of_check, of_link, of_read, AreDescribed, CheckFaults}
use Rattle.proto_edit_entries.specs.Entries.{ChangeOf, IsEntry}
use Rattle.proto_edit_rename_laws.proofs.NoLinkFault.{read_files_are_clean}
use Rattle.proto_edit_rename_described.proofs.CleanFiles.{file_is_text}
use Rattle.proto_tree.specs.declared.tree.Import.{Import}
use Rattle.proto_edit_statement_laws.proofs.ChangesCommon.{FieldAt, changes_of_deletion, IsImportOf, changes_of_addition, changes_of_drop}
use Rattle.proto_edit_statement_described.specs.Workspaces.{AreFaultless, IsMade}
use Rattle.proto_edit_rules.specs.Statements.{IsPlaceOf}
use Rattle.proto_edit_statement_described.specs.Workspace.{IsAllowedDeletion}
use Rattle.proto_edit.specs.Common.{AreCompiled, StatementLaws, AreMapped, Asked, ChangesOf, IsAdmissible, IsMappedStep, add_import, delete_field, drop_import}
use Rattle.proto_edit_rules.specs.DeleteField.{IsFieldNamed, by_name, too_large}
use Rattle.proto_edit_rules.specs.AddImport.{by_name as import_by_name, too_large as import_too_large}
use Rattle.proto_files.specs.GivenFiles.{no_file}

-- ---- files that compile, and files without a fault

pub faultless_by : (files : List FileOf) (reads : List ReadOf) → AreCompiled files → AreRead files reads → AreFaultless files reads
faultless_by files reads compiled read = record {
  are = record {
    workspace = compiled.workspace;
    texts = λ k l. file_is_text files (λ x h. compiled.clean x (of_read x h)) (file_at files k) (Contains-get_or files k no_file l);
    read = read;
  };
  links = λ x h. compiled.clean x (of_link x h);
  checks = λ x h. compiled.clean x (of_check x h);
}

compiled_by : (files : List FileOf) → AreWorkspaceFiles files → HasNoFault (ReadFaults files) → HasNoFault (LinkFaults files) → HasNoFault (CheckFaults files) → AreCompiled files
compiled_by files workspace reading links checks = record { workspace = workspace; clean = clean }
  where
    clean : (x : FaultAt) → FileFaults files x → ⊥
    clean x (of_read y f) = reading x f
    clean x (of_link y f) = links x f
    clean x (of_check y f) = checks x f

compiled_so : (files : List FileOf) (reads : List ReadOf) → AreFaultless files reads → AreCompiled files
compiled_so files reads h = compiled_by files h.are.workspace (read_files_are_clean files reads h.are.read h.are.texts) h.links h.checks

-- what is made of an edit is its mapped step, where its descriptors are those of its map
step_of : (files : List FileOf) (reads : List ReadOf) (e : Asked) (cs : List ChangeOf) (place : ℕ) (map : FileDesc → FileDesc) (after : List FileOf) (seen : List ReadOf)
    → AreRead files reads → IsAdmissible files e → ChangesOf files reads e cs → (made : IsMade files cs place map after seen)
    → ((ds new : List FileDesc) → AreDescribed files ds → AreDescribed after new → AreMapped files e ds new) → IsMappedStep files e cs after
step_of files reads e cs place map after seen read admissible changes made mapped = record {
  step = record { admissible = admissible; changes = (reads, read, changes); put = made.put };
  compiled = compiled_so after seen made.faultless;
  described = mapped;
}

-- ---- the steps

module _ (laws : StatementLaws) (files : List FileOf) (reads : List ReadOf) (compiled : AreCompiled files) (read : AreRead files reads) where
  faultless : AreFaultless files reads
  faultless = faultless_by files reads compiled read

  pub allowed : (name : List ℕ) (f : FieldAt) → IsFieldNamed files reads name f → IsAdmissible files (delete_field name) → IsAllowedDeletion files reads name f
  allowed name f named admissible = record {
    are = faultless.are;
    link = faultless.links;
    checks = faultless.checks;
    target = named.t;
    field = named.field;
    token = named.token;
    stands = named.stands;
    admissible = λ n c. admissible n (reads, read, (by_name n c));
  }

  pub deletion_steps : (name : List ℕ) (f : FieldAt) → IsFieldNamed files reads name f → IsAdmissible files (delete_field name)
      → (after : List FileOf) × IsMappedStep files (delete_field name) (changes_of_deletion files reads f) after × IsEntry (changes_of_deletion files reads f)
  deletion_steps name f named admissible =
      let m = laws.deleted files reads name f (allowed name f named admissible) (λ long. admissible 16 (reads, read, (too_large f named long))) in
      let left = m.1.2 in (
        m.1.0,
        record {
          step = record { admissible = admissible; changes = (reads, read, (f, named, refl)); put = m.1.1 };
          compiled = compiled_by m.1.0 left.workspace left.reading left.link left.checks;
          described = λ ds new old later. (reads, read, (f, named, left.mapped ds new old later));
        },
        m.0,
      )

  pub addition_steps : (file path : List ℕ) (k : ℕ) → IsPlaceOf files file k → IsAdmissible files (add_import file path)
      → (after : List FileOf) × IsMappedStep files (add_import file path) (changes_of_addition files reads k path) after × IsEntry (changes_of_addition files reads k path)
  addition_steps file path k at admissible =
      let m = laws.added files reads file path k (record {
        faultless = faultless;
        at = at;
        free = λ n c. admissible n (reads, read, (import_by_name n c));
        short = λ long. admissible 16 (reads, read, (import_too_large k at long));
      }) in
      (m.0, step_of files reads (add_import file path) (changes_of_addition files reads k path) k _ m.0 m.1 read admissible (k, at, refl) m.2 (λ ds new old later. (reads, read, (k, at, m.2.described ds new old later))), m.2.entry)

  pub drop_steps : (file path : List ℕ) (k : ℕ) (i : Import) → IsPlaceOf files file k → IsImportOf files reads k path i → IsAdmissible files (drop_import file path)
      → (after : List FileOf) × IsMappedStep files (drop_import file path) (changes_of_drop files reads k i) after × IsEntry (changes_of_drop files reads k i)
  drop_steps file path k i at imports admissible =
      let m = laws.dropped files reads file path k i (record { faultless = faultless; at = at; imports = imports; free = λ n c. admissible n (reads, read, c) }) in
      (m.0, step_of files reads (drop_import file path) (changes_of_drop files reads k i) k _ m.0 m.1 read admissible (k, i, at, imports, refl) m.2 (λ ds new old later. (reads, read, (k, at, m.2.described ds new old later))), m.2.entry)

  -- ---- what is changed is there

  pub field_of : (name : List ℕ) → IsAdmissible files (delete_field name) → (f : FieldAt) × IsFieldNamed files reads name f
  field_of name admissible =
      let f = laws.fields files reads name faultless.are faultless.links faultless.checks (λ n c. admissible n (reads, read, (by_name n c))) in
      (f.0, record { t = f.1.target; field = f.1.field; token = f.1.token; stands = f.1.stands })

  pub file_of : (file path : List ℕ) → IsAdmissible files (add_import file path) → (k : ℕ) × IsPlaceOf files file k
  file_of file path admissible = laws.files files reads file path (λ n c. admissible n (reads, read, (import_by_name n c)))

  pub import_of : (file path : List ℕ) → IsAdmissible files (drop_import file path) → (k : ℕ) × (i : Import) × IsPlaceOf files file k × IsImportOf files reads k path i
  import_of file path admissible = laws.imports files reads file path read (λ n c. admissible n (reads, read, c))

-- ---- and is one

some_one : {X : Type 0} (a b : X) → Some a ≡ Some b → a ≡ b
some_one a b e = cc

pub place_is_one : (files : List FileOf) (file : List ℕ) (k l : ℕ) → IsPlaceOf files file k → IsPlaceOf files file l → k ≡ l
place_is_one files file k l a b = some_one k l (sym a ∙ b)
