-- An accepted edit leaves options.
use Rattle.std.proofs.Common.{◌≡◌, ℕ, List, refl, subst}
use Rattle.proto_files.proofs.Common.{AreRead, FileOf, ReadOf, read_once}
use Rattle.proto_desc.proofs.Common.{AreDescribed}
use Rattle.proto_descriptors.specs.Descriptors.{FileDesc}
use Rattle.proto_edit_entries.proofs.Common.{ChangeOf, IsPut, puts_are_once}
use Rattle.proto_edit_rename_laws.proofs.Common.{AreReworded, IsNamed, Target, changes_of_words, files_are_reworded, renamed_words}
use Rattle.proto_edit_rename_described.proofs.Allowed.{words_suit}
use Rattle.proto_edit_rules.specs.AddImport.{by_name as import_by_name, too_large as import_too_large}
use Rattle.proto_edit_rules.specs.DeleteField.{too_large}
use Rattle.proto_edit_rules.specs.OptionViews.{OptionsStay}
use Rattle.proto_edit_statement_laws.proofs.ChangesCommon.{changes_of_addition, changes_of_deletion, changes_of_drop}
use Rattle.proto_names_rules.specs.Names.{Name}
use Rattle.proto_edit.specs.Common.{AreChanges, AreCompiled, Asked, IsMappedStep, StatementLaws, add_import, delete_field, drop_import, rename}
use Rattle.proto_edit.specs.Laws.{MapsNames, StepsLeaveOptions}
use Rattle.proto_edit.specs.OptionLaws.{OptionLaws}
use Rattle.proto_edit.proofs.MappedSteps.{allowed_by, renames_are_steps}
use Rattle.proto_edit.proofs.OneAnswer.{changes_once}
use Rattle.proto_edit.proofs.StatementSteps.{allowed, faultless_by, field_of, file_of, import_of}

module _ (laws : StatementLaws) (w after : List FileOf) (reads later : List ReadOf) (cs : List ChangeOf) (compiled : AreCompiled w) (read : AreRead w reads) (seen : AreRead after later) where
  -- the files after it are those with its changes
  put_of : (e : Asked) (ds : List ChangeOf) → IsMappedStep w e cs after → AreChanges w e ds → IsPut w ds after
  put_of e ds m changes = subst (λ (z : List ChangeOf). IsPut w z after) (changes_once laws w e cs ds compiled m.step.changes changes) m.step.put

  -- the files after a rename have its new words
  reworded_by : (name to : List ℕ) (t : Target) → IsNamed w reads name t → IsMappedStep w (rename name to) cs after → AreReworded (renamed_words w reads t to) w reads after later
  reworded_by name to t named m =
      let admissible = m.step.admissible in
      let made = files_are_reworded (renamed_words w reads t to) w reads read (words_suit w reads name to t (allowed_by w reads name to t compiled read named admissible)) in
      let step = renames_are_steps w reads name to t made.0 made.1 compiled read named admissible made.2 in
      let ds = changes_of_words (renamed_words w reads t to) w reads in
      let one : made.0 ≡ after = puts_are_once w made.0 after ds step.0.step.put (put_of (rename name to) ds m (reads, read, (t, named, refl))) in
      let there : AreReworded (renamed_words w reads t to) w reads after made.1 = subst (λ (z : List FileOf). AreReworded (renamed_words w reads t to) w reads z made.1) one made.2 in
      subst (λ (z : List ReadOf). AreReworded (renamed_words w reads t to) w reads after z) (read_once after made.1 later there.read seen) there

  options_stay : OptionLaws → (e : Asked) (ds new : List FileDesc) (f : Name → Name) → IsMappedStep w e cs after → AreDescribed w ds → AreDescribed after new → MapsNames w reads e f → OptionsStay f w after reads later ds new
  options_stay options (rename name to) ds new f m old now maps =
      options.renames w reads name to maps.0 after later (allowed_by w reads name to maps.0 compiled read maps.1 m.step.admissible) (reworded_by name to maps.0 maps.1 m) ds new old now f maps.2
  options_stay options (delete_field name) ds new f m old now maps =
      let there = field_of laws w reads compiled read name m.step.admissible in
      let put = put_of (delete_field name) (changes_of_deletion w reads there.0) m (reads, read, (there.0, there.1, refl)) in
      options.deletions w reads name there.0 after later (allowed laws w reads compiled read name there.0 there.1 m.step.admissible) (λ long. m.step.admissible 16 (reads, read, too_large there.0 there.1 long))
      put seen ds new old now f maps
  options_stay options (add_import file path) ds new f m old now maps =
      let there = file_of laws w reads compiled read file path m.step.admissible in
      let put = put_of (add_import file path) (changes_of_addition w reads there.0 path) m (reads, read, (there.0, there.1, refl)) in
      options.additions w reads file path there.0 after later
      (record {
        faultless = faultless_by w reads compiled read;
        at = there.1;
        free = λ n c. m.step.admissible n (reads, read, import_by_name n c);
        short = λ long. m.step.admissible 16 (reads, read, import_too_large there.0 there.1 long);
      })
      put seen ds new old now f maps
  options_stay options (drop_import file path) ds new f m old now maps =
      let there = import_of laws w reads compiled read file path m.step.admissible in
      let put = put_of (drop_import file path) (changes_of_drop w reads there.0 there.1) m (reads, read, (there.0, there.1, there.2, there.3, refl)) in
      options.drops w reads file path there.0 there.1 after later
      (record { faultless = faultless_by w reads compiled read; at = there.2; imports = there.3; free = λ n c. m.step.admissible n (reads, read, c) })
      put seen ds new old now f maps

-- an accepted edit leaves options
pub steps_leave_options : StatementLaws → OptionLaws → StepsLeaveOptions
steps_leave_options laws options w after e cs reads later ds new f compiled m read seen old now maps =
    options_stay laws w after reads later cs compiled read seen options e ds new f m old now maps
