-- A rename that no case refuses is a mapped step.
use Rattle.std.proofs.Common.{◌≢◌, ℕ, ◌<◌, List, length, slice_index_or, refl, subst, inl, AllPairs}
use Rattle.std.proofs.lemmas.List.Elements.{Contains-get_or}
use Rattle.proto_files.proofs.Common.{FaultAt, ReadOf, AreRead, read_at, FileOf, file_at, IsText, IsBefore, never_before_itself}
use Rattle.proto_desc.specs.Whole.{FileFaults, of_read, of_link, of_check}
use Rattle.proto_edit_entries.proofs.Common.{IsEntry, IsPut, puts_keep_paths}
use Rattle.proto_edit_rename_laws.proofs.Common.{RenameCase, changes_of_words, AreReworded, Target, IsNamed, renamed_words, tokens_are_inside, read_files_are_clean, files_are_reworded, targets_are_there}
use Rattle.proto_edit_rename_laws.specs.ChangesEntry.{IsPutIn}
use Rattle.proto_edit_rename_laws.proofs.ChangesEntry.{changes_are_entry, texts_after}
use Rattle.proto_edit_rename_laws.proofs.ChangesPut.{changes_are_put}
use Rattle.proto_edit_rename_described.proofs.CleanFiles.{file_is_text}
use Rattle.proto_edit_rename_described.specs.Allowed.{IsAllowedRename}
use Rattle.proto_edit_rename_described.proofs.Allowed.{words_suit}
use Rattle.proto_edit_rename_described.proofs.DefaultsFit.{renames_leave_no_fault}
use Rattle.proto_edit_rename_described.proofs.FilesTurn.{renames_are_mapped}
use Rattle.proto_edit.specs.Common.{AreCompiled, IsAdmissible, IsMappedStep, rename}
use Rattle.proto_edit.specs.MappedSteps.{AdmissibleRenamesStep, RenamesAreSteps}
use Rattle.proto_edit.proofs.GivenAgain.{compiled_are_read}
use Rattle.proto_files.specs.GivenFiles.{no_file}

-- ---- the step

pub allowed_by : (files : List FileOf) (reads : List ReadOf) (name to : List ℕ) (t : Target) → AreCompiled files → AreRead files reads → IsNamed files reads name t → IsAdmissible files (rename name to) → IsAllowedRename files reads name to t
allowed_by files reads name to t compiled read named admissible = record {
  read = read;
  link = λ x h. compiled.clean x (of_link x h);
  checks = λ x h. compiled.clean x (of_check x h);
  named = named;
  admissible = λ n c. admissible n (reads, read, c);
}

module _ (files : List FileOf) (reads : List ReadOf) (name to : List ℕ) (t : Target) (after : List FileOf) (seen : List ReadOf) (compiled : AreCompiled files) (read : AreRead files reads)
    (named : IsNamed files reads name t) (admissible : IsAdmissible files (rename name to)) (w : AreReworded (renamed_words files reads t to) files reads after seen) where
  no_case : (n : ℕ) → RenameCase files reads name to n → ⊥
  no_case n c = admissible n (reads, read, c)

  allowed : IsAllowedRename files reads name to t
  allowed = allowed_by files reads name to t compiled read named admissible

  texts : (k : ℕ) → k < length files → IsText (file_at files k).bytes
  texts k l = file_is_text files (λ x h. compiled.clean x (of_read x h)) (file_at files k) (Contains-get_or files k no_file l)

  put_in : IsPutIn files reads name to t after seen
  put_in = record { texts = texts; read = read; named = named; admissible = no_case; reworded = w }

  apart : AllPairs (λ f g. f.path ≢ g.path) files
  apart i j d a b e = never_before_itself (slice_index_or files j d).path (subst (λ p. IsBefore p (slice_index_or files j d).path) e (compiled.workspace.ordered i j d a b))

  put : IsPut files (changes_of_words (renamed_words files reads t to) files reads) after
  put = changes_are_put (renamed_words files reads t to) files reads after seen read w apart

  no_fault : (x : FaultAt) → FileFaults after x → ⊥
  no_fault x (of_read y h) = read_files_are_clean after seen w.read (texts_after files reads name to t after seen put_in) x h
  no_fault x (of_link y h) = (renames_leave_no_fault files reads name to t after seen allowed w).0 x h
  no_fault x (of_check y h) = (renames_leave_no_fault files reads name to t after seen allowed w).1 x h

  inside : (t.token.file < length files) × (t.token.token < length (read_at reads t.token.file).tokens)
  inside = tokens_are_inside files reads read t.token (inl (t.aim, named.within, (t.above, inl named.path)))

  entry : IsEntry (changes_of_words (renamed_words files reads t to) files reads)
  entry = changes_are_entry files reads name to t after seen compiled.workspace put_in inside.0 inside.1

  mapped_step : IsMappedStep files (rename name to) (changes_of_words (renamed_words files reads t to) files reads) after
  mapped_step = record {
    step = record { admissible = admissible; changes = (reads, read, (t, named, refl)); put = put };
    compiled = record { workspace = puts_keep_paths files after (changes_of_words (renamed_words files reads t to) files reads) compiled.workspace put; clean = no_fault };
    described = λ ds new old later. (reads, read, (t, named, renames_are_mapped files reads name to t after seen allowed w ds new old later));
  }

pub renames_are_steps : RenamesAreSteps
renames_are_steps files reads name to t after seen compiled read named admissible w = (
  mapped_step files reads name to t after seen compiled read named admissible w,
  entry files reads name to t after seen compiled read named admissible w,
)

-- the new words can be put into the files
pub words_are_put : (files : List FileOf) (reads : List ReadOf) (name to : List ℕ) (t : Target) → AreCompiled files → AreRead files reads → IsNamed files reads name t → IsAdmissible files (rename name to)
    → (after : List FileOf) × IsMappedStep files (rename name to) (changes_of_words (renamed_words files reads t to) files reads) after × IsEntry (changes_of_words (renamed_words files reads t to) files reads)
words_are_put files reads name to t compiled read named admissible =
    let allowed = allowed_by files reads name to t compiled read named admissible in
    let made = files_are_reworded (renamed_words files reads t to) files reads read (words_suit files reads name to t allowed) in
    let step = renames_are_steps files reads name to t made.0 made.1 compiled read named admissible made.2 in
    (made.0, step.0, step.1)

-- there is a target, since cases 1 and 2 do not refuse
pub target_of : (files : List FileOf) (reads : List ReadOf) (name to : List ℕ) → AreRead files reads → IsAdmissible files (rename name to) → (t : Target) × IsNamed files reads name t
target_of files reads name to read admissible = targets_are_there files reads name to read (λ c. admissible 1 (reads, read, c)) (λ c. admissible 2 (reads, read, c))

pub admissible_renames_step : AdmissibleRenamesStep
admissible_renames_step files name to compiled admissible =
    let read = compiled_are_read files compiled in
    let there = target_of files read.0 name to read.1 admissible in
    let made = words_are_put files read.0 name to there.0 compiled read.1 there.1 admissible in
    (changes_of_words (renamed_words files read.0 there.0 to) files read.0, made.0, made.1, made.2)
