-- What it means that rows hold: in files that compile, the edits are answered as they say.
use Rattle.std.specs.Prelude.{◌≡◌, ◌≢◌, ℕ, List, [], ◌∷◌, ◌++◌, Some, Result, IsTrue, MatchResult, drop, map, slice_get}
use Rattle.std.specs.Borrow.{Bor}
use Rattle.proto_base.specs.Texts.{Text, Path}
use Rattle.proto_files.specs.GivenFiles.{FileOf}
use Rattle.proto_desc.specs.Whole.{IsSortedOf}
use Rattle.proto_descriptors.specs.Descriptors.{FileDesc}
use Rattle.proto_descriptors_json.specs.DescriptorText.{json_text}
use Rattle.proto_desc.specs.Checked.{AreDescribed}
use Rattle.proto_edit_entries.specs.declared.refusal.Refusal.{Refusal}
use Rattle.proto_edit_entries.specs.Entries.{ChangeOf}
use Rattle.proto_edit.specs.Answers.{IsUndoRefusal}
use Rattle.proto_edit.specs.Compiled.{AreCompiled}
use Rattle.proto_edit.specs.Workspaces.{Asked, IsUndo, Run, accepted}
use Rattle.protoref_test_cases.specs.declared.row.Row.{Row}
use Rattle.protoref_test_cases.specs.Rows.{is_row_answer, row_edit, row_file}
use Rattle.protoref_test_cases.specs.Told.{told_of}

-- ---- what rows write

-- the files that a row writes, each a path and a text
abbrev pub row_files : List (Bor Path × Bor Text) → List FileOf
row_files texts = map (λ t. row_file t.0.now t.1.now) texts

-- a step: the edit that it asks, and the words that it says this is answered
pub record StepOf : Type 0 where
  pub edit : Asked
  pub answer : Text

-- the step that four texts write: a kind, a name or a file, a new name or a path, and the answer
abbrev pub written_step : Bor Text × Bor Text × Bor Text × Bor Text → StepOf
written_step s = record { edit = row_edit s.0.now s.1.now s.2.now; answer = s.3.now }

-- a row: its files, its steps, the files after them, and a part of their descriptors' JSON text
pub record RowOf : Type 0 where
  pub files : List FileOf
  pub steps : List StepOf
  pub after : List FileOf
  pub part : Text

-- the files that a row names for afterwards; where it names none, those that were there before
abbrev pub files_after : List FileOf → List FileOf → List FileOf
files_after before [] = before
files_after before (f ∷ fs) = f ∷ fs

-- the row that lists of texts write
abbrev pub written_row : Row → RowOf
written_row r = record {
  files = row_files r.files.now;
  steps = map written_step r.steps.now;
  after = files_after (row_files r.files.now) (row_files r.after.now);
  part = r.json.now;
}

-- an undo: which entry, counted from 0, the number and the name that it is answered, and the files
-- afterwards
pub record UndoOf : Type 0 where
  pub entry : ℕ
  pub number : ℕ
  pub name : Text
  pub files : List FileOf

-- the undo that a row writes
abbrev pub undo_of : ℕ × (ℕ × Bor Text) × Bor (List (Bor Path × Bor Text)) → UndoOf
undo_of u = record {
  entry = u.0;
  number = u.1.0;
  name = u.1.1.now;
  files = row_files u.2.now;
}

-- ---- steps

-- what the workspace answers the step's edit, in words, is what the step says: the number and the
-- name of the least case that refuses it, with its place, or the changes that lead to these files
pub record AnsweredSo
    (w : List FileOf) (s : StepOf) (answer : Result (List ChangeOf) Refusal) (after : List FileOf)
    : Type 0 where
  pub is : Run w (s.edit ∷ []) (answer ∷ []) after
  pub told : told_of answer ≡ s.answer

-- each step is answered as it says, in the files that those before it left
pub record AnswersHold
    (w : List FileOf) (steps : List StepOf) (answers : List (Result (List ChangeOf) Refusal))
    (after : List FileOf) : Type 0 where
  pub run : Run w (map (λ s. s.edit) steps) answers after
  pub told : map told_of answers ≡ map (λ s. s.answer) steps

-- a step that holds leads from files to those after it, and its entry, if it has one, stands behind
-- the entries that were there
pub record IsLed
    (w : List FileOf) (had : List (List ChangeOf)) (s : StepOf)
    (after : List FileOf) (has : List (List ChangeOf)) : Type 0 where
  pub answer : Result (List ChangeOf) Refusal
  pub answered : AnsweredSo w s answer after
  pub entry : has ≡ had ++ accepted (answer ∷ [])

-- steps that hold lead on, one after another, and their entries stand behind those that were there
pub record AreLed
    (w : List FileOf) (had : List (List ChangeOf)) (steps : List StepOf)
    (after : List FileOf) (has : List (List ChangeOf)) : Type 0 where
  pub answers : List (Result (List ChangeOf) Refusal)
  pub answered : AnswersHold w steps answers after
  pub entries : has ≡ had ++ accepted answers

-- the files, in the order of their paths, compile, and each step is answered as it says
pub record StepsHold (given : List FileOf) (steps : List StepOf) : Type 0 where
  pub files : List FileOf
  pub sorted : IsSortedOf given files
  pub compiled : AreCompiled files
  pub answers : List (Result (List ChangeOf) Refusal)
  pub after : List FileOf
  pub answered : AnswersHold files steps answers after

-- ---- rows

-- the part stands in the JSON text of the files' descriptors, from some offset on
abbrev pub ShowsPart : List FileOf → Text → Type 0
ShowsPart files part = (ds : List FileDesc) × AreDescribed files ds
    × (offset : ℕ) × (rest : Text) × (drop offset (json_text ds) ≡ part ++ rest)

-- the row's files compile, its steps are answered as they say and leave the files that it says, and
-- what it says of the descriptors stands there
pub record RowHolds (row : RowOf) : Type 0 where
  pub compiled : AreCompiled row.files
  pub answers : List (Result (List ChangeOf) Refusal)
  pub answered : AnswersHold row.files row.steps answers row.after
  pub shown : ShowsPart row.after row.part

-- ---- undos

-- what the workspace answers the undo has the number and the name that it says, and the files are
-- those before the entry; or they stay, where the entry is stale
pub record UndoneSo (entries : List (List ChangeOf)) (w : List FileOf) (u : UndoOf) : Type 0 where
  pub entry : List ChangeOf
  pub there : slice_get entries u.entry ≡ Some entry
  pub answer : Result (Unit {0}) Refusal
  pub told : IsTrue (is_row_answer answer u.number u.name)
  pub undone : MatchResult answer (λ _. IsUndo w entry u.files)
      (λ r. IsUndoRefusal w entry r × (u.files ≡ w))

-- the undos are answered as they say, each in the files that the one before it left
abbrev pub UndosLead : List (List ChangeOf) → List FileOf → List UndoOf → List FileOf → Type 0
UndosLead entries w [] after = w ≡ after
UndosLead entries w (u ∷ us) after = UndoneSo entries w u × UndosLead entries u.files us after

-- the undos of the row's entries, if there are any, hold, and lead back to the files before
pub record UndosHold (row : RowOf) (undos : List UndoOf) : Type 0 where
  pub answers : List (Result (List ChangeOf) Refusal)
  pub answered : AnswersHold row.files row.steps answers row.after
  pub back : undos ≢ [] → UndosLead (accepted answers) row.after undos row.files
