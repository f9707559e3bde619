-- A row holds by what was seen of the files that it begins with, of its steps and of its undos.
use Rattle.std.proofs.Common.{◌≡◌, ◌≢◌, ℕ, ◌+◌, ◌<◌, List, [], ◌∷◌, ◌++◌, length, map, take, get_or, sym, ap, subst, ◌∙◌, Bor}
use Rattle.proto_base.proofs.Common.{map_more, Path, Text}
use Rattle.proto_files.specs.GivenFiles.{FileOf}
use Rattle.proto_edit_entries.specs.Entries.{ChangeOf}
use Rattle.proto_edit.proofs.Common.{AreCompiled, accepted}
use Rattle.protoref_test_cases.specs.RowsHold.{AnswersHold, AreLed, RowHolds, RowOf, ShowsPart, UndoOf, UndoneSo, UndosHold, UndosLead, undo_of}

-- an undo as its row writes it
abbrev pub WrittenUndo : Type 0
WrittenUndo = ℕ × (ℕ × Bor Text) × Bor (List (Bor Path × Bor Text))

-- ---- a row

module _ (w to : List FileOf) (had es : List (List ChangeOf)) (row : RowOf) (begins : w ≡ row.files) (led : AreLed w had row.steps to es) (ends : to ≡ row.after) where
  so : AnswersHold row.files row.steps led.answers row.after
  so = subst (λ (z : List FileOf). AnswersHold z row.steps led.answers row.after) begins (subst (λ (z : List FileOf). AnswersHold w row.steps led.answers z) ends led.answered)

  pub row_holds : ShowsPart to row.part → AreCompiled w → RowHolds row
  row_holds shown has = record {
    compiled = subst (λ (z : List FileOf). AreCompiled z) begins has;
    answers = led.answers;
    answered = so;
    shown = subst (λ (z : List FileOf). ShowsPart z row.part) ends shown;
  }

  pub undos_hold : (us : List UndoOf) → had ≡ [] → (us ≢ [] → UndosLead es to us row.files) → UndosHold row us
  undos_hold us none back = record {
    answers = led.answers;
    answered = so;
    back = λ some.
        let entries : es ≡ accepted led.answers = led.entries ∙ ap (λ (z : List (List ChangeOf)). z ++ accepted led.answers) none in
        subst (λ (z : List FileOf). UndosLead (accepted led.answers) z us row.files) ends
        (subst (λ (z : List (List ChangeOf)). UndosLead z to us row.files) entries (back some));
  }

-- ---- one undo more

undos_more : (entries : List (List ChangeOf)) (w m to : List FileOf) (us : List UndoOf) (u : UndoOf) → UndosLead entries w us m → UndoneSo entries m u → to ≡ u.files → UndosLead entries w (us ++ u ∷ []) to
undos_more entries w m to [] u led so same = (subst (λ (z : List FileOf). UndoneSo entries z u) (sym led) so, sym same)
undos_more entries w m to (x ∷ us) u led so same = (led.0, undos_more entries x.files m to us u led.1 so same)

pub undos_next : (entries : List (List ChangeOf)) (w m to : List FileOf) (undos : List WrittenUndo) (i : ℕ) (d : WrittenUndo) → i < length undos → UndosLead entries w (map undo_of (take i undos)) m → UndoneSo entries m (undo_of (get_or undos i d)) → to ≡ (undo_of (get_or undos i d)).files → UndosLead entries w (map undo_of (take (i + 1) undos)) to
undos_next entries w m to undos i d lt led so same =
    subst (λ (z : List UndoOf). UndosLead entries w z to) (sym (map_more undo_of undos i d lt))
    (undos_more entries w m to (map undo_of (take i undos)) (undo_of (get_or undos i d)) led so same)
