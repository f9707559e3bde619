-- Steps that lead from files to files, one more.
use Rattle.std.proofs.Common.{◌≡◌, ℕ, ◌+◌, ◌<◌, List, [], ◌∷◌, ◌++◌, length, map, take, get_or, refl, sym, ap, subst, ◌∙◌, append_assoc, Bor, Result, Ok, Err}
use Rattle.proto_base.proofs.Common.{map_more, map_push, Text}
use Rattle.proto_files.specs.GivenFiles.{FileOf}
use Rattle.proto_edit_entries.specs.declared.refusal.Refusal.{Refusal}
use Rattle.proto_edit_entries.specs.Entries.{ChangeOf}
use Rattle.proto_edit.proofs.Common.{Asked, Run, accepted, run_more}
use Rattle.protoref_test_cases.specs.RowsHold.{AnsweredSo, AnswersHold, AreLed, IsLed, StepOf, written_step}
use Rattle.protoref_test_cases.specs.Told.{told_of}

abbrev pub Answer : Type 0
Answer = Result (List ChangeOf) Refusal

-- a step as its row writes it
abbrev pub Written : Type 0
Written = Bor Text × Bor Text × Bor Text × Bor Text

-- ---- one step more

accepted_more : (answers : List Answer) (a : Answer) → accepted (answers ++ a ∷ []) ≡ accepted answers ++ accepted (a ∷ [])
accepted_more [] a = refl
accepted_more (Ok cs ∷ more) a = ap (λ (z : List (List ChangeOf)). cs ∷ z) (accepted_more more a)
accepted_more (Err r ∷ more) a = accepted_more more a

answers_more : (w m to : List FileOf) (steps : List StepOf) (s : StepOf) (answers : List Answer) (a : Answer) → AnswersHold w steps answers m → AnsweredSo m s a to → AnswersHold w (steps ++ s ∷ []) (answers ++ a ∷ []) to
answers_more w m to steps s answers a held so = record {
  run = subst (λ (z : List Asked). Run w z (answers ++ a ∷ []) to) (sym (map_push (λ (x : StepOf). x.edit) steps s))
      (run_more w m to (map (λ (x : StepOf). x.edit) steps) answers s.edit a held.run so.is);
  told = map_push told_of answers a
      ∙ ap (λ (z : List Text). z ++ told_of a ∷ []) held.told
      ∙ ap (λ (z : Text). map (λ (x : StepOf). x.answer) steps ++ z ∷ []) so.told
      ∙ sym (map_push (λ (x : StepOf). x.answer) steps s);
}

led_more : (w m to : List FileOf) (had es fs : List (List ChangeOf)) (steps : List StepOf) (s : StepOf) → AreLed w had steps m es → IsLed m es s to fs → AreLed w had (steps ++ s ∷ []) to fs
led_more w m to had es fs steps s led next = record {
  answers = led.answers ++ next.answer ∷ [];
  answered = answers_more w m to steps s led.answers next.answer led.answered next.answered;
  entries = next.entry
      ∙ ap (λ (z : List (List ChangeOf)). z ++ accepted (next.answer ∷ [])) led.entries
      ∙ append_assoc had (accepted led.answers) (accepted (next.answer ∷ []))
      ∙ ap (λ (z : List (List ChangeOf)). had ++ z) (sym (accepted_more led.answers next.answer));
}

-- the same of the step at an index
pub led_next : (w m to : List FileOf) (had es fs : List (List ChangeOf)) (steps : List Written) (i : ℕ) (d : Written) → i < length steps → AreLed w had (map written_step (take i steps)) m es → IsLed m es (written_step (get_or steps i d)) to fs → AreLed w had (map written_step (take (i + 1) steps)) to fs
led_next w m to had es fs steps i d lt led next =
    subst (λ (z : List StepOf). AreLed w had z to fs) (sym (map_more written_step steps i d lt))
    (led_more w m to had es fs (map written_step (take i steps)) (written_step (get_or steps i d)) led next)
