-- Edits of a workspace, runs of edits, and the way back (for the crates above).
use Rattle.std.proofs.Common.{◌≡◌, List, [], ◌∷◌, ◌++◌, refl, sym, subst, ◌∙◌, reverse, Result, Ok, Err}
use Rattle.std.proofs.lemmas.List.{reverse-append}
use Rattle.proto_files.specs.GivenFiles.{FileOf}
use Rattle.proto_edit_entries.specs.declared.refusal.Refusal.{Refusal}
use Rattle.proto_edit_entries.proofs.Common.{ChangeOf, IsEntry, inverted, IsPut, entries_lead_back, puts_are_once}
use Rattle.proto_edit_rename_laws.proofs.Common.{changes_of_words, renamed_words}
use Rattle.proto_edit.specs.Common.{AreCompiled, EditsAreMade, RunsAreUndone, StepsCompile, UndoneOnce, Asked, rename, delete_field, add_import, drop_import, IsAdmissible, AreChanges, IsStep, IsMappedStep, Run, accepted, IsUndo, Undone, StatementLaws}
use Rattle.proto_edit.proofs.GivenAgain.{compiled_are_read}
use Rattle.proto_edit.proofs.MappedSteps.{target_of, words_are_put}
use Rattle.proto_edit.proofs.StatementSteps.{addition_steps, deletion_steps, drop_steps, field_of, file_of, import_of}
use Rattle.proto_edit_statement_laws.proofs.ChangesCommon.{changes_of_deletion, changes_of_addition, changes_of_drop}

-- ---- one edit

-- a step of some changes is one of the same changes
step_again : (w : List FileOf) (e : Asked) (cs ds : List ChangeOf) → cs ≡ ds → (after : List FileOf) × IsMappedStep w e cs after × IsEntry cs → (after : List FileOf) × IsMappedStep w e ds after × IsEntry ds
step_again w e cs ds same step = subst (λ (z : List ChangeOf). (after : List FileOf) × IsMappedStep w e z after × IsEntry z) same step

-- what an admissible edit changes can be made, and is an entry
pub made : StatementLaws → (w : List FileOf) (e : Asked) (cs : List ChangeOf) → AreCompiled w → IsAdmissible w e → AreChanges w e cs → (after : List FileOf) × IsMappedStep w e cs after × IsEntry cs
made laws w (rename name to) cs has ok x = step_again w (rename name to) (changes_of_words (renamed_words w x.0 x.2.0 to) w x.0) cs (sym x.2.2) (words_are_put w x.0 name to x.2.0 has x.1 x.2.1 ok)
made laws w (delete_field name) cs has ok x = step_again w (delete_field name) (changes_of_deletion w x.0 x.2.0) cs (sym x.2.2) (deletion_steps laws w x.0 has x.1 name x.2.0 x.2.1 ok)
made laws w (add_import file path) cs has ok x = step_again w (add_import file path) (changes_of_addition w x.0 x.2.0 path) cs (sym x.2.2) (addition_steps laws w x.0 has x.1 file path x.2.0 x.2.1 ok)
made laws w (drop_import file path) cs has ok x = step_again w (drop_import file path) (changes_of_drop w x.0 x.2.0 x.2.1) cs (sym x.2.4) (drop_steps laws w x.0 has x.1 file path x.2.0 x.2.1 x.2.2 x.2.3 ok)

-- what the edit changes
changes_of : StatementLaws → (w : List FileOf) (e : Asked) → AreCompiled w → IsAdmissible w e → (cs : List ChangeOf) × AreChanges w e cs
changes_of laws w (rename name to) has ok =
    let read = compiled_are_read w has in
    let there = target_of w read.0 name to read.1 ok in
    (changes_of_words (renamed_words w read.0 there.0 to) w read.0, (read.0, read.1, (there.0, there.1, refl)))
changes_of laws w (delete_field name) has ok =
    let read = compiled_are_read w has in
    let there = field_of laws w read.0 has read.1 name ok in
    (changes_of_deletion w read.0 there.0, (read.0, read.1, (there.0, there.1, refl)))
changes_of laws w (add_import file path) has ok =
    let read = compiled_are_read w has in
    let there = file_of laws w read.0 has read.1 file path ok in
    (changes_of_addition w read.0 there.0 path, (read.0, read.1, (there.0, there.1, refl)))
changes_of laws w (drop_import file path) has ok =
    let read = compiled_are_read w has in
    let there = import_of laws w read.0 has read.1 file path ok in
    (changes_of_drop w read.0 there.0 there.1, (read.0, read.1, (there.0, there.1, there.2, there.3, refl)))

pub edits_are_made : StatementLaws → EditsAreMade
edits_are_made laws w e has ok =
    let c = changes_of laws w e has ok in
    let m = made laws w e c.0 has ok c.1 in
    (c.0, c.1, m.2, m.0, m.1.step.put, m.1.compiled)

-- so each admissible edit has its step
pub admissible_step : StatementLaws → (w : List FileOf) (e : Asked) → AreCompiled w → IsAdmissible w e → (cs : List ChangeOf) × (after : List FileOf) × IsMappedStep w e cs after × IsEntry cs
admissible_step laws w e has ok =
    let c = changes_of laws w e has ok in
    let m = made laws w e c.0 has ok c.1 in
    (c.0, m.0, m.1, m.2)

pub steps_compile : StatementLaws → StepsCompile
steps_compile laws w after e cs has s =
    let m = made laws w e cs has s.admissible s.changes in
    subst (λ (z : List FileOf). IsMappedStep w e cs z) (puts_are_once w m.0 after cs m.1.step.put s.put) m.1

pub cannot_fail : StatementLaws → (w : List FileOf) (e : Asked) (cs : List ChangeOf) → AreCompiled w → IsAdmissible w e → AreChanges w e cs → ((after : List FileOf) → IsPut w cs after → AreCompiled after → ⊥) → ⊥
cannot_fail laws w e cs has ok x none = let m = made laws w e cs has ok x in none m.0 m.1.step.put m.1.compiled

pub entry_is : StatementLaws → (w : List FileOf) (e : Asked) (cs : List ChangeOf) → AreCompiled w → IsAdmissible w e → AreChanges w e cs → IsEntry cs
entry_is laws w e cs has ok x = (made laws w e cs has ok x).2

-- what undoes it
pub step_back : StatementLaws → (w : List FileOf) (e : Asked) (cs : List ChangeOf) (after : List FileOf) → IsStep w e cs after → AreCompiled w → IsUndo after cs w
step_back laws w e cs after s has = record { put = entries_lead_back w after cs (entry_is laws w e cs has s.admissible s.changes) s.put; compiled = has }

-- ---- runs

pub undone_append : (a b c : List FileOf) (ss ts : List (List ChangeOf)) → Undone a ss b → Undone b ts c → Undone a (ss ++ ts) c
undone_append a b c [] ts x y = subst (λ (z : List FileOf). Undone z ts c) (sym x) y
undone_append a b c (s ∷ ss) ts x y = (x.0, x.1, undone_append x.0 b c ss ts x.2 y)

pub runs_are_undone : StatementLaws → RunsAreUndone
runs_are_undone laws w to [] [] has run = sym run
runs_are_undone laws w to [] (a ∷ more) has run = absurd run
runs_are_undone laws w to (e ∷ es) [] has run = absurd run
runs_are_undone laws w to (e ∷ es) (Err r ∷ more) has run = runs_are_undone laws w to es more has run.2
runs_are_undone laws w to (e ∷ es) (Ok cs ∷ more) has run =
    let step = run.1.step in
    let later = runs_are_undone laws run.0 to es more run.1.compiled run.2 in
    subst (λ (z : List (List ChangeOf)). Undone to z w) (sym (reverse-append (cs ∷ []) (accepted more)))
    (undone_append to run.0 w (reverse (accepted more)) (cs ∷ []) later (w, step_back laws w e cs run.0 step has, refl))

-- a run, one edit more
pub run_more : (w middle to : List FileOf) (es : List Asked) (given : List (Result (List ChangeOf) Refusal)) (e : Asked) (a : Result (List ChangeOf) Refusal) → Run w es given middle → Run middle (e ∷ []) (a ∷ []) to → Run w (es ++ e ∷ []) (given ++ a ∷ []) to
run_more w middle to [] [] e a run more = subst (λ (z : List FileOf). Run z (e ∷ []) (a ∷ []) to) (sym run) more
run_more w middle to [] (b ∷ given) e a run more = absurd run
run_more w middle to (x ∷ es) [] e a run more = absurd run
run_more w middle to (x ∷ es) (Err r ∷ given) e a run more = (run.0, run.1, run_more w middle to es given e a run.2 more)
run_more w middle to (x ∷ es) (Ok cs ∷ given) e a run more = (run.0, run.1, run_more run.0 middle to es given e a run.2 more)

-- ---- undoing

pub undo_once : (w a b : List FileOf) (cs : List ChangeOf) → IsUndo w cs a → IsUndo w cs b → a ≡ b
undo_once w a b cs x y = puts_are_once w a b (inverted cs) x.put y.put

pub undone_once : UndoneOnce
undone_once w a b [] x y = sym x ∙ y
undone_once w a b (s ∷ ss) x y = undone_once x.0 a b ss x.2 (subst (λ (z : List FileOf). Undone z ss b) (sym (undo_once w x.0 y.0 s x.1 y.1)) y.2)

-- from the files of a run its accepted entries, the last one first, lead to the files before it and to no others
pub leads_back : StatementLaws → (w to first : List FileOf) (entries : List (List ChangeOf)) (es : List Asked) (given : List (Result (List ChangeOf) Refusal)) → Undone w (reverse entries) to → AreCompiled first → Run first es given w → accepted given ≡ entries → to ≡ first
leads_back laws w to first entries es given undone has run e =
    undone_once w to first (reverse entries) undone (subst (λ (z : List (List ChangeOf)). Undone w (reverse z) first) e (runs_are_undone laws first w es given has run))

pub leads_somewhere : StatementLaws → (w first : List FileOf) (entries : List (List ChangeOf)) (es : List Asked) (given : List (Result (List ChangeOf) Refusal)) → ((to : List FileOf) → Undone w (reverse entries) to → ⊥) → AreCompiled first → Run first es given w → accepted given ≡ entries → ⊥
leads_somewhere laws w first entries es given none has run e = none first (subst (λ (z : List (List ChangeOf)). Undone w (reverse z) first) e (runs_are_undone laws first w es given has run))
