-- Runs and undoings, one step more: what a loop over edits or entries has done so far.
use Rattle.std.proofs.Common.{◌≡◌, ◌≢◌, ℕ, ◌+◌, ◌<◌, List, [], ◌∷◌, ◌++◌, length, map, take, drop, get_or, reverse, refl, sym, ap, subst, ◌∙◌, Bor, Result, Ok, Err, take-append-drop}
use Rattle.std.proofs.lemmas.List.{map_more, map_push, drop_more}
use Rattle.proto_files.specs.GivenFiles.{FileOf}
use Rattle.proto_edit.specs.Common.{AreCompiled, asked, IsPutRefusal, IsUndoRefusal, IsUndoAllRefusal, LeadsBack, Asked, IsAdmissible, AreChanges, IsMappedStep, IsRefusal, IsUndo, Run, Undone, StatementLaws}
use Rattle.proto_edit_entries.specs.declared.edit.Edit.{Edit}
use Rattle.proto_edit_entries.specs.declared.refusal.Refusal.{Refusal}
use Rattle.proto_edit_entries.specs.declared.refusal.Refusal.TheVariants as refusal
use Rattle.proto_edit_entries.specs.Entries.{ChangeOf}
use Rattle.proto_edit_entries.specs.Putting.{IsPut}
use Rattle.proto_edit.proofs.EditSteps.{cannot_fail, steps_compile, run_more, undone_append, undone_once, leads_back, leads_somewhere}

abbrev pub Answer : Type 0
Answer = Result (List ChangeOf) Refusal

-- ---- one edit

pub step_made : StatementLaws → (w : List FileOf) (e : Asked) (cs : List ChangeOf) (after : List FileOf) → AreCompiled w → IsAdmissible w e × AreChanges w e cs → IsPut w cs after → IsMappedStep w e cs after
step_made laws w e cs after has ok put = steps_compile laws w after e cs has (record { admissible = ok.0; changes = ok.1; put = put })

-- what an admissible edit changes is not stale
pub never_stale : StatementLaws → (w : List FileOf) (e : Asked) (cs : List ChangeOf) → AreCompiled w → IsAdmissible w e × AreChanges w e cs → (r : Refusal) → r ≢ refusal.NoMemory → IsPutRefusal w cs r → ⊥
never_stale laws w e cs has ok refusal.Stale ne h = cannot_fail laws w e cs has ok.0 ok.1 h
never_stale laws w e cs has ok refusal.NoMemory ne h = ne refl
never_stale laws w e cs has ok _ ne h = absurd h

-- ---- runs

pub run_accepted : (w : List FileOf) (e : Asked) (a : Answer) (cs : List ChangeOf) (to after : List FileOf) → a ≡ Ok cs → to ≡ after → IsMappedStep w e cs after → Run w (e ∷ []) (a ∷ []) to
run_accepted w e a cs to after is same s = subst (λ (z : Answer). Run w (e ∷ []) (z ∷ []) to) (sym is) (after, s, sym same)

pub run_refused : (w : List FileOf) (e : Asked) (a : Answer) (r : Refusal) (to : List FileOf) → a ≡ Err r → to ≡ w → IsRefusal w e r → r ≢ refusal.NoMemory → Run w (e ∷ []) (a ∷ []) to
run_refused w e a r to is same h ne = subst (λ (z : Answer). Run w (e ∷ []) (z ∷ []) to) (sym is) (h, ne, sym same)

pub run_next : (w middle to : List FileOf) (edits : List Edit) (i : ℕ) (given : List Answer) (e : Edit) (a : Answer) → i < length edits → e ≡ get_or edits i e → Run w (map asked (take i edits)) given middle → Run middle (asked e ∷ []) (a ∷ []) to → Run w (map asked (take (i + 1) edits)) (given ++ a ∷ []) to
run_next w middle to edits i given e a lt is run more =
    subst (λ (z : List Asked). Run w z (given ++ a ∷ []) to) (ap (λ (z : Edit). map asked (take i edits) ++ asked z ∷ []) is ∙ sym (map_more asked edits i e lt))
    (run_more w middle to (map asked (take i edits)) given (asked e) a run more)

-- ---- undoings

undone_more : (w middle to : List FileOf) (ss : List (List ChangeOf)) (s : List ChangeOf) → Undone w ss middle → IsUndo middle s to → Undone w (ss ++ s ∷ []) to
undone_more w middle to ss s x y = undone_append w middle to ss (s ∷ []) x (to, y, refl)

-- the same of entries that a loop went over
pub undone_next : (w middle to : List FileOf) (done : List (Bor (List ChangeOf))) (s : Bor (List ChangeOf)) → Undone w (map (λ x. x.now) done) middle → IsUndo middle s.now to → Undone w (map (λ x. x.now) (done ++ s ∷ [])) to
undone_next w middle to done s x y =
    subst (λ (z : List (List ChangeOf)). Undone w z to) (sym (map_push (λ (b : Bor (List ChangeOf)). b.now) done s)) (undone_more w middle to (map (λ x. x.now) done) s.now x y)

undone_split : (w to : List FileOf) (ss ts : List (List ChangeOf)) → Undone w (ss ++ ts) to → (middle : List FileOf) × Undone w ss middle × Undone middle ts to
undone_split w to [] ts x = (w, refl, x)
undone_split w to (s ∷ ss) ts x = (let rest = undone_split x.0 to ss ts x.2 in (rest.0, (x.0, x.1, rest.1), rest.2))

module _ (w middle : List FileOf) (all : List (List ChangeOf)) (n : ℕ) (s : List ChangeOf) (lt : n < length all) (is : s ≡ get_or all n s) (so_far : Undone w (take n all) middle) where
  parts : take n all ++ s ∷ drop (n + 1) all ≡ all
  parts = ap (λ (z : List ChangeOf). take n all ++ z ∷ drop (n + 1) all) is ∙ ap (λ (z : List (List ChangeOf)). take n all ++ z) (sym (drop_more all n s lt)) ∙ take-append-drop n all

  -- where the next can't be undone, nothing is before them all
  stuck : ((before : List FileOf) → IsUndo middle s before → ⊥) → (to : List FileOf) → Undone w all to → ⊥
  stuck fails to x =
      let p = undone_split w to (take n all) (s ∷ drop (n + 1) all) (subst (λ (z : List (List ChangeOf)). Undone w z to) (sym parts) x) in
      let same = undone_once w p.0 middle (take n all) p.1 so_far in
      fails p.2.0 (subst (λ (z : List FileOf). IsUndo z s p.2.0) same p.2.1)

  pub stuck_so : (r : Refusal) → IsUndoRefusal middle s r → IsUndoAllRefusal w all r
  stuck_so refusal.Stale h = stuck h
  stuck_so refusal.NoMemory h = tt
  stuck_so _ h = absurd h

pub back_ok : StatementLaws → (w to : List FileOf) (entries : List (List ChangeOf)) → Undone w (reverse entries) to → LeadsBack w entries (Ok to)
back_ok laws w to entries x = λ first es given has run e. leads_back laws w to first entries es given x has run e

pub back_err : StatementLaws → (w : List FileOf) (entries : List (List ChangeOf)) (r : Refusal) → IsUndoAllRefusal w (reverse entries) r → LeadsBack w entries (Err r)
back_err laws w entries refusal.Stale fails = λ first es given has run e. leads_somewhere laws w first entries es given fails has run e
back_err laws w entries refusal.NoMemory fails = tt
back_err laws w entries _ fails = absurd fails
