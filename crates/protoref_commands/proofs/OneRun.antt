-- What a command answers and leaves is decided by the store.
use Rattle.std.proofs.Common.{◌≡◌, ◌⊎◌, ℕ, Bool, true, false, List, [], ◌++◌, codes, decimal, Option, Some, Result, Ok, Err, inl, inr, refl, sym, ap, ◌∙◌, subst, string_bytes}
use Rattle.std.specs.Io.KnownBytes.{Appends}
use Rattle.proto_base.specs.Texts.{Text}
use Rattle.proto_edit.proofs.GivenAgain.{opens_again}
use Rattle.proto_edit.specs.Compiled.{AreCompiled}
use Rattle.proto_edit_entries.specs.Entries.{ChangeOf}
use Rattle.proto_edit_entries.specs.RefusalTable.{refusal_name, refusal_number}
use Rattle.proto_edit_entries.specs.declared.refusal.Refusal.{Refusal}
use Rattle.proto_edit_entries.specs.declared.refusal.Refusal.TheVariants as refusal
use Rattle.proto_desc.specs.Whole.{WorkspaceFaults}
use Rattle.proto_files.proofs.Common.{FileOf}
use Rattle.proto_files.proofs.OneLeast.{least_is_one}
use Rattle.proto_journal.specs.Answers.{asked}
use Rattle.proto_journal.specs.Common.{CommitOutcome, CommitsAreOne, IsSameAnswer, IsSameRefusal, IsUnready, UndoOutcome, UndosAreOne}
use Rattle.proto_journal.specs.Workspaces.{Asked}
use Rattle.proto_journal_records.proofs.Common.{HasOpenEntry, IsReadInOneWay, IsReady, IsSettled, IsUnreadable, Over, is_last_open}
use Rattle.proto_journal_records.specs.Migration.{MigrationsAreOne}
use Rattle.proto_journal_records.specs.RecoveryLaws.{RecoveriesAreOne}
use Rattle.proto_journal_records.specs.declared.fault.JournalFault.{JournalFault}
use Rattle.proto_journal_records.specs.declared.fault.JournalFault.TheVariants as fault
use Rattle.proto_store.specs.Stores.{AreInPathOrder, Held}
use Rattle.protoref_output.specs.EditLines.{place_text, refused_line}
use Rattle.protoref_output.specs.RecoveryLines.{plain_refused_line}
use Rattle.protoref_output.specs.declared.status.Status.{Status}
use Rattle.protoref_commands.proofs.OnePrint.{IsOnePrint, line_once, one_compiled, one_linted, one_log}
use Rattle.protoref_commands.specs.Changes.{HasFault, IsNotReady, PrintsChange, PrintsEdit}
use Rattle.protoref_commands.specs.Commands.{Answered}
use Rattle.protoref_commands.specs.Common.{Tells, of_change, of_files, of_journal}
use Rattle.protoref_commands.specs.Laws.{AskTheSame, RunsAreOne}
use Rattle.protoref_commands.specs.Linted.{PrintsLinted}
use Rattle.protoref_commands.specs.Migrations.{PrintsMigration, TellsMigration}
use Rattle.protoref_commands.specs.Recoveries.{PrintsRecovery, TellsRecovery}
use Rattle.protoref_commands.specs.Told.{TellsJournalFault}
use Rattle.protoref_commands.specs.declared.command.Command.{Command}
use Rattle.protoref_commands.specs.declared.command.Command.TheVariants.{Compile, Edit, Lint, Log, Migrate, Recover, Undo}

-- two runs print the same, end the same, and leave the same
abbrev IsOneRun : List ℕ → List ℕ → Status → Status → Option Held → Option Held → Type 0
IsOneRun text also status end after other = (text ≡ also) × (status ≡ end) × (after ≡ other)

-- ---- what is told of an outcome

fault_once : (line : Refusal → Text) (f : JournalFault) (text also : List ℕ) (status end : Status) → TellsJournalFault line f text status → TellsJournalFault line f also end → IsOnePrint text also status end
fault_once line fault.Store text also status end p q = absurd p
fault_once line fault.NoMemory text also status end p q = absurd p
fault_once line f text also status end p q = (p.0 ∙ sym q.0, p.1 ∙ sym q.1)

settled_fault : (T : Type 0) (line : Refusal → Text) (f : JournalFault) (text : List ℕ) (status : Status) → TellsJournalFault line f text status → IsSettled {T = T} (Err f)
settled_fault T line fault.Store text status p = absurd p
settled_fault T line fault.NoMemory text status p = absurd p
settled_fault T line f text status p = tt

settled : (files : List FileOf) (a : Result (List ChangeOf) JournalFault) (text : List ℕ) (status : Status) → Tells files a text status → IsSettled a
settled files (Ok entry) text status p = tt
settled files (Err f) text status p = settled_fault (List ChangeOf) (refused_line files) f text status p

told_once : (files : List FileOf) (a : Result (List ChangeOf) JournalFault) (text also : List ℕ) (status end : Status) → Tells files a text status → Tells files a also end → IsOnePrint text also status end
told_once files (Ok entry) text also status end p q = (p.0 ∙ sym q.0, p.1 ∙ sym q.1)
told_once files (Err f) text also status end p q = fault_once (refused_line files) f text also status end p q

told_same : (files : List FileOf) (a b : Result (List ChangeOf) JournalFault) (text also : List ℕ) (status end : Status) → a ≡ b → Tells files a text status → Tells files b also end → IsOnePrint text also status end
told_same files a b text also status end e p q = told_once files b text also status end (subst (λ (r : Result (List ChangeOf) JournalFault). Tells files r text status) e p) q

-- the line of a refusal with this number, this name and this place
abbrev line_with : ℕ → Text → Text → Text
line_with number name place = codes "refused: " ++ (decimal number ++ (codes " " ++ (name ++ (place ++ codes "\n"))))

refusal_line_once : (files : List FileOf) (r s : Refusal) → IsSameRefusal r s → refused_line files r ≡ refused_line files s
refusal_line_once files (refusal.Captured path offset) (refusal.Captured file other) e =
    ap (line_with (refusal_number (refusal.Captured path offset)) (refusal_name (refusal.Captured path offset)))
    (ap (λ (p : Text). place_text files p offset) e.0 ∙ ap (place_text files (string_bytes file)) e.1)
refusal_line_once files (refusal.Needed path offset) (refusal.Needed file other) e =
    ap (line_with (refusal_number (refusal.Needed path offset)) (refusal_name (refusal.Needed path offset)))
    (ap (λ (p : Text). place_text files p offset) e.0 ∙ ap (place_text files (string_bytes file)) e.1)
refusal_line_once files (refusal.OptionValue path offset) (refusal.OptionValue file other) e =
    ap (line_with (refusal_number (refusal.OptionValue path offset)) (refusal_name (refusal.OptionValue path offset)))
    (ap (λ (p : Text). place_text files p offset) e.0 ∙ ap (place_text files (string_bytes file)) e.1)
refusal_line_once files r s e = ap (refused_line files) e

told_alike : (files : List FileOf) (a b : Result (List ChangeOf) JournalFault) (text also : List ℕ) (status end : Status) → IsSameAnswer a b → Tells files a text status → Tells files b also end → IsOnePrint text also status end
told_alike files (Err (fault.Refused r)) (Err (fault.Refused s)) text also status end e p q = (p.0 ∙ refusal_line_once files r s e ∙ sym q.0, p.1 ∙ sym q.1)
told_alike files a b text also status end e p q = told_same files a b text also status end e p q

recovery_once : (a : Result Bool JournalFault) (text also : List ℕ) (status end : Status) → TellsRecovery a text status → TellsRecovery a also end → IsOnePrint text also status end
recovery_once (Ok r) text also status end p q = (p.0 ∙ sym q.0, p.1 ∙ sym q.1)
recovery_once (Err f) text also status end p q = fault_once plain_refused_line f text also status end p q

recovery_settled : (a : Result Bool JournalFault) (text : List ℕ) (status : Status) → TellsRecovery a text status → IsSettled a
recovery_settled (Ok r) text status p = tt
recovery_settled (Err f) text status p = settled_fault Bool plain_refused_line f text status p

migration_once : (a : Result Bool JournalFault) (text also : List ℕ) (status end : Status) → TellsMigration a text status → TellsMigration a also end → IsOnePrint text also status end
migration_once (Ok r) text also status end p q = (p.0 ∙ sym q.0, p.1 ∙ sym q.1)
migration_once (Err f) text also status end p q = fault_once plain_refused_line f text also status end p q

migration_settled : (a : Result Bool JournalFault) (text : List ℕ) (status : Status) → TellsMigration a text status → IsSettled a
migration_settled (Ok r) text status p = tt
migration_settled (Err f) text status p = settled_fault Bool plain_refused_line f text status p

-- ---- commands that ask the same

answered_alike : (command same : Command) (before after : Option Held) (text : List ℕ) (status : Status) → AskTheSame command same → Answered same before after text status → Answered command before after text status
answered_alike (Lint rules) (Lint others) before after text status e a =
    (a.0, subst (λ (chosen : List Bool). Over before (λ held. PrintsLinted held.files chosen text status)) (sym e) a.1)
answered_alike (Edit edit) (Edit other) before after text status e a = subst (λ (asks : Asked). PrintsEdit asks before after text status) (sym e) a
answered_alike command same before after text status e a = subst (λ (c : Command). Answered c before after text status) (sym e) a

-- ---- before a change

-- why a change may not begin
abbrev IsKept : Held → JournalFault → Type 0
IsKept held f = (IsUnreadable held × (f ≡ fault.BadJournal)) ⊎ (HasOpenEntry held × (f ≡ fault.OpenEntry))

kept_why : (held : Held) (f : JournalFault) (text : List ℕ) (status : Status) → IsUnready (Some held) f → Tells [] (Err f) text status → IsKept held f
kept_why held fault.BadJournal text status why told = inl (why, refl)
kept_why held fault.OpenEntry text status why told = inr (why, refl)
kept_why held fault.Store text status why told = absurd told
kept_why held fault.NoMemory text status why told = absurd told
kept_why held f text status why told = absurd why

differs : {P : Type 0} (b : Bool) → b ≡ true → b ≡ false → P
differs b t f = let e : true ≡ false = sym t ∙ f in cc

module _ (one_way : IsReadInOneWay) where
  kept_not_ready : {P : Type 0} (held : Held) (f : JournalFault) → IsKept held f → IsReady held → P
  kept_not_ready held f (inl u) r = absurd (u.0 r.1 (r.0, r.2.journal))
  kept_not_ready held f (inr o) r = differs (is_last_open o.0.0) o.0.2 (ap is_last_open (one_way held.journal o.0.1.0 r.0 o.0.0 r.1 o.0.1.1 r.2.journal).0 ∙ r.2.closed)

  one_why : (held : Held) (f g : JournalFault) → IsKept held f → IsKept held g → f ≡ g
  one_why held f g (inl u) (inl v) = u.1 ∙ sym v.1
  one_why held f g (inl u) (inr o) = absurd (u.0 o.0.0 o.0.1)
  one_why held f g (inr o) (inl u) = absurd (u.0 o.0.0 o.0.1)
  one_why held f g (inr o) (inr p) = o.1 ∙ sym p.1

  why_of : (held : Held) (text : List ℕ) (status : Status) → (n : IsNotReady (Some held) text status) → IsKept held n.fault
  why_of held text status n = kept_why held n.fault text status n.why n.told

  not_ready_once : (held : Held) (text also : List ℕ) (status end : Status) → IsNotReady (Some held) text status → IsNotReady (Some held) also end → IsOnePrint text also status end
  not_ready_once held text also status end p q =
      told_same [] (Err p.fault) (Err q.fault) text also status end (ap (λ (f : JournalFault). Err f) (one_why held p.fault q.fault (why_of held text status p) (why_of held also end q))) p.told q.told

  fault_line_once : (held : Held) (text also : List ℕ) (status end : Status) → HasFault (Some held) text status → HasFault (Some held) also end → IsOnePrint text also status end
  fault_line_once held text also status end p q =
      (line_once held.files p.fault q.fault text also (least_is_one (WorkspaceFaults held.files) p.fault q.fault p.least q.least) p.line q.line, p.ends ∙ sym q.ends)

  -- ---- a change

  -- over files that compile an outcome that is told is one
  abbrev IsOneOutcome : (List FileOf → List FileOf → Option Held → Option Held → Result (List ChangeOf) JournalFault → Type 0) → Held → Type 0
  IsOneOutcome Outcome held =
      (files to other : List FileOf) (after later : Option Held) (a b : Result (List ChangeOf) JournalFault) (text also : List ℕ) (status end : Status)
      → AreCompiled files → Outcome files to (Some held) after a → Tells files a text status → Outcome files other (Some held) later b → Tells files b also end
      → IsOneRun text also status end after later

  one_change : (Outcome : List FileOf → List FileOf → Option Held → Option Held → Result (List ChangeOf) JournalFault → Type 0) (held : Held) → IsOneOutcome Outcome held
      → (after later : Option Held) (text also : List ℕ) (status end : Status) → PrintsChange Outcome (Some held) after text status → PrintsChange Outcome (Some held) later also end
      → IsOneRun text also status end after later
  one_change Outcome held once after later text also status end (of_journal p e) (of_journal q d) = (let s = not_ready_once held text also status end p q in (s.0, s.1, e ∙ sym d))
  one_change Outcome held once after later text also status end (of_journal p e) (of_files q d) = kept_not_ready held p.fault (why_of held text status p) q.ready
  one_change Outcome held once after later text also status end (of_journal p e) (of_change files to a may o told) = kept_not_ready held p.fault (why_of held text status p) may.ready
  one_change Outcome held once after later text also status end (of_files p e) (of_journal q d) = kept_not_ready held q.fault (why_of held also end q) p.ready
  one_change Outcome held once after later text also status end (of_files p e) (of_files q d) = (let s = fault_line_once held text also status end p q in (s.0, s.1, e ∙ sym d))
  one_change Outcome held once after later text also status end (of_files p e) (of_change files to a may o told) = absurd (opens_again files held.files p.fault may.loaded.0 (sym may.loaded.1) p.least)
  one_change Outcome held once after later text also status end (of_change files to a may o told) (of_journal q d) = kept_not_ready held q.fault (why_of held also end q) may.ready
  one_change Outcome held once after later text also status end (of_change files to a may o told) (of_files q d) = absurd (opens_again files held.files q.fault may.loaded.0 (sym may.loaded.1) q.least)
  one_change Outcome held once after later text also status end (of_change files to a may o told) (of_change given other b can p said) =
      let same : given ≡ files = can.loaded.1 ∙ sym may.loaded.1 in
      once files to other after later a b text also status end may.loaded.0 o told
      (subst (λ (fs : List FileOf). Outcome fs other (Some held) later b) same p)
      (subst (λ (fs : List FileOf). Tells fs b also end) same said)

  edit_once : CommitsAreOne → (e : Asked) (held : Held) → IsOneOutcome (CommitOutcome e) held
  edit_once ones e held files to other after later a b text also status end has o told p said =
      let once = ones e files to other held after later a b has (settled files a text status told) (settled files b also end said) o p in
      let same = told_alike files a b text also status end once.0 told said in
      (same.0, same.1, once.2)

  undo_once : UndosAreOne → (held : Held) → IsOneOutcome UndoOutcome held
  undo_once ones held files to other after later a b text also status end has o told p said =
      let once = ones files to other held after later a b (settled files a text status told) (settled files b also end said) o p in
      let same = told_same files a b text also status end once.0 told said in
      (same.0, same.1, once.2)

  -- ---- recovery, and the move of a journal

  one_recovery : RecoveriesAreOne → (held : Held) (after later : Option Held) (text also : List ℕ) (status end : Status) → AreInPathOrder held.files → PrintsRecovery (Some held) after text status → PrintsRecovery (Some held) later also end
      → IsOneRun text also status end after later
  one_recovery ones held after later text also status end order p q =
      let once = ones held after later p.0 q.0 order (recovery_settled p.0 text status p.2) (recovery_settled q.0 also end q.2) p.1 q.1 in
      let same = recovery_once q.0 text also status end (subst (λ (a : Result Bool JournalFault). TellsRecovery a text status) once.0 p.2) q.2 in
      (same.0, same.1, once.1)

  one_migration : MigrationsAreOne → (held : Held) (after later : Option Held) (text also : List ℕ) (status end : Status) → PrintsMigration (Some held) after text status → PrintsMigration (Some held) later also end
      → IsOneRun text also status end after later
  one_migration ones held after later text also status end p q =
      let once = ones held after later p.0 q.0 (migration_settled p.0 text status p.2) (migration_settled q.0 also end q.2) p.1 q.1 in
      let same = migration_once q.0 text also status end (subst (λ (a : Result Bool JournalFault). TellsMigration a text status) once.0 p.2) q.2 in
      (same.0, same.1, once.1)

  -- ---- all commands

  module _ (commits : CommitsAreOne) (undos : UndosAreOne) (recoveries : RecoveriesAreOne) (migrations : MigrationsAreOne) where
    one_answer : (command : Command) (held : Held) (after later : Option Held) (text also : List ℕ) (status end : Status) → AreInPathOrder held.files → Answered command (Some held) after text status → Answered command (Some held) later also end
        → IsOneRun text also status end after later
    one_answer Compile held after later text also status end order p q = (let s = one_compiled held.files text also status end p.1 q.1 in (s.0, s.1, p.0 ∙ sym q.0))
    one_answer (Lint rules) held after later text also status end order p q = (let s = one_linted held.files rules.chosen text also status end p.1 q.1 in (s.0, s.1, p.0 ∙ sym q.0))
    one_answer (Edit edit) held after later text also status end order p q = one_change (CommitOutcome (asked edit)) held (edit_once commits (asked edit) held) after later text also status end p q
    one_answer Undo held after later text also status end order p q = one_change UndoOutcome held (undo_once undos held) after later text also status end p q
    one_answer Log held after later text also status end order p q = (let s = one_log one_way held.journal text also status end p.1 q.1 in (s.0, s.1, p.0 ∙ sym q.0))
    one_answer Recover held after later text also status end order p q = one_recovery recoveries held after later text also status end order p q
    one_answer Migrate held after later text also status end order p q = one_migration migrations held after later text also status end p q

    pub runs_are_one : RunsAreOne
    runs_are_one command same before after other old new then now status end alike order p q =
        let r = answered_alike command same (Some before) other q.0 end alike q.1 in
        let one = one_answer command before after other p.0 q.0 status end order p.1 r in
        ((q.0, subst (Appends old new) one.0 p.2, q.2), one.1, one.2)
