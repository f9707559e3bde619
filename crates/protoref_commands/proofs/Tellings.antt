-- What is told of a change over files, and what the command then answers.
use Rattle.std.proofs.Common.{◌≡◌, ℕ, List, [], ◌⊎◌, Option, Some, None, Result, Ok, Err, inl, inr, refl, sym, subst}
use Rattle.proto_journal.specs.Workspaces.{Asked}
use Rattle.proto_edit_entries.specs.Entries.{ChangeOf}
use Rattle.proto_edit_entries.specs.declared.refusal.Refusal.{Refusal}
use Rattle.proto_edit_entries.specs.declared.refusal.Refusal.TheVariants as refusal
use Rattle.proto_files.proofs.Common.{FaultAt, IsLeastFault, FileOf}
use Rattle.proto_journal.specs.Common.{CommitOutcome, IsUnready, UndoOutcome}
use Rattle.proto_journal_records.proofs.Common.{IsReady, Over, IsJournal, RecordOf}
use Rattle.protoref_output.proofs.Common.{status_of, printed_text, faulty_line, IsLineOver}
use Rattle.protoref_output.specs.declared.answer.Answer.{Answer}
use Rattle.protoref_output.specs.declared.run_fault.RunFault.{RunFault}
use Rattle.protoref_output.specs.declared.run_fault.RunFault.TheVariants as ends
use Rattle.protoref_output.specs.declared.status.Status.{Status}
use Rattle.protoref_output.specs.declared.status.Status.TheVariants.{Problem}
use Rattle.proto_journal_records.specs.declared.fault.JournalFault.{JournalFault}
use Rattle.proto_journal_records.specs.declared.fault.JournalFault.TheVariants as fault
use Rattle.proto_desc.specs.Whole.{WorkspaceFaults}
use Rattle.proto_store.specs.Stores.{Held, HoldsFiles, HoldsJournal}
use Rattle.protoref_commands.specs.Common.{AnswersEdit, AnswersUndo, Begins, IsEditCut, IsUndoingCut, MayBegin, of_journal, of_files, of_change, CountsAlike, IsFaultTold, IsNoRefusal, TellsOutcome, Tells, TellsOf}
use Rattle.protoref_commands.specs.Logs.{AnswersLog, PrintsLog, TellsLog}
use Rattle.protoref_commands.specs.declared.beginning.Beginning.TheVariants as beginning

-- ---- one fault

-- a fault that is no refusal is told alike, whatever the line of refusals
pub told_alone : (l m : Refusal → List ℕ) (f : JournalFault) (r : Result Answer RunFault) → IsNoRefusal f → IsFaultTold l f r → IsFaultTold m f r
told_alone l m (fault.Refused x) r plain told = absurd plain
told_alone l m fault.Store (Ok a) plain told = told
told_alone l m fault.Store (Err e) plain told = told
told_alone l m fault.NoMemory (Ok a) plain told = told
told_alone l m fault.NoMemory (Err e) plain told = told
told_alone l m f (Ok a) plain told = told
told_alone l m f (Err e) plain told = told

-- a fault that has a line
pub line_told : (files : List FileOf) (f : JournalFault) (a : Answer) → (f ≡ fault.Store → ⊥) → (f ≡ fault.NoMemory → ⊥) → IsNoRefusal f → printed_text a ≡ faulty_line f
    → status_of a ≡ Problem → TellsOutcome files (Err f) (Ok a)
line_told files fault.Store a store memory plain t s = absurd (store refl)
line_told files fault.NoMemory a store memory plain t s = absurd (memory refl)
line_told files (fault.Refused x) a store memory plain t s = absurd plain
line_told files f a store memory plain t s = (t, s)

pub no_refusal : (f : JournalFault) → ((x : Refusal) → f ≡ fault.Refused x → ⊥) → IsNoRefusal f
no_refusal (fault.Refused x) none = none x refl
no_refusal f none = tt

-- memory runs out for its line
pub memory_told : (files : List FileOf) (f : JournalFault) → (f ≡ fault.Store → ⊥) → TellsOutcome files (Err f) (Err ends.NoMemory)
memory_told files fault.Store store = absurd (store refl)
memory_told files f store = refl

pub line_counts : (f : JournalFault) (a : Answer) → (f ≡ fault.Store → ⊥) → CountsAlike (Err f) (Ok a)
line_counts fault.Store a store before after counted = absurd (store refl)
line_counts f a store before after counted = counted

pub memory_counts : (f : JournalFault) → (f ≡ fault.Store → ⊥) → CountsAlike (Err f) (Err ends.NoMemory)
memory_counts fault.Store store before after counted = absurd (store refl)
memory_counts f store before after counted = counted

-- what is answered before a change is no refusal
pub ready_is_plain : (held : Option Held) (f : JournalFault) → IsUnready held f → IsNoRefusal f
ready_is_plain held (fault.Refused x) h = absurd h
ready_is_plain held f h = tt

-- the output is not written yet
pub told_unwritten : (files : List FileOf) (o : Result (List ChangeOf) JournalFault) → TellsOutcome files o (Err ends.Output) → ⊥
told_unwritten files (Ok entry) told = told
told_unwritten files (Err fault.Store) told = cc
told_unwritten files (Err f) told = cc

-- ---- a change over files

-- after a refusal the workspace has the files from before it
commit_over : (e : Asked) (from to : List FileOf) (old new : Option Held) (o : Result (List ChangeOf) JournalFault) (r : Result Answer RunFault) → CommitOutcome e from to old new o → TellsOutcome to o r → TellsOutcome from o r
commit_over e from to old new (Ok entry) (Ok a) h told = told
commit_over e from to old new (Ok entry) (Err x) h told = told
commit_over e from to old new (Err fault.NothingToUndo) r h told = absurd h
commit_over e from to old new (Err fault.Store) r h told = subst (λ l. TellsOutcome l (Err fault.Store) r) h.0 told
commit_over e from to old new (Err fault.NoMemory) r h told = subst (λ l. TellsOutcome l (Err fault.NoMemory) r) h.workspace told
commit_over e from to old new (Err fault.BadJournal) r h told = subst (λ l. TellsOutcome l (Err fault.BadJournal) r) h.0.workspace told
commit_over e from to old new (Err fault.OpenEntry) r h told = subst (λ l. TellsOutcome l (Err fault.OpenEntry) r) h.0.workspace told
commit_over e from to old new (Err fault.JournalFull) r h told = subst (λ l. TellsOutcome l (Err fault.JournalFull) r) h.0.workspace told
commit_over e from to old new (Err (fault.Refused refusal.NoMemory)) r h told = absurd h
commit_over e from to old new (Err (fault.Refused x)) r h told = subst (λ l. TellsOutcome l (Err (fault.Refused x)) r) h.0.workspace told

undo_over : (from to : List FileOf) (old new : Option Held) (o : Result (List ChangeOf) JournalFault) (r : Result Answer RunFault) → UndoOutcome from to old new o → TellsOutcome to o r → TellsOutcome from o r
undo_over from to old new (Ok entry) (Ok a) h told = told
undo_over from to old new (Ok entry) (Err x) h told = told
undo_over from to old new (Err fault.JournalFull) r h told = absurd h
undo_over from to old new (Err fault.Store) r h told = subst (λ l. TellsOutcome l (Err fault.Store) r) h.0 told
undo_over from to old new (Err fault.NoMemory) r h told = subst (λ l. TellsOutcome l (Err fault.NoMemory) r) h.workspace told
undo_over from to old new (Err fault.BadJournal) r h told = subst (λ l. TellsOutcome l (Err fault.BadJournal) r) h.0.workspace told
undo_over from to old new (Err fault.OpenEntry) r h told = subst (λ l. TellsOutcome l (Err fault.OpenEntry) r) h.0.workspace told
undo_over from to old new (Err fault.NothingToUndo) r h told = subst (λ l. TellsOutcome l (Err fault.NothingToUndo) r) h.0.workspace told
undo_over from to old new (Err (fault.Refused refusal.Stale)) r h told = subst (λ l. TellsOutcome l (Err (fault.Refused refusal.Stale)) r) h.0.workspace told
undo_over from to old new (Err (fault.Refused x)) r h told = absurd h

-- what is told over the files that are read off the workspace afterwards
pub commit_told : (e : Asked) (from to seen : List FileOf) (old new : Option Held) (o : Result (List ChangeOf) JournalFault) (r : Result Answer RunFault)
    → CommitOutcome e from to old new o → seen ≡ to → TellsOutcome seen o r → TellsOf (CommitOutcome e) from old new r
commit_told e from to seen old new o r h same told = (to, o, h, commit_over e from to old new o r h (subst (λ l. TellsOutcome l o r) same told))

pub undo_told : (from to seen : List FileOf) (old new : Option Held) (o : Result (List ChangeOf) JournalFault) (r : Result Answer RunFault)
    → UndoOutcome from to old new o → seen ≡ to → TellsOutcome seen o r → TellsOf UndoOutcome from old new r
undo_told from to seen old new o r h same told = (to, o, h, undo_over from to old new o r h (subst (λ l. TellsOutcome l o r) same told))

-- ---- answers

told_tells : (files : List FileOf) (o : Result (List ChangeOf) JournalFault) (a : Answer) → TellsOutcome files o (Ok a) → Tells files o (printed_text a) (status_of a)
told_tells files (Ok entry) a told = told
told_tells files (Err f) a told = told

commit_cut : (e : Asked) (files to : List FileOf) (before after : Option Held) (o : Result (List ChangeOf) JournalFault) → MayBegin files before
    → CommitOutcome e files to before after o → TellsOutcome files o (Err ends.Store) → IsEditCut e before after
commit_cut e files to before after (Ok entry) may h told = absurd told
commit_cut e files to before after (Err fault.Store) may h told = inr (files, may, h.1)
commit_cut e files to before after (Err f) may h told = let no : ⊥ = cc in absurd no

commit_stays : (e : Asked) (files to : List FileOf) (before after : Option Held) (o : Result (List ChangeOf) JournalFault)
    → CommitOutcome e files to before after o → TellsOutcome files o (Err ends.NoMemory) → after ≡ before
commit_stays e files to before after (Ok entry) h told = absurd told
commit_stays e files to before after (Err fault.NothingToUndo) h told = absurd h
commit_stays e files to before after (Err fault.Store) h told = let no : ⊥ = cc in absurd no
commit_stays e files to before after (Err fault.NoMemory) h told = h.store
commit_stays e files to before after (Err fault.BadJournal) h told = h.0.store
commit_stays e files to before after (Err fault.OpenEntry) h told = h.0.store
commit_stays e files to before after (Err fault.JournalFull) h told = h.0.store
commit_stays e files to before after (Err (fault.Refused refusal.NoMemory)) h told = absurd h
commit_stays e files to before after (Err (fault.Refused x)) h told = h.0.store

pub edit_answers : (e : Asked) (files : List FileOf) (before after : Option Held) (r : Result Answer RunFault) → MayBegin files before
    → TellsOf (CommitOutcome e) files before after r → AnswersEdit e before after r
edit_answers e files before after (Ok a) may (to, o, h, told) = of_change files to o may h (told_tells files o a told)
edit_answers e files before after (Err ends.Store) may (to, o, h, told) = commit_cut e files to before after o may h told
edit_answers e files before after (Err ends.NoMemory) may (to, o, h, told) = commit_stays e files to before after o h told
edit_answers e files before after (Err ends.Output) may (to, o, h, told) = told_unwritten files o told

undoing_cut : (files to : List FileOf) (before after : Option Held) (o : Result (List ChangeOf) JournalFault) → MayBegin files before
    → UndoOutcome files to before after o → TellsOutcome files o (Err ends.Store) → IsUndoingCut before after
undoing_cut files to before after (Ok entry) may h told = absurd told
undoing_cut files to before after (Err fault.Store) may h told = inr (files, may, h.1)
undoing_cut files to before after (Err f) may h told = let no : ⊥ = cc in absurd no

undo_stays : (files to : List FileOf) (before after : Option Held) (o : Result (List ChangeOf) JournalFault)
    → UndoOutcome files to before after o → TellsOutcome files o (Err ends.NoMemory) → after ≡ before
undo_stays files to before after (Ok entry) h told = absurd told
undo_stays files to before after (Err fault.JournalFull) h told = absurd h
undo_stays files to before after (Err fault.Store) h told = let no : ⊥ = cc in absurd no
undo_stays files to before after (Err fault.NoMemory) h told = h.store
undo_stays files to before after (Err fault.BadJournal) h told = h.0.store
undo_stays files to before after (Err fault.OpenEntry) h told = h.0.store
undo_stays files to before after (Err fault.NothingToUndo) h told = h.0.store
undo_stays files to before after (Err (fault.Refused refusal.Stale)) h told = h.0.store
undo_stays files to before after (Err (fault.Refused x)) h told = absurd h

pub undo_answers : (files : List FileOf) (before after : Option Held) (r : Result Answer RunFault) → MayBegin files before
    → TellsOf UndoOutcome files before after r → AnswersUndo before after r
undo_answers files before after (Ok a) may (to, o, h, told) = of_change files to o may h (told_tells files o a told)
undo_answers files before after (Err ends.Store) may (to, o, h, told) = undoing_cut files to before after o may h told
undo_answers files before after (Err ends.NoMemory) may (to, o, h, told) = undo_stays files to before after o h told
undo_answers files before after (Err ends.Output) may (to, o, h, told) = told_unwritten files o told

-- ---- before a change

-- a fault of the journal, and one of the files
pub not_ready : (held : Option Held) (f : JournalFault) (a : Answer) → IsUnready held f → (IsNoRefusal f → TellsOutcome [] (Err f) (Ok a)) → Begins held (beginning.Never a)
not_ready held f a why told = inl (record { fault = f; why = why; told = told (ready_is_plain held f why) })

pub has_fault : (held : Option Held) (x : FaultAt) (a : Answer) → Over held IsReady → Over held (λ now. IsLeastFault (WorkspaceFaults now.files) x) → IsLineOver held x (printed_text a)
    → status_of a ≡ Problem → Begins held (beginning.Never a)
has_fault held x a ready least line problem = inr (record { fault = x; ready = ready; least = least; line = line; ends = problem })

pub may_hold : (files : List FileOf) (held : Option Held) → MayBegin files held → HoldsFiles held files
may_hold files None may = tt
may_hold files (Some held) may = may.loaded.1

pub never_edits : (e : Asked) (before after : Option Held) (a : Answer) → Begins before (beginning.Never a) → after ≡ before → AnswersEdit e before after (Ok a)
never_edits e before after a (inl n) same = of_journal n same
never_edits e before after a (inr f) same = of_files f same

pub never_undoes : (before after : Option Held) (a : Answer) → Begins before (beginning.Never a) → after ≡ before → AnswersUndo before after (Ok a)
never_undoes before after a (inl n) same = of_journal n same
never_undoes before after a (inr f) same = of_files f same

-- a call that ends before a change
pub ends_unedited : (e : Asked) (before after : Option Held) (x : RunFault) → (x ≡ ends.Output → ⊥) → after ≡ before → AnswersEdit e before after (Err x)
ends_unedited e before after ends.Store plain same = inl same
ends_unedited e before after ends.NoMemory plain same = same
ends_unedited e before after ends.Output plain same = plain refl

pub ends_undone : (before after : Option Held) (x : RunFault) → (x ≡ ends.Output → ⊥) → after ≡ before → AnswersUndo before after (Err x)
ends_undone before after ends.Store plain same = inl same
ends_undone before after ends.NoMemory plain same = same
ends_undone before after ends.Output plain same = plain refl

-- ---- the log

-- what is told of bytes that are no journal
pub log_tells : (journal : List ℕ) (f : JournalFault) (r : Result Answer RunFault) → (f ≡ fault.BadJournal) ⊎ (f ≡ fault.NoMemory) → (f ≡ fault.BadJournal → (records : List RecordOf) → IsJournal journal records → ⊥)
    → (IsNoRefusal f → TellsOutcome [] (Err f) r) → TellsLog journal r
log_tells journal fault.BadJournal (Ok a) only bad told = let t = told tt in subst (λ (s : Status). PrintsLog journal (printed_text a) s) (sym t.1) (bad refl, t.0)
log_tells journal fault.BadJournal (Err e) only bad told = told tt
log_tells journal fault.NoMemory (Ok a) only bad told = absurd (told tt)
log_tells journal fault.NoMemory (Err e) only bad told = told tt
log_tells journal f r (inl same) bad told = let no : ⊥ = cc in absurd no
log_tells journal f r (inr same) bad told = let no : ⊥ = cc in absurd no

pub log_answers : (before after : Option Held) (journal : List ℕ) (r : Result Answer RunFault) → HoldsJournal before journal → after ≡ before → TellsLog journal r → AnswersLog before after r
log_answers None after journal (Ok a) held same told = (same, tt)
log_answers (Some h) after journal (Ok a) held same told = (same, subst (λ (l : List ℕ). PrintsLog l (printed_text a) (status_of a)) held told)
log_answers before after journal (Err ends.Store) held same told = same
log_answers before after journal (Err ends.NoMemory) held same told = same
log_answers before after journal (Err ends.Output) held same told = cc
