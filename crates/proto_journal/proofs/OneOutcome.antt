-- What a commit and an undo answer and leave is decided by the store and the workspace, where no call fails and memory is there.
use Rattle.std.proofs.Common.{arith, ◌≡◌, ℕ, ◌≤◌, ◌<◌, ◌==◌, Bool, true, false, List, [], ◌∷◌, ◌++◌, length, Option, Some, None, Result, Ok, Err, refl, sym, ap, ◌∙◌, subst, String, if◌then◌else◌, Global, string_bytes}
use Rattle.std.proofs.lemmas.List.Elements.{All-nil}
use Rattle.proto_files.specs.GivenFiles.{FileOf}
use Rattle.proto_edit_entries.specs.Entries.{ChangeOf}
use Rattle.proto_edit_entries.specs.declared.refusal.Refusal.{Refusal}
use Rattle.proto_edit_entries.specs.declared.refusal.Refusal.TheVariants as refusal
use Rattle.proto_edit_entries.specs.RefusalTable.{refusal_number}
use Rattle.proto_edit.proofs.Common.{AreCompiled, Asked, IsLeastCase, IsMappedStep, IsCaseAt, IsUndo, undo_once}
use Rattle.proto_edit.specs.Laws.{RefusedOnce, StepsOnce}
use Rattle.proto_edit.proofs.OneAnswer.{least_once}
use Rattle.proto_journal_records.specs.declared.fault.JournalFault.{JournalFault}
use Rattle.proto_journal_records.specs.declared.fault.JournalFault.TheVariants as fault
use Rattle.proto_journal_records.specs.declared.record.Version.{Version}
use Rattle.proto_journal_records.specs.declared.record.Version.TheVariants.{Second}
use Rattle.proto_journal_records.proofs.Common.{journal_limit, IsRecord, is_last_open, done, journal_text, IsReadInOneWay, HasOpenEntry, IsReady, IsUnreadable, IsSettled, Keeps, RecordOf, IsJournalIn}
use Rattle.proto_journal_records.proofs.Comebacks.{same_ends}
use Rattle.proto_store.specs.Stores.{Held}
use Rattle.proto_journal.specs.Common.{CommitOutcome, IsCommitted, IsFull, Stays, CommitsAreOne, IsSameAnswer, IsSameRefusal, UndosAreOne, EndsIn, IsStale, IsUndone, UndoOutcome}
use Rattle.proto_journal.proofs.Recorded.{last_of}
use Rattle.proto_edit.specs.Workspaces.{IsWordAt}

-- ---- refusals

-- the refusal of a number, of those that have no place
plain : ℕ → Refusal
plain n =
    if n == 1 then refusal.UnknownTarget
    else (if n == 2 then refusal.KindNotAllowed
    else (if n == 3 then refusal.NotAnIdentifier
    else (if n == 4 then refusal.KeywordName
    else (if n == 5 then refusal.SameName
    else (if n == 6 then refusal.Collision
    else (if n == 8 then refusal.NameReserved
    else (if n == 9 then refusal.JsonClash
    else (if n == 10 then refusal.LastOfOneof
    else (if n == 11 then refusal.UnknownFile
    else (if n == 12 then refusal.AlreadyImported
    else (if n == 13 then refusal.NotImported
    else (if n == 14 then refusal.Cycle
    else (if n == 16 then refusal.TooLarge
    else (if n == 20 then refusal.FixedName
    else refusal.Stale))))))))))))))

-- a refusal has no place, and its number tells it; or it has the place that the edit is refused with
data IsTold (from : List FileOf) (e : Asked) : Refusal → Type 0 where
  by_number : (r : Refusal) → plain (refusal_number r) ≡ r → (refusal_number r == 7) ≡ false → (refusal_number r == 15) ≡ false → (refusal_number r == 19) ≡ false → IsTold from e r
  captured : (path : String Global) (offset : ℕ) → IsCaseAt from e (string_bytes path) offset → IsTold from e (refusal.Captured path offset)
  needed : (path : String Global) (offset : ℕ) → IsCaseAt from e (string_bytes path) offset → IsTold from e (refusal.Needed path offset)
  word : (path : String Global) (offset : ℕ) → IsWordAt from e (string_bytes path) offset → IsTold from e (refusal.OptionValue path offset)

-- a refused edit: the store was ready, and the refusal is the least case
record IsRefused (e : Asked) (from to : List FileOf) (old : Held) (new : Option Held) (r : Refusal) : Type 0 where
  stay : Stays from to (Some old) new
  ready : IsReady old
  least : IsLeastCase from e (refusal_number r)
  is : IsTold from e r

is_refused : (e : Asked) (from to : List FileOf) (old : Held) (new : Option Held) (r : Refusal) → CommitOutcome e from to (Some old) new (Err (fault.Refused r)) → IsRefused e from to old new r
unfolding plain
is_refused e from to old new refusal.NoMemory o = absurd o
is_refused e from to old new (refusal.Captured path offset) o = record { stay = o.0; ready = o.1; least = o.2.0; is = captured path offset o.2.1 }
is_refused e from to old new (refusal.Needed path offset) o = record { stay = o.0; ready = o.1; least = o.2.0; is = needed path offset o.2.1 }
is_refused e from to old new (refusal.OptionValue path offset) o = record { stay = o.0; ready = o.1; least = o.2.0; is = word path offset o.2.1 }
is_refused e from to old new r o = record { stay = o.0; ready = o.1; least = o.2; is = by_number r refl refl refl refl }

same_itself : (r : Refusal) → IsSameRefusal r r
same_itself (refusal.Captured path offset) = (refl, refl)
same_itself (refusal.Needed path offset) = (refl, refl)
same_itself (refusal.OptionValue path offset) = (refl, refl)
same_itself r = refl

-- the number is this one, and is not
numbered : {P : Type 0} (m n : ℕ) → m ≡ n → (n == n) ≡ true → (m == n) ≡ false → P
numbered m n same itself differs = let e : true ≡ false = sym itself ∙ ap (λ (k : ℕ). k == n) (sym same) ∙ differs in cc

-- one number and one place, one refusal
told_alike : RefusedOnce → (from : List FileOf) (e : Asked) (r s : Refusal) → AreCompiled from → refusal_number r ≡ refusal_number s → IsTold from e r → IsTold from e s → IsSameRefusal r s
told_alike refused_once from e r s has same (by_number x p a b z) (by_number y q c d w) = subst (λ (z : Refusal). IsSameRefusal r z) (sym p ∙ ap plain same ∙ q) (same_itself r)
told_alike refused_once from e r s has same (by_number x p a b z) (captured path offset there) = numbered (refusal_number r) 7 same refl a
told_alike refused_once from e r s has same (by_number x p a b z) (needed path offset there) = numbered (refusal_number r) 15 same refl b
told_alike refused_once from e r s has same (by_number x p a b z) (word path offset there) = numbered (refusal_number r) 19 same refl z
told_alike refused_once from e r s has same (captured path offset there) (by_number y q c d w) = numbered (refusal_number s) 7 (sym same) refl c
told_alike refused_once from e r s has same (captured path offset x) (captured file other y) = ((refused_once from e has).1).0 (string_bytes path) (string_bytes file) offset other x y
told_alike refused_once from e r s has same (captured path offset x) (needed file other y) = numbered 7 15 same refl refl
told_alike refused_once from e r s has same (captured path offset x) (word file other y) = numbered 7 19 same refl refl
told_alike refused_once from e r s has same (needed path offset there) (by_number y q c d w) = numbered (refusal_number s) 15 (sym same) refl d
told_alike refused_once from e r s has same (needed path offset x) (captured file other y) = numbered 15 7 same refl refl
told_alike refused_once from e r s has same (needed path offset x) (needed file other y) = ((refused_once from e has).1).0 (string_bytes path) (string_bytes file) offset other x y
told_alike refused_once from e r s has same (needed path offset x) (word file other y) = numbered 15 19 same refl refl
told_alike refused_once from e r s has same (word path offset there) (by_number y q c d w) = numbered (refusal_number s) 19 (sym same) refl w
told_alike refused_once from e r s has same (word path offset x) (captured file other y) = numbered 19 7 same refl refl
told_alike refused_once from e r s has same (word path offset x) (needed file other y) = numbered 19 15 same refl refl
told_alike refused_once from e r s has same (word path offset x) (word file other y) = ((refused_once from e has).1).1 (string_bytes path) (string_bytes file) offset other x y

-- ---- stores

same_held : (n m : Held) → n.files ≡ m.files → n.journal ≡ m.journal → n ≡ m
same_held n m p q = λ i. record { files = p i; journal = q i }

same_kept : (v w : Version) (to other : List FileOf) (rs ss : List RecordOf) (n m : Held) → v ≡ w → to ≡ other → rs ≡ ss → Keeps v to rs n → Keeps w other ss m → n ≡ m
same_kept v w to other rs ss n m u t r x y =
    let texts : journal_text v rs ≡ journal_text w ss = ap (λ (z : Version). journal_text z rs) u ∙ ap (journal_text w) r in
    same_held n m (x.has ∙ t ∙ sym y.has) (x.journal.text ∙ texts ∙ sym y.journal.text)

stays_once : (from to other : List FileOf) (old : Held) (new now : Option Held) → Stays from to (Some old) new → Stays from other (Some old) now → (to ≡ other) × (new ≡ now)
stays_once from to other old new now x y = (x.workspace ∙ sym y.workspace, x.store ∙ sym y.store)

-- ---- lists with one more

never_none : {P : Type 0} (rs : List RecordOf) (a : RecordOf) → rs ++ a ∷ [] ≡ [] → P
never_none [] a e = cc
never_none (r ∷ rs) a e = cc

head_of : (x y : RecordOf) (xs ys : List RecordOf) → x ∷ xs ≡ y ∷ ys → x ≡ y
head_of x y xs ys e = cc

tail_of : (x y : RecordOf) (xs ys : List RecordOf) → x ∷ xs ≡ y ∷ ys → xs ≡ ys
tail_of x y xs ys e = cc

both : {P : Type 0} (b : Bool) → b ≡ true → b ≡ false → P
both b t f = let e : true ≡ false = sym t ∙ f in cc

-- there is a last entry
record HasLast (old : Held) (x : List ChangeOf) : Type 0 where
  version : Version
  before : List RecordOf
  ends : EndsIn version before x old

record IsRefusedStale (from to : List FileOf) (old : Held) (new : Option Held) (r : Refusal) : Type 0 where
  stay : Stays from to (Some old) new
  stale : IsStale from (Some old)
  is : r ≡ refusal.Stale

is_stale : (from to : List FileOf) (old : Held) (new : Option Held) (r : Refusal) → UndoOutcome from to (Some old) new (Err (fault.Refused r)) → IsRefusedStale from to old new r
is_stale from to old new refusal.Stale o = record { stay = o.0; stale = o.1; is = refl }
is_stale from to old new r o = absurd o

module _ (one_way : IsReadInOneWay) (steps_once : StepsOnce) (refused_once : RefusedOnce) where
  -- ---- what a journal says is one thing

  not_unreadable : {P : Type 0} (old : Held) → IsUnreadable old → IsReady old → P
  not_unreadable old u r = absurd (u r.1 (r.0, r.2.journal))

  neither : {P : Type 0} (old : Held) → IsUnreadable old → HasOpenEntry old → P
  neither old u o = absurd (u o.0 o.1)

  not_open : {P : Type 0} (old : Held) → HasOpenEntry old → IsReady old → P
  not_open old o r = both (is_last_open o.0) o.2 (ap is_last_open (one_way old.journal o.1.0 r.0 o.0 r.1 o.1.1 r.2.journal).0 ∙ r.2.closed)

  -- ---- commits

  ready_committed : (e : Asked) (x : List ChangeOf) (from to : List FileOf) (old : Held) (new : Option Held) → IsCommitted e x from to (Some old) new → IsReady old
  ready_committed e x from to old None c = absurd c.store
  ready_committed e x from to old (Some n) c = (c.store.0, c.store.1, c.store.2)

  ready_full : (e : Asked) (from : List FileOf) (old : Held) → IsFull e from (Some old) → IsReady old
  ready_full e from old f = (f.3.0, f.3.1, f.3.2)

  committed_once : (e : Asked) (x y : List ChangeOf) (from to other : List FileOf) (old : Held) (new now : Option Held) → AreCompiled from → IsCommitted e x from to (Some old) new → IsCommitted e y from other (Some old) now
      → (x ≡ y) × (to ≡ other) × (new ≡ now)
  committed_once e x y from to other old None now has c d = absurd c.store
  committed_once e x y from to other old (Some n) None has c d = absurd d.store
  committed_once e x y from to other old (Some n) (Some m) has c d =
      let step = steps_once from to other e x y has c.step.step d.step.step in
      let rs : List RecordOf = c.store.1 in
      let ss : List RecordOf = d.store.1 in
      let same : rs ≡ ss = (one_way old.journal c.store.0 d.store.0 rs ss c.store.2.journal d.store.2.journal).0 in
      let texts : rs ++ done (Some e) x ∷ [] ≡ ss ++ done (Some e) y ∷ [] = λ i. same i ++ done (Some e) (step.0 i) ∷ [] in
      (step.0, step.1, ap (λ (h : Held). Some h) (same_kept Second Second to other (rs ++ done (Some e) x ∷ []) (ss ++ done (Some e) y ∷ []) n m refl step.1 texts c.store.3 d.store.3))

  committed_not_full : {P : Type 0} (e : Asked) (x : List ChangeOf) (from to : List FileOf) (old : Held) (new : Option Held) → AreCompiled from → IsCommitted e x from to (Some old) new → IsFull e from (Some old) → P
  committed_not_full e x from to old None has c f = absurd c.store
  committed_not_full e x from to old (Some n) has c f =
      let step = steps_once from to f.1 e x f.0 has c.step.step f.2.step in
      let rs : List RecordOf = c.store.1 in
      let ss : List RecordOf = f.3.1 in
      let same : rs ≡ ss = (one_way old.journal c.store.0 f.3.0 rs ss c.store.2.journal f.3.2.journal).0 in
      let texts : rs ++ done (Some e) x ∷ [] ≡ ss ++ done (Some e) f.0 ∷ [] = λ i. same i ++ done (Some e) (step.0 i) ∷ [] in
      let size : length n.journal ≡ length (journal_text Second (ss ++ done (Some e) f.0 ∷ [])) = ap length (c.store.3.journal.text ∙ ap (journal_text Second) texts) in
      let short : length n.journal ≤ journal_limit = c.store.3.journal.short in
      let long : journal_limit < length (journal_text Second (ss ++ done (Some e) f.0 ∷ [])) = f.3.3 in
      absurd (omega arith)

  not_refused : {P : Type 0} (e : Asked) (x : List ChangeOf) (from made to : List FileOf) (old : Held) (new : Option Held) (r : Refusal) → IsMappedStep from e x made → IsRefused e from to old new r → P
  not_refused e x from made to old new r s i = absurd (s.step.admissible (refusal_number r) i.least.is)

  module _ (e : Asked) (from to other : List FileOf) (old : Held) (new now : Option Held) (has : AreCompiled from) where
    abbrev Same : Result (List ChangeOf) JournalFault → Result (List ChangeOf) JournalFault → Type 0
    Same a b = IsSameAnswer a b × (to ≡ other) × (new ≡ now)

    stay_once : (a : Result (List ChangeOf) JournalFault) → IsSameAnswer a a → Stays from to (Some old) new → Stays from other (Some old) now → Same a a
    stay_once a same x y = let s = stays_once from to other old new now x y in (same, s.0, s.1)

    of_committed : (x : List ChangeOf) (b : Result (List ChangeOf) JournalFault) → IsSettled b → IsCommitted e x from to (Some old) new → CommitOutcome e from other (Some old) now b → Same (Ok x) b
    of_committed x (Ok y) s p q = let c = committed_once e x y from to other old new now has p q in (ap (λ (z : List ChangeOf). Ok z) c.0, c.1, c.2)
    of_committed x (Err fault.BadJournal) s p q = not_unreadable old q.1 (ready_committed e x from to old new p)
    of_committed x (Err fault.NothingToUndo) s p q = absurd q
    of_committed x (Err fault.OpenEntry) s p q = not_open old q.1 (ready_committed e x from to old new p)
    of_committed x (Err fault.Store) s p q = absurd s
    of_committed x (Err fault.JournalFull) s p q = committed_not_full e x from to old new has p q.1
    of_committed x (Err fault.NoMemory) s p q = absurd s
    of_committed x (Err (fault.Refused r)) s p q = not_refused e x from to other old now r p.step (is_refused e from other old now r q)

    of_unreadable : (b : Result (List ChangeOf) JournalFault) → IsSettled b → Stays from to (Some old) new → IsUnreadable old → CommitOutcome e from other (Some old) now b → Same (Err fault.BadJournal) b
    of_unreadable (Ok y) s p u q = not_unreadable old u (ready_committed e y from other old now q)
    of_unreadable (Err fault.BadJournal) s p u q = stay_once (Err fault.BadJournal) refl p q.0
    of_unreadable (Err fault.NothingToUndo) s p u q = absurd q
    of_unreadable (Err fault.OpenEntry) s p u q = neither old u q.1
    of_unreadable (Err fault.Store) s p u q = absurd s
    of_unreadable (Err fault.JournalFull) s p u q = not_unreadable old u (ready_full e from old q.1)
    of_unreadable (Err fault.NoMemory) s p u q = absurd s
    of_unreadable (Err (fault.Refused r)) s p u q = not_unreadable old u (is_refused e from other old now r q).ready

    of_open : (b : Result (List ChangeOf) JournalFault) → IsSettled b → Stays from to (Some old) new → HasOpenEntry old → CommitOutcome e from other (Some old) now b → Same (Err fault.OpenEntry) b
    of_open (Ok y) s p o q = not_open old o (ready_committed e y from other old now q)
    of_open (Err fault.BadJournal) s p o q = neither old q.1 o
    of_open (Err fault.NothingToUndo) s p o q = absurd q
    of_open (Err fault.OpenEntry) s p o q = stay_once (Err fault.OpenEntry) refl p q.0
    of_open (Err fault.Store) s p o q = absurd s
    of_open (Err fault.JournalFull) s p o q = not_open old o (ready_full e from old q.1)
    of_open (Err fault.NoMemory) s p o q = absurd s
    of_open (Err (fault.Refused r)) s p o q = not_open old o (is_refused e from other old now r q).ready

    of_full : (b : Result (List ChangeOf) JournalFault) → IsSettled b → Stays from to (Some old) new → IsFull e from (Some old) → CommitOutcome e from other (Some old) now b → Same (Err fault.JournalFull) b
    of_full (Ok y) s p f q = committed_not_full e y from other old now has q f
    of_full (Err fault.BadJournal) s p f q = not_unreadable old q.1 (ready_full e from old f)
    of_full (Err fault.NothingToUndo) s p f q = absurd q
    of_full (Err fault.OpenEntry) s p f q = not_open old q.1 (ready_full e from old f)
    of_full (Err fault.Store) s p f q = absurd s
    of_full (Err fault.JournalFull) s p f q = stay_once (Err fault.JournalFull) refl p q.0
    of_full (Err fault.NoMemory) s p f q = absurd s
    of_full (Err (fault.Refused r)) s p f q = not_refused e f.0 from f.1 other old now r f.2 (is_refused e from other old now r q)

    of_refused : (a : Refusal) (b : Result (List ChangeOf) JournalFault) → IsSettled b → IsRefused e from to old new a → CommitOutcome e from other (Some old) now b → Same (Err (fault.Refused a)) b
    of_refused a (Ok y) s p q = not_refused e y from other to old new a q.step p
    of_refused a (Err fault.BadJournal) s p q = not_unreadable old q.1 p.ready
    of_refused a (Err fault.NothingToUndo) s p q = absurd q
    of_refused a (Err fault.OpenEntry) s p q = not_open old q.1 p.ready
    of_refused a (Err fault.Store) s p q = absurd s
    of_refused a (Err fault.JournalFull) s p q = not_refused e q.1.0 from q.1.1 to old new a q.1.2 p
    of_refused a (Err fault.NoMemory) s p q = absurd s
    of_refused a (Err (fault.Refused r)) s p q =
        let i : IsRefused e from other old now r = is_refused e from other old now r q in
        let x = stays_once from to other old new now p.stay i.stay in
        (told_alike refused_once from e a r has (least_once from e (refusal_number a) (refusal_number r) p.least i.least) p.is i.is, x.0, x.1)

  pub commits_are_one : CommitsAreOne
  commits_are_one e from to other old new now (Ok x) b has s t p q = of_committed e from to other old new now has x b t p q
  commits_are_one e from to other old new now (Err fault.BadJournal) b has s t p q = of_unreadable e from to other old new now has b t p.0 p.1 q
  commits_are_one e from to other old new now (Err fault.NothingToUndo) b has s t p q = absurd p
  commits_are_one e from to other old new now (Err fault.OpenEntry) b has s t p q = of_open e from to other old new now has b t p.0 p.1 q
  commits_are_one e from to other old new now (Err fault.Store) b has s t p q = absurd s
  commits_are_one e from to other old new now (Err fault.JournalFull) b has s t p q = of_full e from to other old new now has b t p.0 p.1 q
  commits_are_one e from to other old new now (Err fault.NoMemory) b has s t p q = absurd s
  commits_are_one e from to other old new now (Err (fault.Refused r)) b has s t p q = of_refused e from to other old new now has r b t (is_refused e from to old new r p) q

  -- ---- undos

  ends_once : (old : Held) (v w : Version) (rs ss : List RecordOf) (x y : List ChangeOf) → EndsIn v rs x old → EndsIn w ss y old → (v ≡ w) × (rs ≡ ss) × (x ≡ y)
  ends_once old v w rs ss x y a b =
      let once = one_way old.journal v w (rs ++ done a.0 x ∷ []) (ss ++ done b.0 y ∷ []) a.1 b.1 in
      let e = same_ends rs ss (done a.0 x) (done b.0 y) once.0 in
      (once.1 (λ none. never_none rs (done a.0 x) none), e.0, ap (λ (r : RecordOf). r.entry) e.1)

  ends_closed : {P : Type 0} (old : Held) (v : Version) (rs : List RecordOf) (x : List ChangeOf) → EndsIn v rs x old → HasOpenEntry old → P
  ends_closed old v rs x a o = both (is_last_open o.0) o.2 (ap is_last_open (one_way old.journal o.1.0 v o.0 (rs ++ done a.0 x ∷ []) o.1.1 a.1).0 ∙ last_of rs (done a.0 x))

  -- an empty journal has no records
  none_there : (old : Held) → old.journal ≡ [] → IsJournalIn Second old.journal []
  none_there old e = record { text = e; order = tt; entries = All-nil (IsRecord Second); short = (let size : length old.journal ≡ 0 = ap length e in omega arith) }

  ends_some : {P : Type 0} (old : Held) (v : Version) (rs : List RecordOf) (x : List ChangeOf) → EndsIn v rs x old → old.journal ≡ [] → P
  ends_some old v rs x a e = never_none rs (done a.0 x) (one_way old.journal v Second (rs ++ done a.0 x ∷ []) [] a.1 (none_there old e)).0

  empty_closed : {P : Type 0} (old : Held) → old.journal ≡ [] → HasOpenEntry old → P
  empty_closed old e o = both (is_last_open o.0) o.2 (ap is_last_open (one_way old.journal o.1.0 Second o.0 [] o.1.1 (none_there old e)).0)

  last_undone : (x : List ChangeOf) (from to : List FileOf) (old : Held) (new : Option Held) → IsUndone x from to (Some old) new → HasLast old x
  last_undone x from to old None u = absurd u.store
  last_undone x from to old (Some n) u = record { version = u.store.0; before = u.store.1; ends = u.store.2 }

  -- a journal that ends in an entry is read
  ends_read : {P : Type 0} (old : Held) (v : Version) (rs : List RecordOf) (x : List ChangeOf) → EndsIn v rs x old → IsUnreadable old → P
  ends_read old v rs x a u = absurd (u (rs ++ done a.0 x ∷ []) (v, a.1))

  undone_once : (x y : List ChangeOf) (from to other : List FileOf) (old : Held) (new now : Option Held) → IsUndone x from to (Some old) new → IsUndone y from other (Some old) now
      → (x ≡ y) × (to ≡ other) × (new ≡ now)
  undone_once x y from to other old None now u v = absurd u.store
  undone_once x y from to other old (Some n) None u v = absurd v.store
  undone_once x y from to other old (Some n) (Some m) u v =
      let e = ends_once old u.store.0 v.store.0 u.store.1 v.store.1 x y u.store.2 v.store.2 in
      let same : to ≡ other = undo_once from to other y (subst (λ (z : List ChangeOf). IsUndo from z to) e.2 u.files) v.files in
      (e.2, same, ap (λ (h : Held). Some h) (same_kept u.store.0 v.store.0 to other u.store.1 v.store.1 n m e.0 same e.1 u.store.3 v.store.3))

  undone_not_stale : {P : Type 0} (x : List ChangeOf) (from to : List FileOf) (old : Held) (new : Option Held) → IsUndone x from to (Some old) new → IsStale from (Some old) → P
  undone_not_stale x from to old new u s =
      let l : HasLast old x = last_undone x from to old new u in
      let e = ends_once old l.version s.2.0 l.before s.2.1 x s.0 l.ends s.2.2 in
      absurd (s.1 to (subst (λ (z : List ChangeOf). IsUndo from z to) e.2 u.files))

  module _ (from to other : List FileOf) (old : Held) (new now : Option Held) where
    abbrev Alike : Result (List ChangeOf) JournalFault → Result (List ChangeOf) JournalFault → Type 0
    Alike a b = (a ≡ b) × (to ≡ other) × (new ≡ now)

    alike : (a : Result (List ChangeOf) JournalFault) → Stays from to (Some old) new → Stays from other (Some old) now → Alike a a
    alike a x y = let s = stays_once from to other old new now x y in (refl, s.0, s.1)

    undo_done : (x : List ChangeOf) (b : Result (List ChangeOf) JournalFault) → IsSettled b → IsUndone x from to (Some old) new → UndoOutcome from other (Some old) now b → Alike (Ok x) b
    undo_done x (Ok y) s p q = let c = undone_once x y from to other old new now p q in (ap (λ (z : List ChangeOf). Ok z) c.0, c.1, c.2)
    undo_done x (Err fault.BadJournal) s p q = (let l : HasLast old x = last_undone x from to old new p in ends_read old l.version l.before x l.ends q.1)
    undo_done x (Err fault.NothingToUndo) s p q = (let l : HasLast old x = last_undone x from to old new p in ends_some old l.version l.before x l.ends q.1)
    undo_done x (Err fault.OpenEntry) s p q = (let l : HasLast old x = last_undone x from to old new p in ends_closed old l.version l.before x l.ends q.1)
    undo_done x (Err fault.Store) s p q = absurd s
    undo_done x (Err fault.JournalFull) s p q = absurd q
    undo_done x (Err fault.NoMemory) s p q = absurd s
    undo_done x (Err (fault.Refused r)) s p q = undone_not_stale x from to old new p (is_stale from other old now r q).stale

    undo_unreadable : (b : Result (List ChangeOf) JournalFault) → IsSettled b → Stays from to (Some old) new → IsUnreadable old → UndoOutcome from other (Some old) now b → Alike (Err fault.BadJournal) b
    undo_unreadable (Ok y) s p u q = (let l : HasLast old y = last_undone y from other old now q in ends_read old l.version l.before y l.ends u)
    undo_unreadable (Err fault.BadJournal) s p u q = alike (Err fault.BadJournal) p q.0
    undo_unreadable (Err fault.NothingToUndo) s p u q = absurd (u [] (Second, none_there old q.1))
    undo_unreadable (Err fault.OpenEntry) s p u q = neither old u q.1
    undo_unreadable (Err fault.Store) s p u q = absurd s
    undo_unreadable (Err fault.JournalFull) s p u q = absurd q
    undo_unreadable (Err fault.NoMemory) s p u q = absurd s
    undo_unreadable (Err (fault.Refused r)) s p u q = (let t : IsStale from (Some old) = (is_stale from other old now r q).stale in ends_read old t.2.0 t.2.1 t.0 t.2.2 u)

    undo_open : (b : Result (List ChangeOf) JournalFault) → IsSettled b → Stays from to (Some old) new → HasOpenEntry old → UndoOutcome from other (Some old) now b → Alike (Err fault.OpenEntry) b
    undo_open (Ok y) s p o q = (let l : HasLast old y = last_undone y from other old now q in ends_closed old l.version l.before y l.ends o)
    undo_open (Err fault.BadJournal) s p o q = neither old q.1 o
    undo_open (Err fault.NothingToUndo) s p o q = empty_closed old q.1 o
    undo_open (Err fault.OpenEntry) s p o q = alike (Err fault.OpenEntry) p q.0
    undo_open (Err fault.Store) s p o q = absurd s
    undo_open (Err fault.JournalFull) s p o q = absurd q
    undo_open (Err fault.NoMemory) s p o q = absurd s
    undo_open (Err (fault.Refused r)) s p o q = (let t : IsStale from (Some old) = (is_stale from other old now r q).stale in ends_closed old t.2.0 t.2.1 t.0 t.2.2 o)

    undo_nothing : (b : Result (List ChangeOf) JournalFault) → IsSettled b → Stays from to (Some old) new → old.journal ≡ [] → UndoOutcome from other (Some old) now b → Alike (Err fault.NothingToUndo) b
    undo_nothing (Ok y) s p n q = (let l : HasLast old y = last_undone y from other old now q in ends_some old l.version l.before y l.ends n)
    undo_nothing (Err fault.BadJournal) s p n q = absurd (q.1 [] (Second, none_there old n))
    undo_nothing (Err fault.NothingToUndo) s p n q = alike (Err fault.NothingToUndo) p q.0
    undo_nothing (Err fault.OpenEntry) s p n q = empty_closed old n q.1
    undo_nothing (Err fault.Store) s p n q = absurd s
    undo_nothing (Err fault.JournalFull) s p n q = absurd q
    undo_nothing (Err fault.NoMemory) s p n q = absurd s
    undo_nothing (Err (fault.Refused r)) s p n q = (let t : IsStale from (Some old) = (is_stale from other old now r q).stale in ends_some old t.2.0 t.2.1 t.0 t.2.2 n)

    undo_stale : (a : Refusal) (b : Result (List ChangeOf) JournalFault) → IsSettled b → IsRefusedStale from to old new a → UndoOutcome from other (Some old) now b → Alike (Err (fault.Refused a)) b
    undo_stale a (Ok y) s p q = undone_not_stale y from other old now q p.stale
    undo_stale a (Err fault.BadJournal) s p q = (let t : IsStale from (Some old) = p.stale in ends_read old t.2.0 t.2.1 t.0 t.2.2 q.1)
    undo_stale a (Err fault.NothingToUndo) s p q = (let t : IsStale from (Some old) = p.stale in ends_some old t.2.0 t.2.1 t.0 t.2.2 q.1)
    undo_stale a (Err fault.OpenEntry) s p q = (let t : IsStale from (Some old) = p.stale in ends_closed old t.2.0 t.2.1 t.0 t.2.2 q.1)
    undo_stale a (Err fault.Store) s p q = absurd s
    undo_stale a (Err fault.JournalFull) s p q = absurd q
    undo_stale a (Err fault.NoMemory) s p q = absurd s
    undo_stale a (Err (fault.Refused r)) s p q =
        let i : IsRefusedStale from other old now r = is_stale from other old now r q in
        let x = stays_once from to other old new now p.stay i.stay in
        (ap (λ (z : Refusal). Err (fault.Refused z)) (p.is ∙ sym i.is), x.0, x.1)

  pub undos_are_one : UndosAreOne
  undos_are_one from to other old new now (Ok x) b s t p q = undo_done from to other old new now x b t p q
  undos_are_one from to other old new now (Err fault.BadJournal) b s t p q = undo_unreadable from to other old new now b t p.0 p.1 q
  undos_are_one from to other old new now (Err fault.NothingToUndo) b s t p q = undo_nothing from to other old new now b t p.0 p.1 q
  undos_are_one from to other old new now (Err fault.OpenEntry) b s t p q = undo_open from to other old new now b t p.0 p.1 q
  undos_are_one from to other old new now (Err fault.Store) b s t p q = absurd s
  undos_are_one from to other old new now (Err fault.JournalFull) b s t p q = absurd p
  undos_are_one from to other old new now (Err fault.NoMemory) b s t p q = absurd s
  undos_are_one from to other old new now (Err (fault.Refused r)) b s t p q = undo_stale from to other old new now r b t (is_stale from to old new r p) q
