-- What the move of a journal to the second version answers, and that it answers one thing.
use Rattle.std.proofs.Common.{◌≡◌, ◌≢◌, ◌⊎◌, inl, inr, ℕ, Bool, true, false, List, [], ◌∷◌, length, Option, Some, None, Result, Ok, Err, refl, sym, ap, ◌∙◌, subst, arith}
use Rattle.std.specs.Prelude.{option_map}
use Rattle.std.specs.Global.{Vec}
use Rattle.proto_journal_records.specs.Common.{JournalFault, Version, First, Second, RecordOf, IsJournal, IsJournalIn, is_last_open, journal_text, CountsFault, IsSettled, IsReadInOneWay, IsMigrant, IsMigrated, IsOpenFirst, IsSecond, IsMigrationTooLong, MigrateOutcome, MigrationsAreOne, SecondOutcome}
use Rattle.proto_journal_records.specs.declared.fault.JournalFault.TheVariants as fault
use Rattle.proto_store.specs.Stores.{Held, HoldsJournal, with_journal}
use Rattle.proto_journal_records.proofs.Outcomes.{over_journal}
use Rattle.proto_journal_records.proofs.UnreadJournals.{unread}

-- ---- what is answered

pub not_read : (journal : List ℕ) (f : JournalFault) → (f ≡ fault.BadJournal) ⊎ (f ≡ fault.NoMemory)
    → (f ≡ fault.BadJournal → (records : List RecordOf) → IsJournal journal records → ⊥) → SecondOutcome journal (Err f)
not_read journal f which bad = unread (λ (z : JournalFault). SecondOutcome journal (Err z)) f which bad tt

pub not_migrated : (old new : Option Held) (journal : List ℕ) (f : JournalFault) → new ≡ old → HoldsJournal old journal → SecondOutcome journal (Err f) → MigrateOutcome old new (Err f)
not_migrated old new journal fault.BadJournal same there o = (same, over_journal old journal (λ (t : List ℕ). (records : List RecordOf) → IsJournal t records → ⊥) there o)
not_migrated old new journal fault.NothingToUndo same there o = absurd o
not_migrated old new journal fault.OpenEntry same there o = (same, over_journal old journal IsOpenFirst there o)
not_migrated old new journal fault.Store same there o = absurd o
not_migrated old new journal fault.JournalFull same there o = (same, over_journal old journal IsMigrationTooLong there o)
not_migrated old new journal fault.NoMemory same there o = same
not_migrated old new journal (fault.Refused r) same there o = absurd o

pub counts_unread : (before after : ℕ) (journal : List ℕ) (f : JournalFault) → after ≡ before → SecondOutcome journal (Err f) → CountsFault before after f
counts_unread before after journal fault.Store same o = absurd o
counts_unread before after journal fault.BadJournal same o = same
counts_unread before after journal fault.NothingToUndo same o = same
counts_unread before after journal fault.OpenEntry same o = same
counts_unread before after journal fault.JournalFull same o = same
counts_unread before after journal fault.NoMemory same o = same
counts_unread before after journal (fault.Refused r) same o = same

pub is_second_now : (old new : Option Held) (journal : List ℕ) → new ≡ old → HoldsJournal old journal → IsSecond journal → MigrateOutcome old new (Ok false)
is_second_now old new journal same there o = (same, over_journal old journal IsSecond there o)

module _ (journal : List ℕ) (text : Vec ℕ) (o : SecondOutcome journal (Ok (Some text))) where
  moved : (h : Held) → journal ≡ h.journal → IsMigrated h (with_journal text.items h)
  moved h there =
      (o.0, subst (λ (t : List ℕ). IsMigrant t o.0) there o.1, o.2, ap (λ (t : List ℕ). with_journal t h) o.2.text)

  pub migrated_now : (old new : Option Held) → HoldsJournal old journal → new ≡ option_map (with_journal text.items) old → MigrateOutcome old new (Ok true)
  migrated_now None new there e = subst (λ (z : Option Held). MigrateOutcome None z (Ok true)) (sym e) tt
  migrated_now (Some h) new there e = subst (λ (z : Option Held). MigrateOutcome (Some h) z (Ok true)) (sym e) (moved h there)

  pub cut_off : (old new : Option Held) → HoldsJournal old journal → (new ≡ old) ⊎ (new ≡ option_map (with_journal text.items) old) → MigrateOutcome old new (Err fault.Store)
  cut_off old new there (inl same) = inl same
  cut_off None new there (inr e) = inl e
  cut_off (Some h) new there (inr e) = subst (λ (z : Option Held). MigrateOutcome (Some h) z (Err fault.Store)) (sym e) (inr (moved h there))

-- ---- one answer

both : {P : Type 0} (b : Bool) → b ≡ true → b ≡ false → P
both b t f = let e : true ≡ false = sym t ∙ f in cc

differ : {P : Type 0} → First ≡ Second → P
differ e = cc

not_none : (rs : List RecordOf) → is_last_open rs ≡ true → rs ≢ []
not_none [] open_last e = let f : false ≡ true = open_last in cc
not_none (r ∷ rs) open_last e = cc

some_records : (v : Version) (journal : List ℕ) (rs : List RecordOf) → IsJournalIn v journal rs → journal ≢ [] → rs ≢ []
some_records v journal [] j some e = some j.text
some_records v journal (r ∷ rs) j some e = cc

record Found (old : Held) (new : Option Held) : Type 0 where
  now : Held
  is : new ≡ Some now
  done : IsMigrated old now

found : (old : Held) (new : Option Held) → MigrateOutcome (Some old) new (Ok true) → Found old new
found old None o = absurd o
found old (Some now) o = record { now = now; is = refl; done = o }

module _ (one_way : IsReadInOneWay) (old : Held) (new now : Option Held) where
  abbrev Same : Result Bool JournalFault → Result Bool JournalFault → Type 0
  Same a b = (a ≡ b) × (new ≡ now)

  -- a journal of the first version with records is not of the second
  second_first : {P : Type 0} (rs : List RecordOf) → IsJournalIn First old.journal rs → rs ≢ [] → IsSecond old.journal → P
  second_first rs j some s = differ ((one_way old.journal First Second rs s.0 j s.1).1 some)

  migrant_second : {P : Type 0} (rs : List RecordOf) → IsMigrant old.journal rs → IsSecond old.journal → P
  migrant_second rs m s = second_first rs m.first (some_records First old.journal rs m.first m.some) s

  migrant_open : {P : Type 0} (rs : List RecordOf) → IsMigrant old.journal rs → IsOpenFirst old.journal → P
  migrant_open rs m o = both (is_last_open rs) (ap is_last_open (one_way old.journal First First rs o.0 m.first o.1).0 ∙ o.2) m.closed

  migrated_long : {P : Type 0} (rs : List RecordOf) (h : Held) → IsMigrant old.journal rs → IsJournalIn Second h.journal rs → IsMigrationTooLong old.journal → P
  migrated_long rs h m j l =
      let same : rs ≡ l.0 = (one_way old.journal First First rs l.0 m.first l.1.first).0 in
      let text : journal_text Second l.0 ≡ h.journal = ap (journal_text Second) (sym same) ∙ sym j.text in
      let short = j.short in
      let long = l.2 in
      absurd (omega (arith, short, long, ap length text))

  migrated_once : Found old new → Found old now → new ≡ now
  migrated_once x y =
      let same : x.done.0 ≡ y.done.0 = (one_way old.journal First First x.done.0 y.done.0 x.done.1.first y.done.1.first).0 in
      x.is ∙ ap (λ (h : Held). Some h) (x.done.3 ∙ ap (λ (rs : List RecordOf). with_journal (journal_text Second rs) old) same ∙ sym y.done.3) ∙ sym y.is

  of_migrated : (b : Result Bool JournalFault) → IsSettled b → MigrateOutcome (Some old) new (Ok true) → MigrateOutcome (Some old) now b → Same (Ok true) b
  of_migrated (Ok true) s p q = (refl, migrated_once (found old new p) (found old now q))
  of_migrated (Ok false) s p q = let f = found old new p in migrant_second f.done.0 f.done.1 q.1
  of_migrated (Err fault.BadJournal) s p q = let f = found old new p in absurd (q.1 f.done.0 (First, f.done.1.first))
  of_migrated (Err fault.NothingToUndo) s p q = absurd q
  of_migrated (Err fault.OpenEntry) s p q = let f = found old new p in migrant_open f.done.0 f.done.1 q.1
  of_migrated (Err fault.Store) s p q = absurd s
  of_migrated (Err fault.JournalFull) s p q = let f = found old new p in migrated_long f.done.0 f.now f.done.1 f.done.2 q.1
  of_migrated (Err fault.NoMemory) s p q = absurd s
  of_migrated (Err (fault.Refused r)) s p q = absurd q

  of_second : (b : Result Bool JournalFault) → IsSettled b → MigrateOutcome (Some old) new (Ok false) → MigrateOutcome (Some old) now b → Same (Ok false) b
  of_second (Ok true) s p q = let f = found old now q in migrant_second f.done.0 f.done.1 p.1
  of_second (Ok false) s p q = (refl, p.0 ∙ sym q.0)
  of_second (Err fault.BadJournal) s p q = absurd (q.1 p.1.0 (Second, p.1.1))
  of_second (Err fault.NothingToUndo) s p q = absurd q
  of_second (Err fault.OpenEntry) s p q = second_first q.1.0 q.1.1 (not_none q.1.0 q.1.2) p.1
  of_second (Err fault.Store) s p q = absurd s
  of_second (Err fault.JournalFull) s p q = migrant_second q.1.0 q.1.1 p.1
  of_second (Err fault.NoMemory) s p q = absurd s
  of_second (Err (fault.Refused r)) s p q = absurd q

  of_unreadable : (b : Result Bool JournalFault) → IsSettled b → MigrateOutcome (Some old) new (Err fault.BadJournal) → MigrateOutcome (Some old) now b → Same (Err fault.BadJournal) b
  of_unreadable (Ok true) s p q = let f = found old now q in absurd (p.1 f.done.0 (First, f.done.1.first))
  of_unreadable (Ok false) s p q = absurd (p.1 q.1.0 (Second, q.1.1))
  of_unreadable (Err fault.BadJournal) s p q = (refl, p.0 ∙ sym q.0)
  of_unreadable (Err fault.NothingToUndo) s p q = absurd q
  of_unreadable (Err fault.OpenEntry) s p q = absurd (p.1 q.1.0 (First, q.1.1))
  of_unreadable (Err fault.Store) s p q = absurd s
  of_unreadable (Err fault.JournalFull) s p q = absurd (p.1 q.1.0 (First, q.1.1.first))
  of_unreadable (Err fault.NoMemory) s p q = absurd s
  of_unreadable (Err (fault.Refused r)) s p q = absurd q

  of_open : (b : Result Bool JournalFault) → IsSettled b → MigrateOutcome (Some old) new (Err fault.OpenEntry) → MigrateOutcome (Some old) now b → Same (Err fault.OpenEntry) b
  of_open (Ok true) s p q = let f = found old now q in migrant_open f.done.0 f.done.1 p.1
  of_open (Ok false) s p q = second_first p.1.0 p.1.1 (not_none p.1.0 p.1.2) q.1
  of_open (Err fault.BadJournal) s p q = absurd (q.1 p.1.0 (First, p.1.1))
  of_open (Err fault.NothingToUndo) s p q = absurd q
  of_open (Err fault.OpenEntry) s p q = (refl, p.0 ∙ sym q.0)
  of_open (Err fault.Store) s p q = absurd s
  of_open (Err fault.JournalFull) s p q = migrant_open q.1.0 q.1.1 p.1
  of_open (Err fault.NoMemory) s p q = absurd s
  of_open (Err (fault.Refused r)) s p q = absurd q

  of_full : (b : Result Bool JournalFault) → IsSettled b → MigrateOutcome (Some old) new (Err fault.JournalFull) → MigrateOutcome (Some old) now b → Same (Err fault.JournalFull) b
  of_full (Ok true) s p q = let f = found old now q in migrated_long f.done.0 f.now f.done.1 f.done.2 p.1
  of_full (Ok false) s p q = migrant_second p.1.0 p.1.1 q.1
  of_full (Err fault.BadJournal) s p q = absurd (q.1 p.1.0 (First, p.1.1.first))
  of_full (Err fault.NothingToUndo) s p q = absurd q
  of_full (Err fault.OpenEntry) s p q = migrant_open p.1.0 p.1.1 q.1
  of_full (Err fault.Store) s p q = absurd s
  of_full (Err fault.JournalFull) s p q = (refl, p.0 ∙ sym q.0)
  of_full (Err fault.NoMemory) s p q = absurd s
  of_full (Err (fault.Refused r)) s p q = absurd q

  once : (a b : Result Bool JournalFault) → IsSettled a → IsSettled b → MigrateOutcome (Some old) new a → MigrateOutcome (Some old) now b → Same a b
  once (Ok true) b s t p q = of_migrated b t p q
  once (Ok false) b s t p q = of_second b t p q
  once (Err fault.BadJournal) b s t p q = of_unreadable b t p q
  once (Err fault.NothingToUndo) b s t p q = absurd p
  once (Err fault.OpenEntry) b s t p q = of_open b t p q
  once (Err fault.Store) b s t p q = absurd s
  once (Err fault.JournalFull) b s t p q = of_full b t p q
  once (Err fault.NoMemory) b s t p q = absurd s
  once (Err (fault.Refused r)) b s t p q = absurd p

pub migrations_are_one : IsReadInOneWay → MigrationsAreOne
migrations_are_one one_way old new now a b s t p q = once one_way old new now a b s t p q
