-- What a recovery answers and leaves is decided by the store, where no call fails and memory is there; and a later recovery does what is left.
use Rattle.std.proofs.Common.{◌≡◌, inl, inr, ℕ, Bool, true, false, List, [], ◌∷◌, ◌++◌, Option, Some, None, Result, Ok, Err, refl, sym, ap, ◌∙◌, subst, Contains}
use Rattle.proto_edit_entries.proofs.Common.{ChangeOf, Asked}
use Rattle.proto_edit_entries.specs.declared.refusal.Refusal.{Refusal}
use Rattle.proto_edit_entries.specs.declared.refusal.Refusal.TheVariants as refusal
use Rattle.proto_journal_records.specs.Common.{JournalFault, is_last_open, is_open, journal_text, opened, IsReadInOneWay, JournalsShrink, IsSettled, CutStaysTorn, IsLateAnswer, RecoveriesAreOne, RecoveryGoesOn, TornComesBack, ArePutBack, HasStaleFile, IsRecovered, IsRecovering, RecoverOutcome, IsTorn, IsTornBetween, IsReady, IsUnreadable, Version, RecordOf, IsJournalIn}
use Rattle.proto_journal_records.specs.declared.fault.JournalFault.TheVariants as fault
use Rattle.proto_store.specs.Stores.{AreInPathOrder, Held}
use Rattle.proto_journal_records.proofs.Comebacks.{entry_of, recovered_keeps, recovering_stays, same_torn}
use Rattle.proto_journal_records.proofs.PutBack.{back_behind, partly_either, put_back_once}
use Rattle.proto_journal_records.proofs.TornStores.{torn_between_is_torn}

pub last_of : (records : List RecordOf) (r : RecordOf) → is_last_open (records ++ r ∷ []) ≡ is_open r.state
last_of [] r = refl
last_of (s ∷ []) r = refl
last_of (s ∷ t ∷ rs) r = last_of (t ∷ rs) r

both : {P : Type 0} (b : Bool) → b ≡ true → b ≡ false → P
both b t f = let e : true ≡ false = sym t ∙ f in cc

same_held : (n m : Held) → n.files ≡ m.files → n.journal ≡ m.journal → n ≡ m
same_held n m p q = λ i. record { files = p i; journal = q i }

-- ---- four things that a store is

-- a recovery that answered true, with what it found
record Found (old : Held) (new : Option Held) : Type 0 where
  version : Version
  records : List RecordOf
  entry : List ChangeOf
  now : Held
  is : new ≡ Some now
  done : IsRecovered version records entry old now

found : (old : Held) (new : Option Held) → RecoverOutcome (Some old) new (Ok true) → Found old new
found old None o = absurd o
found old (Some now) o = record { version = o.0; records = o.1; entry = o.2; now = now; is = refl; done = o.3 }

-- a refusal is of staleness
record IsRefusedStale (old : Held) (new : Option Held) (r : Refusal) : Type 0 where
  stay : new ≡ Some old
  stale : HasStaleFile old
  is : r ≡ refusal.Stale

is_stale : (old : Held) (new : Option Held) (r : Refusal) → RecoverOutcome (Some old) new (Err (fault.Refused r)) → IsRefusedStale old new r
is_stale old new refusal.Stale o = record { stay = o.0; stale = o.1; is = refl }
is_stale old new r o = absurd o

module _ (one_way : IsReadInOneWay) where
  -- ---- a store is one of them

  unread : {P : Type 0} (old : Held) (v : Version) (records : List RecordOf) → IsUnreadable old → IsJournalIn v old.journal records → P
  unread old v records u j = absurd (u records (v, j))

  -- no entry is open, and one is
  closed : {P : Type 0} (old : Held) (v : Version) (records : List RecordOf) (edit : Option Asked) (entry : List ChangeOf) → IsReady old → IsJournalIn v old.journal (records ++ opened edit entry ∷ []) → P
  closed old v records edit entry r j =
      both (is_last_open (records ++ opened edit entry ∷ [])) (last_of records (opened edit entry))
      (ap is_last_open (one_way old.journal v r.0 (records ++ opened edit entry ∷ []) r.1 j r.2.journal).0 ∙ r.2.closed)

  -- each file is as before or as after, and one is not
  torn_stale : {P : Type 0} (old : Held) (v : Version) (records : List RecordOf) (entry : List ChangeOf) → IsTorn v records entry old → HasStaleFile old → P
  torn_stale old v records entry t s =
      let same = same_torn one_way old.journal s.0 v s.1 records s.2 t.edit s.3 entry s.4 t.journal in
      absurd (s.7 (t.files s.5 (subst (λ (x : List ChangeOf). Contains x s.5) same.2 s.6)))

  recovered_once : (old : Held) (new now : Option Held) → AreInPathOrder old.files → Found old new → Found old now → new ≡ now
  recovered_once old new now order x y =
      let same = same_torn one_way old.journal x.version y.version x.records y.records x.done.torn.edit y.done.torn.edit x.entry y.entry x.done.torn.journal y.done.torn.journal in
      let back : ArePutBack y.entry old.files x.now.files = subst (λ (z : List ChangeOf). ArePutBack z old.files x.now.files) same.2 x.done.files in
      let files = put_back_once y.entry old.files x.now.files y.now.files (entry_of y.version old.journal y.records y.done.torn.edit y.entry y.done.torn.journal) order back y.done.files in
      let texts : journal_text x.version x.records ≡ journal_text y.version y.records =
      ap (λ (v : Version). journal_text v x.records) same.0 ∙ ap (journal_text y.version) same.1 in
      let journal : x.now.journal ≡ y.now.journal = x.done.journal.text ∙ texts ∙ sym y.done.journal.text in
      x.is ∙ ap (λ (h : Held). Some h) (same_held x.now y.now files journal) ∙ sym y.is

  module _ (old : Held) (new now : Option Held) (order : AreInPathOrder old.files) where
    abbrev Same : Result Bool JournalFault → Result Bool JournalFault → Type 0
    Same a b = (a ≡ b) × (new ≡ now)

    of_recovered : (b : Result Bool JournalFault) → IsSettled b → RecoverOutcome (Some old) new (Ok true) → RecoverOutcome (Some old) now b → Same (Ok true) b
    of_recovered (Ok true) s p q = (refl, recovered_once old new now order (found old new p) (found old now q))
    of_recovered (Ok false) s p q = let f = found old new p in closed old f.version f.records f.done.torn.edit f.entry q.1 f.done.torn.journal
    of_recovered (Err fault.BadJournal) s p q = let f = found old new p in unread old f.version (f.records ++ opened f.done.torn.edit f.entry ∷ []) q.1 f.done.torn.journal
    of_recovered (Err fault.NothingToUndo) s p q = absurd q
    of_recovered (Err fault.OpenEntry) s p q = absurd q
    of_recovered (Err fault.Store) s p q = absurd s
    of_recovered (Err fault.JournalFull) s p q = absurd q
    of_recovered (Err fault.NoMemory) s p q = absurd s
    of_recovered (Err (fault.Refused r)) s p q = let f = found old new p in torn_stale old f.version f.records f.entry f.done.torn (is_stale old now r q).stale

    of_ready : (b : Result Bool JournalFault) → IsSettled b → RecoverOutcome (Some old) new (Ok false) → RecoverOutcome (Some old) now b → Same (Ok false) b
    of_ready (Ok true) s p q = let f = found old now q in closed old f.version f.records f.done.torn.edit f.entry p.1 f.done.torn.journal
    of_ready (Ok false) s p q = (refl, p.0 ∙ sym q.0)
    of_ready (Err fault.BadJournal) s p q = unread old p.1.0 p.1.1 q.1 p.1.2.journal
    of_ready (Err fault.NothingToUndo) s p q = absurd q
    of_ready (Err fault.OpenEntry) s p q = absurd q
    of_ready (Err fault.Store) s p q = absurd s
    of_ready (Err fault.JournalFull) s p q = absurd q
    of_ready (Err fault.NoMemory) s p q = absurd s
    of_ready (Err (fault.Refused r)) s p q = let x = (is_stale old now r q).stale in closed old x.0 x.1 x.2 x.3 p.1 x.4

    of_unreadable : (b : Result Bool JournalFault) → IsSettled b → RecoverOutcome (Some old) new (Err fault.BadJournal) → RecoverOutcome (Some old) now b → Same (Err fault.BadJournal) b
    of_unreadable (Ok true) s p q = let f = found old now q in unread old f.version (f.records ++ opened f.done.torn.edit f.entry ∷ []) p.1 f.done.torn.journal
    of_unreadable (Ok false) s p q = unread old q.1.0 q.1.1 p.1 q.1.2.journal
    of_unreadable (Err fault.BadJournal) s p q = (refl, p.0 ∙ sym q.0)
    of_unreadable (Err fault.NothingToUndo) s p q = absurd q
    of_unreadable (Err fault.OpenEntry) s p q = absurd q
    of_unreadable (Err fault.Store) s p q = absurd s
    of_unreadable (Err fault.JournalFull) s p q = absurd q
    of_unreadable (Err fault.NoMemory) s p q = absurd s
    of_unreadable (Err (fault.Refused r)) s p q = let x = (is_stale old now r q).stale in unread old x.0 (x.1 ++ opened x.2 x.3 ∷ []) p.1 x.4

    of_stale : (t : Refusal) (b : Result Bool JournalFault) → IsSettled b → IsRefusedStale old new t → RecoverOutcome (Some old) now b → Same (Err (fault.Refused t)) b
    of_stale t (Ok true) s p q = let f = found old now q in torn_stale old f.version f.records f.entry f.done.torn p.stale
    of_stale t (Ok false) s p q = closed old p.stale.0 p.stale.1 p.stale.2 p.stale.3 q.1 p.stale.4
    of_stale t (Err fault.BadJournal) s p q = unread old p.stale.0 (p.stale.1 ++ opened p.stale.2 p.stale.3 ∷ []) q.1 p.stale.4
    of_stale t (Err fault.NothingToUndo) s p q = absurd q
    of_stale t (Err fault.OpenEntry) s p q = absurd q
    of_stale t (Err fault.Store) s p q = absurd s
    of_stale t (Err fault.JournalFull) s p q = absurd q
    of_stale t (Err fault.NoMemory) s p q = absurd s
    of_stale t (Err (fault.Refused r)) s p q =
        let x = is_stale old now r q in
        (ap (λ (z : Refusal). Err (fault.Refused z)) (p.is ∙ sym x.is), p.stay ∙ sym x.stay)

    once : (a b : Result Bool JournalFault) → IsSettled a → IsSettled b → RecoverOutcome (Some old) new a → RecoverOutcome (Some old) now b → Same a b
    once (Ok true) b s t p q = of_recovered b t p q
    once (Ok false) b s t p q = of_ready b t p q
    once (Err fault.BadJournal) b s t p q = of_unreadable b t p q
    once (Err fault.NothingToUndo) b s t p q = absurd p
    once (Err fault.OpenEntry) b s t p q = absurd p
    once (Err fault.Store) b s t p q = absurd s
    once (Err fault.JournalFull) b s t p q = absurd p
    once (Err fault.NoMemory) b s t p q = absurd s
    once (Err (fault.Refused r)) b s t p q = of_stale r b t (is_stale old new r p) q

  pub recoveries_are_one : RecoveriesAreOne
  recoveries_are_one old new now a b order s t p q = once old new now order a b s t p q

  -- ---- torn stores come back

  -- a torn store is answered with true
  torn_answers : (torn : Held) (v : Version) (records : List RecordOf) (entry : List ChangeOf) (new : Option Held) (a : Result Bool JournalFault) → IsTorn v records entry torn → IsSettled a
      → RecoverOutcome (Some torn) new a → (a ≡ Ok true) × Found torn new
  torn_answers torn v records entry new (Ok true) t s o = (refl, found torn new o)
  torn_answers torn v records entry new (Ok false) t s o = closed torn v records t.edit entry o.1 t.journal
  torn_answers torn v records entry new (Err fault.BadJournal) t s o = unread torn v (records ++ opened t.edit entry ∷ []) o.1 t.journal
  torn_answers torn v records entry new (Err fault.NothingToUndo) t s o = absurd o
  torn_answers torn v records entry new (Err fault.OpenEntry) t s o = absurd o
  torn_answers torn v records entry new (Err fault.Store) t s o = absurd s
  torn_answers torn v records entry new (Err fault.JournalFull) t s o = absurd o
  torn_answers torn v records entry new (Err fault.NoMemory) t s o = absurd s
  torn_answers torn v records entry new (Err (fault.Refused r)) t s o = torn_stale torn v records entry t (is_stale torn new r o).stale

  pub torn_comes_back : TornComesBack
  torn_comes_back v records entry before after torn new a order is put between s o =
      let x = torn_answers torn v records entry new a (torn_between_is_torn v records entry before after torn is put between) s o in
      (x.0, x.1.now, x.1.is, recovered_keeps one_way v records entry before after torn order is put between x.1.version x.1.records x.1.entry x.1.now x.1.done)

  pub cut_stays_torn : CutStaysTorn
  cut_stays_torn v records entry before after torn None order is put between (inl same) = cc
  cut_stays_torn v records entry before after torn None order is put between (inr o) = absurd o
  cut_stays_torn v records entry before after torn (Some now) order is put between (inl same) =
      (now, refl, inl (subst (λ (h : Held). IsTornBetween v records entry before after h) (sym (some_held now torn same)) between))
    where
      some_held : (a b : Held) → Some a ≡ Some b → a ≡ b
      some_held a b e = cc
  cut_stays_torn v records entry before after torn (Some now) order is put between (inr (w, rs, e, inl r)) =
      (now, refl, inl (recovering_stays one_way v records entry before after torn order is put between w rs e now r))
  cut_stays_torn v records entry before after torn (Some now) order is put between (inr (w, rs, e, inr r)) =
      (now, refl, inr (recovered_keeps one_way v records entry before after torn order is put between w rs e now r))

  -- ---- recovery goes on

  module _ (old cut : Held) (new : Option Held) (v : Version) (records : List RecordOf) (entry : List ChangeOf) where
    abbrev Whole : Result Bool JournalFault → Type 0
    Whole late = (whole : Result Bool JournalFault) × IsLateAnswer whole late × RecoverOutcome (Some old) new whole

    module _ (r : IsRecovering v records entry old cut) where
      still_open : IsJournalIn v cut.journal (records ++ opened r.torn.edit entry ∷ [])
      still_open = subst (λ (j : List ℕ). IsJournalIn v j (records ++ opened r.torn.edit entry ∷ [])) (sym r.journal) r.torn.journal

      still_torn : IsTorn v records entry cut
      still_torn = record {
        edit = r.torn.edit;
        journal = still_open;
        files = λ c k. partly_either entry old.files cut.files (entry_of v old.journal records r.torn.edit entry r.torn.journal) r.files c k (r.torn.files c k);
      }

      rest_done : Found cut new → RecoverOutcome (Some old) new (Ok true)
      rest_done f =
          let same = same_torn one_way cut.journal f.version v f.records records f.done.torn.edit r.torn.edit f.entry entry f.done.torn.journal still_open in
          let rest : ArePutBack entry cut.files f.now.files = subst (λ (z : List ChangeOf). ArePutBack z cut.files f.now.files) same.2 f.done.files in
          let there : IsJournalIn v f.now.journal f.records = subst (λ (z : Version). IsJournalIn z f.now.journal f.records) same.0 f.done.journal in
          let done : IsRecovered v records entry old f.now = record {
            torn = r.torn;
            files = back_behind entry old.files cut.files f.now.files (entry_of v old.journal records r.torn.edit entry r.torn.journal) r.files rest;
            journal = subst (λ (z : List RecordOf). IsJournalIn v f.now.journal z) same.1 there;
          } in
          subst (λ (z : Option Held). RecoverOutcome (Some old) z (Ok true)) (sym f.is) (v, records, entry, done)

      behind_recovering : (late : Result Bool JournalFault) → IsSettled late → RecoverOutcome (Some cut) new late → Whole late
      behind_recovering late s o =
          let x = torn_answers cut v records entry new late still_torn s o in
          (Ok true, inl x.0, rest_done x.1)

    module _ (shrink : JournalsShrink) (r : IsRecovered v records entry old cut) where
      closed_now : IsReady cut
      closed_now = (v, records, record { journal = r.journal; closed = (shrink v old.journal records (opened r.torn.edit entry) r.torn.journal).1 })

      all_done : new ≡ Some cut → RecoverOutcome (Some old) new (Ok true)
      all_done e = subst (λ (z : Option Held). RecoverOutcome (Some old) z (Ok true)) (sym e) (v, records, entry, r)

      behind_recovered : (late : Result Bool JournalFault) → IsSettled late → RecoverOutcome (Some cut) new late → Whole late
      behind_recovered (Ok true) s o = let f = found cut new o in closed cut f.version f.records f.done.torn.edit f.entry closed_now f.done.torn.journal
      behind_recovered (Ok false) s o = (Ok true, inr (refl, refl), all_done o.0)
      behind_recovered (Err fault.BadJournal) s o = unread cut v records o.1 r.journal
      behind_recovered (Err fault.NothingToUndo) s o = absurd o
      behind_recovered (Err fault.OpenEntry) s o = absurd o
      behind_recovered (Err fault.Store) s o = absurd s
      behind_recovered (Err fault.JournalFull) s o = absurd o
      behind_recovered (Err fault.NoMemory) s o = absurd s
      behind_recovered (Err (fault.Refused x)) s o = let t = (is_stale cut new x o).stale in closed cut t.0 t.1 t.2 t.3 closed_now t.4

  pub recovery_goes_on : JournalsShrink → RecoveryGoesOn
  recovery_goes_on shrink old cut new late s (inl same) o = (late, inl refl, subst (λ (z : Option Held). RecoverOutcome z new late) same o)
  recovery_goes_on shrink old cut new late s (inr (v, records, entry, inl r)) o = behind_recovering old cut new v records entry r late s o
  recovery_goes_on shrink old cut new late s (inr (v, records, entry, inr r)) o = behind_recovered old cut new v records entry shrink r late s o
