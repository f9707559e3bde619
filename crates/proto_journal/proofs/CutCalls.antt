-- A commit or an undo that was cut off, and then recovered, is made wholly or not at all.
use Rattle.std.proofs.Common.{◌≡◌, inl, inr, ℕ, Bool, false, List, [], ◌∷◌, ◌++◌, Option, Some, Result, Ok, refl, sym, ap, ◌∙◌, subst, nat_cmp, ◌⊎◌}
use Rattle.proto_base.proofs.Common.{IsStrictlySortedBy, slice_cmp}
use Rattle.proto_files.specs.GivenFiles.{FileOf, paths_of}
use Rattle.proto_edit_entries.proofs.Common.{ChangeOf, IsEntry, Asked}
use Rattle.proto_journal_records.specs.declared.fault.JournalFault.{JournalFault}
use Rattle.proto_journal_records.specs.declared.record.Version.{Version}
use Rattle.proto_journal_records.specs.declared.record.Version.TheVariants.{First, Second}
use Rattle.proto_journal_records.proofs.Common.{done, opened, JournalsShrink, IsSettled, IsReady, Keeps, RecordOf, IsJournalIn, journal_text, IsReadyWith}
use Rattle.proto_store.specs.Stores.{AreInPathOrder, Held, with_journal}
use Rattle.proto_journal_records.specs.RecoveryLaws.{RecoveriesAreOne, TornComesBack}
use Rattle.proto_journal_records.specs.Recovery.{RecoverOutcome}
use Rattle.proto_journal_records.proofs.TornStores.{leads_forth}
use Rattle.proto_journal.specs.Common.{IsCommitted, CutCommitsComeBack, CutUndosComeBack, IsUndone, IsBackInSecond}
use Rattle.proto_journal.proofs.Grown.{last_record}
use Rattle.proto_journal.proofs.PutPaths.{put_paths, undo_paths}
use Rattle.proto_journal.proofs.Recorded.{last_of}

some_held : (a b : Held) → Some a ≡ Some b → a ≡ b
some_held a b e = cc

in_order : (old new : List FileOf) → paths_of new ≡ paths_of old → AreInPathOrder old → AreInPathOrder new
in_order old new e order = subst (λ (l : List (List ℕ)). IsStrictlySortedBy (slice_cmp nat_cmp) l) (sym e) order

same_held : (n m : Held) → n.files ≡ m.files → n.journal ≡ m.journal → n ≡ m
same_held n m p q = λ i. record { files = p i; journal = q i }

entry_is : (v : Version) (records : List RecordOf) (edit : Option Asked) (entry : List ChangeOf) (journal : List ℕ) → IsJournalIn v journal (records ++ opened edit entry ∷ []) → IsEntry entry
entry_is v records edit entry journal j = (last_record v records (opened edit entry) j.entries).entry

closed_with : (v : Version) (files : List FileOf) (records : List RecordOf) (edit : Option Asked) (entry : List ChangeOf) (held : Held) → Keeps v files (records ++ done edit entry ∷ []) held → IsReady held
closed_with v files records edit entry held k = (v, records ++ done edit entry ∷ [], record { journal = k.journal; closed = last_of records (done edit entry) })

module _ (one : RecoveriesAreOne) (comes_back : TornComesBack) where
  -- a store of which no entry is open stays
  ready_stays : (held : Held) (new : Option Held) (a : Result Bool JournalFault) → AreInPathOrder held.files → IsReady held → IsSettled a → RecoverOutcome (Some held) new a → new ≡ Some held
  ready_stays held new a order ready s o = (one held new (Some held) a (Ok false) order s tt o (refl, ready)).1

  -- what has the files and the records of a store, in the second version, is that store, or that store with its journal in the second version
  back_or_second : (from : List FileOf) (v : Version) (records : List RecordOf) (old now : Held) → from ≡ old.files → IsReadyWith v records old → Keeps Second from records now
      → (Some now ≡ Some old) ⊎ IsBackInSecond old (Some now)
  back_or_second from Second records old now same j k = inl (ap (λ (h : Held). Some h) (same_held now old (k.has ∙ same) (k.journal.text ∙ sym j.journal.text)))
  back_or_second from First records old now same j k =
      inr (records, j, ap (λ (h : Held). Some h) (same_held now (with_journal (journal_text Second records) old) (k.has ∙ same) k.journal.text))

  pub cut_commits_come_back : CutCommitsComeBack
  cut_commits_come_back e from to old cut new a order same ready (stay, inl unchanged) s o =
      inl (ready_stays old new a order ready s (subst (λ (z : Option Held). RecoverOutcome z new a) unchanged o))
  cut_commits_come_back e from to old cut new a order same ready (stay, inr (entry, made, step, (v, records, was, inl torn))) s o =
      let from_order : AreInPathOrder from = subst AreInPathOrder (sym same) order in
      let back = comes_back Second records entry from made cut new a from_order (entry_is Second records torn.torn.edit entry cut.journal torn.torn.journal) step.step.put torn.torn s o in
      elim (back_or_second from v records old back.1 same was back.3) [
        | inl h ↦ inl (back.2 ∙ h)
        | inr h ↦ inr (inl (h.0, h.1, back.2 ∙ h.2))
      ]
  cut_commits_come_back e from to old cut new a order same ready (stay, inr (entry, made, step, (v, records, was, inr keeps))) s o =
      let made_order : AreInPathOrder cut.files = in_order old.files cut.files (ap paths_of keeps.has ∙ put_paths from made entry step.step.put ∙ ap paths_of same) order in
      let stays : new ≡ Some cut = ready_stays cut new a made_order (closed_with Second made records (Some e) entry cut keeps) s o in
      inr (inr (entry, made, subst (λ (z : Option Held). IsCommitted e entry from made (Some old) z) (sym stays) (record { step = step; store = (v, records, was, keeps) })))

  pub cut_undos_come_back : JournalsShrink → CutUndosComeBack
  cut_undos_come_back shrink from to old cut new a order same ready (stay, inl unchanged) s o =
      inl (ready_stays old new a order ready s (subst (λ (z : Option Held). RecoverOutcome z new a) unchanged o))
  cut_undos_come_back shrink from to old cut new a order same ready (stay, inr (entry, made, undo, (v, records, ends, inl (torn, told)))) s o =
      let is : IsEntry entry = entry_is v records torn.edit entry cut.journal torn.journal in
      let made_order : AreInPathOrder made = in_order old.files made (undo_paths from made entry undo ∙ ap paths_of same) order in
      let back = comes_back v records entry made from cut new a made_order is (leads_forth entry made from is undo.put) torn s o in
      inr (entry, made, subst (λ (z : Option Held). IsUndone entry from made (Some old) z) (sym back.2) (record { files = undo; store = (v, records, ends, back.3) }))
  cut_undos_come_back shrink from to old cut new a order same ready (stay, inr (entry, made, undo, (v, records, ends, inr keeps))) s o =
      let made_order : AreInPathOrder cut.files = in_order old.files cut.files (ap paths_of keeps.has ∙ undo_paths from made entry undo ∙ ap paths_of same) order in
      let closed : IsReady cut = (v, records, record { journal = keeps.journal; closed = (shrink v old.journal records (done ends.0 entry) ends.1).1 }) in
      let stays : new ≡ Some cut = ready_stays cut new a made_order closed s o in
      inr (entry, made, subst (λ (z : Option Held). IsUndone entry from made (Some old) z) (sym stays) (record { files = undo; store = (v, records, ends, keeps) }))
