-- A store that is torn between the files before and after an entry comes back, and stays torn so where recovery is cut off.
use Rattle.std.proofs.Common.{◌≡◌, ◌≢◌, ◌⊎◌, inl, inr, ℕ, Bool, true, false, cond, List, [], ◌∷◌, ◌++◌, Some, refl, sym, ap, ◌∙◌, subst, Contains, bytes_eq, Option}
use Rattle.proto_base.proofs.Common.{AllByRecursion, bytes_eq-Decides, recursion_from_All}
use Rattle.proto_files.specs.GivenFiles.{FileOf, paths_of}
use Rattle.proto_edit_entries.proofs.Common.{ChangeOf, IsEntry, EachPuts, IsPut, find_change, Asked}
use Rattle.proto_journal_records.specs.Common.{IsRecord, opened, IsReadInOneWay, ArePartlyBack, ArePutBack, IsPutBack, IsRecovered, IsRecovering, IsRestored, IsUnnamed, IsBetween, IsTornBetween, Keeps, Version, RecordOf, IsJournalIn}
use Rattle.proto_store.proofs.Common.{AreInPathOrder, Held, bytes_at, same_files}
use Rattle.proto_journal_records.proofs.PutBack.{of_some, put_is_restored, restored_once, same_order}
use Rattle.proto_journal_records.proofs.TornStores.{IsAt, as_before, change_in, put_at}

-- ---- journals

pub head_of : (x y : RecordOf) (xs ys : List RecordOf) → x ∷ xs ≡ y ∷ ys → x ≡ y
head_of x y xs ys e = cc

pub tail_of : (x y : RecordOf) (xs ys : List RecordOf) → x ∷ xs ≡ y ∷ ys → xs ≡ ys
tail_of x y xs ys e = cc

never_none : {P : Type 0} (rs : List RecordOf) (a : RecordOf) → rs ++ a ∷ [] ≡ [] → P
never_none [] a e = cc
never_none (r ∷ rs) a e = cc

-- lists with one more record are the same in their fronts and in their last records
pub same_ends : (rs ss : List RecordOf) (a b : RecordOf) → rs ++ a ∷ [] ≡ ss ++ b ∷ [] → (rs ≡ ss) × (a ≡ b)
same_ends [] [] a b e = (refl, head_of a b [] [] e)
same_ends [] (s ∷ ss) a b e = never_none ss b (sym (tail_of a s [] (ss ++ b ∷ []) e))
same_ends (r ∷ rs) [] a b e = never_none rs a (tail_of r b (rs ++ a ∷ []) [] e)
same_ends (r ∷ rs) (s ∷ ss) a b e =
    let more = same_ends rs ss a b (tail_of r s (rs ++ a ∷ []) (ss ++ b ∷ []) e) in
    let first : r ≡ s = head_of r s (rs ++ a ∷ []) (ss ++ b ∷ []) e in
    ((λ i. first i ∷ more.0 i), more.1)

pub last_of_all : (P : RecordOf → Type 0) (rs : List RecordOf) (r : RecordOf) → AllByRecursion P (rs ++ r ∷ []) → P r
last_of_all P [] r h = h.0
last_of_all P (s ∷ rs) r h = last_of_all P rs r h.1

never_empty : (rs : List RecordOf) (a : RecordOf) → rs ++ a ∷ [] ≢ []
never_empty rs a e = never_none rs a e

-- the version, the records and the entry of a journal whose last entry is open are one
pub same_torn : IsReadInOneWay → (journal : List ℕ) (v w : Version) (rs ss : List RecordOf) (p q : Option Asked) (e f : List ChangeOf)
    → IsJournalIn v journal (rs ++ opened p e ∷ []) → IsJournalIn w journal (ss ++ opened q f ∷ []) → (v ≡ w) × (rs ≡ ss) × (e ≡ f)
same_torn one_way journal v w rs ss p q e f j k =
    let once = one_way journal v w (rs ++ opened p e ∷ []) (ss ++ opened q f ∷ []) j k in
    let ends = same_ends rs ss (opened p e) (opened q f) once.0 in
    (once.1 (never_empty rs (opened p e)), ends.0, ap (λ (r : RecordOf). r.entry) ends.1)

-- the last entry of a journal is an entry
pub entry_of : (v : Version) (journal : List ℕ) (records : List RecordOf) (edit : Option Asked) (entry : List ChangeOf) → IsJournalIn v journal (records ++ opened edit entry ∷ []) → IsEntry entry
entry_of v journal records edit entry j = (last_of_all (IsRecord v) records (opened edit entry) (recursion_from_All (IsRecord v) (records ++ opened edit entry ∷ []) j.entries)).entry

-- ---- files

-- a path that no change is of has what it had
unnamed_stays : (cs : List ChangeOf) (w after : List FileOf) (path : List ℕ) → EachPuts cs w after → IsUnnamed cs path → bytes_at path after ≡ bytes_at path w
unnamed_stays cs [] [] path p none = refl
unnamed_stays cs [] (g ∷ gs) path p none = absurd p
unnamed_stays cs (f ∷ fs) [] path p none = absurd p
unnamed_stays cs (f ∷ fs) (g ∷ gs) path p none = go (bytes_eq path f.path) refl (unnamed_stays cs fs gs path p.1 none)
  where
    there : (b : Bool) → bytes_eq path f.path ≡ b → bytes_eq path g.path ≡ b
    there b e = ap (bytes_eq path) p.0.path ∙ e

    at_path : path ≡ f.path → (c : ChangeOf) → Contains cs c → c.path ≢ f.path
    at_path same c k here = none c k (here ∙ sym same)

    go : (b : Bool) → bytes_eq path f.path ≡ b → bytes_at path gs ≡ bytes_at path fs → bytes_at path (g ∷ gs) ≡ bytes_at path (f ∷ fs)
    go true e rest =
        let bytes : g.bytes ≡ f.bytes = p.0.kept (at_path ((bytes_eq-Decides path f.path).0 e)) in
        ap (λ (b : Bool). cond b (Some g.bytes) (bytes_at path gs)) (there true e) ∙ ap (λ (t : List ℕ). Some t) bytes
        ∙ sym (ap (λ (b : Bool). cond b (Some f.bytes) (bytes_at path fs)) e)
    go false e rest =
        ap (λ (b : Bool). cond b (Some g.bytes) (bytes_at path gs)) (there false e) ∙ rest
        ∙ sym (ap (λ (b : Bool). cond b (Some f.bytes) (bytes_at path fs)) e)

module _ (entry : List ChangeOf) (before after : List FileOf) (is : IsEntry entry) (put : IsPut before entry after) where
  -- what is put back is the file before the entry
  back_at : (c : ChangeOf) (files now : List FileOf) → Contains entry c → IsBetween before after files → IsPutBack c files now → bytes_at c.path now ≡ bytes_at c.path before
  back_at c files now k between p =
      let x : IsAt c before after = put_at entry c before after k put in
      p.is ∙ ap (λ (t : List ℕ). Some t) (go x (between.bytes c.path)) ∙ sym x.before_it
    where
      old_is : (x : IsAt c before after) → (bytes_at c.path files ≡ bytes_at c.path before) ⊎ (bytes_at c.path files ≡ bytes_at c.path after) → IsRestored c p.text x.old
      old_is x (inl e) =
          let text : p.text ≡ x.old = of_some p.text x.old (sym p.was ∙ e ∙ x.before_it) in
          subst (λ (t : List ℕ). IsRestored c t x.old) (sym text) (inl (as_before c before after x, refl))
      old_is x (inr e) =
          let text : p.text ≡ x.new = of_some p.text x.new (sym p.was ∙ e ∙ x.after_it) in
          subst (λ (t : List ℕ). IsRestored c t x.old) (sym text) (put_is_restored c x.old x.new (change_in entry is c k) x.len x.puts)

      go : (x : IsAt c before after) → (bytes_at c.path files ≡ bytes_at c.path before) ⊎ (bytes_at c.path files ≡ bytes_at c.path after) → p.back ≡ x.old
      go x either = restored_once c p.text p.back x.old (change_in entry is c k) p.restored (old_is x either)

  -- a path that no change is of has its bytes from before
  other_at : (files : List FileOf) (path : List ℕ) → IsBetween before after files → IsUnnamed entry path → bytes_at path files ≡ bytes_at path before
  other_at files path between none = elim (between.bytes path) [
    | inl e ↦ e
    | inr e ↦ e ∙ unnamed_stays entry before after path put.each none
  ]

  pub comes_back : (files now : List FileOf) → AreInPathOrder before → IsBetween before after files → ArePutBack entry files now → now ≡ before
  comes_back files now order between back = same_files now before (same_order before now paths order) paths (back.languages ∙ between.languages) at
    where
      paths : paths_of now ≡ paths_of before
      paths = back.paths ∙ between.paths

      at : (path : List ℕ) → bytes_at path now ≡ bytes_at path before
      at path = elim (find_change entry path) [
        | inl c ↦ subst (λ (p : List ℕ). bytes_at p now ≡ bytes_at p before) c.2 (back_at c.0 files now c.1 between (back.each c.0 c.1))
        | inr none ↦ back.others path none ∙ other_at files path between none
      ]

  pub stays_between : (files now : List FileOf) → IsBetween before after files → ArePartlyBack entry files now → IsBetween before after now
  stays_between files now between part = record {
    paths = part.paths ∙ between.paths;
    languages = part.languages ∙ between.languages;
    bytes = λ path. elim (find_change entry path) [
      | inl c ↦ subst (λ (p : List ℕ). (bytes_at p now ≡ bytes_at p before) ⊎ (bytes_at p now ≡ bytes_at p after)) c.2 (named c.0 c.1 (part.each c.0 c.1))
      | inr none ↦ inl (part.others path none ∙ other_at files path between none)
    ];
  }
    where
      named : (c : ChangeOf) → Contains entry c → (bytes_at c.path now ≡ bytes_at c.path files) ⊎ IsPutBack c files now
          → (bytes_at c.path now ≡ bytes_at c.path before) ⊎ (bytes_at c.path now ≡ bytes_at c.path after)
      named c k (inr back) = inl (back_at c files now k between back)
      named c k (inl same) = elim (between.bytes c.path) [
        | inl e ↦ inl (same ∙ e)
        | inr e ↦ inr (same ∙ e)
      ]

-- ---- stores

module _ (one_way : IsReadInOneWay) (v : Version) (records : List RecordOf) (entry : List ChangeOf) (before after : List FileOf) (torn : Held)
    (order : AreInPathOrder before) (is : IsEntry entry) (put : IsPut before entry after) (between : IsTornBetween v records entry before after torn) where
  -- the version, the records and the entry of a torn store are these
  same_open : (w : Version) (rs : List RecordOf) (edit : Option Asked) (e : List ChangeOf) → IsJournalIn w torn.journal (rs ++ opened edit e ∷ []) → (w ≡ v) × (rs ≡ records) × (e ≡ entry)
  same_open w rs edit e j = same_torn one_way torn.journal w v rs records edit between.edit e entry j between.journal

  pub recovered_keeps : (w : Version) (rs : List RecordOf) (e : List ChangeOf) (now : Held) → IsRecovered w rs e torn now → Keeps v before records now
  recovered_keeps w rs e now r =
      let same = same_open w rs r.torn.edit e r.torn.journal in
      let there : IsJournalIn v now.journal rs = subst (λ (x : Version). IsJournalIn x now.journal rs) same.0 r.journal in
      record {
        has = comes_back entry before after is put torn.files now.files order between.files (subst (λ (x : List ChangeOf). ArePutBack x torn.files now.files) same.2 r.files);
        journal = subst (λ (x : List RecordOf). IsJournalIn v now.journal x) same.1 there;
      }

  pub recovering_stays : (w : Version) (rs : List RecordOf) (e : List ChangeOf) (now : Held) → IsRecovering w rs e torn now → IsTornBetween v records entry before after now
  recovering_stays w rs e now r =
      let same = same_open w rs r.torn.edit e r.torn.journal in
      record {
        edit = between.edit;
        journal = subst (λ (x : List ℕ). IsJournalIn v x (records ++ opened between.edit entry ∷ [])) (sym r.journal) between.journal;
        files = stays_between entry before after is put torn.files now.files between.files (subst (λ (x : List ChangeOf). ArePartlyBack x torn.files now.files) same.2 r.files);
      }
