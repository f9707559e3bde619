-- Journals as lists of records: what was read of one, and how one grows and shrinks.
use Rattle.std.proofs.Common.{◌≡◌, ◌≢◌, ℕ, zero, suc, ◌<◌, ◌≤◌, List, [], ◌∷◌, ◌++◌, length, get_or, Bool, true, false, ◌==◌, refl, sym, ap, ap₂, ◌∙◌, subst, arith, append_assoc, append-nil, length-append, eq-eqb, All, true≢false, eqb-true}
use Rattle.proto_base.proofs.Common.{flat_map_more, All-nil, All-cons, All-head, All-tail, All-push}
use Rattle.serde_json.specs.Written.{compact_text}
use Rattle.proto_journal_records.specs.Common.{journal_limit, State, Open, Done, record_data, record_text, IsRecord, is_open, is_last_open, RecordsAreInOrder, journal_text, IsJournal, IsFirstLine, Version, First, Second, RecordOf, IsNoted, IsJournalIn}
use Rattle.proto_journal_records.proofs.Lines.{EndsLine, IsReadBack, same_line, ends_append, ends_with_feed, back_end}
use Rattle.proto_journal_records.proofs.RecordTexts.{text_of_one, no_feed_record, version_of_text}

-- ---- lists of records

all_before : {X : Type 0} (P : X → Type 0) (xs ys : List X) → All P (xs ++ ys) → All P xs
all_before P [] ys h = All-nil P
all_before P (x ∷ xs) ys h = All-cons P x xs (All-head P x (xs ++ ys) h) (all_before P xs ys (All-tail P x (xs ++ ys) h))

all_behind : {X : Type 0} (P : X → Type 0) (xs ys : List X) → All P (xs ++ ys) → All P ys
all_behind P [] ys h = h
all_behind P (x ∷ xs) ys h = all_behind P xs ys (All-tail P x (xs ++ ys) h)

closed_is_done : (s : State) → is_open s ≡ false → s ≡ Done
closed_is_done Open e = cc
closed_is_done Done e = refl

-- records in order before a further one
order_push : (rs : List RecordOf) (r : RecordOf) → RecordsAreInOrder rs → is_last_open rs ≡ false → RecordsAreInOrder (rs ++ r ∷ [])
order_push [] r order closed = ((λ some. absurd (some refl)), tt)
order_push (x ∷ []) r order closed = ((λ some. closed_is_done x.state closed), ((λ some. absurd (some refl)), tt))
order_push (x ∷ y ∷ rs) r order closed = ((λ some. order.0 (λ e. cc)), order_push (y ∷ rs) r order.1 closed)

order_before : (rs more : List RecordOf) → RecordsAreInOrder (rs ++ more) → RecordsAreInOrder rs
order_before [] more order = tt
order_before (x ∷ []) more order = ((λ some. absurd (some refl)), tt)
order_before (x ∷ y ∷ rs) more order = ((λ some. order.0 (λ e. cc)), order_before (y ∷ rs) more order.1)

-- what stands before a further record is not open
closed_before : (rs : List RecordOf) (r : RecordOf) (more : List RecordOf) → RecordsAreInOrder (rs ++ r ∷ more) → is_last_open rs ≡ false
closed_before [] r more order = refl
closed_before (x ∷ []) r more order = ap is_open (order.0 (λ e. cc))
closed_before (x ∷ y ∷ rs) r more order = closed_before (y ∷ rs) r more order.1

pub last_open : (rs : List RecordOf) (k : ℕ) (r : RecordOf) → suc k ≡ length rs → r ≡ get_or rs k r → is_open r.state ≡ is_last_open rs
last_open [] k r l e = absurd (omega arith)
last_open (x ∷ []) zero r l e = ap (λ (z : RecordOf). is_open z.state) e
last_open (x ∷ []) (suc k) r l e = absurd (omega arith)
last_open (x ∷ y ∷ rs) zero r l e = absurd (omega arith)
last_open (x ∷ y ∷ rs) (suc k) r l e = last_open (y ∷ rs) k r (omega arith) e

-- ---- reading

-- the bytes begin with the texts of these records, and so does every journal that they are
pub record IsReadTo (v : Version) (bytes : List ℕ) (records : List RecordOf) (left : List ℕ) : Type 0 where
  pub text : bytes ≡ journal_text v records ++ left
  pub order : RecordsAreInOrder records
  pub entries : All (IsRecord v) records
  pub again : (all : List RecordOf) → IsJournalIn v bytes all → (rest : List RecordOf) × (all ≡ records ++ rest) × (left ≡ journal_text v rest)

-- the first line of what is left is the text of the next record
pub record HasNext (v : Version) (records all : List RecordOf) (line rest : List ℕ) : Type 0 where
  pub first : RecordOf
  pub more : List RecordOf
  pub is : IsRecord v first
  pub whole : all ≡ records ++ first ∷ more
  pub text : line ≡ record_text v first
  pub others : rest ≡ journal_text v more

nil_of : (xs : List ℕ) → length xs ≡ 0 → xs ≡ []
nil_of [] e = refl
nil_of (x ∷ xs) e = absurd (omega (arith, e))

pub is_nil : (xs : List ℕ) (b : Bool) → b ≡ (length xs == 0) → b ≡ true → xs ≡ []
is_nil xs b e t = nil_of xs (eqb-true (length xs) 0 (sym e ∙ t))

pub is_not_nil : (xs : List ℕ) (b : Bool) → b ≡ (length xs == 0) → b ≡ false → xs ≢ []
is_not_nil xs b e t none = true≢false (sym (eq-eqb (length xs) 0 (ap length none)) ∙ sym e ∙ t)

module _ (v : Version) where
  journal_push : (rs : List RecordOf) (r : RecordOf) → journal_text v (rs ++ r ∷ []) ≡ journal_text v rs ++ record_text v r
  journal_push rs r = sym (flat_map_more (record_text v) [] rs r)

  text_not_nil : (r : RecordOf) (more : List ℕ) → record_text v r ++ more ≡ [] → ⊥
  unfolding record_text
  text_not_nil r more e =
      omega (arith, ap length e, length-append (compact_text (record_data v r) ++ 10 ∷ []) more, length-append (compact_text (record_data v r)) (10 ∷ []))

  pub read_none : (bytes : List ℕ) → IsReadTo v bytes [] bytes
  read_none bytes = record { text = refl; order = tt; entries = All-nil (IsRecord v); again = λ all is. (all, refl, is.text) }

  pub read_none_at : (bytes : List ℕ) (records : List RecordOf) → records ≡ [] → IsReadTo v bytes records bytes
  read_none_at bytes records e = subst (λ rs. IsReadTo v bytes rs bytes) (sym e) (read_none bytes)

  first_text : (left line rest more : List ℕ) (r : RecordOf) → IsRecord v r → IsFirstLine left line rest → left ≡ record_text v r ++ more → (line ≡ record_text v r) × (rest ≡ more)
  unfolding record_text
  first_text left line rest more r is h e =
      h.first (compact_text (record_data v r)) more (no_feed_record v r is) (e ∙ append_assoc (compact_text (record_data v r)) (10 ∷ []) more)

  pub next_line : (bytes : List ℕ) (records : List RecordOf) (left line rest : List ℕ) (all : List RecordOf) → IsReadTo v bytes records left → left ≢ [] → IsFirstLine left line rest → IsJournalIn v bytes all → HasNext v records all line rest
  next_line bytes records left line rest all h some l is = go (h.again all is).0 (h.again all is).1 (h.again all is).2
    where
      go : (others : List RecordOf) → all ≡ records ++ others → left ≡ journal_text v others → HasNext v records all line rest
      go [] e f = absurd (some f)
      go (r ∷ more) e f =
          let entries : All (IsRecord v) (records ++ r ∷ more) = subst (λ rs. All (IsRecord v) rs) e is.entries in
          let here = All-head (IsRecord v) r more (all_behind (IsRecord v) records (r ∷ more) entries) in
          let t = first_text left line rest (journal_text v more) r here l f in
          record { first = r; more = more; is = here; whole = e; text = t.0; others = t.1 }

  -- one record more was read
  pub read_more : (bytes : List ℕ) (records : List RecordOf) (left line rest : List ℕ) (s : RecordOf) → IsReadTo v bytes records left → left ≢ [] → is_last_open records ≡ false → IsFirstLine left line rest → record_text v s ≡ line → IsRecord v s
      → IsReadTo v bytes (records ++ s ∷ []) rest
  read_more bytes records left line rest s h some closed l t is = record {
    text = h.text ∙ ap (λ x. journal_text v records ++ x) l.all ∙ sym (append_assoc (journal_text v records) line rest)
        ∙ ap (λ x. (journal_text v records ++ x) ++ rest) (sym t) ∙ ap (λ x. x ++ rest) (sym (journal_push records s));
    order = order_push records s h.order closed;
    entries = All-push (IsRecord v) records s h.entries is;
    again = λ all j.
        let n = next_line bytes records left line rest all h some l j in
        let same : n.first ≡ s = text_of_one v n.first s n.is is (sym n.text ∙ sym t) in
        (n.more, n.whole ∙ ap (λ x. records ++ x ∷ n.more) same ∙ sym (append_assoc records (s ∷ []) n.more), n.others);
  }

  pub none_follows : (bytes : List ℕ) (records : List RecordOf) (left : List ℕ) (all : List RecordOf) → IsReadTo v bytes records left → left ≢ [] → is_last_open records ≡ true → IsJournalIn v bytes all → ⊥
  none_follows bytes records left all h some last j = go (h.again all j).0 (h.again all j).1 (h.again all j).2
    where
      go : (others : List RecordOf) → all ≡ records ++ others → left ≡ journal_text v others → ⊥
      go [] e f = some f
      go (r ∷ more) e f = true≢false (sym last ∙ closed_before records r more (subst RecordsAreInOrder e j.order))

  pub too_long : (bytes : List ℕ) (all : List RecordOf) → journal_limit < length bytes → IsJournalIn v bytes all → ⊥
  too_long bytes all long j = let short = j.short in omega (arith, short, long)

  pub none_is_bad : (bytes : List ℕ) (records : List RecordOf) (left line rest : List ℕ) (all : List RecordOf) → IsReadTo v bytes records left → left ≢ [] → IsFirstLine left line rest → ((r : RecordOf) → IsRecord v r → record_text v r ≢ line) → IsJournalIn v bytes all → ⊥
  none_is_bad bytes records left line rest all h some l bad j =
      let n = next_line bytes records left line rest all h some l j in bad n.first n.is (sym n.text)

  pub read_whole : (bytes : List ℕ) (records : List RecordOf) (left : List ℕ) → IsReadTo v bytes records left → left ≡ [] → length bytes ≤ journal_limit → IsJournalIn v bytes records
  read_whole bytes records left h none short = record {
    text = h.text ∙ ap (λ x. journal_text v records ++ x) none ∙ append-nil (journal_text v records);
    order = h.order;
    entries = h.entries;
    short = short;
  }

  -- ---- the last record

  ends_journal : (rs : List RecordOf) → EndsLine (journal_text v rs)
  unfolding record_text
  ends_journal [] = tt
  ends_journal (r ∷ rs) = ends_append (compact_text (record_data v r) ++ 10 ∷ []) (journal_text v rs) (ends_with_feed (compact_text (record_data v r))) (ends_journal rs)

  pub before_last : (text left : List ℕ) (rs : List RecordOf) (r : RecordOf) → IsReadBack text left → EndsLine left → IsRecord v r → text ≡ journal_text v (rs ++ r ∷ []) → left ≡ journal_text v rs
  unfolding record_text
  before_last text left rs r h ends is e =
      back_end text left (journal_text v rs) (compact_text (record_data v r)) h ends (ends_journal rs) (no_feed_record v r is) (e ∙ journal_push rs r)

  -- ---- laws

  lists_are_one : (rs ss : List RecordOf) → All (IsRecord v) rs → All (IsRecord v) ss → journal_text v rs ≡ journal_text v ss → rs ≡ ss
  unfolding record_text
  lists_are_one [] [] h k e = refl
  lists_are_one [] (s ∷ ss) h k e = absurd (text_not_nil s (journal_text v ss) (sym e))
  lists_are_one (r ∷ rs) [] h k e = absurd (text_not_nil r (journal_text v rs) e)
  lists_are_one (r ∷ rs) (s ∷ ss) h k e =
      let hr = All-head (IsRecord v) r rs h in
      let ks = All-head (IsRecord v) s ss k in
      let x = compact_text (record_data v r) in
      let y = compact_text (record_data v s) in
      let lines = same_line x y (journal_text v rs) (journal_text v ss) (no_feed_record v r hr) (no_feed_record v s ks)
      (sym (append_assoc x (10 ∷ []) (journal_text v rs)) ∙ e ∙ append_assoc y (10 ∷ []) (journal_text v ss)) in
      let same = text_of_one v r s hr ks (ap (λ l. l ++ 10 ∷ []) lines.0) in
      ap₂ (λ (a : RecordOf) (b : List RecordOf). a ∷ b) same (lists_are_one rs ss (All-tail (IsRecord v) r rs h) (All-tail (IsRecord v) s ss k) lines.1)

  pub journal_grows : (bytes : List ℕ) (rs : List RecordOf) (r : RecordOf) → IsJournalIn v bytes rs → is_last_open rs ≡ false → IsRecord v r → length (bytes ++ record_text v r) ≤ journal_limit → IsJournalIn v (bytes ++ record_text v r) (rs ++ r ∷ [])
  journal_grows bytes rs r h closed is short = record {
    text = ap (λ x. x ++ record_text v r) h.text ∙ sym (journal_push rs r);
    order = order_push rs r h.order closed;
    entries = All-push (IsRecord v) rs r h.entries is;
    short = short;
  }

  pub journal_shrinks : (bytes : List ℕ) (rs : List RecordOf) (r : RecordOf) → IsJournalIn v bytes (rs ++ r ∷ []) → IsJournalIn v (journal_text v rs) rs × (is_last_open rs ≡ false)
  journal_shrinks bytes rs r h =
      let short = h.short in (
        record {
          text = refl;
          order = order_before rs (r ∷ []) h.order;
          entries = all_before (IsRecord v) rs (r ∷ []) h.entries;
          short = omega (arith, short, ap length (h.text ∙ journal_push rs r), length-append (journal_text v rs) (record_text v r));
        },
        closed_before rs r [] h.order,
      )

-- ---- both versions

read_of_some : (v w : Version) (bytes : List ℕ) (rs : List RecordOf) → (rs ≢ [] → w ≡ v) → IsJournalIn w bytes rs → IsJournalIn v bytes rs
read_of_some v w bytes [] same j = record { text = j.text; order = j.order; entries = All-nil (IsRecord v); short = j.short }
read_of_some v w bytes (r ∷ rs) same j = subst (λ (x : Version). IsJournalIn x bytes (r ∷ rs)) (same (λ e. cc)) j

-- a journal is of the version that its first text tells
pub in_version : (v : Version) (bytes : List ℕ) → ((w : Version) (r : RecordOf) (more : List ℕ) → bytes ≡ record_text w r ++ more → v ≡ w)
    → (rs : List RecordOf) → IsJournal bytes rs → IsJournalIn v bytes rs
in_version v bytes tells [] (w, j) = read_of_some v w bytes [] (λ some. absurd (some refl)) j
in_version v bytes tells (r ∷ rs) (w, j) = read_of_some v w bytes (r ∷ rs) (λ some. sym (tells w r (journal_text w rs) j.text)) j

one_of_both : (bytes : List ℕ) (v w : Version) (rs ss : List RecordOf) → IsJournalIn v bytes rs → IsJournalIn w bytes ss → rs ≢ [] → v ≡ w
one_of_both bytes v w [] ss h k some = absurd (some refl)
one_of_both bytes v w (r ∷ rs) [] h k some = absurd (text_not_nil v r (journal_text v rs) (sym h.text ∙ k.text))
one_of_both bytes v w (r ∷ rs) (s ∷ ss) h k some = version_of_text v w r s (journal_text v rs) (journal_text w ss) (sym h.text ∙ k.text)

pub read_in_one_way : (bytes : List ℕ) (v w : Version) (rs ss : List RecordOf) → IsJournalIn v bytes rs → IsJournalIn w bytes ss → (rs ≡ ss) × (rs ≢ [] → v ≡ w)
read_in_one_way bytes v w rs ss h k =
    let same : ss ≢ [] → w ≡ v = one_of_both bytes w v ss rs k h in
    let there : IsJournalIn v bytes ss = read_of_some v w bytes ss same k in
    (lists_are_one v rs ss h.entries there.entries (sym h.text ∙ there.text), one_of_both bytes v w rs ss h k)

-- ---- the second version of a journal

told_in_second : (v : Version) (r : RecordOf) → IsRecord v r → IsRecord Second r
told_in_second First r h = record { entry = h.entry; texts = h.texts; edit = subst IsNoted (sym h.edit) tt }
told_in_second Second r h = h

all_told : (v : Version) (rs : List RecordOf) → All (IsRecord v) rs → All (IsRecord Second) rs
all_told v [] h = All-nil (IsRecord Second)
all_told v (r ∷ rs) h = All-cons (IsRecord Second) r rs (told_in_second v r (All-head (IsRecord v) r rs h)) (all_told v rs (All-tail (IsRecord v) r rs h))

pub journal_migrates : (v : Version) (bytes : List ℕ) (rs : List RecordOf) → IsJournalIn v bytes rs → length (journal_text Second rs) ≤ journal_limit → IsJournalIn Second (journal_text Second rs) rs
journal_migrates v bytes rs h short = record { text = refl; order = h.order; entries = all_told v rs h.entries; short = short }

pub second_push : (rs : List RecordOf) (r : RecordOf) (before line after : List ℕ) → before ≡ journal_text Second rs → line ≡ record_text Second r → after ≡ before ++ line → after ≡ journal_text Second (rs ++ r ∷ [])
second_push rs r before line after b l a = a ∙ ap₂ (λ (x y : List ℕ). x ++ y) b l ∙ sym (journal_push Second rs r)
