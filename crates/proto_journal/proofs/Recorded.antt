-- Journals with one record more and with one less, and what a call reads of them.
use Rattle.std.proofs.Common.{arith, ◌≡◌, ◌⊎◌, ℕ, true, false, List, [], ◌∷◌, ◌++◌, length, Option, Some, None, Result, Ok, Err, IfOk, MatchOption, option_to_list, refl, sym, ap, ◌∙◌, subst, append_assoc, append-nil}
use Rattle.std.specs.Global.{Vec}
use Rattle.proto_journal_records.specs.declared.fault.JournalFault.{JournalFault}
use Rattle.proto_journal_records.specs.declared.fault.JournalFault.TheVariants.{BadJournal, NoMemory}
use Rattle.proto_journal_records.specs.declared.record.State.{State}
use Rattle.proto_journal_records.specs.declared.record.State.TheVariants as state
use Rattle.proto_journal_records.specs.declared.record.Version.{Version}
use Rattle.proto_journal_records.specs.declared.record.Version.TheVariants.{Second}
use Rattle.proto_journal_records.proofs.Common.{record_text, IsJournal, is_last_open, is_open, done, journal_text, HasOpenEntry, IsReadInOneWay, IsReady, IsUnreadable, CountsFault, Over, RecordOf, IsJournalIn, unread}
pub use Rattle.proto_journal_records.proofs.OneRecovery.{last_of}
use Rattle.proto_store.specs.Stores.{Held, HoldsJournal}
use Rattle.proto_journal.specs.Common.{HasLast, IsUnready, IsReadyText}

-- ---- texts

pub text_more : (v : Version) (records : List RecordOf) (r : RecordOf) → journal_text v (records ++ r ∷ []) ≡ journal_text v records ++ record_text v r
text_more v [] r = append-nil (record_text v r)
text_more v (s ∷ rs) r = ap (λ (t : List ℕ). record_text v s ++ t) (text_more v rs r) ∙ sym (append_assoc (record_text v s) (journal_text v rs) (record_text v r))

closed_is_done : (s : State) → is_open s ≡ false → s ≡ state.Done
closed_is_done state.Open e = cc
closed_is_done state.Done e = refl

-- a last record that is not open is that of its entry, done
pub last_is_done : (records : List RecordOf) (r : RecordOf) → is_last_open (records ++ r ∷ []) ≡ false → r ≡ done r.edit r.entry
last_is_done records r e =
    let closed : r.state ≡ state.Done = closed_is_done r.state (sym (last_of records r) ∙ e) in
    ap (λ (s : State). let x : RecordOf = record { state = s; entry = r.entry; edit = r.edit } in x) closed

-- ---- what the store says of its journal

pub over_journal : (h : Option Held) (bytes : List ℕ) (P : List ℕ → Type 0) → HoldsJournal h bytes → P bytes → Over h (λ there. P there.journal)
over_journal None bytes P e p = tt
over_journal (Some there) bytes P e p = subst P e p

pub unreadable : (h : Option Held) (bytes : List ℕ) → HoldsJournal h bytes → ((records : List RecordOf) → IsJournal bytes records → ⊥) → Over h IsUnreadable
unreadable h bytes e none = over_journal h bytes (λ (t : List ℕ). (records : List RecordOf) → IsJournal t records → ⊥) e none

pub last_open_there : (h : Option Held) (bytes : List ℕ) (records : List RecordOf) → HoldsJournal h bytes → IsJournal bytes records → is_last_open records ≡ true → Over h HasOpenEntry
last_open_there h bytes records e j o = over_journal h bytes (λ (t : List ℕ). (rs : List RecordOf) × IsJournal t rs × (is_last_open rs ≡ true)) e (records, j, o)

pub ready_there : (h : Option Held) (bytes : List ℕ) (v : Version) (records : List RecordOf) → HoldsJournal h bytes → IsJournalIn v bytes records → is_last_open records ≡ false → Over h IsReady
ready_there None bytes v records e j o = tt
ready_there (Some there) bytes v records e j o = (v, records, record { journal = subst (λ (t : List ℕ). IsJournalIn v t records) e j; closed = o })

-- a journal and its last record: none of its records is open
pub closed_journal : (v : Version) (bytes : List ℕ) (last : Option RecordOf) → HasLast v bytes last → (records : List RecordOf) × IsJournalIn v bytes records × (is_last_open records ≡ false)
closed_journal v bytes None j = ([], j, refl)
closed_journal v bytes (Some r) j = (j.0 ++ done r.edit r.entry ∷ [], j.1, last_of j.0 (done r.edit r.entry))

pub last_ready : (h : Option Held) (bytes : List ℕ) (v : Version) (last : Option RecordOf) → HoldsJournal h bytes → HasLast v bytes last → Over h IsReady
last_ready h bytes v last e j = let closed = closed_journal v bytes last j in ready_there h bytes v closed.0 e closed.1 closed.2

-- the text of a ready journal in the second version is that which it has, or is made of its records
pub text_as_it_is : (bytes : List ℕ) (last : Option RecordOf) → HasLast Second bytes last → (held : Held) → bytes ≡ held.journal → IsReadyText bytes held
text_as_it_is bytes last j held e =
    let closed = closed_journal Second bytes last j in
    (Second, closed.0, record { journal = subst (λ (t : List ℕ). IsJournalIn Second t closed.0) e closed.1; closed = closed.2 }, closed.1.text)

pub text_made : (bytes text : List ℕ) (v : Version) (last : Option RecordOf) (records : List RecordOf) → IsReadInOneWay → HasLast v bytes last → IsJournal bytes records → text ≡ journal_text Second records
    → (held : Held) → bytes ≡ held.journal → IsReadyText text held
text_made bytes text v last records one j read made held e =
    let closed = closed_journal v bytes last j in
    let same : closed.0 ≡ records = (one bytes v read.0 closed.0 records closed.1 read.1).0 in (
      read.0,
      records,
      record {
        journal = subst (λ (t : List ℕ). IsJournalIn read.0 t records) e read.1;
        closed = subst (λ (rs : List RecordOf). is_last_open rs ≡ false) same closed.2;
      },
      made,
    )

pub second_made : {E : Type 0} (r : Result (Vec ℕ) E) (bytes shown : List ℕ) (v : Version) (last : Option RecordOf) (records : List RecordOf) → bytes ≡ shown → IsReadInOneWay → HasLast v bytes last → IsJournal bytes records
    → IfOk r (λ text. text.items ≡ journal_text Second records) → IfOk r (λ text. (held : Held) → shown ≡ held.journal → IsReadyText text.items held)
second_made (Ok text) bytes shown v last records is one j read made = λ held e. text_made bytes text.items v last records one j read made held (is ∙ e)
second_made (Err x) bytes shown v last records is one j read made = tt

pub text_over : (h : Option Held) (bytes text : List ℕ) → HoldsJournal h bytes → ((held : Held) → bytes ≡ held.journal → IsReadyText text held) → Over h (IsReadyText text)
text_over None bytes text e is = tt
text_over (Some there) bytes text e is = is there e

pub ready_of_text : (h : Option Held) (text : List ℕ) → Over h (IsReadyText text) → Over h IsReady
ready_of_text None text is = tt
ready_of_text (Some there) text is = (is.0, is.1, is.2)

pub not_read : (h : Option Held) (bytes : List ℕ) (f : JournalFault) → HoldsJournal h bytes → (f ≡ BadJournal) ⊎ (f ≡ NoMemory)
    → (f ≡ BadJournal → (records : List RecordOf) → IsJournal bytes records → ⊥) → IsUnready h f
not_read h bytes f e which bad = unread (IsUnready h) f which (λ is. unreadable h bytes e (bad is)) tt

-- ---- the last entry

pub last_there : (bytes : List ℕ) (v : Version) (records before : List RecordOf) (r : RecordOf) → IsJournalIn v bytes records → is_last_open records ≡ false → records ≡ before ++ r ∷ [] → HasLast v bytes (Some r)
last_there bytes v records before r j o e =
    let whole : IsJournalIn v bytes (before ++ r ∷ []) = subst (λ (rs : List RecordOf). IsJournalIn v bytes rs) e j in
    let closed : is_last_open (before ++ r ∷ []) ≡ false = subst (λ (rs : List RecordOf). is_last_open rs ≡ false) e o in
    (before, subst (λ (x : RecordOf). IsJournalIn v bytes (before ++ x ∷ [])) (last_is_done before r closed) whole)

no_record : (records : List RecordOf) → length records ≡ 0 → records ≡ []
no_record [] e = refl
no_record (r ∷ rs) e = absurd (omega arith)

pub nothing_there : (bytes : List ℕ) (v : Version) (records : List RecordOf) → IsJournalIn v bytes records → length records ≡ 0 → HasLast v bytes None
nothing_there bytes v records j e = subst (λ (rs : List RecordOf). IsJournalIn v bytes rs) (no_record records e) j

pub last_popped : (bytes : List ℕ) (v : Version) (records rest : List RecordOf) (last : Option RecordOf) → IsJournalIn v bytes records → is_last_open records ≡ false → records ≡ rest ++ option_to_list last
    → (last ≡ None → length records ≡ 0) → HasLast v bytes last
last_popped bytes v records rest None j o e empty = nothing_there bytes v records j (empty refl)
last_popped bytes v records rest (Some r) j o e empty = last_there bytes v records rest r j o e

pub none_case : {T : Type 0} (P : Type 0) (Q : T → Type 0) (o : Option T) → MatchOption o P Q → o ≡ None → P
none_case P Q None p e = p
none_case P Q (Some x) p e = cc

-- ---- counts

pub counts_unread : (before after : ℕ) (f : JournalFault) → after ≡ before → (f ≡ BadJournal) ⊎ (f ≡ NoMemory) → CountsFault before after f
counts_unread before after f e which = unread (CountsFault before after) f which (λ is. e) e
