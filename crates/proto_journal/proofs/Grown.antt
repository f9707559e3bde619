-- Journals that are made of a journal: with a record more, with one less, and with the last entry open.
use Rattle.std.proofs.Common.{arith, ◌≡◌, ℕ, ◌≤◌, List, [], ◌∷◌, ◌++◌, length, sym, ap, ◌∙◌, subst, All, Err, IfOk, Ok, OnOk, Result, length-append, false, Option}
use Rattle.std.proofs.lemmas.List.Elements.{All-head, All-tail}
use Rattle.proto_edit_entries.proofs.Common.{ChangeOf, Asked}
use Rattle.proto_journal_records.specs.declared.record.Version.{Version}
use Rattle.proto_journal_records.specs.declared.record.Version.TheVariants.{Second}
use Rattle.proto_journal_records.proofs.Common.{record_text, IsRecord, done, journal_limit, opened, journal_text, JournalsGrow, JournalsShrink, StatesKeepLength, RecordOf, IsJournalIn, is_last_open, JournalsMigrate}
use Rattle.proto_journal.specs.Written.{AddsTo, Reopens, Shortens}
use Rattle.proto_journal.proofs.Recorded.{text_more}

-- two facts of an answer give a third
pub both_ok : {T E : Type 0} (r : Result T E) (P R : T → Type 0) (Q : Type 0) → ((x : T) → P x → Q → R x) → IfOk r P → OnOk r Q → IfOk r R
both_ok (Ok x) P R Q f p q = f x p q
both_ok (Err e) P R Q f p q = tt

pub last_record : (v : Version) (rs : List RecordOf) (r : RecordOf) → All (IsRecord v) (rs ++ r ∷ []) → IsRecord v r
last_record v [] r h = All-head (IsRecord v) r [] h
last_record v (s ∷ rs) r h = last_record v rs r (All-tail (IsRecord v) s (rs ++ r ∷ []) h)

module _ (grow : JournalsGrow) where
  grows : (v : Version) (journal text : List ℕ) (r : RecordOf) (records : List RecordOf) → text ≡ journal ++ record_text v r → IsRecord v r → length text ≤ journal_limit
      → IsJournalIn v journal records → is_last_open records ≡ false → IsJournalIn v text (records ++ r ∷ [])
  grows v journal text r records e is short j closed =
      let whole : length (journal ++ record_text v r) ≤ journal_limit = subst (λ (t : List ℕ). length t ≤ journal_limit) e short in
      subst (λ (t : List ℕ). IsJournalIn v t (records ++ r ∷ [])) (sym e) (grow v journal records r j closed is whole)

  pub adds : JournalsMigrate → (journal text : List ℕ) (r : RecordOf) → text ≡ journal ++ record_text Second r → IsRecord Second r → length text ≤ journal_limit → AddsTo journal r text
  adds migrate journal text r e is short v bytes records j closed same =
      let long = length-append journal (record_text Second r) in
      let front : length (journal_text Second records) ≤ journal_limit = omega (arith, short, long, ap length e, ap length same) in
      let second : IsJournalIn Second journal records = subst (λ (t : List ℕ). IsJournalIn Second t records) (sym same) (migrate v bytes records j front) in
      grows Second journal text r records e is short second closed

-- the text with the entry open is as long as that with it done
pub as_long_open : (v : Version) (journal first last : List ℕ) (edit : Option Asked) (entry : List ChangeOf) → StatesKeepLength → first ≡ journal ++ record_text v (opened edit entry) → last ≡ journal ++ record_text v (done edit entry)
    → length last ≤ journal_limit → length first ≤ journal_limit
as_long_open v journal first last edit entry keep f l short =
    let long : length first ≡ length (journal ++ record_text v (opened edit entry)) = ap length f in
    let size : length last ≡ length (journal ++ record_text v (done edit entry)) = ap length l in
    omega (arith, length-append journal (record_text v (opened edit entry)), length-append journal (record_text v (done edit entry)), keep v edit entry)

pub shortens : (journal text : List ℕ) → JournalsShrink → ((v : Version) (records : List RecordOf) (r : RecordOf) → IsRecord v r → journal ≡ journal_text v (records ++ r ∷ []) → text ≡ journal_text v records) → Shortens journal text
shortens journal text shrink is v records r j =
    subst (λ (t : List ℕ). IsJournalIn v t records) (sym (is v records r (last_record v records r j.entries) j.text)) (shrink v journal records r j).0

pub reopens : (v : Version) (journal before text : List ℕ) (edit : Option Asked) (entry : List ChangeOf) → JournalsGrow → JournalsShrink → StatesKeepLength → Shortens journal before
    → text ≡ before ++ record_text v (opened edit entry) → IsRecord v (opened edit entry) → Reopens v journal edit entry text
reopens v journal before text edit entry grow shrink keep is e open_is records j =
    let rest : IsJournalIn v before records = is v records (done edit entry) j in
    let whole : journal ≡ before ++ record_text v (done edit entry) =
    j.text ∙ text_more v records (done edit entry) ∙ ap (λ (t : List ℕ). t ++ record_text v (done edit entry)) (sym rest.text) in
    let short : length text ≤ journal_limit = as_long_open v before text journal edit entry keep e whole j.short in
    grows grow v before text (opened edit entry) records e open_is short rest (shrink v journal records (done edit entry) j).1

-- and so where the edit and the entry are these
pub reopens_same : (v : Version) (journal before text : List ℕ) (told edit : Option Asked) (given entry : List ChangeOf) → told ≡ edit → given ≡ entry → JournalsGrow → JournalsShrink → StatesKeepLength
    → Shortens journal before → text ≡ before ++ record_text v (opened told given) → IsRecord v (opened told given) → Reopens v journal edit entry text
reopens_same v journal before text told edit given entry same_edit same_entry grow shrink keep is e open_is =
    subst (λ (o : Option Asked). Reopens v journal o entry text) same_edit
    (subst (λ (cs : List ChangeOf). Reopens v journal told cs text) same_entry
    (reopens v journal before text told given grow shrink keep is e open_is))
