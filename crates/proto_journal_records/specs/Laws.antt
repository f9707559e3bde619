-- The laws of records and journals.
use Rattle.std.specs.Prelude.{◌≡◌, ◌≢◌, ◌≤◌, List, [], ◌∷◌, ◌++◌, length, Option, false}
use Rattle.proto_base.specs.Texts.{Text}
use Rattle.proto_edit_entries.specs.EditsAsked.{Asked}
use Rattle.proto_edit_entries.specs.Entries.{ChangeOf}
use Rattle.proto_journal_records.specs.declared.record.Version.{Version}
use Rattle.proto_journal_records.specs.declared.record.Version.TheVariants.{Second}
use Rattle.proto_journal_records.specs.Records.{RecordOf, done, opened}
use Rattle.proto_journal_records.specs.RecordText.{record_text}
use Rattle.proto_journal_records.specs.Journals.{IsRecord, is_last_open, journal_limit, journal_text, IsJournalIn}

-- A text is that of one record, in one version.
abbrev pub IsTextOfOne : Type 0
IsTextOfOne =
    (v w : Version) (r s : RecordOf) → IsRecord v r → IsRecord w s
    → record_text v r ≡ record_text w s → (v ≡ w) × (r ≡ s)

-- A text keeps its length when its record is closed.
abbrev pub StatesKeepLength : Type 0
StatesKeepLength = (v : Version) (edit : Option Asked) (entry : List ChangeOf)
    → length (record_text v (opened edit entry)) ≡ length (record_text v (done edit entry))

-- A journal has one list of records, and one version where there are any.
abbrev pub IsReadInOneWay : Type 0
IsReadInOneWay = (bytes : Text) (v w : Version) (rs ss : List RecordOf)
    → IsJournalIn v bytes rs → IsJournalIn w bytes ss
    → (rs ≡ ss) × (rs ≢ [] → v ≡ w)

-- A journal whose last record is not open, with one more record, is a journal while it is short.
abbrev pub JournalsGrow : Type 0
JournalsGrow = (v : Version) (bytes : Text) (rs : List RecordOf) (r : RecordOf)
    → IsJournalIn v bytes rs → is_last_open rs ≡ false → IsRecord v r
    → length (bytes ++ record_text v r) ≤ journal_limit
    → IsJournalIn v (bytes ++ record_text v r) (rs ++ r ∷ [])

-- A journal without its last record is one, and its last record is not open.
abbrev pub JournalsShrink : Type 0
JournalsShrink = (v : Version) (bytes : Text) (rs : List RecordOf) (r : RecordOf)
    → IsJournalIn v bytes (rs ++ r ∷ [])
    → IsJournalIn v (journal_text v rs) rs × (is_last_open rs ≡ false)

-- The records of a journal have a journal of the second version, while that is short.
abbrev pub JournalsMigrate : Type 0
JournalsMigrate = (v : Version) (bytes : Text) (rs : List RecordOf)
    → IsJournalIn v bytes rs → length (journal_text Second rs) ≤ journal_limit
    → IsJournalIn Second (journal_text Second rs) rs
