-- Journals: the texts of records, one behind the other, all of them in one version.
use Rattle.std.specs.Prelude.{◌≡◌, ◌≢◌, ℕ, ◌≤◌, List, [], ◌∷◌, ◌++◌, length, Option, None, Bool, true, false, All}
use Rattle.std.specs.List.{flat_map}
use Rattle.std.specs.Str.{IsUtf8}
use Rattle.proto_base.specs.Ascii as ascii
use Rattle.proto_base.specs.Texts.{Text}
use Rattle.proto_text.specs.Edits.{Edit}
use Rattle.proto_edit_entries.specs.EditsAsked.{Asked}
use Rattle.proto_edit_entries.specs.Entries.{ChangeOf, IsEntry}
use Rattle.proto_journal_records.specs.declared.record.State.{State}
use Rattle.proto_journal_records.specs.declared.record.State.TheVariants.{Open, Done}
use Rattle.proto_journal_records.specs.declared.record.Version.{Version}
use Rattle.proto_journal_records.specs.declared.record.Version.TheVariants.{First, Second}
use Rattle.proto_journal_records.specs.Records.{RecordOf, IsNoted}
use Rattle.proto_journal_records.specs.RecordText.{record_text}

-- what a splice takes out and puts in are texts
pub record IsTextual (e : Edit) : Type 0 where
  pub old : IsUtf8 e.old
  pub new : IsUtf8 e.new

-- whatever the splices of these changes take out and put in are texts
abbrev pub AreTextual : List ChangeOf → Type 0
AreTextual cs = All (λ c. All IsTextual c.splices) cs

-- what a version tells of the edit: the first nothing, the second what a record may tell
abbrev pub IsTold : Version → Option Asked → Type 0
IsTold First edit = edit ≡ None
IsTold Second edit = IsNoted edit

-- a record that has a text in this version
pub record IsRecord (version : Version) (r : RecordOf) : Type 0 where
  pub entry : IsEntry r.entry
  pub texts : AreTextual r.entry
  pub edit : IsTold version r.edit

-- whether a record says that its files are being written
abbrev pub is_open : State → Bool
is_open Open = true
is_open Done = false

-- whether the last of the records is open; of no records none is
abbrev pub is_last_open : List RecordOf → Bool
is_last_open [] = false
is_last_open (r ∷ []) = is_open r.state
is_last_open (r ∷ s ∷ rs) = is_last_open (s ∷ rs)

-- each record that another one follows is done
abbrev pub RecordsAreInOrder : List RecordOf → Type 0
RecordsAreInOrder [] = Unit {0}
RecordsAreInOrder (r ∷ rs) = (rs ≢ [] → r.state ≡ Done) × RecordsAreInOrder rs

-- how many bytes a journal has at most
abbrev pub journal_limit : ℕ
journal_limit = 16777216

-- the text of a journal in a version: the lines of its records, the oldest first
abbrev pub journal_text : Version → List RecordOf → Text
journal_text version rs = flat_map (record_text version) rs

-- the bytes are a journal of this version, and these are its records
pub record IsJournalIn (version : Version) (bytes : Text) (records : List RecordOf) : Type 0 where
  pub text : bytes ≡ journal_text version records
  pub order : RecordsAreInOrder records
  pub entries : All (IsRecord version) records
  pub short : length bytes ≤ journal_limit

-- the bytes are a journal, wholly of one version, and these are its records
abbrev pub IsJournal : Text → List RecordOf → Type 0
IsJournal bytes records = (version : Version) × IsJournalIn version bytes records

-- ---- lines, for a private clause

-- no byte of these is a line feed
abbrev pub HasNoFeed : Text → Type 0
HasNoFeed bytes = All (λ b. b ≢ ascii.line_feed) bytes

-- the bytes through the first line feed, and the rest
pub record IsFirstLine (bytes line rest : Text) : Type 0 where
  pub all : bytes ≡ line ++ rest
  pub some : bytes ≢ [] → line ≢ []
  pub first : (front more : Text) → HasNoFeed front → bytes ≡ front ++ ascii.line_feed ∷ more
      → (line ≡ front ++ ascii.line_feed ∷ []) × (rest ≡ more)
