-- A store in which an entry is open.
use Rattle.std.specs.Prelude.{◌≡◌, ◌⊎◌, List, [], ◌∷◌, ◌++◌, Option, Some, length}
use Rattle.std.specs.List.{Contains}
use Rattle.proto_base.specs.Texts.{Path, Text}
use Rattle.proto_text.specs.Edits.{Puts}
use Rattle.proto_files.specs.GivenFiles.{FileOf, paths_of}
use Rattle.proto_edit_entries.specs.EditsAsked.{Asked}
use Rattle.proto_edit_entries.specs.Entries.{ChangeOf, turned_round}
use Rattle.proto_journal_records.specs.declared.record.Version.{Version}
use Rattle.proto_journal_records.specs.Records.{RecordOf, opened}
use Rattle.proto_journal_records.specs.Journals.{IsJournalIn}
use Rattle.proto_store.specs.Stores.{Held, bytes_at, languages_of}

-- the store has these files, and its journal is that of these records in this version
pub record Keeps (version : Version) (files : List FileOf) (records : List RecordOf) (held : Held)
    : Type 0 where
  pub has : held.files ≡ files
  pub journal : IsJournalIn version held.journal records

-- ---- torn between two lists of files

-- each file has its bytes from the one list of files or from the other, and its language
pub record IsBetween (before after files : List FileOf) : Type 0 where
  pub paths : paths_of files ≡ paths_of before
  pub languages : languages_of files ≡ languages_of before
  pub bytes : (path : Path)
      → (bytes_at path files ≡ bytes_at path before) ⊎ (bytes_at path files ≡ bytes_at path after)

-- Torn between the files before and after an entry, over the records of the entries before it: the
-- journal has the entry behind them, open, with the edit that made it where that is known.
pub record IsTornBetween (version : Version) (records : List RecordOf) (entry : List ChangeOf)
    (before after : List FileOf) (held : Held) : Type 0 where
  pub edit : Option Asked
  pub journal : IsJournalIn version held.journal (records ++ opened edit entry ∷ [])
  pub files : IsBetween before after held.files

-- ---- torn

-- a text is as before a change: it has the length before, and each old text at its place
pub record IsAsBefore (c : ChangeOf) (text : Text) : Type 0 where
  pub len : length text ≡ c.before
  pub new : Text
  pub puts : Puts 0 text c.splices new

-- a text is as after a change: it has the length after, and each new text at its place
abbrev pub IsAsAfter : ChangeOf → Text → Type 0
IsAsAfter c text = IsAsBefore (turned_round c) text

-- the file of a change is there, and is as before or as after it
pub record IsEitherWay (files : List FileOf) (c : ChangeOf) : Type 0 where
  pub text : Text
  pub there : bytes_at c.path files ≡ Some text
  pub either : IsAsBefore c text ⊎ IsAsAfter c text

-- Torn: the journal's last entry is open, and each file that it names is as before or as after it.
pub record IsTorn (version : Version) (records : List RecordOf) (entry : List ChangeOf)
    (held : Held) : Type 0 where
  pub edit : Option Asked
  pub journal : IsJournalIn version held.journal (records ++ opened edit entry ∷ [])
  pub files : (c : ChangeOf) → Contains entry c → IsEitherWay held.files c
