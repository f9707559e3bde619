-- Records: an entry, how far it has come, and the edit that made it.
use Rattle.std.specs.Prelude.{List, Option, Some, None, option_map}
use Rattle.proto_edit_entries.specs.EditsAsked.{Asked, IsNotable, asked}
use Rattle.proto_edit_entries.specs.Entries.{ChangeOf}
use Rattle.proto_journal_records.specs.declared.record.RecordParts.{RecordParts}
use Rattle.proto_journal_records.specs.declared.record.State.{State}
use Rattle.proto_journal_records.specs.declared.record.State.TheVariants.{Open, Done}

-- a record by its parts; the edit is told where it is known
pub record RecordOf : Type 0 where
  pub state : State
  pub entry : List ChangeOf
  pub edit : Option Asked

-- the record of these parts
abbrev pub record_of : RecordParts → RecordOf
record_of p = record {
  state = p.state;
  entry = p.entry.now;
  edit = option_map (λ e. asked e.now) p.edit;
}

-- what a record may tell of the edit: nothing, or an edit that can be written down
abbrev pub IsNoted : Option Asked → Type 0
IsNoted None = Unit {0}
IsNoted (Some e) = IsNotable e

-- the record of an entry whose files are written, and of its edit
abbrev pub done : Option Asked → List ChangeOf → RecordOf
done edit entry = record { state = Done; entry = entry; edit = edit }

-- the record of an entry whose files are being written, and of its edit
abbrev pub opened : Option Asked → List ChangeOf → RecordOf
opened edit entry = record { state = Open; entry = entry; edit = edit }
