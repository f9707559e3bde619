-- The text of a record: a line of JSON without spaces, the keys in the order of their bytes. In the
-- second version of a journal it begins with the edit, of which the first version does not tell.
use Rattle.std.specs.Prelude.{[], ◌∷◌, ◌++◌, map, codes, Option, Some, None}
use Rattle.serde_json.specs.Data.{Data, null, number, unsigned, string, array, object, member, no_members}
use Rattle.serde_json.specs.View.{items_of}
use Rattle.serde_json.specs.Written.{compact_text}
use Rattle.proto_base.specs.Ascii as ascii
use Rattle.proto_base.specs.Texts.{Text}
use Rattle.proto_text.specs.Edits.{Edit}
use Rattle.proto_edit_entries.specs.EditsAsked.{Asked, rename, delete_field, add_import, drop_import}
use Rattle.proto_edit_entries.specs.Entries.{ChangeOf}
use Rattle.proto_journal_records.specs.declared.record.State.{State}
use Rattle.proto_journal_records.specs.declared.record.State.TheVariants.{Open, Done}
use Rattle.proto_journal_records.specs.declared.record.Version.{Version}
use Rattle.proto_journal_records.specs.declared.record.Version.TheVariants.{First, Second}
use Rattle.proto_journal_records.specs.Records.{RecordOf}

-- {"at": .., "new": .., "old": ..}
unfoldable pub splice_data : Edit → Data
splice_data e = object
    (member (codes "at") (number (unsigned e.at))
    (member (codes "new") (string e.new)
    (member (codes "old") (string e.old) no_members)))

-- {"after": .., "before": .., "path": .., "splices": [..]}
unfoldable pub change_data : ChangeOf → Data
change_data c = object
    (member (codes "after") (number (unsigned c.after))
    (member (codes "before") (number (unsigned c.before))
    (member (codes "path") (string c.path)
    (member (codes "splices") (array (items_of (map splice_data c.splices))) no_members))))

-- the word of a state; both words have four letters, so that a record keeps its length
abbrev pub state_name : State → Text
state_name Open = codes "open"
state_name Done = codes "done"

-- the kind of an edit, with its names or its file and path
unfoldable pub asked_data : Asked → Data
asked_data (rename name to) = object
    (member (codes "kind") (string (codes "rename"))
    (member (codes "name") (string name)
    (member (codes "to") (string to) no_members)))
asked_data (delete_field name) = object
    (member (codes "kind") (string (codes "delete-field"))
    (member (codes "name") (string name) no_members))
asked_data (add_import file path) = object
    (member (codes "file") (string file)
    (member (codes "kind") (string (codes "add-import"))
    (member (codes "path") (string path) no_members)))
asked_data (drop_import file path) = object
    (member (codes "file") (string file)
    (member (codes "kind") (string (codes "drop-import"))
    (member (codes "path") (string path) no_members)))

-- the edit of a record, or `null` where none is known
unfoldable pub edit_data : Option Asked → Data
edit_data None = null
edit_data (Some e) = asked_data e

-- {"files": [..], "state": .., "version": 1}, and
-- {"edit": .., "files": [..], "state": .., "version": 2}
unfoldable pub record_data : Version → RecordOf → Data
record_data First r = object
    (member (codes "files") (array (items_of (map change_data r.entry)))
    (member (codes "state") (string (state_name r.state))
    (member (codes "version") (number (unsigned 1)) no_members)))
record_data Second r = object
    (member (codes "edit") (edit_data r.edit)
    (member (codes "files") (array (items_of (map change_data r.entry)))
    (member (codes "state") (string (state_name r.state))
    (member (codes "version") (number (unsigned 2)) no_members))))

-- the line of a record in a version, with its line feed
unfoldable pub record_text : Version → RecordOf → Text
record_text version r = compact_text (record_data version r) ++ ascii.line_feed ∷ []
