-- The names that a rename changes, as text.
use Rattle.std.specs.Prelude.{Bool, true, false, ◌||◌, Option, Some, None, string_bytes}
use Rattle.std.specs.Str.{bytes_eq}
use Rattle.proto_base.specs.Texts.{Text}
use Rattle.proto_case.specs.Camel.{entry_name}
use Rattle.proto_edit_captures.specs.declared.names.EntryNames.{EntryNames}
use Rattle.proto_edit_captures.specs.declared.names.NewNames.{NewNames}

-- the target's full name, its simple names before and after, and for a map field those of its entry
pub record NewTexts : Type 0 where
  pub target : Text
  pub old : Text
  pub new : Text
  pub entry : Option (Text × Text)

-- an entry's two names
abbrev pub entry_pair : EntryNames → Text × Text
entry_pair p = (string_bytes p.old, string_bytes p.new)

-- those of the entry, if there is one
abbrev pub entry_texts : Option EntryNames → Option (Text × Text)
entry_texts None = None
entry_texts (Some p) = Some (entry_pair p)

-- the names as text
abbrev pub texts_of : NewNames → NewTexts
texts_of n = record {
  target = n.target.now;
  old = n.old.now;
  new = n.new.now;
  entry = entry_texts n.entry;
}

-- a map field's entry has a name of its own
abbrev pub entry_words : Bool → Text → Text → Option (Text × Text)
entry_words false old new = None
entry_words true old new = Some (entry_name old, entry_name new)

-- the names of a rename, by the target's full name, its word and the new one
abbrev pub texts_by : Text → Text → Bool → Text → NewTexts
texts_by target old is_map new = record {
  target = target;
  old = old;
  new = new;
  entry = entry_words is_map old new;
}

-- the new name of the entry, if there is one
abbrev pub is_new_by : Option (Text × Text) → Text → Bool
is_new_by None word = false
is_new_by (Some p) word = bytes_eq word p.1

-- the new word, or the new entry's name
abbrev pub is_new_word : NewTexts → Text → Bool
is_new_word n word = bytes_eq word n.new || is_new_by n.entry word
