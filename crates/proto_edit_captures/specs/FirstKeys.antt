-- Which files have to be asked for captured references: by keys of the words that references begin
-- with.
use Rattle.std.specs.Prelude.{ℕ, Bool, ◌==◌, ◌||◌, ◌&&◌, List, [], get_or, Option, Some, None}
use Rattle.std.specs.List.{list_any}
use Rattle.proto_base.specs.Texts.{Text}
use Rattle.proto_names.specs.Referring.{word_key}
use Rattle.proto_names.specs.Linking.{LinkOf, Meant, is_visible}
use Rattle.proto_edit_captures.specs.declared.first_keys.FirstKeys.{FirstKeys}
use Rattle.proto_edit_captures.specs.NewTexts.{NewTexts}

-- the new word of the entry; where there is no entry, that of the target
abbrev pub entry_or_new : Option (Text × Text) → Text → Text
entry_or_new None new = new
entry_or_new (Some p) new = p.1

-- the keys of the words that a captured reference may begin with: the new word, the old one, and
-- the new one of the entry
abbrev pub first_keys_of : NewTexts → FirstKeys
first_keys_of n = record {
  new = word_key n.new;
  old = word_key n.old;
  entry = word_key (entry_or_new n.entry n.new);
}

-- one of these references begins with a word of this key
abbrev pub begins : List Meant → ℕ → Bool
begins ms key = list_any (λ m. m.first == key) ms

-- the file has to be asked: one of its references begins with a new word, or with the old one, and
-- the name with this text, which is renamed, is visible there
abbrev pub has_to_be_asked : FirstKeys → LinkOf → ℕ → Text → Bool
has_to_be_asked k l file target =
    (begins (get_or l.meant file []) k.new || begins (get_or l.meant file []) k.entry)
    || begins (get_or l.meant file []) k.old && is_visible l file target
