-- What of an edit options may see: 19 OptionValue, where a word of an option may be a name that
-- goes or comes, and 20 FixedName, of the messages that options are fields of.
use Rattle.std.specs.List.{list_any, Contains}
use Rattle.std.specs.Prelude.{◌≡◌, ◌⊎◌, ◌&&◌, ◌<◌, ℕ, Bool, true, false, List, [], ◌∷◌, Some}
use Rattle.std.specs.Str.{bytes_eq}
use Rattle.proto_custom_options.specs.CustomOptions.{CustomOf, custom_words, customs_in, options_messages, options_words}
use Rattle.proto_base.specs.Texts.{Path, Text}
use Rattle.proto_base.specs.declared.profile.Profile.TheVariants as profile
use Rattle.proto_case.specs.Camel.{entry_name}
use Rattle.proto_files.specs.FilesRead.{ReadOf, read_at}
use Rattle.proto_files.specs.GivenFiles.{FileOf, file_at}
use Rattle.proto_names_imports.specs.Links.{link_imports, link_skeleton, text_of}
use Rattle.proto_names_rules.specs.Cycles.{Leads}
use Rattle.proto_names_rules.specs.Grown.{At}
use Rattle.proto_names_rules.specs.Names.{Name}
use Rattle.proto_names_rules.specs.Skeleton.{Declared, name_of}
use Rattle.proto_names_rules.specs.declared.kind.Kind.{Kind}
use Rattle.proto_names_rules.specs.declared.kind.Kind.TheVariants.{Package, Message, Entry, Enum, Service, Field, EntryField, Oneof, Value, Method, Extension}
use Rattle.proto_resolved.specs.SceneOf.{name_meant}
use Rattle.proto_text.specs.Texts.{offset_at}

-- ---- words of options

-- a kind whose names may stand in the path or the value of an option
abbrev pub is_named_in_values : Kind → Bool
is_named_in_values Package = false
is_named_in_values Message = false
is_named_in_values Entry = false
is_named_in_values Enum = false
is_named_in_values Service = false
is_named_in_values Field = true
is_named_in_values EntryField = false
is_named_in_values Oneof = false
is_named_in_values Value = true
is_named_in_values Method = false
is_named_in_values Extension = false

-- the token is one of these words in the path or the value of an option, whose extension is
-- declared in this file or in one that leads to it by imports
pub record IsOptionWord
    (files : List FileOf) (reads : List ReadOf) (file : ℕ) (these : List Text) (a : At)
    : Type 0 where
  pub option : CustomOf
  pub extension : Declared At
  pub within : Contains (customs_in (read_at reads a.file).tree) option
  pub stands : Contains (custom_words option.custom) a.token
  pub word : Contains these (text_of files reads a)
  pub declared : Contains (link_skeleton files reads).declared extension
  pub means : name_meant files reads a.file option.custom.name
      ≡ Some (name_of (text_of files reads) entry_name extension.path)
  pub leads : Leads (link_imports files reads) extension.file file

-- before, by file and token
abbrev pub ComesBefore : At → At → Type 0
ComesBefore a b = (a.file < b.file) ⊎ ((a.file ≡ b.file) × (a.token < b.token))

-- the path and offset of the least token of which this holds
pub record IsFirstToken
    (files : List FileOf) (reads : List ReadOf) (Holds : At → Type 0) (path : Path) (offset : ℕ)
    : Type 0 where
  pub a : At
  pub holds : Holds a
  pub least : (b : At) → Holds b → ComesBefore b a → ⊥
  pub path_is : path ≡ (file_at files a.file).path
  pub offset_is : offset ≡ offset_at (read_at reads a.file).tokens a.token

-- ---- options messages

-- one name is the other, or a prefix of it
abbrev pub are_on_a_path : Name → Name → Bool
are_on_a_path [] y = true
are_on_a_path (p ∷ x) [] = true
are_on_a_path (p ∷ x) (q ∷ y) = bytes_eq p q && are_on_a_path x y

-- the name is that of one of the nine options messages, or of what is in one or around it
abbrev pub is_fixed : Name → Bool
is_fixed name = list_any (λ message. are_on_a_path name (options_words message)) options_messages

-- some file is as written
abbrev pub HasWritten : List FileOf → Type 0
HasWritten files = (f : FileOf) × Contains files f × (f.profile ≡ profile.AsWritten)
