-- A rename: what it may aim at, the words that it changes, the cases that refuse it, what it
-- changes, and what the descriptors become.
use Rattle.std.specs.List.{list_any, Contains}
use Rattle.std.specs.Option.{option_and_then}
use Rattle.std.specs.Prelude.{Option, ℕ, Bool, ◌==◌, ◌&&◌, ◌||◌, if◌then◌else◌, List, [], ◌∷◌, ◌++◌, flat_map, Some, None, codes, find, false, suc, map, true, ◌≡◌, ◌≢◌, ◌+◌, ◌<◌, length, ◌-◌, not, ◌⊎◌, option_map, is_some}
use Rattle.std.specs.Str.{bytes_eq}
use Rattle.proto_ast.specs.JsonNames.{json_name_of}
use Rattle.proto_ast.specs.Options.{is_named, text_option}
use Rattle.proto_ast.specs.Parts.{FieldOf, fields_in, blocks_in, BlockOf, values_in, reserved_names_in}
use Rattle.proto_ast.specs.Scenes.{Scene, value, text}
use Rattle.proto_base.specs.Ascii as ascii
use Rattle.proto_base.specs.Texts.{Text, text_limit, Path}
use Rattle.proto_case.specs.Camel.{entry_name, json_word}
use Rattle.proto_desc_build.specs.Described.{package_prefix}
use Rattle.proto_desc_checks_laws.specs.Renamed.{constant_tokens}
use Rattle.proto_descriptors.specs.Descriptors.{FieldDesc, EnumValueDesc, EnumDesc, MessageDesc, Messages, NoMessages, Message as OneMessage, MethodDesc, ServiceDesc, FileDesc}
use Rattle.proto_edit_entries.specs.Entries.{ChangeOf}
use Rattle.proto_files.specs.FilesRead.{ReadOf, read_at}
use Rattle.proto_files.specs.GivenFiles.{FileOf, file_at}
use Rattle.proto_names_imports.specs.Links.{uses_of, text_of, link_skeleton, names_of_files}
use Rattle.proto_names_rules.specs.Edits.{Renaming, target, IsCaptured, Collides, turned, ren}
use Rattle.proto_names_rules.specs.Faults.{place_of}
use Rattle.proto_names_rules.specs.Grown.{At, at, numbered}
use Rattle.proto_names_rules.specs.Joined.{joined}
use Rattle.proto_names_rules.specs.Names.{same_name as is_same_name, hit, front_at, Symbol}
use Rattle.proto_names_rules.specs.Skeleton.{Used, Skeleton, reference_of, workspace_of, Source, Declared, name_of, Token, IsAimEntry, renaming_of}
use Rattle.proto_names_rules.specs.declared.kind.Kind.{Kind}
use Rattle.proto_names_rules.specs.declared.kind.Kind.TheVariants.{Package, Message, Entry, Enum, Service, Field, EntryField, Oneof, Value, Method, Extension}
use Rattle.proto_resolved.specs.SceneOf.{meaning_of, name_meant, is_enum_at, scene_of}
use Rattle.proto_text.specs.Edits.{Edit, old_len, new_len}
use Rattle.proto_text.specs.Texts.{token_edits, offset_at}
use Rattle.proto_text.specs.Words.{is_run}
use Rattle.proto_text.specs.declared.kind.TokenKind.TheVariants.{Word}
use Rattle.proto_tree.specs.Classes.{fits}
use Rattle.proto_tree.specs.Tree.{Tree}
use Rattle.proto_tree.specs.Words.{class_by, is_listed}
use Rattle.proto_tree.specs.declared.class.Expected.TheVariants as want
use Rattle.proto_tree.specs.declared.piece.Header.{Header}
use Rattle.proto_tree.specs.declared.piece.Header.TheVariants as header
use Rattle.proto_tree.specs.declared.tree.FieldType.{FieldType}
use Rattle.proto_tree.specs.declared.tree.FieldType.TheVariants as field_type
use Rattle.proto_edit_rules.specs.Options.{HasWritten, IsOptionWord, is_fixed, is_named_in_values}
pub use Rattle.proto_edit_rules.specs.Statements.{change_by}

-- ---- new words of tokens

-- the new word of a token, where it has one
abbrev pub NewWords : Type 0
NewWords = At → Option Text

-- those of one file
abbrev pub words_of_file : NewWords → ℕ → ℕ → Option Text
words_of_file c file i = c (at file i)

-- ---- where the name is written

-- the same token of the same file
abbrev pub same_at : At → At → Bool
same_at a b = (a.file == b.file) && (a.token == b.token)

-- the words of a reference that stand for the target, where the words before them give the front
abbrev pub stands : Renaming → (At → Text) → List Text → List At → List At
stands e text front [] = []
stands e text front (i ∷ is) =
    (if is_same_name (front ++ text i ∷ []) (target e) then i ∷ [] else [])
    ++ stands e text (front ++ text i ∷ []) is

-- the name that the words of a reference go on from: the prefix of its
-- scope at which it hits, or nothing
abbrev pub front_of : (At → Text) → Skeleton At → Used At → List Text
front_of text k u = front_at (reference_of text entry_name u)
    (hit (workspace_of text entry_name k) (reference_of text entry_name u))

-- the words of this reference that stand for the target
abbrev pub standing : (At → Text) → Skeleton At → Renaming → Used At → List At
standing text k e u = stands e text (front_of text k u) u.tokens

-- the declaring token, the words of references, and these defaults
abbrev pub renamed_places : (At → Text) → Skeleton At → Renaming → At → List At → List At
renamed_places text k e token defaults = token ∷ (flat_map (standing text k e) k.used ++ defaults)

-- each of these tokens becomes the word
abbrev pub change_at : List At → Text → NewWords
change_at places to a = if list_any (same_at a) places then Some to else None

-- ---- defaults that name a value

-- the fields of a message, and the extensions of an `extend`; those of a oneof are its message's,
-- and no other block has any
abbrev pub fields_of_block : Header → Tree → List FieldOf
fields_of_block (header.Message h) within = fields_in within
fields_of_block (header.Oneof h) within = []
fields_of_block (header.Enum h) within = []
fields_of_block (header.Service h) within = []
fields_of_block (header.Method s) within = []
fields_of_block (header.Extend e) within = fields_in within

-- the fields of all messages of a file, and all its extensions
abbrev pub fields_of_file : Tree → List FieldOf
fields_of_file tree = flat_map (λ b. fields_of_block b.header b.within) (blocks_in tree)

-- the words that are a field's defaults
abbrev pub default_words : (ℕ → Text) → FieldOf → List ℕ
default_words text f =
    flat_map (λ o. if is_named text (codes "default") o then constant_tokens o.value else [])
    f.options

-- the full name that a field's type means
abbrev pub type_meaning : List FileOf → List ReadOf → ℕ → FieldType → Option (List Text)
type_meaning files reads file (field_type.Scalar t) = None
type_meaning files reads file (field_type.Reference r) = name_meant files reads file r

-- what the reference with this first token means
abbrev pub meaning_from : List FileOf → List ReadOf → ℕ → ℕ → Option (List Text)
meaning_from files reads file first = option_and_then (meaning_of files reads file)
    (find (λ u. u.first == first) (uses_of reads file))

-- the word is the renamed value's, and the type means its enum
abbrev pub means_value : Option (List Text) → Text → Option (List Text) → Text → Bool
means_value None old type word = false
means_value (Some enum) old None word = false
means_value (Some enum) old (Some type) word = is_same_name type enum && bytes_eq word old

-- the words of a field's defaults that mean the value
abbrev pub renamed_default : List FileOf → List ReadOf → Option (List Text) → Text → ℕ → FieldOf
    → List ℕ
renamed_default files reads enum old file f =
    flat_map (λ w.
    if means_value enum old (type_meaning files reads file f.kind) (text_of files reads (at file w))
    then w ∷ []
    else [])
    (default_words (λ t. text_of files reads (at file t)) f)

-- those of all files
abbrev pub renamed_defaults : List FileOf → List ReadOf → Option (List Text) → Text → List At
renamed_defaults files reads enum old =
    flat_map (λ p. map (at p.0)
    (flat_map (renamed_default files reads enum old p.0) (fields_of_file p.1.tree)))
    (numbered 0 reads)

-- those of the files from this number on
abbrev pub defaults_from : List FileOf → List ReadOf → Option (List Text) → Text → ℕ
    → List ReadOf → List At
defaults_from files reads enum old file rs =
    flat_map (λ p. map (at p.0)
    (flat_map (renamed_default files reads enum old p.0) (fields_of_file p.1.tree)))
    (numbered file rs)

-- ---- what is renamed

-- a kind that may be renamed: messages, enums, services, fields, extensions, values and methods
abbrev pub may_rename : Kind → Bool
may_rename Package = false
may_rename Message = true
may_rename Entry = false
may_rename Enum = true
may_rename Service = true
may_rename Field = true
may_rename EntryField = false
may_rename Oneof = false
may_rename Value = true
may_rename Method = true
may_rename Extension = true

-- a written declaration: its token, what it stands below, whether it is a map field,
-- and for a value the name of its enum
pub record Target : Type 0 where
  pub token : At
  pub above : List (Source At)
  pub aim : Declared At
  pub is_map : Bool
  pub enum : Option (List Text)

-- the enum of this full name is declared in the file of the value, and its block has the value
pub record IsEnumOf
    (files : List FileOf) (reads : List ReadOf) (token : At) (enum : List Text) : Type 0 where
  pub d : Declared At
  pub declared : Contains (link_skeleton files reads).declared d
  pub kind : d.kind ≡ Enum
  pub name_is : name_of (text_of files reads) entry_name d.path ≡ enum
  pub file_is : d.file ≡ token.file
  pub b : BlockOf
  pub found : find (λ (x : BlockOf). is_enum_at (place_of d).token x.header)
      (blocks_in (read_at reads token.file).tree) ≡ Some b
  pub within : Contains (map (λ v. v.name) (values_in b.within)) token.token

-- the full name of the enum that has the value; none for another kind
abbrev pub HasEnum : List FileOf → List ReadOf → Declared At → At → Option (List Text) → Type 0
HasEnum files reads aim token None = aim.kind ≢ Value
HasEnum files reads aim token (Some enum) = (aim.kind ≡ Value) × IsEnumOf files reads token enum

-- the declaration has the full name, as text
pub record IsNamed
    (files : List FileOf) (reads : List ReadOf) (name : Text) (t : Target) : Type 0 where
  pub within : Contains (link_skeleton files reads).declared t.aim
  pub path : t.aim.path ≡ t.above ++ Token t.token ∷ []
  pub name_is : joined (name_of (text_of files reads) entry_name t.aim.path) ≡ name
  pub kind : may_rename t.aim.kind ≡ true
  pub entry : IsAimEntry (link_skeleton files reads) t.token t.above t.is_map
  pub enum_is : HasEnum files reads t.aim t.token t.enum

-- the target goes under its new name, and all below it; a map field's entry as well
abbrev pub name_map : List FileOf → List ReadOf → Target → Text → Renaming
name_map files reads t to = renaming_of (text_of files reads) entry_name t.token t.above t.is_map to

-- the new words, by their tokens
abbrev pub renamed_words : List FileOf → List ReadOf → Target → Text → NewWords
renamed_words files reads t to =
    change_at
    (renamed_places (text_of files reads) (link_skeleton files reads) (name_map files reads t to)
    t.token (renamed_defaults files reads t.enum (name_map files reads t to).old))
    to

-- ---- the changes

-- the splices of a file
abbrev pub splices_in : NewWords → List FileOf → List ReadOf → ℕ → List Edit
splices_in c files reads k =
    token_edits (file_at files k).bytes (words_of_file c k) 0 (read_at reads k).tokens

-- With its splices the file would be longer than one may be.
abbrev pub IsRewordedTooLong : NewWords → List FileOf → List ReadOf → ℕ → Type 0
IsRewordedTooLong c files reads k = text_limit + old_len (splices_in c files reads k)
    < length (file_at files k).bytes + new_len (splices_in c files reads k)

-- the length after the splices
abbrev pub spliced_length : ℕ → List Edit → ℕ
spliced_length before es = (before + new_len es) - old_len es

-- of the files from this number on
abbrev pub changes_from : NewWords → ℕ → List FileOf → List ReadOf → List ChangeOf
changes_from c file [] rs = []
changes_from c file (f ∷ fs) [] = []
changes_from c file (f ∷ fs) (r ∷ rs) =
    change_by f (token_edits f.bytes (words_of_file c file) 0 r.tokens) ++ changes_from c
    (suc file) fs rs

-- those of all files, in their order
abbrev pub changes_of_words : NewWords → List FileOf → List ReadOf → List ChangeOf
changes_of_words c files reads = changes_from c 0 files reads

-- ---- the cases that refuse it

-- a word that a symbol of this kind may not be named (of a value: `option` and `reserved`)
abbrev pub is_keyword_of : Kind → Text → Bool
is_keyword_of Message word = is_listed word
is_keyword_of Enum word = is_listed word
is_keyword_of Service word = is_listed word
is_keyword_of Value word = not (fits want.ValueName (class_by Word word))
is_keyword_of Package word = false
is_keyword_of Entry word = false
is_keyword_of Field word = false
is_keyword_of EntryField word = false
is_keyword_of Oneof word = false
is_keyword_of Method word = false
is_keyword_of Extension word = false

-- a word that may not name a value
abbrev pub is_value_keyword : Text → Bool
is_value_keyword word = is_keyword_of Value word

-- what is read of the file of a token
abbrev pub scene_of_token : List FileOf → List ReadOf → At → Scene
scene_of_token files reads a = scene_of None files reads a.file

-- a message with a field of this name token, or an `extend` with such an extension
pub record IsFieldIn
    (files : List FileOf) (reads : List ReadOf) (a : At) (b : BlockOf) (f : FieldOf) : Type 0 where
  pub block : Contains (blocks_in (read_at reads a.file).tree) b
  pub field : Contains (fields_in b.within) f
  pub name : f.name ≡ a.token

-- a field or a value of the block has this name token
abbrev pub HasMember : Tree → ℕ → Type 0
HasMember within token = Contains (map (λ f. f.name) (fields_in within)) token
    ⊎ Contains (map (λ v. v.name) (values_in within)) token

-- the message of the field, or the enum of the value, reserves the word (an `extend` reserves
-- nothing, so this holds of no extension)
abbrev pub ReservesWord : List FileOf → List ReadOf → At → Text → Type 0
ReservesWord files reads a word = (b : BlockOf) × Contains (blocks_in (read_at reads a.file).tree) b
    × HasMember b.within a.token
    × Contains (map (value (scene_of_token files reads a)) (reserved_names_in b.within)) word

-- whether the fields of a block have JSON names: those of a message and of a oneof have, extensions
-- have none, and no other block has fields
abbrev pub has_json_names : Header → Bool
has_json_names (header.Message h) = true
has_json_names (header.Oneof h) = true
has_json_names (header.Enum h) = false
has_json_names (header.Service h) = false
has_json_names (header.Method s) = false
has_json_names (header.Extend e) = false

-- a field of a proto3 file without a written JSON name would get that of another field of its
-- message
pub record JsonNameClashes
    (files : List FileOf) (reads : List ReadOf) (a : At) (word : Text) : Type 0 where
  pub b : BlockOf
  pub f : FieldOf
  pub other : FieldOf
  pub field : IsFieldIn files reads a b f
  pub has_names : has_json_names b.header ≡ true
  pub beside : Contains (fields_in b.within) other
  pub differs : other.name ≢ f.name
  pub proto3 : (scene_of_token files reads a).is_proto3 ≡ true
  pub unwritten : text_option (text (scene_of_token files reads a))
      (value (scene_of_token files reads a))
      (codes "json_name") f.options ≡ None
  pub same : json_word word ≡ json_name_of (scene_of_token files reads a) other

-- a reference that the rename captures
pub record Captures
    (files : List FileOf) (reads : List ReadOf) (t : Target) (to : Text) (u : Used At)
    : Type 0 where
  pub used : Contains (link_skeleton files reads).used u
  pub captured : IsCaptured (name_map files reads t to) (names_of_files files reads)
      (reference_of (text_of files reads) entry_name u)

-- the token is a word of an option that may stand for what is renamed, under its old or its new name
abbrev pub IsValueWord : List FileOf → List ReadOf → Target → Text → At → Type 0
IsValueWord files reads t to a =
    (is_named_in_values t.aim.kind ≡ true)
    × IsOptionWord files reads t.token.file (text_of files reads t.token ∷ to ∷ []) a

-- the old or the new full name is that of an options message, or of what is in one or around it
abbrev pub NamesOptions : List FileOf → List ReadOf → Target → Text → Type 0
NamesOptions files reads t to =
    HasWritten files
    × ((is_fixed (target (name_map files reads t to))
    || is_fixed ((name_map files reads t to).parent ++ to ∷ []))
    ≡ true)

-- before, by file and token
abbrev pub StandsBefore : At → At → Type 0
StandsBefore a b = (a.file < b.file) ⊎ ((a.file ≡ b.file) × (a.token < b.token))

-- the path and offset of the least use of which this holds, by path and offset of its first token
pub record IsFirstPlace
    (files : List FileOf) (reads : List ReadOf) (Holds : Used At → Type 0) (path : Path)
    (offset : ℕ) : Type 0 where
  pub u : Used At
  pub holds : Holds u
  pub least : (v : Used At) → Holds v → StandsBefore v.first u.first → ⊥
  pub path_is : path ≡ (file_at files u.first.file).path
  pub offset_is : offset ≡ offset_at (read_at reads u.first.file).tokens u.first.token

-- no symbol has this full name
abbrev pub IsUnknown : List FileOf → List ReadOf → Text → Type 0
IsUnknown files reads name =
    (s : Symbol) → Contains (names_of_files files reads).symbols s → joined s.name ≡ name → ⊥

-- Case n refuses the rename; of several the least is answered.
pub data RenameCase
    (files : List FileOf) (reads : List ReadOf) (name to : Text) : ℕ → Type 0 where
  unknown_target : IsUnknown files reads name → RenameCase files reads name to 1
  kind_not_allowed : (s : Symbol) → Contains (names_of_files files reads).symbols s
      → joined s.name ≡ name → may_rename s.kind ≡ false → RenameCase files reads name to 2
  not_an_identifier : is_run to ≡ false → RenameCase files reads name to 3
  keyword_name : (t : Target) → IsNamed files reads name t
      → is_keyword_of t.aim.kind to ≡ true → RenameCase files reads name to 4
  same_name : (t : Target) → IsNamed files reads name t
      → text_of files reads t.token ≡ to → RenameCase files reads name to 5
  collision : (t : Target) → IsNamed files reads name t
      → Collides (name_map files reads t to) (names_of_files files reads)
      → RenameCase files reads name to 6
  captured : (t : Target) (u : Used At) → IsNamed files reads name t
      → Captures files reads t to u → RenameCase files reads name to 7
  name_reserved : (t : Target) → IsNamed files reads name t
      → ReservesWord files reads t.token to → RenameCase files reads name to 8
  json_clash : (t : Target) → IsNamed files reads name t
      → JsonNameClashes files reads t.token to → RenameCase files reads name to 9
  too_large : (t : Target) (k : ℕ) → IsNamed files reads name t → k < length files
      → IsRewordedTooLong (renamed_words files reads t to) files reads k
      → RenameCase files reads name to 16
  option_value : (t : Target) (a : At) → IsNamed files reads name t
      → IsValueWord files reads t to a → RenameCase files reads name to 19
  fixed_name : (t : Target) → IsNamed files reads name t
      → NamesOptions files reads t to → RenameCase files reads name to 20

-- ---- the descriptors

-- the name as text, each word behind a dot
abbrev pub dotted_text : List Text → Text
dotted_text x = flat_map (λ w. ascii.dot ∷ w) x

-- one byte more before the first part
abbrev pub put_first : ℕ → List Text → List Text
put_first b [] = (b ∷ []) ∷ []
put_first b (w ∷ ws) = (b ∷ w) ∷ ws

-- what stands before, between and behind the dots
abbrev pub parts : Text → List Text
parts [] = [] ∷ []
parts (b ∷ bs) = if b == ascii.dot then [] ∷ parts bs else put_first b (parts bs)

-- what stands behind the first dot
abbrev pub behind_first : List Text → List Text
behind_first [] = []
behind_first (w ∷ ws) = ws

-- the words of a name that stands behind a dot
abbrev pub words_of : Text → List Text
words_of text = behind_first (parts text)

-- a word right below a name
abbrev pub word_under : Renaming → List Text → Text → Text
word_under e above word = if is_same_name above e.parent then turned e word else word

-- a full name as text
abbrev pub mapped_name : Renaming → Text → Text
mapped_name e text = dotted_text (ren e (words_of text))

-- what the map takes from the old files besides names: whether the renamed field has a written JSON
-- name, and the enum that has the renamed value
pub record Taken : Type 0 where
  pub written : Bool
  pub enum : Option (List Text)

-- whether the type is the enum
abbrev pub is_name_of : Option (List Text) → Option Text → Bool
is_name_of None type_name = false
is_name_of (Some enum) None = false
is_name_of (Some enum) (Some type_name) = is_same_name (words_of type_name) enum

-- a default that means the renamed value
abbrev pub mapped_default : Renaming → Taken → Option Text → Text → Text
mapped_default e taken type_name word =
    if is_name_of taken.enum type_name && bytes_eq word e.old then e.new else word

-- the JSON name of a field of this name: the renamed field's is made anew, where none is written
abbrev pub mapped_json : Renaming → Taken → List Text → Text → Text → Text
mapped_json e taken above name json =
    if is_same_name (above ++ name ∷ []) (target e) && not taken.written
    then json_word e.new
    else json

-- A field right in a message of this full name, or an extension right in it or in a package of this
-- name. An extension has no JSON name, and gets none.
abbrev pub mapped_field : Renaming → Taken → List Text → FieldDesc → FieldDesc
mapped_field e taken above f = record f {
  name = word_under e above f.name;
  type_name = option_map (mapped_name e) f.type_name;
  extendee = option_map (mapped_name e) f.extendee;
  default_value = option_map (mapped_default e taken f.type_name) f.default_value;
  json_name = option_map (mapped_json e taken above f.name) f.json_name;
}

-- a value of an enum right below this name
abbrev pub mapped_value : Renaming → List Text → EnumValueDesc → EnumValueDesc
mapped_value e above v = record v { name = word_under e above v.name }

-- an enum right below this name; its values stand beside it
abbrev pub mapped_enum : Renaming → List Text → EnumDesc → EnumDesc
mapped_enum e above d =
    record d { name = word_under e above d.name; value = map (mapped_value e above) d.value }

-- a message with this full name
abbrev pub mapped_message : Renaming → Taken → List Text → List Text → MessageDesc
    → MessageDesc
mapped_message e taken above full m = record m {
  name = word_under e above m.name;
  field = map (mapped_field e taken full) m.field;
  extension = map (mapped_field e taken full) m.extension;
  enum_type = map (mapped_enum e full) m.enum_type;
  oneof_decl = map (word_under e full) m.oneof_decl;
}

-- messages right below this name, with what is nested in them
abbrev pub mapped_messages : Renaming → Taken → List Text → Messages → Messages
mapped_messages e taken above NoMessages = NoMessages
mapped_messages e taken above (OneMessage m nested rest) =
    OneMessage (mapped_message e taken above (above ++ m.name ∷ []) m)
    (mapped_messages e taken (above ++ m.name ∷ []) nested) (mapped_messages e taken above rest)

-- a method of a service of this full name
abbrev pub mapped_method : Renaming → List Text → MethodDesc → MethodDesc
mapped_method e full m = record m {
  name = word_under e full m.name;
  input_type = mapped_name e m.input_type;
  output_type = mapped_name e m.output_type;
}

-- a service right below this name
abbrev pub mapped_service : Renaming → List Text → ServiceDesc → ServiceDesc
mapped_service e above s = record s {
  name = word_under e above s.name;
  method = map (mapped_method e (above ++ s.name ∷ [])) s.method;
}

-- a package keeps its name
abbrev pub mapped_file : Renaming → Taken → FileDesc → FileDesc
mapped_file e taken f = record f {
  message_type = mapped_messages e taken (words_of (package_prefix f.«package»)) f.message_type;
  enum_type = map (mapped_enum e (words_of (package_prefix f.«package»))) f.enum_type;
  service = map (mapped_service e (words_of (package_prefix f.«package»))) f.service;
  extension = map (mapped_field e taken (words_of (package_prefix f.«package»))) f.extension;
}

-- the descriptors of the files
abbrev pub mapped : Renaming → Taken → List FileDesc → List FileDesc
mapped e taken ds = map (mapped_file e taken) ds

-- whether the renamed field has a written JSON name (false for another kind)
pub data WritesJson (files : List FileOf) (reads : List ReadOf) (t : Target) : Bool → Type 0 where
  of_field : (b : BlockOf) (f : FieldOf) → IsFieldIn files reads t.token b f
      → WritesJson files reads t (is_some (text_option (text (scene_of_token files reads t.token))
      (value (scene_of_token files reads t.token)) (codes "json_name") f.options))
  of_another : ((b : BlockOf) (f : FieldOf) → IsFieldIn files reads t.token b f → ⊥)
      → WritesJson files reads t false

-- the second descriptors are the first under the name map of the rename
abbrev pub AreRenamed : List FileOf → List ReadOf → Target → Text → List FileDesc → List FileDesc
    → Type 0
AreRenamed files reads t to ds new = (written : Bool) × WritesJson files reads t written
    × (new ≡ map
    (mapped_file (name_map files reads t to) (record { written = written; enum = t.enum })) ds)
