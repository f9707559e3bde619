-- What an edit leaves of options. A reader who knows the words of an option and the descriptors sees
-- of the types that its value may fill the fields, values and reserved names of these words alone.
use Rattle.std.specs.List.{Contains, filter}
use Rattle.std.specs.Prelude.{◌≡◌, true, ℕ, ℤ, List, [], ◌∷◌, ◌++◌, map, Option, Some, option_map}
use Rattle.proto_custom_options.specs.CustomOptions.{CustomOf, custom_tokens, custom_words, customs_in}
use Rattle.proto_ast.specs.Options.{is_one_of}
use Rattle.proto_base.specs.Texts.{Text}
use Rattle.proto_desc_build.specs.Described.{package_prefix}
use Rattle.proto_descriptors.specs.Descriptors.{EnumDesc, EnumValueDesc, FieldDesc, FileDesc, Message, MessageDesc, Messages}
use Rattle.proto_descriptors.specs.declared.field.FieldOptions.{FieldOptions}
use Rattle.proto_descriptors.specs.declared.field.FieldType.{FieldType}
use Rattle.proto_descriptors.specs.declared.field.Label.{Label}
use Rattle.proto_files.specs.FilesRead.{ReadOf, read_at}
use Rattle.proto_files.specs.GivenFiles.{FileOf}
use Rattle.proto_names_imports.specs.Links.{text_of}
use Rattle.proto_names_rules.specs.Grown.{at}
use Rattle.proto_names_rules.specs.Names.{Name}
use Rattle.proto_resolved.specs.SceneOf.{name_meant}
use Rattle.proto_edit_rules.specs.Rename.{words_of}

-- ---- what has a name

-- a message of this full name, right below a name or in one of these messages
pub data IsMessageBelow : Name → Messages → Name → MessageDesc → Type 0 where
  here : (above : Name) (m : MessageDesc) (nested rest : Messages)
      → IsMessageBelow above (Message m nested rest) (above ++ m.name ∷ []) m
  within : (above name : Name) (m n : MessageDesc) (nested rest : Messages)
      → IsMessageBelow (above ++ m.name ∷ []) nested name n
      → IsMessageBelow above (Message m nested rest) name n
  behind : (above name : Name) (m n : MessageDesc) (nested rest : Messages)
      → IsMessageBelow above rest name n
      → IsMessageBelow above (Message m nested rest) name n

-- the words of the package of a file
abbrev pub package_words : FileDesc → Name
package_words d = words_of (package_prefix d.«package»)

-- a message of this full name
pub record IsMessageOf (ds : List FileDesc) (name : Name) (m : MessageDesc) : Type 0 where
  pub file : FileDesc
  pub within : Contains ds file
  pub below : IsMessageBelow (package_words file) file.message_type name m

-- an enum of this full name, right in a package or in a message
pub data IsEnumOf (ds : List FileDesc) : Name → EnumDesc → Type 0 where
  in_file : (d : FileDesc) (e : EnumDesc) → Contains ds d → Contains d.enum_type e
      → IsEnumOf ds (package_words d ++ e.name ∷ []) e
  in_message : (name : Name) (m : MessageDesc) (e : EnumDesc) → IsMessageOf ds name m
      → Contains m.enum_type e → IsEnumOf ds (name ++ e.name ∷ []) e

-- an extension of this full name, right in a package or in a message
pub data IsExtensionOf (ds : List FileDesc) : Name → FieldDesc → Type 0 where
  in_file : (d : FileDesc) (x : FieldDesc) → Contains ds d → Contains d.extension x
      → IsExtensionOf ds (package_words d ++ x.name ∷ []) x
  in_message : (name : Name) (m : MessageDesc) (x : FieldDesc) → IsMessageOf ds name m
      → Contains m.extension x → IsExtensionOf ds (name ++ x.name ∷ []) x

-- ---- the types that a value may fill

-- the type of the extension, and those of the fields of such a type that these words name
pub data IsFilled (these : List Text) (ds : List FileDesc) (x : FieldDesc) : Name → Type 0 where
  of_extension : (name : Name) → option_map words_of x.type_name ≡ Some name
      → IsFilled these ds x name
  of_field : (name next : Name) (m : MessageDesc) (f : FieldDesc) → IsFilled these ds x name
      → IsMessageOf ds name m → Contains m.field f → is_one_of these f.name ≡ true
      → option_map words_of f.type_name ≡ Some next → IsFilled these ds x next

-- what a reader sees of a field: its type under this map, and its plain options
pub record SeenField : Type 0 where
  pub name : Text
  pub number : ℕ
  pub label : Label
  pub field_type : FieldType
  pub type_name : Option Name
  pub options : FieldOptions

-- a field as a reader sees it
abbrev pub seen_field : (Name → Name) → FieldDesc → SeenField
seen_field ren f = record {
  name = f.name;
  number = f.number;
  label = f.label;
  field_type = f.field_type;
  type_name = option_map (λ t. ren (words_of t)) f.type_name;
  options = f.options;
}

-- what a reader sees of a message: the fields that these words name, and the words that it reserves
abbrev pub message_view : (Name → Name) → List Text → MessageDesc → List SeenField × List Text
message_view ren these m = (
  map (seen_field ren) (filter (λ (f : FieldDesc). is_one_of these f.name) m.field),
  filter (is_one_of these) m.reserved_name,
)

-- a value as a reader sees it
abbrev pub seen_value : EnumValueDesc → Text × ℤ
seen_value v = (v.name, v.number)

-- what a reader sees of an enum: the values that these words name
abbrev pub enum_view : List Text → EnumDesc → List (Text × ℤ)
enum_view these e =
    map seen_value (filter (λ (v : EnumValueDesc). is_one_of these v.name) e.value)

-- by these words a reader of a value of the extension sees the same in the second descriptors,
-- under the name map: the extension is the same but for its name, each type that a value may fill is
-- there, and no other may be filled there
pub record SeesTheSame
    (ren : Name → Name) (these : List Text) (ds new : List FileDesc) (x y : FieldDesc)
    : Type 0 where
  -- the extension is the same field but for its name
  pub own : seen_field (λ t. t) y ≡ record (seen_field ren x) { name = y.name }
  pub messages : (name : Name) (m : MessageDesc) → IsFilled these ds x name
      → IsMessageOf ds name m → (n : MessageDesc) × IsMessageOf new (ren name) n
      × (message_view (λ t. t) these n ≡ message_view ren these m)
  pub enums : (name : Name) (d : EnumDesc) → IsFilled these ds x name → IsEnumOf ds name d
      → (e : EnumDesc) × IsEnumOf new (ren name) e × (enum_view these e ≡ enum_view these d)
  pub none_new : (next : Name) → IsFilled these new y next
      → (name : Name) × IsFilled these ds x name × (ren name ≡ next)

-- ---- what stays of an option

-- the texts of tokens of a file
abbrev pub texts_at : List FileOf → List ReadOf → ℕ → List ℕ → List Text
texts_at files reads file tokens = map (λ t. text_of files reads (at file t)) tokens

-- an option of the second files is one of the first: of an element of the same kind, with the same
-- path and value, its name means what the name map makes of what it meant, and a reader of its
-- value sees the same
pub record IsSameOption
    (ren : Name → Name) (files after : List FileOf) (reads later : List ReadOf)
    (ds new : List FileDesc) (file : ℕ) (c d : CustomOf) : Type 0 where
  pub message : d.message ≡ c.message
  pub texts : texts_at after later file (custom_tokens d.custom)
      ≡ texts_at files reads file (custom_tokens c.custom)
  pub means : name_meant after later file d.custom.name
      ≡ option_map ren (name_meant files reads file c.custom.name)
  pub sees : (name : Name) (x : FieldDesc) → name_meant files reads file c.custom.name ≡ Some name
      → IsExtensionOf ds name x
      → (y : FieldDesc) × IsExtensionOf new (ren name) y
      × SeesTheSame ren (texts_at files reads file (custom_words c.custom)) ds new x y

-- each option of the second files is one of the first
abbrev pub OptionsStay : (Name → Name) → List FileOf → List FileOf → List ReadOf → List ReadOf
    → List FileDesc → List FileDesc → Type 0
OptionsStay ren files after reads later ds new =
    (file : ℕ) (d : CustomOf) → Contains (customs_in (read_at later file).tree) d
    → (c : CustomOf) × Contains (customs_in (read_at reads file).tree) c
    × IsSameOption ren files after reads later ds new file c d
