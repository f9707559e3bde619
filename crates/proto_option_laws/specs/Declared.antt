-- What descriptors have is declared: messages with their fields, enums with their values, and
-- extensions; and each named type of a field is declared in a file to which its own leads.
use Rattle.std.specs.List.{Contains}
use Rattle.std.specs.Prelude.{◌≡◌, ◌≢◌, ◌⊎◌, ℕ, List, [], ◌∷◌, ◌++◌, Option, Some, option_map}
use Rattle.proto_base.specs.Texts.{Text}
use Rattle.proto_case.specs.Camel.{entry_name}
use Rattle.proto_descriptors.specs.Descriptors.{EnumDesc, EnumValueDesc, FieldDesc, MessageDesc}
use Rattle.proto_edit_rules.specs.Rename.{words_of}
use Rattle.proto_files.specs.FilesRead.{ReadOf}
use Rattle.proto_files.specs.GivenFiles.{FileOf}
use Rattle.proto_names_imports.specs.Links.{link_imports, link_skeleton, text_of}
use Rattle.proto_names_rules.specs.Cycles.{Leads}
use Rattle.proto_names_rules.specs.Grown.{At}
use Rattle.proto_names_rules.specs.Names.{Name}
use Rattle.proto_names_rules.specs.Skeleton.{Declared, name_of}
use Rattle.proto_names_rules.specs.declared.kind.Kind.TheVariants.{Package, Field, EntryField, Value, Extension}

module _ (files : List FileOf) (reads : List ReadOf) where
  -- a declaration has this full name
  abbrev pub HasName : Declared At → Name → Type 0
  HasName d name = name_of (text_of files reads) entry_name d.path ≡ name

  -- a declaration of this name, no package, in a file to which this file leads by imports
  pub record IsReached (from : ℕ) (name : Name) : Type 0 where
    pub d : Declared At
    pub within : Contains (link_skeleton files reads).declared d
    pub name_is : HasName d name
    pub no_package : d.kind ≢ Package
    pub leads : Leads (link_imports files reads) from d.file

  -- so is the type of a field of this file, if it has a named one
  abbrev pub TypeIsReached : ℕ → Option Text → Type 0
  TypeIsReached from type_name =
      (name : Name) → option_map words_of type_name ≡ Some name → IsReached from name

  -- a field right in a message of this name, in this file
  pub record IsDeclaredField (file : ℕ) (message : Name) (f : FieldDesc) : Type 0 where
    pub d : Declared At
    pub within : Contains (link_skeleton files reads).declared d
    pub name_is : HasName d (message ++ f.name ∷ [])
    pub file_is : d.file ≡ file
    pub kind : (d.kind ≡ Field) ⊎ (d.kind ≡ EntryField)
    pub type : TypeIsReached file f.type_name

  -- a value right below this name, in this file; values stand beside their enum
  pub record IsDeclaredValue (file : ℕ) (above : Name) (v : EnumValueDesc) : Type 0 where
    pub d : Declared At
    pub within : Contains (link_skeleton files reads).declared d
    pub name_is : HasName d (above ++ v.name ∷ [])
    pub file_is : d.file ≡ file
    pub kind : d.kind ≡ Value

  -- an enum right below this name
  pub record IsDeclaredEnum (above : Name) (e : EnumDesc) : Type 0 where
    pub d : Declared At
    pub within : Contains (link_skeleton files reads).declared d
    pub name_is : HasName d (above ++ e.name ∷ [])
    pub no_package : d.kind ≢ Package
    pub values : (v : EnumValueDesc) → Contains e.value v → IsDeclaredValue d.file above v

  -- an extension of this full name
  pub record IsDeclaredExtension (name : Name) (x : FieldDesc) : Type 0 where
    pub d : Declared At
    pub within : Contains (link_skeleton files reads).declared d
    pub name_is : HasName d name
    pub kind : d.kind ≡ Extension
    pub type : TypeIsReached d.file x.type_name

  -- a message of this full name, with what stands right in it
  pub record IsDeclaredMessage (name : Name) (m : MessageDesc) : Type 0 where
    pub d : Declared At
    pub within : Contains (link_skeleton files reads).declared d
    pub name_is : HasName d name
    pub no_package : d.kind ≢ Package
    pub fields : (f : FieldDesc) → Contains m.field f → IsDeclaredField d.file name f
    pub enums : (e : EnumDesc) → Contains m.enum_type e → IsDeclaredEnum name e
    pub extensions : (x : FieldDesc) → Contains m.extension x
        → IsDeclaredExtension (name ++ x.name ∷ []) x
