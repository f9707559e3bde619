-- A workspace without faults of names and references.
use Rattle.std.specs.Prelude.{◌≡◌, ◌≢◌, ◌<◌, Bool, true, false, not, List, [], ◌∷◌, ◌++◌, length, Option, Some, None}
use Rattle.std.specs.List.{Contains, AllPairs}
use Rattle.proto_names_rules.specs.Names.{Kind, Package, Message, Entry, Enum, Service, Field, EntryField, Oneof, Value, Method, Extension, Symbol, Import, Reference, Workspace, Word, Name, meaning}
use Rattle.proto_names_rules.specs.Edits.{Renaming, target, Collides, IsCaptured}
use Rattle.proto_names_rules.specs.declared.wants.Wants.TheVariants as wants

-- a package, or a prefix of one
abbrev pub is_package : Kind → Bool
is_package Package = true
is_package _ = false

-- a kind that nothing is declared in
abbrev pub is_leaf : Kind → Bool
is_leaf Package = false
is_leaf Message = false
is_leaf Entry = false
is_leaf Enum = false
is_leaf Service = false
is_leaf Field = true
is_leaf EntryField = true
is_leaf Oneof = true
is_leaf Value = true
is_leaf Method = true
is_leaf Extension = true

-- a field of an entry
abbrev pub is_entry_field : Kind → Bool
is_entry_field Package = false
is_entry_field Message = false
is_entry_field Entry = false
is_entry_field Enum = false
is_entry_field Service = false
is_entry_field Field = false
is_entry_field EntryField = true
is_entry_field Oneof = false
is_entry_field Value = false
is_entry_field Method = false
is_entry_field Extension = false

-- a symbol of the first kind may have one of the second kind declared right in it
abbrev pub holds : Kind → Kind → Bool
holds Package k = true
holds Message k = not (is_package k)
holds Entry k = is_entry_field k
holds Enum k = false
holds Service k = is_leaf k
holds Field k = false
holds EntryField k = false
holds Oneof k = false
holds Value k = false
holds Method k = false
holds Extension k = false

-- each symbol of more than one word stands right in a symbol of its file that may hold its kind
abbrev pub IsNested : List Symbol → Type 0
IsNested symbols =
    (t : Symbol) → Contains symbols t → (a : Name) (p : Word) → t.name ≡ a ++ p ∷ [] → 0 < length a
    → (u : Symbol) × Contains symbols u × (u.name ≡ a) × (u.file ≡ t.file)
    × (holds u.kind t.kind ≡ true)

-- two symbols have different full names, or both are packages
abbrev pub AreApart : Symbol → Symbol → Type 0
AreApart s t = s.name ≡ t.name → (s.kind ≡ Package) × (t.kind ≡ Package)

-- no fault of names and references: full names are unique but for packages, each reference means
-- what it wants, no generated entry, and one that wants a message no enum
pub record IsLinked (w : Workspace) : Type 0 where
  pub nested : IsNested w.symbols
  pub unique : AllPairs AreApart w.symbols
  pub resolved : (r : Reference) → Contains w.references r → meaning w r ≢ None
  pub no_entry : (r : Reference) → Contains w.references r
      → (s : Symbol) → Contains w.symbols s → meaning w r ≡ Some s.name → s.kind ≢ Entry
  pub right_kind : (r : Reference) → Contains w.references r
      → (s : Symbol) → Contains w.symbols s → meaning w r ≡ Some s.name
      → r.wants ≡ wants.Message → s.kind ≢ Enum

-- a generated entry with the word is declared right below the parent
abbrev pub HasEntry : Workspace → Name → Word → Type 0
HasEntry w parent word =
    (s : Symbol) × Contains w.symbols s × (s.name ≡ parent ++ word ∷ []) × (s.kind ≡ Entry)

-- the map field's entry is there, and neither the old nor the new entry has the field's name
abbrev pub EntryFits : Workspace → Renaming → Option (Word × Word) → Type 0
EntryFits w e None = Unit {0}
EntryFits w e (Some p) =
    (p.0 ≢ e.old) × (p.1 ≢ e.new) × HasEntry w e.parent p.0

-- what is renamed is declared, and is no package and no generated entry; the entry that goes along,
-- if there is one, fits
pub record IsRenaming (e : Renaming) (w : Workspace) : Type 0 where
  pub target_is : (s : Symbol) × Contains w.symbols s × (s.name ≡ target e)
      × (s.kind ≢ Package) × (s.kind ≢ Entry)
  pub entry_is : EntryFits w e e.entry

-- the rename gives no symbol a name that another has, and captures no reference
pub record IsFree (e : Renaming) (w : Workspace) : Type 0 where
  pub no_collision : Collides e w → ⊥
  pub no_capture : (r : Reference) → Contains w.references r → IsCaptured e w r → ⊥

-- the old word of the entry, if there is one, is that of a generated entry right below the parent
abbrev pub EntryStands : Workspace → Renaming → Option (Word × Word) → Type 0
EntryStands w e None = Unit {0}
EntryStands w e (Some p) = HasEntry w e.parent p.0

-- the name map's old names are a field's, and those of its entry
pub record IsDeletion (e : Renaming) (w : Workspace) : Type 0 where
  pub target_is : (s : Symbol) × Contains w.symbols s × (s.name ≡ target e) × (s.kind ≡ Field)
  pub entry_is : EntryStands w e e.entry

-- each import is between two files of the workspace
abbrev pub ImportsAreOfFiles : Workspace → Type 0
ImportsAreOfFiles w = (i : Import) → Contains w.imports i → (i.from < w.files) × (i.to < w.files)
