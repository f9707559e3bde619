-- A workspace without some of its fields and entries: what its references mean.
use Rattle.std.specs.Prelude.{◌≡◌, Bool, true, false, List, Some}
use Rattle.std.specs.List.{Contains}
use Rattle.proto_base.specs.Texts.{Text}
use Rattle.proto_names_rules.specs.declared.kind.Kind.{Kind}
use Rattle.proto_names_rules.specs.declared.kind.Kind.TheVariants.{Field, Entry, EntryField}
use Rattle.proto_names_rules.specs.Linked.{IsLinked, IsNested}
use Rattle.proto_names_rules.specs.Names.{Reference, Symbol, Workspace, meaning}
use Rattle.proto_edit_statement_laws.specs.Lists.{HasMore, IsAny}

-- what goes with a field: itself, and for a map field the entry with its key and value
abbrev pub goes_with_field : Kind → Bool
goes_with_field Field = true
goes_with_field Entry = true
goes_with_field EntryField = true
goes_with_field _ = false

-- a symbol of a kind that goes with a deleted field
abbrev pub MayGo : Symbol → Type 0
MayGo s = goes_with_field s.kind ≡ true

-- The second workspace is the first without a field and what goes
-- with it, and without its references.
pub record HasLess (w v : Workspace) : Type 0 where
  pub files : v.files ≡ w.files
  pub imports : v.imports ≡ w.imports
  pub symbols : HasMore MayGo v.symbols w.symbols
  pub references : HasMore IsAny v.references w.references

-- Each reference keeps its meaning.
abbrev pub LessMeans : Type 0
LessMeans = (w v : Workspace)
    → IsLinked w
    → HasLess w v
    → (r : Reference)
    → Contains w.references r
    → (m : List Text)
    → meaning w r ≡ Some m
    → meaning v r ≡ Some m

-- What is left is linked, where it nests: no name is there twice, each reference
-- means a type that may stand there.
abbrev pub LessIsLinked : Type 0
LessIsLinked = (w v : Workspace) → IsLinked w → HasLess w v → IsNested v.symbols → IsLinked v
