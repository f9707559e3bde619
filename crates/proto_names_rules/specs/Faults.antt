-- The faults of imports, names and references: each is a sentence that takes only what it reads.
use Rattle.std.specs.Prelude.{◌≡◌, ◌≢◌, ◌⊎◌, ℕ, ◌<◌, Bool, List, [], ◌∷◌, length, get_or, position, Option, Some, None}
use Rattle.std.specs.List.{Contains, filter_map}
use Rattle.std.specs.Option.{option_map}
use Rattle.std.specs.Str.{bytes_eq}
use Rattle.proto_names_rules.specs.Names.{Package, Entry, Enum, Symbol, Import, meaning}
use Rattle.proto_names_rules.specs.declared.wants.Wants.TheVariants as wants
use Rattle.proto_names_rules.specs.Cycles.{Leads}
use Rattle.proto_case.specs.Camel.{entry_name}
use Rattle.proto_names_rules.specs.Skeleton.{Source, Token, EntryOf, Given, Declared, Used, Skeleton, name_of, reference_of, workspace_of}
use Rattle.proto_names_rules.specs.Grown.{At, at}
use Rattle.proto_base.specs.FaultTable.{kind_number}
use Rattle.proto_base.specs.Texts.{Text, Path}
use Rattle.proto_base.specs.declared.fault.FaultKind.{FaultKind}
use Rattle.proto_base.specs.declared.fault.FaultKind.TheVariants as kind

-- a fault's file, the token that it stands at, and its number
pub record Fault : Type 0 where
  pub place : At
  pub number : ℕ

-- the fault with this number at this token
abbrev pub fault : At → ℕ → Fault
fault place number = record { place = place; number = number }

-- the fault of this kind at this token
abbrev pub fault_of_kind : At → FaultKind → Fault
fault_of_kind place kind = record { place = place; number = kind_number kind }

-- the first fault comes before the second: by file, token and number
abbrev pub FaultIsBefore : Fault → Fault → Type 0
FaultIsBefore a b =
    (a.place.file < b.place.file)
    ⊎ ((a.place.file ≡ b.place.file) × ((a.place.token < b.place.token)
    ⊎ ((a.place.token ≡ b.place.token) × (a.number < b.number))))

-- f is one of a set of faults, and none of them comes before it
pub record IsLeast (Says : Fault → Type 0) (f : Fault) : Type 0 where
  pub holds : Says f
  pub least : (g : Fault) → Says g → FaultIsBefore g f → ⊥

-- y is in the list, and an element before it stands to it in this relation
abbrev pub AfterEarlier : {A : Type 0} → (A → A → Type 0) → List A → A → Type 0
AfterEarlier {A} R xs y =
    (i j : ℕ) × (d : A) × (i < j) × (j < length xs) × (get_or xs j d ≡ y) × R (get_or xs i d) y

-- an import as it is written: the token of its path, and the path
pub record AskedImport : Type 0 where
  pub place : At
  pub path : Path
  pub is_public : Bool

-- the number of the first file with this path among those of the workspace, if there is one
abbrev pub file_with_path : List Path → Path → Option ℕ
file_with_path paths path = position (bytes_eq path) paths

-- the import that is written so, from its file to the file with its path, if there is one
abbrev pub import_from_asked : List Path → AskedImport → Option Import
import_from_asked paths a =
    option_map
    (λ to. let i : Import = record { from = a.place.file; to = to; is_public = a.is_public } in i)
    (file_with_path paths a.path)

-- the imports that name a file
abbrev pub imports_of : List Path → List AskedImport → List Import
imports_of paths asked = filter_map (import_from_asked paths) asked

-- a fault of an import, at its path
pub data ImportFault (paths : List Path) (asked : List AskedImport) : Fault → Type 0 where
  -- no such path in the workspace
  unknown : (a : AskedImport) → Contains asked a → file_with_path paths a.path ≡ None
      → ImportFault paths asked (fault_of_kind a.place kind.UnknownImport)
  -- a path that an earlier import of the file has
  double : (a : AskedImport)
      → AfterEarlier (λ x y. (x.place.file ≡ y.place.file) × (x.path ≡ y.path)) asked a
      → ImportFault paths asked (fault_of_kind a.place kind.DoubleImport)
  -- an import whose file is the importing file or reaches it by imports
  cycle : (a : AskedImport) (to : ℕ) → Contains asked a → file_with_path paths a.path ≡ Some to
      → Leads (imports_of paths asked) to a.place.file
      → ImportFault paths asked (fault_of_kind a.place kind.ImportCycle)

-- the last token among the sources of a name, or this one where there is none
abbrev pub place_from : {X : Type 0} → X → List (Source X) → X
place_from x [] = x
place_from x (Token t ∷ rest) = place_from t rest
place_from x (EntryOf t ∷ rest) = place_from t rest
place_from x (Given w ∷ rest) = place_from x rest

-- the token that a declaration stands at: the last one of its name
abbrev pub place_of : Declared At → At
place_of d = place_from (at d.file 0) d.path

-- a fault of a name: a declaration that is no package has
pub data NameFault (text : At → Text) (declared : List (Declared At)) : Fault → Type 0 where
  -- a full name that an earlier declaration has
  earlier : (d : Declared At)
      → AfterEarlier (λ x y. name_of text entry_name x.path ≡ name_of text entry_name y.path)
      declared d
      → d.kind ≢ Package → NameFault text declared (fault_of_kind (place_of d) kind.DuplicateName)
  -- or that is a package or a prefix of one
  of_package : (d e : Declared At) → Contains declared d → Contains declared e
      → d.kind ≢ Package → e.kind ≡ Package
      → name_of text entry_name d.path ≡ name_of text entry_name e.path
      → NameFault text declared (fault_of_kind (place_of d) kind.DuplicateName)

-- a fault of a reference, at its first token
pub data ReferenceFault (text : At → Text) (k : Skeleton At) : Fault → Type 0 where
  -- a reference that means nothing
  unresolved : (u : Used At) → Contains k.used u
      → meaning (workspace_of text entry_name k) (reference_of text entry_name u) ≡ None
      → ReferenceFault text k (fault_of_kind u.first kind.Unresolved)
  -- a reference that wants a message and means an enum
  wrong_kind : (u : Used At) (s : Symbol) → Contains k.used u
      → Contains (workspace_of text entry_name k).symbols s
      → meaning (workspace_of text entry_name k) (reference_of text entry_name u) ≡ Some s.name
      → u.wants ≡ wants.Message → s.kind ≡ Enum
      → ReferenceFault text k (fault_of_kind u.first kind.WrongKind)
  -- a reference that means a generated entry
  of_entry : (u : Used At) (s : Symbol) → Contains k.used u
      → Contains (workspace_of text entry_name k).symbols s
      → meaning (workspace_of text entry_name k) (reference_of text entry_name u) ≡ Some s.name
      → s.kind ≡ Entry → ReferenceFault text k (fault_of_kind u.first kind.MapEntryRef)
