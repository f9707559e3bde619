-- What a reference resolves to, by its kind, and what is wrong with it.
use Rattle.std.specs.Prelude.{◌≡◌, ℕ, ◌<◌, List, slice_get, Option, Some, None, option_map}
use Rattle.std.specs.List.{Contains}
use Rattle.proto_base.specs.declared.fault.FaultKind.{FaultKind}
use Rattle.proto_base.specs.declared.fault.FaultKind.TheVariants.{MapEntryRef, Unresolved, WrongKind}
use Rattle.proto_files.specs.FilesRead.{ReadOf}
use Rattle.proto_files.specs.GivenFiles.{FileOf}
use Rattle.proto_names_rules.specs.Faults.{Fault, fault}
use Rattle.proto_names_rules.specs.Grown.{at}
use Rattle.proto_names_rules.specs.declared.wants.Wants.{Wants}
use Rattle.proto_names_rules.specs.declared.wants.Wants.TheVariants as wants
use Rattle.proto_names_rules.specs.Names.{Reference, Symbol, Workspace, meaning}
use Rattle.proto_names_rules.specs.declared.kind.Kind.{Kind}
use Rattle.proto_names_rules.specs.declared.kind.Kind.TheVariants.{Entry, EntryField, Enum, Extension, Field, Message, Method, Oneof, Package, Service, Value}
use Rattle.proto_names_rules.specs.Skeleton.{Used}
use Rattle.proto_names_outline.specs.Listing.{used_named}
use Rattle.proto_names_outline.specs.declared.listing.Use.{Use}
use Rattle.proto_names_imports.specs.Links.{names_of_files, text_of, uses_of}
use Rattle.proto_names_table.specs.Naming.{ReferenceFlaw}
use Rattle.proto_names_table.specs.declared.table.Table.{Table}
use Rattle.proto_names.specs.Referring.{first_token_of_use}

-- the reference resolves to a name of this kind, and to none of another; or it resolves to nothing
abbrev pub IsKindOf : Workspace → Reference → Option Kind → Type 0
IsKindOf w r None = meaning w r ≡ None
IsKindOf w r (Some kind) =
    ((s : Symbol) × Contains w.symbols s × (meaning w r ≡ Some s.name))
    × ((s : Symbol) → Contains w.symbols s → meaning w r ≡ Some s.name → s.kind ≡ kind)

-- the kind of the name with this row
abbrev pub kind_in : Table → ℕ → Option Kind
kind_in t row = option_map (λ r. r.symbol.kind) (slice_get t.rows.items row)

-- what is wrong with a reference that resolves to an enum
abbrev pub enum_fault : Wants → Option FaultKind
enum_fault wants.Type = None
enum_fault wants.Message = Some WrongKind
enum_fault wants.Extension = None

-- what is wrong with a reference that resolves to a name of this kind: a generated entry, or an
-- enum where a message is wanted
abbrev pub type_fault : Kind → Wants → Option FaultKind
type_fault Package what = None
type_fault Message what = None
type_fault Entry what = Some MapEntryRef
type_fault Enum what = enum_fault what
type_fault Service what = None
type_fault Field what = None
type_fault EntryField what = None
type_fault Oneof what = None
type_fault Value what = None
type_fault Method what = None
type_fault Extension what = None

-- the same, or that it resolves to nothing
abbrev pub kind_fault : Option Kind → Wants → Option FaultKind
kind_fault None what = Some Unresolved
kind_fault (Some kind) what = type_fault kind what

-- a reference of this list is at fault, and the fault stands at its first token
pub record IsListedFault (w : Workspace) (reference : Use → Reference) (file : ℕ) (uses : List Use)
    (f : Fault) : Type 0 where
  pub one : Use
  pub number : ℕ
  pub there : Contains uses one
  pub flaw : ReferenceFlaw w (reference one) number
  pub is : f ≡ fault (at file (first_token_of_use one)) number

-- a reference of the file is at fault, and the fault stands at its first token
pub record IsFaultIn (files : List FileOf) (reads : List ReadOf) (file : ℕ) (f : Fault)
    : Type 0 where
  pub one : Used ℕ
  pub number : ℕ
  pub there : Contains (uses_of reads file) one
  pub flaw : ReferenceFlaw (names_of_files files reads)
      (used_named (text_of files reads) file one) number
  pub is : f ≡ fault (at file one.first) number

-- a reference of one of the first files is at fault
abbrev pub IsFaultBefore : List FileOf → List ReadOf → ℕ → Fault → Type 0
IsFaultBefore files reads count f =
    (file : ℕ) × (file < count) × IsFaultIn files reads file f
