-- What is kept of a file that was checked, and how the link of edited files tells by it which files
-- the edit does not affect.
use Rattle.std.specs.Prelude.{◌≡◌, ◌⊎◌, ℕ, ◌<◌, Bool, true, false, if◌then◌else◌, List, [], ◌∷◌, length, get_or, map, flat_map, Option, Some, None, option_map}
use Rattle.std.specs.List.{All, Contains}
use Rattle.std.specs.Option.{option_and_then}
use Rattle.proto_base.specs.Texts.{Text, or_nothing}
use Rattle.proto_files.specs.Faults.{HasNoFault}
use Rattle.proto_files.specs.FilesRead.{AreRead, Each, ReadOf, read_at}
use Rattle.proto_files.specs.GivenFiles.{FileOf}
use Rattle.proto_case.specs.Camel.{entry_name}
use Rattle.proto_names_rules.specs.Faults.{place_from}
use Rattle.proto_names_rules.specs.Grown.{at}
use Rattle.proto_names_rules.specs.Joined.{joined}
use Rattle.proto_names_rules.specs.Skeleton.{name_of}
use Rattle.proto_names_rules.specs.Tree.{Placed}
use Rattle.proto_names_rules.specs.declared.kind.Kind.{Kind}
use Rattle.proto_names_rules.specs.declared.kind.Kind.TheVariants as kind
use Rattle.proto_names_outline.specs.FromTree.{items_in}
use Rattle.proto_names_outline.specs.Listing.{package_first, whole}
use Rattle.proto_names_imports.specs.Links.{LinkFaults}
use Rattle.proto_names_update.specs.Relinked.{HasToLook}
use Rattle.proto_names.specs.LinkOfFiles.{IsLinkOf}
use Rattle.proto_names.specs.Linking.{LinkOf, Meant, declaring_file, declaring_token, name_at, name_text}
use Rattle.proto_names.specs.Links.{text_of, uses_of}
use Rattle.proto_ast.specs.Scenes.{EnumOf}
use Rattle.proto_resolved.specs.Meanings.{enum_of_name}
use Rattle.proto_resolved.specs.SceneOf.{declared_as, enum_at, is_proto3_file, meaning_of}
use Rattle.proto_desc_extensions.specs.Extends.{has_extend}
use Rattle.proto_desc_affected.specs.Extended.{RefersElsewhere}
use Rattle.proto_desc_affected.specs.Unaffected.{AreSoundlyEdited, IsUnaffectedFile}
use Rattle.proto_desc_affected.specs.Values.{IsSameEnum}

-- ---- what is kept

-- what a reference meant: the full name, joined by dots, and whether it is a message's; the empty
-- name, and no message's, where it meant nothing
pub record TypeUseOf : Type 0 where
  pub text : Text
  pub is_message : Bool

-- an enum that a file declares, as it is kept: the full name, joined by dots, and what is read of
-- the enum
pub record EnumSummaryOf : Type 0 where
  pub name : Text
  pub enum : EnumOf

-- what is kept of a file: what its references meant, and the enums that it declares, both in order;
-- whether it is proto3, and whether it has an `extend` block
pub record FileSummaryOf : Type 0 where
  pub means : List TypeUseOf
  pub enums : List EnumSummaryOf
  pub is_proto3 : Bool
  pub has_extend : Bool

-- what is kept of a file that is not there
abbrev pub nothing_kept : FileSummaryOf
nothing_kept = record { means = []; enums = []; is_proto3 = false; has_extend = false }

-- the kind, if there is one, is a message's
abbrev pub is_message_kind : Option Kind → Bool
is_message_kind None = false
is_message_kind (Some kind.Message) = true
is_message_kind (Some kind.Package) = false
is_message_kind (Some kind.Entry) = false
is_message_kind (Some kind.Enum) = false
is_message_kind (Some kind.Service) = false
is_message_kind (Some kind.Field) = false
is_message_kind (Some kind.EntryField) = false
is_message_kind (Some kind.Oneof) = false
is_message_kind (Some kind.Value) = false
is_message_kind (Some kind.Method) = false
is_message_kind (Some kind.Extension) = false

-- the kind, if there is one, is an enum's
abbrev pub is_enum_kind : Option Kind → Bool
is_enum_kind None = false
is_enum_kind (Some kind.Enum) = true
is_enum_kind (Some kind.Package) = false
is_enum_kind (Some kind.Message) = false
is_enum_kind (Some kind.Entry) = false
is_enum_kind (Some kind.Service) = false
is_enum_kind (Some kind.Field) = false
is_enum_kind (Some kind.EntryField) = false
is_enum_kind (Some kind.Oneof) = false
is_enum_kind (Some kind.Value) = false
is_enum_kind (Some kind.Method) = false
is_enum_kind (Some kind.Extension) = false

-- a full name, by its words, that a reference may mean, as it is kept
abbrev pub type_use : List FileOf → List ReadOf → Option (List Text) → TypeUseOf
type_use files reads None = record { text = []; is_message = false }
type_use files reads (Some name) = record {
  text = joined name;
  is_message = is_message_kind (option_map (λ d. d.kind) (declared_as files reads name));
}

-- what is declared with this kind, if there is one, and this full name, and is this enum, as it is
-- kept; nothing else is kept
abbrev pub enum_as_kept : Option Kind → Text → Option EnumOf → List EnumSummaryOf
enum_as_kept k name None = []
enum_as_kept k name (Some e) =
    if is_enum_kind k then record { name = name; enum = e } ∷ [] else []

-- a declaration of the file with this number, as it is kept if it is an enum
abbrev pub enum_summary : List FileOf → List ReadOf → ℕ → Placed → List EnumSummaryOf
enum_summary files reads file p =
    enum_as_kept (Some p.kind)
    (joined (name_of (λ token. text_of files reads (at file token)) entry_name (whole p)))
    (enum_at files reads (at file (place_from 0 (whole p))))

-- the enums that the file with this number declares, in order, as they are kept
abbrev pub enum_summaries : List FileOf → List ReadOf → ℕ → List EnumSummaryOf
enum_summaries files reads file =
    flat_map (enum_summary files reads file) (package_first (items_in (read_at reads file).tree))

-- what is kept of the file with this number, from 0
abbrev pub file_summary : List FileOf → List ReadOf → ℕ → FileSummaryOf
file_summary files reads file = record {
  means = map (λ u. type_use files reads (meaning_of files reads file u)) (uses_of reads file);
  enums = enum_summaries files reads file;
  is_proto3 = is_proto3_file files reads file;
  has_extend = has_extend (read_at reads file).tree;
}

-- this is what is kept of the file with this number
abbrev pub IsKeptOf : List FileOf → ℕ → FileSummaryOf → Type 0
IsKeptOf files file k =
    (reads : List ReadOf) → AreRead files reads → k ≡ file_summary files reads file

-- these are what is kept of the files, in the order of their paths
pub record AreKeptOf (files : List FileOf) (ks : List FileSummaryOf) : Type 0 where
  pub len : length ks ≡ length files
  pub each : Each (λ file k. IsKeptOf files file k) ks

-- ---- what a link says of it

-- what the link has of a reference, as it is kept
abbrev pub kept_by_link : LinkOf → Meant → TypeUseOf
kept_by_link l m = record {
  text = or_nothing (name_text l m.row);
  is_message = is_message_kind (option_map (λ n. n.kind) (name_at l m.row));
}

-- a link of files has of each reference what is kept
abbrev pub LinksHaveWhatIsKept : Type 0
LinksHaveWhatIsKept =
    (files : List FileOf) (l : LinkOf) → IsLinkOf files l
    → (reads : List ReadOf) → AreRead files reads → (file : ℕ) → file < length files
    → map (kept_by_link l) (get_or l.meant file []) ≡ (file_summary files reads file).means

-- what the link has of the name in a row, which a file declares, as it is kept if it is an enum, by
-- the enums that stand at tokens of the file
abbrev pub enum_by_link : LinkOf → (ℕ → Option EnumOf) → ℕ → List EnumSummaryOf
enum_by_link l enum row =
    enum_as_kept (option_map (λ n. n.kind) (name_at l row)) (or_nothing (name_text l row))
    (option_and_then enum (declaring_token l row))

-- a link of files has of what a file declares the enums that are kept
abbrev pub LinksHaveEnumsKept : Type 0
LinksHaveEnumsKept =
    (files : List FileOf) (l : LinkOf) → IsLinkOf files l
    → (reads : List ReadOf) → AreRead files reads → (file : ℕ) → file < length files
    → flat_map (enum_by_link l (λ token. enum_at files reads (at file token)))
    (get_or l.rows file [])
    ≡ (file_summary files reads file).enums

-- at the place of a message's name that a reference means there is no enum
abbrev pub MeantMessagesAreNoEnums : Type 0
MeantMessagesAreNoEnums =
    (files : List FileOf) (l : LinkOf) → IsLinkOf files l
    → (reads : List ReadOf) → AreRead files reads → (file : ℕ) → file < length files
    → All (λ m. (kept_by_link l m).is_message ≡ true
    → enum_of_name l (enum_at files reads) m.row ≡ None) (get_or l.meant file [])

-- a reference of this file is among those that mean its name, and the name among those that the
-- file declares which declares it
pub record IsListed (l : LinkOf) (file : ℕ) (m : Meant) : Type 0 where
  pub reference : Contains (get_or l.references m.row []) (record { file = file; token = m.token })
  pub name : (own : ℕ) → declaring_file l m.row ≡ Some own → Contains (get_or l.rows own []) m.row

-- so it is with each reference that a link of files has
abbrev pub LinksListReferences : Type 0
LinksListReferences =
    (files : List FileOf) (l : LinkOf) → IsLinkOf files l
    → (reads : List ReadOf) → AreRead files reads → (file : ℕ) → file < length files
    → All (IsListed l file) (get_or l.meant file [])

-- ---- which files are unaffected

-- no file at these places declares the name in the row
abbrev pub IsElsewhere : List ℕ → LinkOf → ℕ → Type 0
IsElsewhere places l row =
    (file : ℕ) → declaring_file l row ≡ Some file → Contains places file → ⊥

-- an enum is kept of a file as that of this name
abbrev pub KeepsEnum : FileSummaryOf → Text → EnumOf → Type 0
KeepsEnum k name enum = Contains k.enums (record { name = name; enum = enum })

-- an enum is kept of some file as that of this name, and one is to be kept now; and the two are the
-- same to a file that is proto3 or not
pub record IsEnumStill (files : List FileOf) (ks : List FileSummaryOf) (proto3 : Bool) (name : Text)
    : Type 0 where
  pub file : ℕ
  pub within : file < length files
  pub before : EnumOf
  pub now : EnumOf
  pub was : KeepsEnum (get_or ks file nothing_kept) name before
  pub is : (reads : List ReadOf) → AreRead files reads
      → KeepsEnum (file_summary files reads file) name now
  pub same : IsSameEnum proto3 (Some before) (Some now)

-- so it is with the name in this row, if there is one
abbrev pub IsEnumAtRow : List FileOf → LinkOf → List FileSummaryOf → Bool → ℕ → Type 0
IsEnumAtRow files l ks proto3 row =
    (name : Text) → name_text l row ≡ Some name → IsEnumStill files ks proto3 name

-- by the link the reference means the name that is kept, which stands in a file that is not edited;
-- of a file without an `extend` block it may also be that of a message, and have been one, or of an
-- enum that is to the file what is kept of it
pub record IsMeantStill (places : List ℕ) (files : List FileOf) (l : LinkOf)
    (ks : List FileSummaryOf) (by : FileSummaryOf) (k : TypeUseOf) (m : Meant) : Type 0 where
  pub text : name_text l m.row ≡ Some k.text
  pub settled : IsElsewhere places l m.row
      ⊎ ((by.has_extend ≡ false)
      × (((k.is_message ≡ true) × ((kept_by_link l m).is_message ≡ true))
      ⊎ IsEnumAtRow files l ks by.is_proto3 m.row))

-- by the link references of a file mean what is kept of them, one for one
abbrev pub AreMeantStill
    : List ℕ → List FileOf → LinkOf → List FileSummaryOf → FileSummaryOf
    → List TypeUseOf → List Meant → Type 0
AreMeantStill places files l ks by [] [] = Unit {0}
AreMeantStill places files l ks by [] (m ∷ ms) = ⊥
AreMeantStill places files l ks by (k ∷ means) [] = ⊥
AreMeantStill places files l ks by (k ∷ means) (m ∷ ms) =
    IsMeantStill places files l ks by k m × AreMeantStill places files l ks by means ms

-- of a file with this number that this is kept, by what is kept of each and the link of the edited
-- files, its references mean what is kept of them
abbrev pub DoesMeanStill
    : List ℕ → List FileOf → LinkOf → List FileSummaryOf → ℕ → FileSummaryOf → Type 0
DoesMeanStill places files l ks file k =
    AreMeantStill places files l ks k k.means (get_or l.meant file [])

-- a file that is not edited, by what is kept of each file and the link of the edited files
pub record IsKeptStill (places : List ℕ) (files : List FileOf) (l : LinkOf)
    (ks : List FileSummaryOf) (file : ℕ) : Type 0 where
  pub within : file < length files
  pub left : Contains places file → ⊥
  pub means : DoesMeanStill places files l ks file (get_or ks file nothing_kept)

-- it is unaffected; what is kept of it is what was; and if it has an `extend` block, what it refers
-- to stood in files that are not edited
pub record StaysKept (places : List ℕ) (before : List FileOf) (was : List ReadOf)
    (files : List FileOf) (reads : List ReadOf) (file : ℕ) : Type 0 where
  pub unaffected : IsUnaffectedFile places before was files reads file
  pub kept : file_summary files reads file ≡ file_summary before was file
  pub extendees : (has_extend (read_at reads file).tree ≡ false)
      ⊎ RefersElsewhere places before was files reads file

-- so it is of files without faults of imports, names and references
abbrev pub KeptFilesTellUnaffected : Type 0
KeptFilesTellUnaffected =
    (places : List ℕ) (before : List FileOf) (was : List ReadOf)
    → (files : List FileOf) (reads : List ReadOf)
    → AreSoundlyEdited places before was files reads → HasNoFault (LinkFaults before)
    → (ks : List FileSummaryOf) → AreKeptOf before ks → (l : LinkOf) → IsLinkOf files l
    → (file : ℕ) → IsKeptStill places files l ks file
    → StaysKept places before was files reads file

-- ---- which files are given to be re-checked

-- what the reference means stands in a file that is not edited; or, of a file without an `extend`
-- block, it is a message's, or an enum's that is to the file what is kept of it
abbrev pub IsSettled
    : List ℕ → List FileOf → LinkOf → List FileSummaryOf → FileSummaryOf → Meant → Type 0
IsSettled places files l ks by m =
    IsElsewhere places l m.row
    ⊎ ((by.has_extend ≡ false)
    × (((kept_by_link l m).is_message ≡ true) ⊎ IsEnumAtRow files l ks by.is_proto3 m.row))

-- of a file that need not be re-checked the references mean the names that they meant, and a
-- message's was one; so it is unaffected, where each of its references is settled
abbrev pub MarksTellKept : Type 0
MarksTellKept =
    (key : Text → ℕ) (places : List ℕ) (before : List FileOf) (was : List ReadOf)
    → (files : List FileOf) (reads : List ReadOf) (marks : List Bool)
    → AreSoundlyEdited places before was files reads → HasNoFault (LinkFaults before)
    → HasToLook key places before was files reads marks
    → (ks : List FileSummaryOf) → AreKeptOf before ks → (l : LinkOf) → IsLinkOf files l
    → (file : ℕ) → file < length files → get_or marks file false ≡ false
    → All (IsSettled places files l ks (get_or ks file nothing_kept)) (get_or l.meant file [])
    → IsKeptStill places files l ks file
