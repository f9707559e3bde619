-- The references of a file by the words of its tokens: what they mean, and which is faulty.
use Rattle.std.specs.Prelude.{◌≡◌, ℕ, ◌+◌, ◌<◌, Bool, List, [], ◌∷◌, ◌++◌, length, get_or, slice_get, map, Option, Some, None, option_map, is_some}
use Rattle.std.specs.List.{All, Contains}
use Rattle.proto_base.specs.Texts.{Text}
pub use Rattle.proto_base.specs.Words.{word_key}
use Rattle.proto_names_rules.specs.declared.kind.Kind.{Kind}
use Rattle.proto_names_rules.specs.declared.kind.Kind.TheVariants.{Entry, Enum}
use Rattle.proto_names_rules.specs.declared.wants.Wants.{Wants}
use Rattle.proto_names_rules.specs.declared.wants.Wants.TheVariants as wants
use Rattle.proto_names_rules.specs.Names.{Symbol, Reference, Workspace, meaning}
use Rattle.proto_names_rules.specs.Joined.{joined, ArePlain}
use Rattle.proto_names_rules.specs.Forest.{front}
use Rattle.proto_tree.specs.References.{dotted, first_of}
use Rattle.proto_names_table.specs.Tables.{names_of}
use Rattle.proto_names_table.specs.Resolved.{IsIndexOf}
use Rattle.proto_names_rules.specs.Marks.{MarksSeen}
use Rattle.proto_names_outline.specs.declared.listing.Above.{Above}
use Rattle.proto_names_outline.specs.declared.listing.Above.TheVariants.{Outermost, Below}
use Rattle.proto_names_outline.specs.declared.listing.Use.{Use}
use Rattle.proto_names_table.specs.declared.table.Row.{Row}
use Rattle.proto_names_table.specs.declared.table.Table.{Table}
use Rattle.proto_names.specs.declared.references.BadReference.{BadReference}
use Rattle.proto_names_table.specs.declared.ids.Meant.{Meant}
use Rattle.proto_names.specs.declared.references.ReferenceFlaw.{ReferenceFlaw}
use Rattle.proto_names.specs.declared.references.ReferenceFlaw.TheVariants.{Unresolved, WrongKind, MapEntry}
use Rattle.proto_base.specs.declared.or_no_memory.OrNoMemory.{OrNoMemory}
use Rattle.proto_base.specs.declared.or_no_memory.OrNoMemory.TheVariants as or

-- the name of what stands right above, among these: none for what is outermost
abbrev pub scope_above : List (List Text) → Above → List Text
scope_above names Outermost = []
scope_above names (Below k) = get_or names k []

-- a reference of a file by the words of its tokens, in its scope among these names
abbrev pub reference_by : ℕ → List (List Text) → (ℕ → Text) → Use → Reference
reference_by file names text u = record {
  file = file;
  scope = scope_above names u.scope;
  is_absolute = is_some u.reference.now.dot;
  wants = u.wants;
  words = map text (dotted u.reference.now.words);
}

-- the key of the first word of a reference
abbrev pub first_key : Reference → ℕ
first_key r = word_key (get_or r.words 0 [])

-- the token that a reference begins with: the dot, where there is one, else its first word
abbrev pub first_token_of_use : Use → ℕ
first_token_of_use u = first_of u.reference.now.dot u.reference.now.words

-- the table and the marks are those of a file of the workspace, and the rows those of its names
pub record IsReadBy (t : Table) (seen : List Bool) (rows : List ℕ) (names : List (List Text))
    (file : ℕ) (w : Workspace) : Type 0 where
  pub index : IsIndexOf t w.symbols
  pub marks : MarksSeen w file seen
  pub paired : length names ≡ length rows
  pub plain : All ArePlain names
  pub named : (k : ℕ) → k < length rows
      → front (names_of t) (get_or rows k 0 + 1) ≡ joined (get_or names k [])

-- it means nothing, it wants a message and means an enum, or it means a generated entry
abbrev pub IsFlawed : Workspace → Reference → ReferenceFlaw → Type 0
IsFlawed w r Unresolved = meaning w r ≡ None
IsFlawed w r WrongKind =
    (s : Symbol) × Contains w.symbols s × (meaning w r ≡ Some s.name)
    × (r.wants ≡ wants.Message) × (s.kind ≡ Enum)
IsFlawed w r MapEntry =
    (s : Symbol) × Contains w.symbols s × (meaning w r ≡ Some s.name) × (s.kind ≡ Entry)

-- it means something, where it wants a message no enum, and no generated entry
abbrev pub IsFaultless : Workspace → Reference → Type 0
IsFaultless w r = (flaw : ReferenceFlaw) → IsFlawed w r flaw → ⊥

-- the rows are those of what the references mean, one by one, with the keys of their first words,
-- and no reference is faulty
pub record AreMeant (t : Table) (w : Workspace) (references : List Reference) (tokens : List ℕ)
    (meant : List Meant) : Type 0 where
  pub places : map (λ m. m.token) meant ≡ tokens
  pub firsts : map (λ m. m.first) meant ≡ map first_key references
  pub within : All (λ m. m.row < length t.rows.items) meant
  pub names : map (λ m. Some (get_or (names_of t) m.row [])) meant
      ≡ map (λ r. option_map joined (meaning w r)) references
  pub faultless : All (IsFaultless w) references

-- a faulty one, behind others that are not
pub record IsFirstBad (w : Workspace) (reference : Use → Reference) (file : ℕ) (uses : List Use)
    (bad : BadReference) : Type 0 where
  pub before : List Use
  pub faulty : Use
  pub behind : List Use
  pub parts : uses ≡ before ++ faulty ∷ behind
  pub file_is : bad.file ≡ file
  pub token_is : bad.token ≡ first_token_of_use faulty
  pub flawed : IsFlawed w (reference faulty) bad.flaw
  pub faultless : All (λ u. IsFaultless w (reference u)) before

-- the error is out of memory, or the first faulty reference
abbrev pub IsReferenceError : Workspace
    → (Use → Reference) → ℕ → List Use → OrNoMemory BadReference → Type 0
IsReferenceError w reference file uses (or.Fault bad) = IsFirstBad w reference file uses bad
IsReferenceError w reference file uses or.NoMemory = Unit {0}

-- what is wrong with a reference that means an enum
abbrev pub enum_flaw : Wants → Option ReferenceFlaw
enum_flaw wants.Type = None
enum_flaw wants.Message = Some WrongKind
enum_flaw wants.Extension = None

-- what is wrong with a reference that means a name of this kind
abbrev pub kind_flaw : Kind → Wants → Option ReferenceFlaw
kind_flaw Entry what = Some MapEntry
kind_flaw Enum what = enum_flaw what
kind_flaw _ what = None

-- what is wrong with a reference that means the name of this row, or nothing
abbrev pub found_flaw : Option Row → Wants → Option ReferenceFlaw
found_flaw None what = Some Unresolved
found_flaw (Some r) what = kind_flaw r.symbol.kind what

-- the same by the number of the row
abbrev pub row_flaw : Table → Option ℕ → Wants → Option ReferenceFlaw
row_flaw t None what = Some Unresolved
row_flaw t (Some k) what = found_flaw (slice_get t.rows.items k) what
