-- When a link is that of files: it has their names and imports, what each file declares and sees,
-- what each reference means, and the references that mean each name.
use Rattle.std.specs.Prelude.{◌≡◌, ◌≢◌, ℕ, ◌+◌, ◌<◌, Bool, true, false, List, [], length, get_or, map, Option, Some, None, option_map}
use Rattle.std.specs.Global.{Vec}
use Rattle.std.specs.List.{All, AllPairs, Contains, filter}
use Rattle.std.specs.Str.{bytes_eq}
use Rattle.proto_base.specs.Texts.{Text}
use Rattle.proto_files.specs.GivenFiles.{FileOf, paths_of}
use Rattle.proto_case.specs.Camel.{entry_name}
use Rattle.proto_names_rules.specs.Faults.{Fault, ImportFault, NameFault, place_of}
use Rattle.proto_names.specs.FileReferences.{uses_of}
use Rattle.proto_names_rules.specs.Forest.{front}
use Rattle.proto_names_rules.specs.Grown.{At, at}
use Rattle.proto_names_rules.specs.Joined.{ArePlain, joined}
use Rattle.proto_names_rules.specs.Linked.{ImportsAreOfFiles}
use Rattle.proto_names.specs.Linking.{LinkOf, NameOf, name_at, name_text}
use Rattle.proto_files.specs.FilesRead.{ReadOf, AreRead}
use Rattle.proto_names_imports.specs.Importing.{all_imports}
use Rattle.proto_names_imports.specs.Links.{all_wanted, link_imports, link_skeleton, names_of_files, text_of}
use Rattle.proto_names_rules.specs.declared.kind.Kind.TheVariants.{Package}
use Rattle.proto_names_rules.specs.Names.{Symbol, Workspace, meaning}
use Rattle.proto_names.specs.Referring.{first_key}
use Rattle.proto_names_table.specs.Naming.{used_named}
use Rattle.proto_names_table.specs.Resolved.{IsIndexOf}
use Rattle.proto_names_rules.specs.Marks.{MarksSeen}
use Rattle.proto_names_rules.specs.Skeleton.{Declared, Used, Skeleton, name_of, reference_of, workspace_of}
use Rattle.proto_names_table.specs.Tables.{names_of}
use Rattle.proto_names_update.specs.NamesOfFiles.{RowIsDeclaredIn, declared_names}
use Rattle.proto_names_table.specs.declared.ids.RefId.{RefId}
use Rattle.proto_names_table.specs.declared.ids.Meant.{Meant}
use Rattle.proto_names_table.specs.declared.table.Row.{Row}
use Rattle.proto_names_table.specs.declared.table.Table.{Table}

-- each symbol has its name in the link, with its kind and its file, as text that tells its words;
-- each name has a file, and is that of a symbol in each of its files; and a text is one name
pub record HoldsNames (w : Workspace) (l : LinkOf) : Type 0 where
  pub plain : (s : Symbol) → Contains w.symbols s → ArePlain s.name
  pub declared : (row : ℕ) (n : NameOf) → name_at l row ≡ Some n → 0 < length n.files
  pub there : (s : Symbol) → Contains w.symbols s
      → (row : ℕ) × (n : NameOf) × (name_at l row ≡ Some n) × (n.text ≡ joined s.name)
      × (n.kind ≡ s.kind) × Contains n.files s.file
  pub only : (row file : ℕ) (n : NameOf) → name_at l row ≡ Some n → Contains n.files file
      → (s : Symbol) × Contains w.symbols s × (joined s.name ≡ n.text)
      × (s.kind ≡ n.kind) × (s.file ≡ file)
  pub once : (i j : ℕ) (m n : NameOf)
      → name_at l i ≡ Some m → name_at l j ≡ Some n → m.text ≡ n.text → i ≡ j

-- a meaning is the name with this text
abbrev pub has_text : Text → Option (List Text) → Bool
has_text text None = false
has_text text (Some m) = bytes_eq (joined m) text

-- a reference by its file and its first token
abbrev pub reference_id : Used At → RefId
reference_id u = record { file = u.first.file; token = u.first.token }

-- the references that mean the name with this text, in order
abbrev pub references_of : (At → Text) → Skeleton At → Text → List RefId
references_of text k name =
    map reference_id
    (filter (λ u. has_text name (meaning (workspace_of text entry_name k)
    (reference_of text entry_name u))) k.used)

-- the link is that of these declarations, references and imports, by the texts of their tokens: it
-- has their names, each at its first place, what each file sees, and the references to each name
pub record IsLinkBy (text : At → Text) (k : Skeleton At) (l : LinkOf) : Type 0 where
  pub names : HoldsNames (workspace_of text entry_name k) l
  pub places : (d : Declared At) → Contains k.declared d → d.kind ≢ Package
      → (row : ℕ) (n : NameOf) → name_at l row ≡ Some n
      → n.text ≡ joined (name_of text entry_name d.path)
      → at (get_or n.files 0 0) n.token ≡ place_of d
  pub seen : (file : ℕ) → file < k.files
      → MarksSeen (workspace_of text entry_name k) file (get_or l.seen file [])
  pub files : length l.seen ≡ k.files
  pub between : ImportsAreOfFiles (workspace_of text entry_name k)
  pub paired : length l.references ≡ length l.names
  pub references : (row : ℕ) (n : NameOf) → name_at l row ≡ Some n
      → get_or l.references row [] ≡ references_of text k n.text

-- a reference by its first token, and the text of the name that it means
pub record TextMeant : Type 0 where
  pub token : ℕ
  pub text : Option Text

-- what the link has of a reference, with the text of the name for its number
abbrev pub meant_by_link : LinkOf → Meant → TextMeant
meant_by_link l m = record { token = m.token; text = name_text l m.row }

-- what a reference of the file means by the rules of scopes, with the text of the name
abbrev pub meant_by_use : List FileOf → List ReadOf → ℕ → Used ℕ → TextMeant
meant_by_use files reads file u = record {
  token = u.first;
  text = option_map joined
      (meaning (names_of_files files reads) (used_named (text_of files reads) file u));
}

-- what the link has of a file's references: what each means, in the order of their first tokens,
-- and the key of its first word
pub record IsMeantIn (files : List FileOf) (reads : List ReadOf) (l : LinkOf) (file : ℕ)
    : Type 0 where
  pub texts : map (meant_by_link l) (get_or l.meant file [])
      ≡ map (meant_by_use files reads file) (uses_of reads file)
  pub firsts : map (λ m. m.first) (get_or l.meant file [])
      ≡ map (λ u. first_key (used_named (text_of files reads) file u)) (uses_of reads file)
  pub rising : AllPairs (λ m n. m.token < n.token) (get_or l.meant file [])
  pub within : All (λ m. (n : NameOf) × (name_at l m.row ≡ Some n)) (get_or l.meant file [])

-- the names of what the file declares, its package first, in order
abbrev pub IsDeclaredBy : List FileOf → List ReadOf → LinkOf → ℕ → Type 0
IsDeclaredBy files reads l file =
    map (name_text l) (get_or l.rows file [])
    ≡ map (λ name. Some (joined name)) (declared_names files reads file)

-- the link of files that are read so
pub record IsLinkRead (files : List FileOf) (reads : List ReadOf) (l : LinkOf) : Type 0 where
  pub by : IsLinkBy (text_of files reads) (link_skeleton files reads) l
  pub imported : length l.imports ≡ length files
  pub imports : all_imports 0 l.imports ≡ link_imports files reads
  pub listed : length l.rows ≡ length files
  pub declares : (file : ℕ) → file < length files → IsDeclaredBy files reads l file
  pub lists : length l.meant ≡ length files
  pub means : (file : ℕ) → file < length files → IsMeantIn files reads l file
  -- a name that no file declares any more has no references
  pub unmeant : (row : ℕ) → name_at l row ≡ None → get_or l.references row [] ≡ []

-- the link of files: of whatever is read of them, it is the link
abbrev pub IsLinkOf : List FileOf → LinkOf → Type 0
IsLinkOf files l = (reads : List ReadOf) → AreRead files reads → IsLinkRead files reads l

-- ---- its parts

-- no import of the files is faulty
abbrev pub HasNoImportFault : List FileOf → Type 0
HasNoImportFault files =
    (reads : List ReadOf) → AreRead files reads
    → (f : Fault) → ImportFault (paths_of files) (all_wanted (text_of files reads) 0 reads) f → ⊥

-- no declaration of the files clashes with another by its name
abbrev pub HasNoNameFault : List FileOf → Type 0
HasNoNameFault files =
    (reads : List ReadOf) → AreRead files reads
    → (f : Fault) → NameFault (text_of files reads) (link_skeleton files reads).declared f → ⊥

-- the table has the names of the files, and these are the rows of each file's declarations
pub record AreNamesOf (files : List FileOf) (reads : List ReadOf) (t : Table) (rows : List (Vec ℕ))
    : Type 0 where
  pub index : IsIndexOf t (names_of_files files reads).symbols
  pub plain : (k : ℕ) → k < length files → All ArePlain (declared_names files reads k)
  pub counts : (k : ℕ) → k < length files
      → length (declared_names files reads k) ≡ length (get_or (map (λ v. v.items) rows) k [])
  pub named : (k j : ℕ) → k < length files → j < length (get_or (map (λ v. v.items) rows) k [])
      → front (names_of t) (get_or (get_or (map (λ v. v.items) rows) k []) j 0 + 1)
      ≡ joined (get_or (declared_names files reads k) j [])
  pub declared : (k j : ℕ) (r : Row) → k < length files
      → j < length (get_or (map (λ v. v.items) rows) k [])
      → (get_or t.rows.items (get_or (get_or (map (λ v. v.items) rows) k []) j 0) r).is_declared
      ≡ true
  pub tokens : (d : Declared At) → Contains (link_skeleton files reads).declared d
      → d.kind ≢ Package → RowIsDeclaredIn (text_of files reads) t d
