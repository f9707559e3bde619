-- A link that was changed in place to that of its files, once they are edited at some places.
use Rattle.std.specs.Prelude.{◌≡◌, ◌⊎◌, ℕ, ◌<◌, ◌≤◌, Bool, true, false, List, [], ◌∷◌, ◌++◌, length, get_or, map}
use Rattle.std.specs.Global.{Vec}
use Rattle.std.specs.List.{All, Contains}
use Rattle.proto_files.specs.Faults.{HasNoFault}
use Rattle.proto_files.specs.FilesRead.{ReadOf}
use Rattle.proto_files.specs.GivenFiles.{FileOf}
use Rattle.proto_names_imports.specs.Links.{LinkFaults}
use Rattle.proto_names_rules.specs.Marked.{IsUnmarked}
use Rattle.proto_names_affected.specs.KindRows.{is_below_type}
use Rattle.proto_names_affected.specs.Sight.{IsKeptInSight}
use Rattle.proto_names_rules.specs.Joined.{ArePlain, joined}
use Rattle.proto_names_rules.specs.Names.{Name, Word}
use Rattle.proto_names_rules.specs.declared.kind.Kind.{Kind}
use Rattle.proto_names.specs.FileReferences.{AreFileMeant}
use Rattle.proto_names.specs.LinkOfFiles.{AreNamesOf, IsLinkRead}
use Rattle.proto_names.specs.Linking.{LinkOf, all_meant, name_of_row, references_to}
use Rattle.proto_names.specs.Referring.{word_key}
use Rattle.proto_names.specs.Sight.{AreLinkImports}
use Rattle.proto_names_update.specs.Edited.{AreEdited}
use Rattle.proto_names_update.specs.Relinked.{NoNameClashes}
use Rattle.proto_names_table.specs.Tables.{IsTable, names_of}
use Rattle.proto_names_table.specs.declared.ids.RefId.{RefId}
use Rattle.proto_names_table.specs.declared.ids.Meant.{Meant}
use Rattle.proto_names_table.specs.declared.table.Row.{Row}
use Rattle.proto_names_table.specs.declared.table.Table.{Table}

-- this is the link of the files, which are read so and have no fault of imports, names and
-- references; the table has its names, and these are the rows of each file's declarations
pub record IsTableOf (files : List FileOf) (reads : List ReadOf) (l : LinkOf) (t : Table)
    (rows : List (Vec ℕ)) : Type 0 where
  pub link : IsLinkRead files reads l
  pub clean : HasNoFault (LinkFaults files)
  pub table : IsTable t
  pub names : map name_of_row t.rows.items ≡ l.names
  pub declared : map (λ v. v.items) rows ≡ l.rows

-- the names of the first table keep their numbers in the second
pub record NumbersStay (old new : Table) : Type 0 where
  pub size : length old.rows.items ≤ length new.rows.items
  pub names : (row : ℕ) → row < length old.rows.items
      → get_or (names_of new) row [] ≡ get_or (names_of old) row []

-- the files were edited at these places; the table has their names, which clash with none, and these
-- are the rows of each file's declarations
pub record AreNamesRenewed (places : List ℕ) (before : List FileOf) (was : List ReadOf)
    (old : Table) (files : List FileOf) (reads : List ReadOf) (t : Table) (rows : List (Vec ℕ))
    : Type 0 where
  pub edited : AreEdited places before was files reads
  pub apart : NoNameClashes files reads
  pub table : IsTable t
  pub numbers : NumbersStay old t
  pub names : AreNamesOf files reads t rows
  pub listed : length rows ≡ length files
  pub within : All (λ v. All (λ r. r < length t.rows.items) v.items) rows

-- ---- which files have to be re-resolved

-- among these rows, which are those of each file's declarations, the file has this one, with this
-- kind
pub record DeclaresKind (t : Table) (rows : List (Vec ℕ)) (file row : ℕ) (kind : Kind)
    : Type 0 where
  pub listed : Contains (get_or (map (λ v. v.items) rows) file []) row
  pub kind_is : (r : Row) → (get_or t.rows.items row r).symbol.kind ≡ kind

-- the files of these references are marked
abbrev pub AreUsersMarked : List Bool → List RefId → Type 0
AreUsersMarked marks references = All (λ r. get_or marks r.file false ≡ true) references

-- each file is marked that has a reference whose first word has this key
abbrev pub AreBeginnersMarked : List Bool → List (List Meant) → ℕ → Type 0
AreBeginnersMarked marks meant key =
    (file : ℕ) (m : Meant) → Contains (get_or meant file []) m → m.first ≡ key
    → get_or marks file false ≡ true

-- the row's name is this word, or ends in it
pub record EndsIn (t : Table) (row : ℕ) (last : Word) : Type 0 where
  pub scope : Name
  pub plain : ArePlain (scope ++ last ∷ [])
  pub name : get_or (names_of t) row [] ≡ joined (scope ++ last ∷ [])

-- the marks have the edited files; where one declares a name no more, or with another kind, those
-- with a reference to it; and where one declares a name that it did not, or with another kind, those
-- with a reference whose first word has the key of the name's last word, unless the name stands
-- right below a type's
pub record AreChangesMarked (places : List ℕ) (marks : List Bool) (old : Table)
    (before : List (Vec ℕ)) (l : LinkOf) (t : Table) (now : List (Vec ℕ)) : Type 0 where
  pub edited : (file : ℕ) → Contains places file → get_or marks file false ≡ true
  pub gone : (file row : ℕ) (kind : Kind) → Contains places file
      → DeclaresKind old before file row kind
      → DeclaresKind t now file row kind ⊎ AreUsersMarked marks (get_or l.references row [])
  pub came : (file row : ℕ) (kind : Kind) → Contains places file
      → DeclaresKind t now file row kind
      → DeclaresKind old before file row kind
      ⊎ (is_below_type t row ≡ false → (last : Word) → EndsIn t row last
      → AreBeginnersMarked marks l.meant (word_key last))

-- each file is marked whose marks of what it sees are others, unless by this table and these rows
-- of each file's declarations it still sees what its references mean, and none of them begins with
-- a word of the key of a name's last word in a file that it newly sees
abbrev pub AreSightsMarked : List Bool → Table → List (Vec ℕ) → List (List Meant)
    → List (List Bool) → List (List Bool) → Type 0
AreSightsMarked marks t rows meant before now =
    (file : ℕ) → IsUnmarked marks file
    → (get_or now file [] ≡ get_or before file [])
    ⊎ IsKeptInSight t (map (λ v. v.items) rows) (get_or (map (λ v. v.items) rows) file [])
    (get_or meant file []) (get_or before file []) (get_or now file [])

-- ---- what references mean, and the link

-- what the references of marked files mean is found in the table; of all others it is as it was
pub record AreMeantAgain (marks : List Bool) (t : Table) (files : List FileOf)
    (reads : List ReadOf) (old new : List (List Meant)) : Type 0 where
  pub count : length new ≡ length files
  pub marked : (file : ℕ) → file < length files → get_or marks file false ≡ true
      → AreFileMeant t files reads file (get_or new file [])
  pub others : (file : ℕ) → file < length files → IsUnmarked marks file
      → get_or new file [] ≡ get_or old file []

-- the link of the files is made of this table, of these rows of each file's declarations, of the
-- marks of what each file sees and of what its references mean
pub record IsMadeOf (files : List FileOf) (reads : List ReadOf) (t : Table) (rows : List (Vec ℕ))
    (seen : List (List Bool)) (meant : List (List Meant)) (new : LinkOf) : Type 0 where
  pub names : map name_of_row t.rows.items ≡ new.names
  pub imports : AreLinkImports files reads new.imports
  pub declared : map (λ v. v.items) rows ≡ new.rows
  pub sight : seen ≡ new.seen
  pub meanings : meant ≡ new.meant
  pub paired : length new.references ≡ length new.names
  pub references : (row : ℕ)
      → get_or new.references row [] ≡ references_to row (all_meant 0 meant)
