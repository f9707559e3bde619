-- When a table has the names of files: each file's declarations by their full names, and their
-- rows.
use Rattle.std.specs.Prelude.{◌≡◌, ◌≢◌, ℕ, ◌+◌, ◌<◌, true, List, [], length, get_or, map}
use Rattle.std.specs.List.{All, Contains}
use Rattle.proto_case.specs.Camel.{entry_name}
use Rattle.proto_base.specs.Texts.{Text}
use Rattle.proto_files.specs.FilesRead.{AreRead, ReadOf, read_at}
use Rattle.proto_files.specs.GivenFiles.{FileOf}
use Rattle.proto_names_imports.specs.Links.{link_skeleton, names_of_files, text_of}
use Rattle.proto_names_outline.specs.FromTree.{items_in}
use Rattle.proto_names_outline.specs.Listing.{package_first, whole}
use Rattle.proto_names_rules.specs.Faults.{place_of}
use Rattle.proto_names_rules.specs.Forest.{front}
use Rattle.proto_names_rules.specs.Grown.{At, at}
use Rattle.proto_names_rules.specs.Joined.{ArePlain, joined}
use Rattle.proto_names_rules.specs.Skeleton.{Declared, name_of}
use Rattle.proto_names_rules.specs.declared.kind.Kind.TheVariants.{Package}
use Rattle.proto_names_update.specs.Edited.{AreSameBut}
use Rattle.proto_names_update.specs.Relinked.{NoNameClashes}
use Rattle.proto_names_table.specs.LastWords.{named_as}
use Rattle.proto_names_table.specs.Resolved.{IsIndexOf}
use Rattle.proto_names_table.specs.Spelled.{Named}
use Rattle.proto_names_table.specs.Tables.{names_of}
use Rattle.proto_names_table.specs.declared.table.Row.{Row}
use Rattle.proto_names_table.specs.declared.table.Table.{Table}

-- what a file declares, by full names, its package first
abbrev pub declared_by : List FileOf → List ReadOf → ℕ → List Named
declared_by files reads file =
    map (named_as file (λ i. text_of files reads (at file i)))
    (package_first (items_in (read_at reads file).tree))

-- the full names of a file's declarations, its package first
abbrev pub declared_names : List FileOf → List ReadOf → ℕ → List (List Text)
declared_names files reads file =
    map (λ p. name_of (λ i. text_of files reads (at file i)) entry_name (whole p))
    (package_first (items_in (read_at reads file).tree))

-- the row of a declaration's name was declared where the declaration stands
pub record RowIsDeclaredIn (text : At → Text) (t : Table) (d : Declared At) : Type 0 where
  pub row : ℕ
  pub within : row < length t.rows.items
  pub name : get_or (names_of t) row [] ≡ joined (name_of text entry_name d.path)
  pub place : (r : Row)
      → at (get_or t.rows.items row r).symbol.file (get_or t.rows.items row r).symbol.token
      ≡ place_of d

-- the table has the names of the files, and these are the rows of each file's declarations
pub record AreNamesOf (files : List FileOf) (reads : List ReadOf) (t : Table)
    (rows : List (List ℕ)) : Type 0 where
  pub index : IsIndexOf t (names_of_files files reads).symbols
  pub plain : (k : ℕ) → k < length files → All ArePlain (declared_names files reads k)
  pub counts : (k : ℕ) → k < length files
      → length (declared_names files reads k) ≡ length (get_or rows k [])
  pub named : (k j : ℕ) → k < length files → j < length (get_or rows k [])
      → front (names_of t) (get_or (get_or rows k []) j 0 + 1)
      ≡ joined (get_or (declared_names files reads k) j [])
  pub declared : (k j : ℕ) (r : Row) → k < length files → j < length (get_or rows k [])
      → (get_or t.rows.items (get_or (get_or rows k []) j 0) r).is_declared ≡ true
  pub tokens : (d : Declared At) → Contains (link_skeleton files reads).declared d
      → d.kind ≢ Package → RowIsDeclaredIn (text_of files reads) t d

-- the table and the rows were those of files without clashes, of which these are the same but at
-- these places
pub record WereNames (places : List ℕ) (files : List FileOf) (t : Table) (rows : List (List ℕ))
    : Type 0 where
  pub before : List FileOf
  pub was : List ReadOf
  pub same : AreSameBut places before files
  pub were_read : AreRead before was
  pub apart : NoNameClashes before was
  pub names : AreNamesOf before was t rows
