-- What is known of a table that has the names of files.
use Rattle.std.specs.Prelude.{◌≡◌, ℕ, ◌+◌, ◌<◌, List, [], length, get_or, map}
use Rattle.std.specs.Global.{Vec}
use Rattle.std.specs.List.{All}
use Rattle.proto_files.specs.FilesRead.{Each, ReadOf}
use Rattle.proto_files.specs.GivenFiles.{FileOf}
use Rattle.proto_names_imports.specs.Links.{names_of_files}
use Rattle.proto_names_outline.specs.declared.listing.Listing.{Listing}
use Rattle.proto_names_rules.specs.Forest.{front}
use Rattle.proto_names_rules.specs.Joined.{ArePlain, joined}
use Rattle.proto_names_table.specs.Resolved.{IsIndexOf}
use Rattle.proto_names_table.specs.Tables.{IsTable, names_of}
use Rattle.proto_names_table.specs.declared.table.Table.{Table}
use Rattle.proto_names_update.specs.NamesOfFiles.{declared_names}

-- the rows are of the table, in each file one for each of its declarations
pub record AreFileRows (files : List FileOf) (listings : List Listing) (t : Table)
    (rows : List (Vec ℕ)) : Type 0 where
  pub table : IsTable t
  pub paired : length rows ≡ length files
  pub counts : Each (λ k v. (l : Listing)
      → length v.items ≡ length (get_or listings k l).declared.items) rows
  pub within : All (λ v. All (λ r. r < length t.rows.items) v.items) rows

-- the table has the names of the files, and these are the rows of what each file declares
pub record AreRowsOf (files : List FileOf) (reads : List ReadOf) (t : Table) (rows : List (Vec ℕ))
    : Type 0 where
  pub index : IsIndexOf t (names_of_files files reads).symbols
  pub plain : (k : ℕ) → k < length files → All ArePlain (declared_names files reads k)
  pub counts : (k : ℕ) → k < length files
      → length (declared_names files reads k) ≡ length (get_or (map (λ v. v.items) rows) k [])
  pub named : (k j : ℕ) → k < length files → j < length (get_or (map (λ v. v.items) rows) k [])
      → front (names_of t) (get_or (get_or (map (λ v. v.items) rows) k []) j 0 + 1)
      ≡ joined (get_or (declared_names files reads k) j [])
