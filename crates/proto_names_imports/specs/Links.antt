-- The link of files: what they declare, see and refer to, as the texts of their tokens spell it;
-- and the faults of imports, names and references.
use Rattle.std.specs.Prelude.{◌≡◌, ℕ, List, flat_map, length, map}
use Rattle.proto_text.specs.Values.{value_of}
use Rattle.proto_text.specs.Texts.{words, offset_at}
use Rattle.proto_files.specs.Faults.{FaultAt}
use Rattle.proto_base.specs.FaultTable.{kind_number}
use Rattle.proto_base.specs.Texts.{Text, or_nothing}
use Rattle.proto_files.specs.FilesRead.{Each, ReadOf, read_at, AreRead}
use Rattle.proto_files.specs.GivenFiles.{FileOf, file_at, paths_of}
use Rattle.proto_case.specs.Camel.{entry_name}
use Rattle.proto_names_rules.specs.Faults.{Fault, AskedImport, imports_of, ImportFault, NameFault, ReferenceFault}
use Rattle.proto_names_outline.specs.FromTree.{Wanted, imports_in, items_in, file_names}
pub use Rattle.proto_names_outline.specs.Listing.{used_named}
use Rattle.proto_names_outline.specs.Listing.{IsSound, package_first, read, uses_in}
use Rattle.proto_names_outline.specs.declared.listing.Listing.{Listing}
use Rattle.proto_names_rules.specs.Grown.{At, at, FileNames, numbered, skeleton_of_files}
use Rattle.proto_names_rules.specs.Names.{Import, Workspace}
use Rattle.proto_names_rules.specs.Skeleton.{Skeleton, Used, workspace_of}

-- the texts of all tokens
abbrev pub text_of : List FileOf → List ReadOf → At → Text
text_of files reads a = words (file_at files a.file).bytes (read_at reads a.file).tokens a.token

-- ---- imports

-- an import that a tree asks for: where it stands, and the path that its string spells
abbrev pub asked_as : (At → Text) → ℕ → Wanted → AskedImport
asked_as text file w = record {
  place = at file w.path;
  path = or_nothing (value_of (text (at file w.path)));
  is_public = w.is_public;
}

-- the imports of all files from this number on, file after file
abbrev pub all_wanted : (At → Text) → ℕ → List ReadOf → List AskedImport
all_wanted text file rs =
    flat_map (λ p. map (asked_as text p.0) (imports_in p.1.tree)) (numbered file rs)

-- what a file that is read declares and refers to
abbrev pub names_in : ReadOf → FileNames
names_in r = file_names r.tree

-- what a file refers to
abbrev pub uses_of : List ReadOf → ℕ → List (Used ℕ)
uses_of reads file = (names_in (read_at reads file)).used

-- the imports between the files, by their numbers
abbrev pub link_imports : List FileOf → List ReadOf → List Import
link_imports files reads = imports_of (paths_of files) (all_wanted (text_of files reads) 0 reads)

-- what the files declare and refer to, by tokens, with the imports between them
abbrev pub link_skeleton : List FileOf → List ReadOf → Skeleton At
link_skeleton files reads = skeleton_of_files (link_imports files reads) (map names_in reads)

-- the names, imports and references of the files
abbrev pub names_of_files : List FileOf → List ReadOf → Workspace
names_of_files files reads =
    workspace_of (text_of files reads) entry_name (link_skeleton files reads)

-- ---- faults

-- a fault at a token, as a fault of the file at an offset
pub record FaultStandsAt (files : List FileOf) (reads : List ReadOf) (f : Fault) (x : FaultAt)
    : Type 0 where
  pub path : x.path ≡ (file_at files f.place.file).path
  pub offset : x.offset ≡ offset_at (read_at reads f.place.file).tokens f.place.token
  pub number : kind_number x.kind ≡ f.number

-- the faults of imports, names and references (a later phase counts only where no earlier one has
-- a fault: the least fault is by phase first)
pub data LinkFaults (files : List FileOf) : FaultAt → Type 0 where
  of_import : (reads : List ReadOf) (f : Fault) (x : FaultAt)
      → AreRead files reads → FaultStandsAt files reads f x
      → ImportFault (paths_of files) (all_wanted (text_of files reads) 0 reads) f
      → LinkFaults files x
  of_name : (reads : List ReadOf) (f : Fault) (x : FaultAt)
      → AreRead files reads → FaultStandsAt files reads f x
      → NameFault (text_of files reads) (link_skeleton files reads).declared f → LinkFaults files x
  of_reference : (reads : List ReadOf) (f : Fault) (x : FaultAt)
      → AreRead files reads → FaultStandsAt files reads f x
      → ReferenceFault (text_of files reads) (link_skeleton files reads) f → LinkFaults files x

-- ---- what is said of each file

-- the listing of a file that is read so
pub record IsListing (r : ReadOf) (l : Listing) : Type 0 where
  pub sound : IsSound l
  pub declared : read l.declared.items ≡ package_first (items_in r.tree)
  pub used : uses_in l ≡ (file_names r.tree).used

-- a listing for each of the files, and each is that of its file
abbrev pub AreListings : List FileOf → List Listing → Type 0
AreListings files ls =
    (length ls ≡ length files)
    × ((reads : List ReadOf) → AreRead files reads → Each (λ k l. IsListing (read_at reads k) l) ls)
