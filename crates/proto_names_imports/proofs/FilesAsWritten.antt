-- Files as written have the names, imports and references that they have in the core language (for the crates above).
use Rattle.std.proofs.Common.{◌≡◌, ℕ, zero, suc, List, [], ◌∷◌, map, refl, sym, ap, subst, ◌∙◌}
use Rattle.proto_base.specs.Texts.{Path, Text}
use Rattle.proto_text.specs.Texts.{words}
use Rattle.proto_files.proofs.Common.{AreRead, FaultAt, FileOf, ReadOf, core_files_are_written, file_at, paths_of, read_at, read_once}
use Rattle.proto_files.specs.Laws.{AreCore, as_written}
use Rattle.proto_case.specs.Camel.{entry_name}
use Rattle.proto_names_rules.proofs.Common.{At, Fault, ImportFault, NameFault, ReferenceFault}
use Rattle.proto_names_rules.specs.Faults.{imports_of}
use Rattle.proto_names_rules.specs.Grown.{skeleton_of_files}
use Rattle.proto_names_rules.specs.Names.{Import}
use Rattle.proto_names_rules.specs.Skeleton.{Skeleton, workspace_of}
use Rattle.proto_names_imports.specs.AsWritten.{CoreFilesLink, NamesAskNoLanguage}
use Rattle.proto_names_imports.specs.Links.{FaultStandsAt, LinkFaults, all_wanted, link_imports, link_skeleton, names_in, names_of_files, of_import, of_name, of_reference, text_of}

-- ---- bytes and paths

pub bytes_same : (files : List FileOf) (k : ℕ) → (file_at (map as_written files) k).bytes ≡ (file_at files k).bytes
bytes_same [] zero = refl
bytes_same [] (suc k) = refl
bytes_same (f ∷ files) zero = refl
bytes_same (f ∷ files) (suc k) = bytes_same files k

pub path_same : (files : List FileOf) (k : ℕ) → (file_at (map as_written files) k).path ≡ (file_at files k).path
path_same [] zero = refl
path_same [] (suc k) = refl
path_same (f ∷ files) zero = refl
path_same (f ∷ files) (suc k) = path_same files k

pub paths_same : (files : List FileOf) → paths_of (map as_written files) ≡ paths_of files
paths_same [] = refl
paths_same (f ∷ files) = ap (λ (ps : List Path). f.path ∷ ps) (paths_same files)

-- ---- names

module _ (files : List FileOf) (reads : List ReadOf) where
  abbrev after : List FileOf
  after = map as_written files

  pub texts_same : text_of after reads ≡ text_of files reads
  texts_same = λ i. λ (a : At). words (bytes_same files a.file i) (read_at reads a.file).tokens a.token

  imports_same : link_imports after reads ≡ link_imports files reads
  imports_same = λ i. imports_of (paths_same files i) (all_wanted (texts_same i) 0 reads)

  pub skeleton_same : link_skeleton after reads ≡ link_skeleton files reads
  skeleton_same = ap (λ (is : List Import). skeleton_of_files is (map names_in reads)) imports_same

  pub names_same : names_of_files after reads ≡ names_of_files files reads
  names_same = λ i. workspace_of (texts_same i) entry_name (skeleton_same i)

  -- ---- faults

  stands_there : (f : Fault) (x : FaultAt) → FaultStandsAt after reads f x → FaultStandsAt files reads f x
  stands_there f x h = record { path = h.path ∙ path_same files f.place.file; offset = h.offset; number = h.number }

  of_imports : (f : Fault) → ImportFault (paths_of after) (all_wanted (text_of after reads) 0 reads) f → ImportFault (paths_of files) (all_wanted (text_of files reads) 0 reads) f
  of_imports f h =
      subst (λ (t : At → Text). ImportFault (paths_of files) (all_wanted t 0 reads) f) texts_same
      (subst (λ (ps : List Path). ImportFault ps (all_wanted (text_of after reads) 0 reads) f) (paths_same files) h)

  of_names : (f : Fault) → NameFault (text_of after reads) (link_skeleton after reads).declared f → NameFault (text_of files reads) (link_skeleton files reads).declared f
  of_names f h =
      subst (λ (s : Skeleton At). NameFault (text_of files reads) s.declared f) skeleton_same
      (subst (λ (t : At → Text). NameFault t (link_skeleton after reads).declared f) texts_same h)

  of_references : (f : Fault) → ReferenceFault (text_of after reads) (link_skeleton after reads) f → ReferenceFault (text_of files reads) (link_skeleton files reads) f
  of_references f h =
      subst (λ (s : Skeleton At). ReferenceFault (text_of files reads) s f) skeleton_same
      (subst (λ (t : At → Text). ReferenceFault t (link_skeleton after reads) f) texts_same h)

pub names_ask_no_language : NamesAskNoLanguage
names_ask_no_language files reads = names_same files reads

-- as written the files are read in this way alone
pub read_alike : (files : List FileOf) (reads : List ReadOf) → AreCore files → AreRead files reads → (others : List ReadOf) → AreRead (map as_written files) others → others ≡ reads
read_alike files reads core are others r = read_once (map as_written files) others reads r (core_files_are_written files reads core are)

pub core_files_link : CoreFilesLink
core_files_link files reads core are clean y h = clean y (there y h)
  where
    read_there : (others : List ReadOf) → AreRead (map as_written files) others → AreRead files others
    read_there others r = subst (λ (q : List ReadOf). AreRead files q) (sym (read_alike files reads core are others r)) are

    there : (x : FaultAt) → LinkFaults (map as_written files) x → LinkFaults files x
    there x (of_import others f z r stands bad) = of_import others f z (read_there others r) (stands_there files others f z stands) (of_imports files others f bad)
    there x (of_name others f z r stands bad) = of_name others f z (read_there others r) (stands_there files others f z stands) (of_names files others f bad)
    there x (of_reference others f z r stands bad) = of_reference others f z (read_there others r) (stands_there files others f z stands) (of_references files others f bad)
