-- The file of a fault is there.
use Rattle.std.proofs.Common.{◌≡◌, ℕ, ◌<◌, Bool, true, false, cond, List, [], ◌∷◌, Option, Some, None, refl, sym, ap, inl, inr, ◌∙◌, subst, arith, length, get_or, zero, suc, IsSome, is_some, bytes_eq, Contains}
use Rattle.proto_files.proofs.Common.{FaultAt, IsLeastFault, FileOf, file_at, ReadFaults, ReadOf}
use Rattle.std.proofs.lemmas.List.Sorted.{Contains-permutation, IsPermutation-sym}
use Rattle.proto_names_rules.specs.Faults.{Fault}
use Rattle.proto_names_imports.proofs.Common.{FaultStandsAt, LinkFaults, of_import, of_name, of_reference, import_found, name_found, reference_found}
use Rattle.proto_desc.proofs.Common.{CheckFaults, of_flaw, FileFaults, of_read, of_link, of_check, WorkspaceFaults, of_path, of_files}
use Rattle.proto_journal_records.specs.Known.{Over}
use Rattle.proto_store.proofs.Common.{Held, IsListed, bytes_at, equal_itself}

-- a file of the list stands at its path
there : (files : List FileOf) (k : ℕ) (f : FileOf) → k < length files → get_or files k f ≡ f → IsSome (bytes_at f.path files)
there [] k f inside is = absurd (omega arith)
there (file ∷ files) zero f inside is =
    ap (λ b. is_some (cond b (Some file.bytes) (bytes_at f.path files))) (ap (λ g. bytes_eq f.path g.path) is ∙ equal_itself f.path)
there (file ∷ files) (suc k) f inside is = go (there files k f (omega arith) is) (bytes_eq f.path file.path)
  where
    go : IsSome (bytes_at f.path files) → (b : Bool) → IsSome (cond b (Some file.bytes) (bytes_at f.path files))
    go rest true = refl
    go rest false = rest

listed : (files : List FileOf) (f : FileOf) → Contains files f → IsSome (bytes_at f.path files)
listed files f c = there files c.0 f c.1 c.2

-- the fault is of one of the files
abbrev IsOfFile : List FileOf → FaultAt → Type 0
IsOfFile files x = (f : FileOf) × Contains files f × (x.path ≡ f.path)

-- the file at a place, or no token stands there
placed : (files : List FileOf) (k : ℕ) → k < length files → Contains files (file_at files k)
placed [] k inside = absurd (omega (arith, inside))
placed (f ∷ fs) zero inside = (0, inside, refl)
placed (f ∷ fs) (suc k) inside = let rest = placed fs k (omega (arith, inside)) in (suc rest.0, omega (arith, rest.1), rest.2)

read_is_of_file : (files : List FileOf) (x : FaultAt) → ReadFaults files x → IsOfFile files x
read_is_of_file files x (inl (f, inside, same, said)) = (f, inside, same)
read_is_of_file files x (inr (f, inside, same, said)) = (f, inside, same)

stands_in : (files : List FileOf) (reads : List ReadOf) (f : Fault) (x : FaultAt) → FaultStandsAt files reads f x → f.place.file < length files → IsOfFile files x
stands_in files reads f x stands inside = (file_at files f.place.file, placed files f.place.file inside, stands.path)

link_is_of_file : (files : List FileOf) (x : FaultAt) → LinkFaults files x → IsOfFile files x
link_is_of_file files x (of_import reads f z are stands h) = stands_in files reads f x stands (import_found files reads are f h).there.0
link_is_of_file files x (of_name reads f z are stands h) = stands_in files reads f x stands (name_found files reads are f h).there.0
link_is_of_file files x (of_reference reads f z are stands h) = stands_in files reads f x stands (reference_found files reads are f h).there.0

check_is_of_file : (files : List FileOf) (x : FaultAt) → CheckFaults files x → IsOfFile files x
check_is_of_file files x (of_flaw reads k f are inside c) = (file_at files k, placed files k inside, refl)

is_of_file : (files : List FileOf) (x : FaultAt) → FileFaults files x → IsOfFile files x
is_of_file files x (of_read y h) = read_is_of_file files x h
is_of_file files x (of_link y h) = link_is_of_file files x h
is_of_file files x (of_check y h) = check_is_of_file files x h

-- a fault behind the start of a file is one of a file that is there
pub fault_is_listed : (files : List FileOf) (x : FaultAt) → WorkspaceFaults files x → 0 < x.offset → IsSome (bytes_at x.path files)
fault_is_listed files x (of_path y fault) behind = let start : x.offset ≡ 0 = fault.0 in absurd (omega arith)
fault_is_listed files x (of_files sorted y order fault) behind =
    let found = is_of_file sorted x fault in
    subst (λ p. IsSome (bytes_at p files)) (sym found.2)
    (listed files found.0 (Contains-permutation sorted files found.0 (IsPermutation-sym files sorted order.same) found.1))

-- the least fault of what a store holds
pub least_is_held : (held : Option Held) (x : FaultAt) → Over held (λ now. IsLeastFault (WorkspaceFaults now.files) x) → 0 < x.offset → IsListed held x.path
least_is_held None x least behind = tt
least_is_held (Some held) x least behind = fault_is_listed held.files x least.is_fault behind
