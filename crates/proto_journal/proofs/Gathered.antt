-- The paths of a store's files, and the files that are read at them.
use Rattle.std.proofs.Common.{◌≡◌, ◌<◌, ◌+◌, ℕ, List, [], ◌∷◌, ◌++◌, map, length, get_or, take, Option, Some, None, refl, sym, ap, ◌∙◌, append_assoc, append-nil, String, Global, string_bytes, string_cmp, IsSorted, IsPermutation}
use Rattle.proto_base.proofs.Common.{Vec, map-append, map_more, file_of, files_of, paths_of}
use Rattle.proto_store.specs.Stores.{Held, ListsPaths}
use Rattle.proto_store.proofs.Loading.{Loads}
use Rattle.proto_store.proofs.PathOrder.{sorted_paths}
use Rattle.proto_journal.specs.Loads.{ArePathsOf}

-- the paths that were listed, in order
pub in_order : (held : Option Held) (listed sorted : List (String Global)) → ListsPaths held (map string_bytes listed) → IsPermutation listed sorted → IsSorted string_cmp sorted
    → ArePathsOf held (map string_bytes sorted)
in_order None listed sorted l p s = tt
in_order (Some now) listed sorted l p s = (l.0, sorted_paths listed sorted now.files l.0 l.1 p s)

-- none of their files is read yet
pub none_read : (held : Option Held) (paths : List (String Global)) → ArePathsOf held (map string_bytes paths) → Loads held [] paths
none_read None paths are = tt
none_read (Some now) paths are = ([], now.files, are.0, refl, refl, are.1)

abbrev pub names_of : List (String Global × Vec ℕ) → List (List ℕ)
names_of files = paths_of (files_of files)

named_more : (done : List (String Global × Vec ℕ)) (path : String Global) (bytes : Vec ℕ) → names_of (done ++ (path, bytes) ∷ []) ≡ names_of done ++ string_bytes path ∷ []
named_more done path bytes = ap paths_of (map-append file_of done ((path, bytes) ∷ [])) ∙ map-append (λ f. f.path) (files_of done) (file_of (path, bytes) ∷ [])

-- one more file, of the paths that are left
pub names_more : (done : List (String Global × Vec ℕ)) (path : String Global) (bytes : Vec ℕ) (left : List (String Global)) (all : List (List ℕ))
    → names_of done ++ map string_bytes (path ∷ left) ≡ all → names_of (done ++ (path, bytes) ∷ []) ++ map string_bytes left ≡ all
names_more done path bytes left all h =
    ap (λ l. l ++ map string_bytes left) (named_more done path bytes) ∙ append_assoc (names_of done) (string_bytes path ∷ []) (map string_bytes left) ∙ h

pub names_all : (done : List (String Global × Vec ℕ)) (left : List (String Global)) (all : List (List ℕ)) → left ≡ [] → names_of done ++ map string_bytes left ≡ all → names_of done ≡ all
names_all done left all none h = sym (append-nil (names_of done)) ∙ ap (λ l. names_of done ++ map string_bytes l) (sym none) ∙ h

-- one more file, of the paths up to a place
pub names_taken : (done : List (String Global × Vec ℕ)) (name path : String Global) (bytes : Vec ℕ) (paths : List (String Global)) (i : ℕ)
    → i < length paths → path ≡ get_or paths i path → string_bytes name ≡ string_bytes path → names_of done ≡ map string_bytes (take i paths)
    → names_of (done ++ (name, bytes) ∷ []) ≡ map string_bytes (take (i + 1) paths)
names_taken done name path bytes paths i lt is same h =
    named_more done name bytes ∙ ap (λ l. l ++ string_bytes name ∷ []) h ∙ ap (λ n. map string_bytes (take i paths) ++ n ∷ []) (same ∙ ap string_bytes is) ∙ sym (map_more string_bytes paths i path lt)
