-- Public for the crates above. Loading the files of a store, one path after the other.
use Rattle.std.proofs.Common.{◌≡◌, ℕ, List, [], ◌∷◌, ◌++◌, map, Option, Some, None, refl, sym, ap, ◌∙◌, subst, append_assoc, append-nil, length, arith, String, is_some, Global, string_bytes, string_cmp, IsSorted, IsPermutation}
use Rattle.proto_base.proofs.Common.{Vec, map-append, All-head, All-tail, AreInLanguage, FileOf, file_of, file_of_as, files_of, files_of_as, paths_of}
use Rattle.proto_base.specs.declared.profile.Profile.{Profile}
use Rattle.proto_base.specs.declared.profile.Profile.TheVariants.{Core}
use Rattle.proto_store.specs.Stores.{AreInPathOrder, Held, HoldsBytes, HoldsGiven, IsListed, ListsPaths, Over, bytes_at}
use Rattle.proto_store.proofs.PathOrder.{bytes_at_place, sorted_paths}

-- a file as one of the core language
abbrev pub in_core : FileOf → FileOf
in_core file = record file { profile = Core }

-- the files so far, but for their language, and those of the paths that are left are those of the store, in path order
abbrev pub Loads : Option Held → List (String Global × Vec ℕ) → List (String Global) → Type 0
Loads None done left = Unit {0}
Loads (Some held) done left = (first : List FileOf) × (rest : List FileOf) × AreInPathOrder held.files × (held.files ≡ first ++ rest) × (map in_core first ≡ files_of done) × (map string_bytes left ≡ paths_of rest)

-- the sorted paths begin it
pub loads_none : (held : Option Held) (listed sorted : List (String Global)) → ListsPaths held (map string_bytes listed)
    → IsPermutation listed sorted → IsSorted string_cmp sorted → Loads held [] sorted
loads_none None listed sorted l m s = tt
loads_none (Some held) listed sorted l m s = ([], held.files, l.0, refl, refl, sorted_paths listed sorted held.files l.0 l.1 m s)

-- a store that lists its paths has its files in their order
pub in_order : (held : Option Held) (paths : List (List ℕ)) → ListsPaths held paths → Over held (λ there. AreInPathOrder there.files)
in_order None paths l = tt
in_order (Some there) paths l = l.0

head_of : {A : Type 0} (x y : A) (xs ys : List A) → x ∷ xs ≡ y ∷ ys → x ≡ y
head_of x y xs ys e = cc

tail_of : {A : Type 0} (x y : A) (xs ys : List A) → x ∷ xs ≡ y ∷ ys → xs ≡ ys
tail_of x y xs ys e = cc

cons_is_no_nil : {A : Type 0} {P : Type 0} (x : A) (xs : List A) → x ∷ xs ≡ [] → P
cons_is_no_nil x xs e = cc

-- what is left is listed
pub next_is_listed : (held : Option Held) (done : List (String Global × Vec ℕ)) (path : String Global) (left : List (String Global))
    → Loads held done (path ∷ left) → IsListed held (string_bytes path)
next_is_listed None done path left h = tt
next_is_listed (Some held) done path left (first, [], order, whole, done_is, paths) = cons_is_no_nil _ _ paths
next_is_listed (Some held) done path left (first, file ∷ rest, order, whole, done_is, paths) =
    let same : string_bytes path ≡ file.path = head_of _ _ _ _ paths in
    let there : bytes_at (string_bytes path) held.files ≡ Some file.bytes =
    ap (λ q. bytes_at q held.files) same ∙ ap (bytes_at file.path) whole ∙ bytes_at_place first file rest (subst AreInPathOrder whole order) in
    ap is_some there

-- one more file
pub loads_more : (held : Option Held) (done : List (String Global × Vec ℕ)) (path : String Global) (left : List (String Global)) (bytes : Vec ℕ)
    → Loads held done (path ∷ left) → HoldsBytes held (string_bytes path) bytes.items → Loads held (done ++ (path, bytes) ∷ []) left
loads_more None done path left bytes h b = tt
loads_more (Some held) done path left bytes (first, [], order, whole, done_is, paths) b = cons_is_no_nil _ _ paths
loads_more (Some held) done path left bytes (first, file ∷ rest, order, whole, done_is, paths) b =
    let same : string_bytes path ≡ file.path = head_of _ _ _ _ paths in
    let there : bytes_at (string_bytes path) held.files ≡ Some file.bytes =
    ap (λ q. bytes_at q held.files) same ∙ ap (bytes_at file.path) whole ∙ bytes_at_place first file rest (subst AreInPathOrder whole order) in
    let held_bytes : bytes.items ≡ file.bytes = of_some _ _ (sym b ∙ there) in
    let read : in_core file ≡ file_of (path, bytes) = of_parts path bytes file same held_bytes in
    let joined : held.files ≡ (first ++ file ∷ []) ++ rest = whole ∙ sym (append_assoc first (file ∷ []) rest) in
    let so_far : map in_core (first ++ file ∷ []) ≡ files_of (done ++ (path, bytes) ∷ []) =
    map-append in_core first (file ∷ []) ∙ ap (λ l. l ++ in_core file ∷ []) done_is ∙ ap (λ f. files_of done ++ f ∷ []) read
    ∙ sym (map-append file_of done ((path, bytes) ∷ [])) in
    (first ++ file ∷ [], rest, order, joined, so_far, tail_of _ _ _ _ paths)
  where
    of_some : (a b : List ℕ) → Some a ≡ Some b → a ≡ b
    of_some a b e = cc

    of_parts : (path : String Global) (bytes : Vec ℕ) (file : FileOf) → string_bytes path ≡ file.path → bytes.items ≡ file.bytes → in_core file ≡ file_of (path, bytes)
    of_parts path bytes file p q = λ i. record { path = sym p i; bytes = sym q i; profile = Core }

-- files of a language are those that are given in it, where they are so but for the language
in_language : (p : Profile) (files : List FileOf) (given : List (String Global × Vec ℕ)) → AreInLanguage p files → map in_core files ≡ files_of given → files_of_as p given ≡ files
in_language p [] [] are e = refl
in_language p [] (g ∷ given) are e = cons_is_no_nil _ _ (sym e)
in_language p (f ∷ files) [] are e = cons_is_no_nil _ _ e
in_language p (f ∷ files) (g ∷ given) are e =
    let rest : files_of_as p given ≡ files = in_language p files given (All-tail (λ (x : FileOf). x.profile ≡ p) f files are) (tail_of _ _ _ _ e) in
    let same : in_core f ≡ file_of g = head_of _ _ _ _ e in
    let first : file_of_as p g ≡ f = of_parts (sym (ap (λ (x : FileOf). x.path) same)) (sym (ap (λ (x : FileOf). x.bytes) same)) (sym (All-head (λ (x : FileOf). x.profile ≡ p) f files are)) in
    λ i. first i ∷ rest i
  where
    of_parts : (file_of_as p g).path ≡ f.path → (file_of_as p g).bytes ≡ f.bytes → p ≡ f.profile → file_of_as p g ≡ f
    of_parts a b c = λ i. record { path = a i; bytes = b i; profile = c i }

-- where no path is left, all files are there
pub loads_all : (held : Option Held) (done : List (String Global × Vec ℕ)) (left : List (String Global)) → left ≡ [] → Loads held done left → HoldsGiven held done
loads_all None done left e h = λ p are. tt
loads_all (Some held) done left e (first, [], order, whole, done_is, paths) = λ p are.
    let all : held.files ≡ first = whole ∙ append-nil first in
    in_language p first done (subst (AreInLanguage p) all are) done_is ∙ sym all
loads_all (Some held) done left e (first, file ∷ rest, order, whole, done_is, paths) = cons_is_no_nil _ _ (sym paths ∙ ap (map string_bytes) e)

pub empty_if_short : {A : Type 0} (xs : List A) → length xs ≡ 0 → xs ≡ []
empty_if_short [] e = refl
empty_if_short (x ∷ xs) e = absurd (omega arith)
