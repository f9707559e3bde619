-- Public for the crates above. Paths in order: a sorted list of the paths of a store is the list of its files' paths.
use Rattle.std.proofs.Common.{◌≡◌, ℕ, ◌+◌, Bool, true, false, cond, List, [], ◌∷◌, ◌++◌, map, Option, None, Some, Ordering, refl, sym, ap, ◌∙◌, subst, arith, zero, suc, get_or, length, ◌<◌, zero-add, IsSome, String, is_some, sum_by, if◌then◌else◌, Global, string_bytes, string_cmp, All, Contains, IsSortedBy, IsSorted, IsPermutation, nat_cmp, is_lt, is_eq, bytes_eq}
use Rattle.proto_base.proofs.Common.{AllByRecursion, IsStrictlySortedBy, slice_cmp, nat_list_cmp_total, ordering_reverse, Less, Equal, Greater, is_eq-slice_cmp, same_from_decides, bytes_eq-Decides, sum_by-cons, recursion_from_All, Contains-permutation, sorted_far, ranks_by, sum_by-IsPermutation, IsPermutation-map, IsPermutation-trans, IsPermutation-sym, FileOf, paths_of}
use Rattle.proto_store.specs.Stores.{AreInPathOrder, Held, IsListed, ListsPaths, bytes_at}

abbrev text_cmp : List ℕ → List ℕ → Ordering
text_cmp = slice_cmp nat_cmp

-- whether two texts are equal is asked either way round
pub same_text : (a b : List ℕ) → bytes_eq a b ≡ bytes_eq b a
same_text a b =
    let there = bytes_eq-Decides b a in
    same_from_decides _ _ (bytes_eq-Decides a b) (λ e. sym (there.0 e), λ e. there.1 (sym e))

pub equal_itself : (a : List ℕ) → bytes_eq a a ≡ true
equal_itself a = (bytes_eq-Decides a a).1 refl

same_if_tied : (a b : List ℕ) → text_cmp a b ≡ Equal → a ≡ b
same_if_tied a b e = (bytes_eq-Decides a b).0 (sym (is_eq-slice_cmp a b) ∙ ap is_eq e)

pub differs_if_less : (a b : List ℕ) → text_cmp a b ≡ Less → bytes_eq a b ≡ false
differs_if_less a b e = sym (is_eq-slice_cmp a b) ∙ ap is_eq e

less_if_greater : (a b : List ℕ) → text_cmp a b ≡ Greater → text_cmp b a ≡ Less
less_if_greater a b e = (nat_list_cmp_total).antisymm b a ∙ ap ordering_reverse e

-- how often the path stands among the paths
abbrev mark : List ℕ → List ℕ → ℕ
mark path p = if bytes_eq path p then 1 else 0

abbrev times : List ℕ → List (List ℕ) → ℕ
times path [] = 0
times path (p ∷ paths) = mark path p + times path paths

times_is_sum : (path : List ℕ) (paths : List (List ℕ)) → sum_by (mark path) paths ≡ times path paths
times_is_sum path [] = refl
times_is_sum path (p ∷ paths) = sum_by-cons (mark path) p paths ∙ ap (λ n. mark path p + n) (times_is_sum path paths)

-- no later path is below an earlier one
abbrev Rises : List (List ℕ) → Type 0
Rises [] = Unit {0}
Rises (x ∷ xs) = AllByRecursion (λ y. is_lt (text_cmp y x) ≡ false) xs × Rises xs

none_above : (path : List ℕ) (paths : List (List ℕ)) → AllByRecursion (λ p. text_cmp path p ≡ Less) paths → times path paths ≡ 0
none_above path [] h = refl
none_above path (p ∷ paths) h = ap (λ b. cond b 1 0 + times path paths) (differs_if_less path p h.0) ∙ zero-add (times path paths) ∙ none_above path paths h.1

-- a path below x is not among paths that are not
none_below : (path x : List ℕ) (paths : List (List ℕ)) → text_cmp path x ≡ Less → AllByRecursion (λ p. is_lt (text_cmp p x) ≡ false) paths → times path paths ≡ 0
none_below path x [] l h = refl
none_below path x (p ∷ paths) l h = ap (λ b. cond b 1 0 + times path paths) (go (bytes_eq path p) refl) ∙ zero-add (times path paths) ∙ none_below path x paths l h.1
  where
    go : (b : Bool) → bytes_eq path p ≡ b → b ≡ false
    go false e = refl
    go true e =
        let same : path ≡ p = (bytes_eq-Decides path p).0 e in
        sym (ap is_lt l) ∙ ap (λ q. is_lt (text_cmp q x)) same ∙ h.0

-- what is below y is below all that y is below
below_all : (x y : List ℕ) (ys : List (List ℕ)) → text_cmp x y ≡ Less → AllByRecursion (λ p. text_cmp y p ≡ Less) ys → AllByRecursion (λ p. text_cmp x p ≡ Less) ys
below_all x y [] e h = tt
below_all x y (p ∷ ys) e h = ((nat_list_cmp_total).trans x y p e h.0, below_all x y ys e h.1)

cons_same : (x y : List ℕ) (xs ys : List (List ℕ)) → x ≡ y → xs ≡ ys → x ∷ xs ≡ y ∷ ys
cons_same x y xs ys p q = cc

-- a list that rises is a strictly rising list with the same elements
pub same_sorted : (xs ys : List (List ℕ)) → Rises xs → IsStrictlySortedBy text_cmp ys → ((p : List ℕ) → times p xs ≡ times p ys) → xs ≡ ys
unfolding IsStrictlySortedBy
same_sorted [] [] r s t = refl
same_sorted [] (y ∷ ys) r s t = let one : mark y y ≡ 1 = ap (λ b. cond b 1 0) (equal_itself y) in let e : 0 ≡ mark y y + times y ys = t y in absurd (omega arith)
same_sorted (x ∷ xs) [] r s t = let one : mark x x ≡ 1 = ap (λ b. cond b 1 0) (equal_itself x) in let e : mark x x + times x xs ≡ 0 = t x in absurd (omega arith)
same_sorted (x ∷ xs) (y ∷ ys) r s t = go (same_sorted xs ys r.1 s.1) (text_cmp x y) refl
  where
    go : (((p : List ℕ) → times p xs ≡ times p ys) → xs ≡ ys) → (o : Ordering) → text_cmp x y ≡ o → x ∷ xs ≡ y ∷ ys
    go rest Less e =
        let one : mark x x ≡ 1 = ap (λ b. cond b 1 0) (equal_itself x) in
        let other : mark x y ≡ 0 = ap (λ b. cond b 1 0) (differs_if_less x y e) in
        let none : times x ys ≡ 0 = none_above x ys (below_all x y ys e s.0) in
        let both : mark x x + times x xs ≡ mark x y + times x ys = t x in
        absurd (omega arith)
    go rest Greater e =
        let l = less_if_greater x y e in
        let one : mark y y ≡ 1 = ap (λ b. cond b 1 0) (equal_itself y) in
        let other : mark y x ≡ 0 = ap (λ b. cond b 1 0) (differs_if_less y x l) in
        let none : times y xs ≡ 0 = none_below y x xs l r.0 in
        let both : mark y x + times y xs ≡ mark y y + times y ys = t y in
        absurd (omega arith)
    go rest Equal e =
        let same : x ≡ y = same_if_tied x y e in
        cons_same x y xs ys same (rest (λ p.
        let heads : mark p x ≡ mark p y = ap (mark p) same in
        let both : mark p x + times p xs ≡ mark p y + times p ys = t p in
        omega arith))

-- the order that a sort leaves, one key at a time
sorted_rest : {X : Type 0} (lt : X → X → Bool) (x : X) (xs : List X) → IsSortedBy lt (x ∷ xs) → IsSortedBy lt xs
sorted_rest lt x xs h k d low high =
    let e : suc k + 1 ≡ suc (k + 1) = omega arith in
    subst (λ n. lt (get_or (x ∷ xs) n d) (get_or xs k d) ≡ false) e (h (suc k) d (omega arith) (omega arith))

rises_from_sorted : (strings : List (String Global)) → IsSorted string_cmp strings → Rises (map string_bytes strings)
rises_from_sorted [] h = tt
rises_from_sorted (s ∷ strings) h = (each strings (recursion_from_All (λ y. is_lt (string_cmp y s) ≡ false) strings later), rises_from_sorted strings (sorted_rest (λ x y. is_lt (string_cmp x y)) s strings h))
  where
    later : All (λ y. is_lt (string_cmp y s) ≡ false) strings
    later k d inside = sorted_far (λ x y. is_lt (string_cmp x y)) (ranks_by nat_list_cmp_total string_bytes) (s ∷ strings) h 0 (suc k) d (omega arith) (omega arith)

    each : (rest : List (String Global)) → AllByRecursion (λ y. is_lt (string_cmp y s) ≡ false) rest → AllByRecursion (λ y. is_lt (text_cmp y (string_bytes s)) ≡ false) (map string_bytes rest)
    each [] a = tt
    each (r ∷ rest) a = (a.0, each rest a.1)

-- the sorted paths of a store are those of its files, in their order
pub sorted_paths : (listed sorted : List (String Global)) (files : List FileOf) → AreInPathOrder files → IsPermutation (map string_bytes listed) (paths_of files)
    → IsPermutation listed sorted → IsSorted string_cmp sorted → map string_bytes sorted ≡ paths_of files
sorted_paths listed sorted files order lists moved sort =
    let all = IsPermutation-trans _ _ _ (IsPermutation-sym _ _ (IsPermutation-map string_bytes listed sorted moved)) lists in
    same_sorted (map string_bytes sorted) (paths_of files) (rises_from_sorted sorted sort) order
    (λ p. sym (times_is_sum p (map string_bytes sorted)) ∙ sym (sum_by-IsPermutation (mark p) (map string_bytes sorted) (paths_of files) all) ∙ times_is_sum p (paths_of files))

at_place : (P : List ℕ → Type 0) (done : List FileOf) (file : FileOf) (rest : List FileOf) → AllByRecursion P (paths_of (done ++ file ∷ rest)) → P file.path
at_place P [] file rest h = h.0
at_place P (d ∷ done) file rest h = at_place P done file rest h.1

-- each file of a list in path order is the one at its path
pub bytes_at_place : (done : List FileOf) (file : FileOf) (rest : List FileOf) → AreInPathOrder (done ++ file ∷ rest) → bytes_at file.path (done ++ file ∷ rest) ≡ Some file.bytes
unfolding IsStrictlySortedBy
bytes_at_place [] file rest h = ap (λ b. cond b (Some file.bytes) (bytes_at file.path rest)) (equal_itself file.path)
bytes_at_place (d ∷ done) file rest h =
    let less : text_cmp d.path file.path ≡ Less = at_place (λ p. text_cmp d.path p ≡ Less) done file rest h.0 in
    ap (λ b. cond b (Some d.bytes) (bytes_at file.path (done ++ file ∷ rest))) (same_text file.path d.path ∙ differs_if_less d.path file.path less)
    ∙ bytes_at_place done file rest h.1

listed_among : (files : List FileOf) (path : List ℕ) (k : ℕ) → k < length (paths_of files) → get_or (paths_of files) k path ≡ path → IsSome (bytes_at path files)
listed_among [] path k inside is = absurd (omega (arith, inside))
listed_among (file ∷ files) path zero inside is =
    ap (λ b. is_some (cond b (Some file.bytes) (bytes_at path files))) (ap (bytes_eq path) is ∙ equal_itself path)
listed_among (file ∷ files) path (suc k) inside is = go (listed_among files path k (omega (arith, inside)) is) (bytes_eq path file.path)
  where
    go : IsSome (bytes_at path files) → (b : Bool) → IsSome (cond b (Some file.bytes) (bytes_at path files))
    go rest true = refl
    go rest false = rest

-- each path that a store lists is that of a file
pub listed_path : (held : Option Held) (paths : List (List ℕ)) (path : List ℕ) → ListsPaths held paths → Contains paths path → IsListed held path
listed_path None paths path lists among = tt
listed_path (Some held) paths path lists among =
    let found = Contains-permutation paths (paths_of held.files) path lists.1 among in
    listed_among held.files path found.0 found.1 found.2

string_among : (paths : List (String Global)) (k : ℕ) (d : String Global) → k < length paths → Contains (map string_bytes paths) (string_bytes (get_or paths k d))
string_among [] k d inside = absurd (omega (arith, inside))
string_among (path ∷ paths) zero d inside = (0, omega arith, refl)
string_among (path ∷ paths) (suc k) d inside = let rest = string_among paths k d (omega (arith, inside)) in (suc rest.0, omega (arith, rest.1), rest.2)

-- the same of the strings that it answers
pub listed_string : (held : Option Held) (paths : List (String Global)) (k : ℕ) (d : String Global) → ListsPaths held (map string_bytes paths) → k < length paths → IsListed held (string_bytes (get_or paths k d))
listed_string held paths k d lists inside = listed_path held (map string_bytes paths) (string_bytes (get_or paths k d)) lists (string_among paths k d inside)
