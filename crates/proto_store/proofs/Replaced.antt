-- Public for the crates above. Files after one of them was replaced, and files that are told by their bytes.
use Rattle.std.proofs.Common.{◌≡◌, ℕ, Bool, true, false, cond, List, [], ◌∷◌, Some, None, refl, sym, ap, ◌∙◌, subst, IsSome, is_some, bytes_eq, nat_cmp}
use Rattle.proto_base.proofs.Common.{AllByRecursion, IsStrictlySortedBy, slice_cmp, Less, bytes_eq-Decides, FileOf, paths_of}
use Rattle.proto_store.specs.Stores.{AreInPathOrder, languages_of, bytes_at, with_bytes}
use Rattle.proto_store.proofs.PathOrder.{differs_if_less, equal_itself}

-- the paths stay
pub paths_of-with_bytes : (path bytes : List ℕ) (files : List FileOf) → paths_of (with_bytes path bytes files) ≡ paths_of files
paths_of-with_bytes path bytes [] = refl
paths_of-with_bytes path bytes (file ∷ files) = go (paths_of-with_bytes path bytes files) (bytes_eq path file.path)
  where
    go : paths_of (with_bytes path bytes files) ≡ paths_of files → (b : Bool)
        → paths_of (cond b (record file { bytes = bytes } ∷ files) (file ∷ with_bytes path bytes files)) ≡ file.path ∷ paths_of files
    go rest true = refl
    go rest false = ap (λ l. file.path ∷ l) rest

-- the languages stay
pub languages_of-with_bytes : (path bytes : List ℕ) (files : List FileOf) → languages_of (with_bytes path bytes files) ≡ languages_of files
languages_of-with_bytes path bytes [] = refl
languages_of-with_bytes path bytes (file ∷ files) = go (languages_of-with_bytes path bytes files) (bytes_eq path file.path)
  where
    go : languages_of (with_bytes path bytes files) ≡ languages_of files → (b : Bool)
        → languages_of (cond b (record file { bytes = bytes } ∷ files) (file ∷ with_bytes path bytes files)) ≡ file.profile ∷ languages_of files
    go rest true = refl
    go rest false = ap (λ l. file.profile ∷ l) rest

-- a path that is listed has the new bytes
pub bytes_at-with_bytes : (path bytes : List ℕ) (files : List FileOf) → IsSome (bytes_at path files) → bytes_at path (with_bytes path bytes files) ≡ Some bytes
bytes_at-with_bytes path bytes [] listed = cc
bytes_at-with_bytes path bytes (file ∷ files) listed = go (bytes_at-with_bytes path bytes files) (bytes_eq path file.path) refl listed
  where
    go : (IsSome (bytes_at path files) → bytes_at path (with_bytes path bytes files) ≡ Some bytes) → (b : Bool) → bytes_eq path file.path ≡ b
        → IsSome (cond b (Some file.bytes) (bytes_at path files))
        → bytes_at path (cond b (record file { bytes = bytes } ∷ files) (file ∷ with_bytes path bytes files)) ≡ Some bytes
    go rest true e l = ap (λ b. cond b (Some bytes) (bytes_at path files)) e
    go rest false e l = ap (λ b. cond b (Some file.bytes) (bytes_at path (with_bytes path bytes files))) e ∙ rest l

-- every other path has what it had
pub bytes_at-with_bytes-other : (path bytes other : List ℕ) (files : List FileOf) → bytes_eq other path ≡ false → bytes_at other (with_bytes path bytes files) ≡ bytes_at other files
bytes_at-with_bytes-other path bytes other [] differs = refl
bytes_at-with_bytes-other path bytes other (file ∷ files) differs = go (bytes_at-with_bytes-other path bytes other files differs) (bytes_eq path file.path) refl
  where
    go : bytes_at other (with_bytes path bytes files) ≡ bytes_at other files → (b : Bool) → bytes_eq path file.path ≡ b
        → bytes_at other (cond b (record file { bytes = bytes } ∷ files) (file ∷ with_bytes path bytes files)) ≡ bytes_at other (file ∷ files)
    go rest true e =
        let same : path ≡ file.path = (bytes_eq-Decides path file.path).0 e in
        let apart : bytes_eq other file.path ≡ false = subst (λ p. bytes_eq other p ≡ false) same differs in
        ap (λ b. cond b (Some bytes) (bytes_at other files)) apart ∙ ap (λ b. cond b (Some file.bytes) (bytes_at other files)) (sym apart)
    go rest false e = ap (λ x. cond (bytes_eq other file.path) (Some file.bytes) x) rest

-- a path that is not listed changes nothing
pub with_bytes-absent : (path bytes : List ℕ) (files : List FileOf) → bytes_at path files ≡ None → with_bytes path bytes files ≡ files
with_bytes-absent path bytes [] none = refl
with_bytes-absent path bytes (file ∷ files) none = go (with_bytes-absent path bytes files) (bytes_eq path file.path) none
  where
    go : (bytes_at path files ≡ None → with_bytes path bytes files ≡ files) → (b : Bool) → cond b (Some file.bytes) (bytes_at path files) ≡ None
        → cond b (record file { bytes = bytes } ∷ files) (file ∷ with_bytes path bytes files) ≡ file ∷ files
    go rest true n = cc
    go rest false n = ap (λ l. file ∷ l) (rest n)

-- the same paths are listed as before
pub is_some-with_bytes : (path bytes other : List ℕ) (files : List FileOf) → is_some (bytes_at other (with_bytes path bytes files)) ≡ is_some (bytes_at other files)
is_some-with_bytes path bytes other [] = refl
is_some-with_bytes path bytes other (file ∷ files) = go (is_some-with_bytes path bytes other files) (bytes_eq path file.path)
  where
    at : (b : Bool) (x y : List ℕ) (l m : List FileOf) → is_some (bytes_at other l) ≡ is_some (bytes_at other m)
        → is_some (cond b (Some x) (bytes_at other l)) ≡ is_some (cond b (Some y) (bytes_at other m))
    at true x y l m same = refl
    at false x y l m same = same

    go : is_some (bytes_at other (with_bytes path bytes files)) ≡ is_some (bytes_at other files) → (b : Bool)
        → is_some (bytes_at other (cond b (record file { bytes = bytes } ∷ files) (file ∷ with_bytes path bytes files))) ≡ is_some (bytes_at other (file ∷ files))
    go rest true = at (bytes_eq other file.path) bytes file.bytes files files refl
    go rest false = at (bytes_eq other file.path) file.bytes file.bytes (with_bytes path bytes files) files rest

head_of : {A : Type 0} (x y : A) (xs ys : List A) → x ∷ xs ≡ y ∷ ys → x ≡ y
head_of x y xs ys e = cc

tail_of : {A : Type 0} (x y : A) (xs ys : List A) → x ∷ xs ≡ y ∷ ys → xs ≡ ys
tail_of x y xs ys e = cc

-- a path before all of the files is not listed
none_at : (path : List ℕ) (files : List FileOf) → AllByRecursion (λ p. slice_cmp nat_cmp path p ≡ Less) (paths_of files) → bytes_at path files ≡ None
none_at path [] before = refl
none_at path (file ∷ files) before = ap (λ b. cond b (Some file.bytes) (bytes_at path files)) (differs_if_less path file.path before.0) ∙ none_at path files before.1

-- a file that is not the first at its path has the bytes of the rest
rest_at : (file : FileOf) (files : List FileOf) (path : List ℕ) → bytes_eq path file.path ≡ false → bytes_at path (file ∷ files) ≡ bytes_at path files
rest_at file files path differs = ap (λ b. cond b (Some file.bytes) (bytes_at path files)) differs

first_at : (file : FileOf) (files : List FileOf) → bytes_at file.path (file ∷ files) ≡ Some file.bytes
first_at file files = ap (λ b. cond b (Some file.bytes) (bytes_at file.path files)) (equal_itself file.path)

-- files in path order with the same paths and languages and the same bytes at each are the same
pub same_files : (xs ys : List FileOf) → AreInPathOrder xs → paths_of xs ≡ paths_of ys → languages_of xs ≡ languages_of ys → ((path : List ℕ) → bytes_at path xs ≡ bytes_at path ys) → xs ≡ ys
unfolding IsStrictlySortedBy
same_files [] [] order paths languages bytes = refl
same_files [] (y ∷ ys) order paths languages bytes = cc
same_files (x ∷ xs) [] order paths languages bytes = cc
same_files (x ∷ xs) (y ∷ ys) order paths languages bytes =
    let path : x.path ≡ y.path = head_of x.path y.path (paths_of xs) (paths_of ys) paths in
    let rest : paths_of xs ≡ paths_of ys = tail_of x.path y.path (paths_of xs) (paths_of ys) paths in
    let here : Some x.bytes ≡ Some y.bytes = sym (first_at x xs) ∙ bytes x.path ∙ ap (λ p. bytes_at p (y ∷ ys)) path ∙ first_at y ys in
    let language : x.profile ≡ y.profile = head_of _ _ (languages_of xs) (languages_of ys) languages in
    let first : x ≡ y = of_parts path (of_some x.bytes y.bytes here) language in
    let others : xs ≡ ys = same_files xs ys order.1 rest (tail_of _ _ (languages_of xs) (languages_of ys) languages) (λ p. below order.0 path rest p (bytes_eq p x.path) refl) in
    λ i. first i ∷ others i
  where
    of_some : (a b : List ℕ) → Some a ≡ Some b → a ≡ b
    of_some a b e = cc

    of_parts : x.path ≡ y.path → x.bytes ≡ y.bytes → x.profile ≡ y.profile → x ≡ y
    of_parts p q l = λ i. record { path = p i; bytes = q i; profile = l i }

    below : AllByRecursion (λ q. slice_cmp nat_cmp x.path q ≡ Less) (paths_of xs) → x.path ≡ y.path → paths_of xs ≡ paths_of ys
        → (p : List ℕ) (b : Bool) → bytes_eq p x.path ≡ b → bytes_at p xs ≡ bytes_at p ys
    below before path rest p true e =
        let same : p ≡ x.path = (bytes_eq-Decides p x.path).0 e in
        let left : bytes_at x.path xs ≡ None = none_at x.path xs before in
        let right : bytes_at x.path ys ≡ None = none_at x.path ys (subst (λ l. AllByRecursion (λ q. slice_cmp nat_cmp x.path q ≡ Less) l) rest before) in
        ap (λ q. bytes_at q xs) same ∙ left ∙ sym right ∙ ap (λ q. bytes_at q ys) (sym same)
    below before path rest p false e = sym (rest_at x xs p e) ∙ bytes p ∙ rest_at y ys p (subst (λ q. bytes_eq p q ≡ false) path e)
