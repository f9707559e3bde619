-- The first file that has a fault, in a loop over files.
use Rattle.std.proofs.Common.{◌≡◌, ℕ, zero, suc, ◌<◌, ◌≤◌, List, [], ◌∷◌, ◌++◌, length, map, take, get_or, refl, sym, ap, ◌∙◌, subst, inl, inr, arith, All}
use Rattle.proto_base.specs.declared.fault.FaultKind.{FaultKind}
use Rattle.proto_base.specs.declared.fault.SchemaFault.{SchemaFault}
use Rattle.proto_base.specs.declared.fault.SchemaFault.TheVariants.{Schema, NoMemory}
use Rattle.proto_files.specs.Common.{LexedFile, ReadFile, fault_at, FileOf, file_at, no_file, IsTextFault, IsGrammarFault, HasNone, IsOnlyFault, IsFileError, IsFirstError, IsLexedFile, IsReadFile, lexed_files, read_files}
use Rattle.std.proofs.lemmas.List.Elements.{All-push}
use Rattle.proto_files.proofs.Members.{Member, member_at}

abbrev Says : Type 1
Says = FileOf → ℕ → FaultKind → Type 0

-- no file of the list has such a fault
abbrev pub NoneOf : (FileOf → ℕ → FaultKind → Type 0) → List FileOf → Type 0
NoneOf says files = (f : FileOf) → Member f files → HasNone says f

pub map_same : {X : Type 0} (xs : List X) → map (λ y. y) xs ≡ xs
map_same [] = refl
map_same (x ∷ xs) = ap (λ rest. x ∷ rest) (map_same xs)

get_or_taken : {X : Type 0} (v : X → FileOf) (n k : ℕ) (xs : List X) (d e : FileOf) → k < n → n ≤ length xs → get_or (map v (take n xs)) k d ≡ get_or (map v xs) k e
get_or_taken v zero k xs d e lt le = absurd (omega arith)
get_or_taken v (suc n) k [] d e lt le = absurd (omega arith)
get_or_taken v (suc n) zero (x ∷ xs) d e lt le = refl
get_or_taken v (suc n) (suc k) (x ∷ xs) d e lt le = get_or_taken v n k xs d e (omega arith) (omega arith)

get_or-map_at : {X : Type 0} (v : X → FileOf) (k : ℕ) (xs : List X) (x : X) (d : FileOf) → k < length xs → get_or (map v xs) k d ≡ v (get_or xs k x)
get_or-map_at v k [] x d lt = absurd (omega arith)
get_or-map_at v zero (y ∷ xs) x d lt = refl
get_or-map_at v (suc k) (y ∷ xs) x d lt = get_or-map_at v k xs x d (omega arith)

length-map : {X : Type 0} (v : X → FileOf) (xs : List X) → length (map v xs) ≡ length xs
length-map v [] = refl
length-map v (x ∷ xs) = ap suc (length-map v xs)

-- what a loop over `all` knows where it comes to x with an error
pub first_error : {X : Type 0} (v : X → FileOf) (says : FileOf → ℕ → FaultKind → Type 0) (all yielded : List X) (x : X) (done : List FileOf) (e : SchemaFault) → map (λ y. y) yielded ≡ take (length yielded) all → (length yielded < length all) × (x ≡ get_or all (length yielded) x) → done ≡ map v yielded → NoneOf says done → IsFileError says (v x) e → IsFirstError says (map v all) e
first_error v says all yielded x done NoMemory so_far at is none h = tt
first_error {X} v says all yielded x done (Schema fault) so_far at is none h =
    let n = length yielded in
    let front : done ≡ map v (take n all) = is ∙ ap (map v) (sym (map_same yielded) ∙ so_far) in
    let here : v x ≡ file_at (map v all) n = ap v at.1 ∙ sym (get_or-map_at v n all x no_file at.0) in
    record {
      place = n;
      within = omega (arith, length-map v all, at.0);
      none_before = λ k lt.
          let short : n ≤ length all = omega (arith, at.0) in
          let inside : k < length done = omega (arith, ap length is, length-map v yielded) in
          let found : get_or done k no_file ≡ file_at (map v all) k = ap (λ xs. get_or xs k no_file) front ∙ get_or_taken v n k all no_file no_file lt short in
          subst (λ (f : FileOf). HasNone says f) found (none (get_or done k no_file) (member_at done k no_file inside));
      is_only = subst (λ (f : FileOf). IsOnlyFault says f (fault_at fault)) here h;
    }

pub none_lexed : (files : List LexedFile) → All IsLexedFile files → NoneOf IsTextFault (lexed_files files)
none_lexed [] h f m = absurd m
none_lexed (x ∷ files) h f (inl e) = subst (λ (g : FileOf). HasNone IsTextFault g) e (h 0 x (omega arith)).no_fault
none_lexed (x ∷ files) h f (inr m) = none_lexed files (λ k d lt. h (suc k) d (omega arith)) f m

pub none_read : (files : List ReadFile) → All IsReadFile files → NoneOf IsGrammarFault (read_files files)
none_read [] h f m = absurd m
none_read (x ∷ files) h f (inl e) = subst (λ (g : FileOf). HasNone IsGrammarFault g) e (h 0 x (omega arith)).no_fault
none_read (x ∷ files) h f (inr m) = none_read files (λ k d lt. h (suc k) d (omega arith)) f m

pub none_read_texts : (files : List ReadFile) → All IsReadFile files → NoneOf IsTextFault (read_files files)
none_read_texts [] h f m = absurd m
none_read_texts (x ∷ files) h f (inl e) = subst (λ (g : FileOf). HasNone IsTextFault g) e (h 0 x (omega arith)).no_text_fault
none_read_texts (x ∷ files) h f (inr m) = none_read_texts files (λ k d lt. h (suc k) d (omega arith)) f m

-- this iteration's file is one of those that were given
pub given_at : {X : Type 0} (P : X → Type 0) (all : List X) (n : ℕ) (x : X) → All P all → (n < length all) × (x ≡ get_or all n x) → P x
given_at P all n x h at = subst P (sym at.1) (h n x at.0)

map_push : {X Y : Type 0} (v : X → Y) (xs : List X) (x : X) → map v (xs ++ x ∷ []) ≡ map v xs ++ v x ∷ []
map_push v [] x = refl
map_push v (y ∷ xs) x = ap (λ rest. v y ∷ rest) (map_push v xs x)

-- a turn of a loop adds the same file to what is done and to what was given
pub same_push : {X Y : Type 0} (v : X → FileOf) (w : Y → FileOf) (xs news : List X) (ys : List Y) (x : X) (y : Y) → news ≡ xs ++ x ∷ [] → map v xs ≡ map w ys → v x ≡ w y → map v news ≡ map w (ys ++ y ∷ [])
same_push v w xs news ys x y is same at =
    ap (map v) is ∙ map_push v xs x ∙ ap (λ fs. fs ++ v x ∷ []) same ∙ ap (λ f. map w ys ++ f ∷ []) at ∙ sym (map_push w ys y)

pub all_push : {X : Type 0} (P : X → Type 0) (xs news : List X) (x : X) → news ≡ xs ++ x ∷ [] → All P xs → P x → All P news
all_push {X} P xs news x is h p = subst (λ (ys : List X). All P ys) (sym is) (All-push P xs x h p)
