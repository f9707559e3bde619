-- Lists that are made of others, element by element.
use Rattle.std.proofs.Common.{◌≡◌, ◌+◌, ◌<◌, ◌≤◌, ◌++◌, ℕ, List, [], ◌∷◌, get_or, length, take, take_all, subst, sym}
use Rattle.std.specs.List.{AllZip}
use Rattle.std.proofs.lemmas.Slice.Zip.{all_zipped_more}
use Rattle.proto_base.proofs.Common.{take_more}

-- one more on both sides
pub zipped_turn : {A B : Type 0} (R : A → B → Type 0) (xs : List A) (ys zs : List B) (i : ℕ) (d : A) (y : B) → i < length xs → AllZip R (take i xs) ys → R (get_or xs i d) y → zs ≡ ys ++ y ∷ [] → AllZip R (take (i + 1) xs) zs
zipped_turn {A = A} {B = B} R xs ys zs i d y lt before here grown =
    subst (λ (l : List A). AllZip R l zs) (sym (take_more xs i d lt))
    (subst (λ (l : List B). AllZip R (take i xs ++ get_or xs i d ∷ []) l) (sym grown) (all_zipped_more R (take i xs) ys (get_or xs i d) y before here))

-- the same of an element that is named
pub zipped_more : {A B : Type 0} (R : A → B → Type 0) (xs : List A) (ys zs : List B) (i : ℕ) (x : A) (y : B) → i < length xs → x ≡ get_or xs i x → AllZip R (take i xs) ys → R x y → zs ≡ ys ++ y ∷ [] → AllZip R (take (i + 1) xs) zs
zipped_more {A = A} R xs ys zs i x y lt at before here grown = zipped_turn R xs ys zs i x y lt before (subst (λ (z : A). R z y) at here) grown

-- all of them
pub zipped_all : {A B : Type 0} (R : A → B → Type 0) (xs : List A) (ys : List B) (i : ℕ) → length xs ≤ i → AllZip R (take i xs) ys → AllZip R xs ys
zipped_all {A = A} R xs ys i end before = subst (λ (l : List A). AllZip R l ys) (take_all i xs end) before

-- one list behind another on both sides
pub zipped_append : {A B : Type 0} (R : A → B → Type 0) (xs us : List A) (ys vs : List B) → AllZip R xs ys → AllZip R us vs → AllZip R (xs ++ us) (ys ++ vs)
zipped_append R [] us [] vs a b = b
zipped_append R [] us (y ∷ ys) vs a b = absurd a
zipped_append R (x ∷ xs) us [] vs a b = absurd a
zipped_append R (x ∷ xs) us (y ∷ ys) vs a b = (a.0, zipped_append R xs us ys vs a.1 b)
