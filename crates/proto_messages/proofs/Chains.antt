-- What is found where texts are tested one after the other.
use Rattle.std.proofs.Common.{◌≡◌, Bool, true, false, if◌then◌else◌, ap, ◌∙◌}

-- the first test holds
pub first : {A : Type 0} {a : Bool} (v w : A) → a ≡ true → (if a then v else w) ≡ v
first {A} {a} v w p = ap (λ (t : Bool). if t then v else w) p

-- the second test holds
pub second : {A : Type 0} {a b : Bool} (v w x : A) → a ≡ false → b ≡ true → (if a then v else (if b then w else x)) ≡ w
second {A} {a} {b} v w x p q =
    ap (λ (t : Bool). if t then v else (if b then w else x)) p
    ∙ ap (λ (t : Bool). if t then w else x) q

-- the third test holds
pub third : {A : Type 0} {a b c : Bool} (v w x y : A) → a ≡ false → b ≡ false → c ≡ true → (if a then v else (if b then w else (if c then x else y))) ≡ x
third {A} {a} {b} {c} v w x y p q r =
    ap (λ (t : Bool). if t then v else (if b then w else (if c then x else y))) p
    ∙ ap (λ (t : Bool). if t then w else (if c then x else y)) q
    ∙ ap (λ (t : Bool). if t then x else y) r

-- the fourth test holds
pub fourth : {A : Type 0} {a b c d : Bool} (v w x y z : A) → a ≡ false → b ≡ false → c ≡ false → d ≡ true → (if a then v else (if b then w else (if c then x else (if d then y else z)))) ≡ y
fourth {A} {a} {b} {c} {d} v w x y z p q r s =
    ap (λ (t : Bool). if t then v else (if b then w else (if c then x else (if d then y else z)))) p
    ∙ ap (λ (t : Bool). if t then w else (if c then x else (if d then y else z))) q
    ∙ ap (λ (t : Bool). if t then x else (if d then y else z)) r
    ∙ ap (λ (t : Bool). if t then y else z) s

-- no test holds
pub none : {A : Type 0} {a b c d : Bool} (v w x y z : A) → a ≡ false → b ≡ false → c ≡ false → d ≡ false → (if a then v else (if b then w else (if c then x else (if d then y else z)))) ≡ z
none {A} {a} {b} {c} {d} v w x y z p q r s =
    ap (λ (t : Bool). if t then v else (if b then w else (if c then x else (if d then y else z)))) p
    ∙ ap (λ (t : Bool). if t then w else (if c then x else (if d then y else z))) q
    ∙ ap (λ (t : Bool). if t then x else (if d then y else z)) r
    ∙ ap (λ (t : Bool). if t then y else z) s
