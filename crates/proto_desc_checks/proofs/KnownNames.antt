-- Names that are known: a list of them without repeats has the same names.
use Rattle.std.proofs.Common.{◌≡◌, ℕ, Bool, true, false, ◌||◌, List, [], ◌∷◌, ◌++◌, map, flat_map, refl, sym, ap, ◌∙◌, if◌then◌else◌, bytes_eq}
use Rattle.proto_base.proofs.Common.{list_any, map-append, list_any-append, bytes_eq-Decides, any_map}

or_right : (a b : Bool) → (b ≡ true → a ≡ true) → a ≡ (a || (b || false))
or_right true b h = refl
or_right false true h = h refl
or_right false false h = refl

with_one : (names : List (List ℕ)) (name w : List ℕ) → list_any (bytes_eq w) (names ++ name ∷ []) ≡ (list_any (bytes_eq w) names || (bytes_eq w name || false))
with_one names name w = list_any-append (bytes_eq w) names (name ∷ [])

inserted : {A : Type 0} (f : A → List ℕ) (keys : List A) (x : A) (w : List ℕ) (b : Bool) → b ≡ list_any (λ k. bytes_eq (f x) (f k)) keys
    → list_any (bytes_eq w) (map f (if b then keys else keys ++ x ∷ [])) ≡ (list_any (bytes_eq w) (map f keys) || (bytes_eq w (f x) || false))
inserted f keys x w true e =
    or_right (list_any (bytes_eq w) (map f keys)) (bytes_eq w (f x))
    (λ same. let is = (bytes_eq-Decides w (f x)).0 same in
    ap (λ (v : List ℕ). list_any (bytes_eq v) (map f keys)) is ∙ any_map (bytes_eq (f x)) f keys ∙ sym e)
inserted f keys x w false e = ap (list_any (bytes_eq w)) (map-append f keys (x ∷ [])) ∙ with_one (map f keys) (f x) w

-- a key more, and the name that it is seen as
pub known_more : {A : Type 0} (f : A → List ℕ) (keys after : List A) (names : List (List ℕ)) (x : A) (w : List ℕ) → after ≡ (if list_any (λ k. bytes_eq (f x) (f k)) keys then keys else keys ++ x ∷ []) → list_any (bytes_eq w) (map f keys) ≡ list_any (bytes_eq w) names → list_any (bytes_eq w) (map f after) ≡ list_any (bytes_eq w) (names ++ f x ∷ [])
known_more f keys after names x w e h =
    ap (λ (ks : List _). list_any (bytes_eq w) (map f ks)) e
    ∙ inserted f keys x w (list_any (λ k. bytes_eq (f x) (f k)) keys) refl
    ∙ ap (λ (b : Bool). b || (bytes_eq w (f x) || false)) h
    ∙ sym (with_one names (f x) w)

pub flat_map_same : {A B : Type 0} (f g : A → List B) → ((x : A) → f x ≡ g x) → (xs : List A) → flat_map f xs ≡ flat_map g xs
flat_map_same f g e [] = refl
flat_map_same f g e (x ∷ xs) = ap (λ (ys : List _). ys ++ flat_map f xs) (e x) ∙ ap (λ (ys : List _). g x ++ ys) (flat_map_same f g e xs)
