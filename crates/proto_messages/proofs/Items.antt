-- Items of arrays as lists, and their values one by one.
use Rattle.std.proofs.Common.{◌≡◌, ℕ, suc, ◌+◌, ◌-◌, ◌<◌, ◌≤◌, ◌==◌, List, [], ◌∷◌, ◌++◌, map, take, get_or, length, refl, sym, ap, ◌∙◌, take_all, Option, Some, slice_get, arith}
use Rattle.std.proofs.lemmas.List.{length-map, map-append, map_more}
use Rattle.serde_json.specs.Data.{Data}
use Rattle.serde_json.specs.View.{items_of, view}
use Rattle.serde_json.specs.declared.value.Value.{Value}
use Rattle.proto_messages.specs.Reading.{items_list, last_of}

-- a list is that of its items
pub items_in_order : (ds : List Data) → items_list (items_of ds) ≡ ds
items_in_order [] = refl
items_in_order (d ∷ ds) = ap (λ es. d ∷ es) (items_in_order ds)

-- one value more
pub value_more : {A : Type 0} (data_of : A → Data) (xs : List A) (i : ℕ) (x : A) (found next : List Value) (v : Value) → i < length xs → x ≡ get_or xs i x
    → next ≡ found ++ v ∷ [] → view v ≡ data_of x → map view found ≡ map data_of (take i xs) → map view next ≡ map data_of (take (i + 1) xs)
value_more data_of xs i x found next v lt is pushed seen before =
    ap (map view) pushed
    ∙ map-append view found (v ∷ [])
    ∙ ap (λ ds. ds ++ view v ∷ []) before
    ∙ ap (λ d. map data_of (take i xs) ++ d ∷ []) (seen ∙ ap data_of is)
    ∙ sym (map_more data_of xs i x lt)

-- the last value
pub last_is : (vs : List Value) (v : Value) → Some v ≡ slice_get vs (length vs - 1) → last_of (map view vs) ≡ Some (view v)
last_is [] v is = absurd cc
last_is (x ∷ []) v is = let same : x ≡ v = cc in ap (λ (y : Value). some (view y)) same
  where
    some : Data → Option Data
    some d = Some d
last_is (x ∷ y ∷ ys) v is =
    let at : length (x ∷ y ∷ ys) - 1 ≡ suc (length ys) = omega arith in
    let below : length ys ≡ length (y ∷ ys) - 1 = omega arith in
    last_is (y ∷ ys) v (is ∙ ap (slice_get (x ∷ y ∷ ys)) at ∙ ap (slice_get (y ∷ ys)) below)

-- there are as many values
pub none_listed : (vs : List Value) → (length (map view vs) == 0) ≡ (length vs == 0)
none_listed vs = ap (λ n. n == 0) (length-map vs view)

-- all values
pub values_all : {A : Type 0} (data_of : A → Data) (xs : List A) (i : ℕ) (found : List Value) → length xs ≤ i → map view found ≡ map data_of (take i xs) → map view found ≡ map data_of xs
values_all data_of xs i found past before = before ∙ ap (λ (ys : List _). map data_of ys) (take_all i xs past)
