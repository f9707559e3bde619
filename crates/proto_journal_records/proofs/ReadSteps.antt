-- Steps of the loops that read lists, and which places of splices fit their numbers.
use Rattle.std.proofs.Common.{◌≡◌, ℕ, zero, suc, ◌+◌, ◌-◌, ◌<◌, ◌^◌, List, [], ◌∷◌, ◌++◌, map, take, length, get_or, refl, ap, arith, All, Option, None, Some, Result, Ok, Err, pos, decimal, option_and_then, ◌∙◌}
use Rattle.std.proofs.lemmas.List.Elements.{All-nil, All-cons, All-head, All-tail}
use Rattle.std.proofs.lemmas.Fmt.{parse-decimal}
use Rattle.std.proofs.lemmas.Option.{MatchOption-at_some}
use Rattle.std.specs.Int.{FitsUnsignedBits}
use Rattle.std.specs.Prelude.{MatchOption, OkIff, ok_or, unsigned_abs}
use Rattle.std.specs.Result.{result_ok}
use Rattle.std.specs.Str.Parse.{ParsesUnsigned}
use Rattle.std.specs.declared.alloc.Global.{Global}
use Rattle.json.specs.Find.{as_number}
use Rattle.json.specs.Json.{Json}
use Rattle.json.specs.Value.{value_view, items_view}
use Rattle.json.specs.declared.value.Value.{Value}
use Rattle.serde_json.specs.Data.{Data}
use Rattle.serde_json.specs.View.{items_of}
use Rattle.serde_json.specs.Written.{outline, items_outline}
use Rattle.proto_text.specs.Edits.{Edit, AreShort}

cons_step : {X : Type 0} (x y : X) (xs : List X) (i : ℕ) → take (suc i) xs ≡ take i xs ++ y ∷ [] → x ∷ take (suc i) xs ≡ x ∷ (take i xs ++ y ∷ [])
cons_step x y xs i e = ap (λ t. x ∷ t) e

-- the item at a place of the values is that of the list there
pub item_step : {X : Type 0} (f : X → Data) (P : X → Type 0) (vs : List (Value Global)) (xs : List X) (i : ℕ) (d : Value Global) → i < length vs → All P xs → items_view vs ≡ items_outline (items_of (map f xs))
    → (x : X) × P x × (value_view (get_or vs i d) ≡ outline (f x)) × (take (suc i) xs ≡ take i xs ++ x ∷ [])
item_step f P [] xs i d h all e = absurd (omega arith)
item_step f P (v ∷ vs) [] i d h all e = cc
item_step f P (v ∷ vs) (x ∷ xs) zero d h all e = let head : value_view v ≡ outline (f x) = cc in (x, All-head P x xs all, head, refl)
item_step f P (v ∷ vs) (x ∷ xs) (suc i) d h all e =
    let tail : items_view vs ≡ items_outline (items_of (map f xs)) = cc in
    let r = item_step f P vs xs i d (omega arith) (All-tail P x xs all) tail in
    (r.0, r.1, r.2, cons_step x r.0 xs i r.3)

pub same_lengths : {X : Type 0} (f : X → Data) (vs : List (Value Global)) (xs : List X) → items_view vs ≡ items_outline (items_of (map f xs)) → length xs ≡ length vs
same_lengths f [] [] e = refl
same_lengths f [] (x ∷ xs) e = cc
same_lengths f (v ∷ vs) [] e = cc
same_lengths f (v ∷ vs) (x ∷ xs) e = let tail : items_view vs ≡ items_outline (items_of (map f xs)) = cc in ap suc (same_lengths f vs xs tail)

ok_some : (found : Option ℕ) (s : List ℕ) (n : ℕ) → ok_or found s ≡ Ok n → found ≡ Some n
ok_some None s n e = cc
ok_some (Some m) s n e = cc

-- a value that has the text of a number gives the number
pub number_is : (o : Option Json) (v : Json) (found : Option ℕ) (n : ℕ) → Some v ≡ o → MatchOption (as_number v) (found ≡ None) (λ s. ParsesUnsigned 64 10 s (ok_or found s)) → n < 2 ^ 64
    → option_and_then as_number o ≡ Some (decimal n) → found ≡ Some n
number_is o v found n is h fits e = ok_some found (decimal n) n
    (parse-decimal 64 n (decimal n) (ok_or found (decimal n)) fits fits refl
    (MatchOption-at_some (found ≡ None) (λ s. ParsesUnsigned 64 10 s (ok_or found s)) (decimal n) (ap (option_and_then as_number) is ∙ e) h))

pub same_some : (a b : ℕ) → Some a ≡ Some b → a ≡ b
same_some a b e = cc

-- a number of 32 bits is narrowed to itself
pub narrowed : {E : Type 0} (x n : ℕ) (r : Result ℕ E) → x ≡ n → n < 2 ^ 32 → OkIff r (FitsUnsignedBits 32 (pos x)) (unsigned_abs (pos x)) → result_ok r ≡ Some n
narrowed x n (Ok y) same small h = ap Some (h.1 ∙ same)
narrowed x n (Err e) same small h = absurd (h (omega (arith, same, small)))

-- splices in order begin at numbers of 32 bits
pub places_fit : (to from : ℕ) (es : List Edit) → AreShort to from es → All (λ e. e.at < 2 ^ 32) es
places_fit to from [] h = All-nil (λ (x : Edit). x.at < 2 ^ 32)
places_fit to from (e ∷ es) h = All-cons (λ (x : Edit). x.at < 2 ^ 32) e es (omega (arith, h.1)) (places_fit ((to + (e.at - from)) + length e.new) (e.at + length e.old) es h.3)
