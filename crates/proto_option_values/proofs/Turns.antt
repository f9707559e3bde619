-- The least of the elements so far and of those that are left.
use Rattle.std.proofs.Common.{◌≡◌, ℕ, ◌+◌, ◌<◌, ◌≤◌, min, List, [], ◌∷◌, ◌++◌, length, get_or, drop, Option, Some, None, refl, sym, ap, ◌∙◌, arith}
use Rattle.proto_base.proofs.Common.{drop_all, front_element}
use Rattle.proto_option_values.specs.Words.{least, lesser}

pub lesser_none : (a : Option ℕ) → lesser a None ≡ a
lesser_none None = refl
lesser_none (Some a) = refl

pub lesser_joined : (a b c : Option ℕ) → lesser (lesser a b) c ≡ lesser a (lesser b c)
lesser_joined None b c = refl
lesser_joined (Some a) None c = refl
lesser_joined (Some a) (Some b) None = refl
lesser_joined (Some a) (Some b) (Some c) = let e : min (min a b) c ≡ min a (min b c) = omega arith in ap Some e

pub least_joined : {X : Type 0} (token : X → Option ℕ) (xs ys : List X) → least token (xs ++ ys) ≡ lesser (least token xs) (least token ys)
least_joined token [] ys = refl
least_joined token (x ∷ xs) ys = ap (lesser (token x)) (least_joined token xs ys) ∙ sym (lesser_joined (token x) (least token xs) (least token ys))

-- with one element more
pub least_turn : {X : Type 0} (whole_of : List X → Option ℕ) (token : X → Option ℕ) → ((x : X) (xs : List X) → whole_of (x ∷ xs) ≡ lesser (token x) (whole_of xs))
    → (xs : List X) (i : ℕ) (x d : X) (found next whole : Option ℕ) → i < length xs → x ≡ get_or xs i d
    → next ≡ lesser found (token x) → lesser found (whole_of (drop i xs)) ≡ whole → lesser next (whole_of (drop (i + 1) xs)) ≡ whole
least_turn whole_of token by xs i x d found next whole lt is new before =
    let rest : List _ = drop (i + 1) xs in
    ap (λ o. lesser o (whole_of rest)) new ∙ lesser_joined found (token x) (whole_of rest)
    ∙ ap (lesser found) (sym (by x rest))
    ∙ ap (λ (ys : List _). lesser found (whole_of ys)) (sym (front_element xs i x d lt is)) ∙ before

-- and with none left
pub all_least : {X : Type 0} (whole_of : List X → Option ℕ) → whole_of [] ≡ None → (xs : List X) (i : ℕ) (found whole : Option ℕ) → length xs ≤ i → lesser found (whole_of (drop i xs)) ≡ whole → found ≡ whole
all_least whole_of none xs i found whole le before =
    sym (lesser_none found) ∙ ap (lesser found) (sym none) ∙ ap (λ (ys : List _). lesser found (whole_of ys)) (sym (drop_all i xs le)) ∙ before
