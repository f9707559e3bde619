-- General lemmas on loops over a list, for every crate above: one turn more, and the end.
use Rattle.std.proofs.Common.{◌≡◌, ℕ, ◌+◌, ◌<◌, ◌≤◌, Bool, true, false, ◌&&◌, ◌||◌, List, [], ◌∷◌, ◌++◌, length, get_or, take, drop, map, flat_map, refl, sym, ap, ◌∙◌, append_assoc, append-nil, take_all}
use Rattle.std.specs.List.{list_any}
use Rattle.std.proofs.lemmas.List.{drop_all, drop_more, flat_map_more, map_more, map_push, take_more}

-- ---- what is found so far is that of the elements before

-- the elements as they are seen, with one more
pub taken_more : {X Y : Type 0} (seen : X → Y) (xs : List X) (i : ℕ) (x d : X) → i < length xs → x ≡ get_or xs i d → map seen (take i xs) ++ seen x ∷ [] ≡ map seen (take (i + 1) xs)
taken_more seen xs i x d lt is = ap (λ (y : _). map seen (take i xs) ++ seen y ∷ []) is ∙ sym (map_more seen xs i d lt)

-- what is behind something else, with one element more
pub pushed_more : {X A : Type 0} (f : X → A) (before : List A) (xs : List X) (i : ℕ) (x d : X) (found next : List A) → i < length xs → x ≡ get_or xs i d
    → next ≡ found ++ f x ∷ [] → found ≡ before ++ map f (take i xs) → next ≡ before ++ map f (take (i + 1) xs)
pushed_more f before xs i x d found next lt is new same =
    new ∙ ap (λ (ys : List _). ys ++ f x ∷ []) same ∙ append_assoc before (map f (take i xs)) (f x ∷ []) ∙ ap (λ (ys : List _). before ++ ys) (taken_more f xs i x d lt is)

-- a list of what the elements are seen to have
pub listed_more : {X Y A : Type 0} (f : Y → A) (seen : X → Y) (xs : List X) (i : ℕ) (x d : X) (found next : List A) → i < length xs → x ≡ get_or xs i d
    → next ≡ found ++ f (seen x) ∷ [] → found ≡ map f (map seen (take i xs)) → next ≡ map f (map seen (take (i + 1) xs))
listed_more f seen xs i x d found next lt is new same =
    new ∙ ap (λ (ys : List _). ys ++ f (seen x) ∷ []) same ∙ sym (map_push f (map seen (take i xs)) (seen x)) ∙ ap (map f) (taken_more seen xs i x d lt is)

pub listed_all : {X Y A : Type 0} (f : Y → A) (seen : X → Y) (xs : List X) (i : ℕ) (found : List A) → length xs ≤ i → found ≡ map f (map seen (take i xs)) → found ≡ map f (map seen xs)
listed_all f seen xs i found past same = same ∙ ap (λ (ys : List _). map f (map seen ys)) (take_all i xs past)

-- what is added for each of the elements, as they are seen
pub seen_more : {X Y A : Type 0} (f : Y → List A) (seen : X → Y) (xs : List X) (i : ℕ) (x d : X) (before found next : List A) → i < length xs → x ≡ get_or xs i d
    → next ≡ found ++ f (seen x) → found ≡ before ++ flat_map f (map seen (take i xs)) → next ≡ before ++ flat_map f (map seen (take (i + 1) xs))
seen_more f seen xs i x d before found next lt is new same =
    new ∙ ap (λ (ys : List _). ys ++ f (seen x)) same
    ∙ flat_map_more f before (map seen (take i xs)) (seen x)
    ∙ ap (λ (ys : List _). before ++ flat_map f ys) (taken_more seen xs i x d lt is)

pub seen_all : {X Y A : Type 0} (f : Y → List A) (seen : X → Y) (xs : List X) (i : ℕ) (before found : List A) → length xs ≤ i → found ≡ before ++ flat_map f (map seen (take i xs)) → found ≡ before ++ flat_map f (map seen xs)
seen_all f seen xs i before found past same = same ∙ ap (λ (ys : List _). before ++ flat_map f (map seen ys)) (take_all i xs past)

-- the same where they are seen as they are
pub added_more : {X A : Type 0} (f : X → List A) (xs : List X) (i : ℕ) (x d : X) (before found next : List A) → i < length xs → x ≡ get_or xs i d
    → next ≡ found ++ f x → found ≡ before ++ flat_map f (take i xs) → next ≡ before ++ flat_map f (take (i + 1) xs)
added_more f xs i x d before found next lt is new same =
    new ∙ ap (λ (ys : List _). ys ++ f x) same
    ∙ flat_map_more f before (take i xs) x
    ∙ ap (λ (ys : List _). before ++ flat_map f ys) (ap (λ (y : _). take i xs ++ y ∷ []) is ∙ sym (take_more xs i d lt))

pub added_all : {X A : Type 0} (f : X → List A) (xs : List X) (i : ℕ) (before found : List A) → length xs ≤ i → found ≡ before ++ flat_map f (take i xs) → found ≡ before ++ flat_map f xs
added_all f xs i before found past same = same ∙ ap (λ (ys : List _). before ++ flat_map f ys) (take_all i xs past)

-- what is added before what is added behind it
pub then_added : {A : Type 0} (a rest before found last : List A) → found ≡ before ++ a → last ≡ found ++ rest → last ≡ before ++ (a ++ rest)
then_added a rest before found last first second = second ∙ ap (λ (ys : List _). ys ++ rest) first ∙ append_assoc before a rest

-- ---- what is found so far, and what is left

-- what is left begins with the next element
pub front_element : {X : Type 0} (xs : List X) (i : ℕ) (x d : X) → i < length xs → x ≡ get_or xs i d → drop i xs ≡ x ∷ drop (i + 1) xs
front_element xs i x d lt is = drop_more xs i d lt ∙ ap (λ (y : _). y ∷ drop (i + 1) xs) (sym is)

-- what is listed of elements, with one element more
pub listed_turn : {X A : Type 0} (listed : List X → List A) (part : X → List A) → ((x : X) (xs : List X) → listed (x ∷ xs) ≡ part x ++ listed xs)
    → (xs : List X) (i : ℕ) (x d : X) (found next whole : List A) → i < length xs → x ≡ get_or xs i d
    → next ≡ found ++ part x → found ++ listed (drop i xs) ≡ whole → next ++ listed (drop (i + 1) xs) ≡ whole
listed_turn listed part by xs i x d found next whole lt is new before =
    let rest : List _ = drop (i + 1) xs in
    ap (λ ps. ps ++ listed rest) new ∙ append_assoc found (part x) (listed rest)
    ∙ ap (λ ps. found ++ ps) (sym (by x rest))
    ∙ ap (λ (ys : List _). found ++ listed ys) (sym (front_element xs i x d lt is)) ∙ before

-- the same of two lists, one by one
pub both_turn : {X Y A : Type 0} (listed : List X → List Y → List A) (part : X → Y → List A) → ((x : X) (xs : List X) (y : Y) (ys : List Y) → listed (x ∷ xs) (y ∷ ys) ≡ part x y ++ listed xs ys)
    → (xs : List X) (ys : List Y) (i : ℕ) (x d : X) (y e : Y) (found next whole : List A) → i < length xs → i < length ys → x ≡ get_or xs i d → y ≡ get_or ys i e
    → next ≡ found ++ part x y → found ++ listed (drop i xs) (drop i ys) ≡ whole → next ++ listed (drop (i + 1) xs) (drop (i + 1) ys) ≡ whole
both_turn listed part by xs ys i x d y e found next whole less lt is too new before =
    let left : List _ = drop (i + 1) xs in
    let right : List _ = drop (i + 1) ys in
    ap (λ ps. ps ++ listed left right) new ∙ append_assoc found (part x y) (listed left right)
    ∙ ap (λ ps. found ++ ps) (sym (by x left y right))
    ∙ ap (λ (zs : List _). found ++ listed (x ∷ left) zs) (sym (front_element ys i y e lt too))
    ∙ ap (λ (zs : List _). found ++ listed zs (drop i ys)) (sym (front_element xs i x d less is)) ∙ before

-- what one element more gives, as the elements are seen
pub given_turn : {X Y A : Type 0} (part : Y → List A) (view : X → Y) (xs : List X) (i : ℕ) (x d : X) (found next whole : List A) → i < length xs → x ≡ get_or xs i d
    → next ≡ found ++ part (view x) → found ++ flat_map part (map view (drop i xs)) ≡ whole
    → next ++ flat_map part (map view (drop (i + 1) xs)) ≡ whole
given_turn part view xs i x d found next whole lt is new before =
    listed_turn (λ ys. flat_map part (map view ys)) (λ y. part (view y)) (λ y ys. refl) xs i x d found next whole lt is new before

-- and with none left
pub all_listed : {X A : Type 0} (listed : List X → List A) → listed [] ≡ [] → (xs : List X) (i : ℕ) (found whole : List A) → length xs ≤ i → found ++ listed (drop i xs) ≡ whole → found ≡ whole
all_listed listed none xs i found whole le before =
    sym (append-nil found) ∙ ap (λ ys. found ++ ys) (sym none) ∙ ap (λ (ys : List _). found ++ listed ys) (sym (drop_all i xs le)) ∙ before

-- ---- tests

-- whether one of what is left passes, by the next element
module _ {X Y : Type 0} (test : Y → Bool) (view : X → Y) (xs : List X) (i : ℕ) (x d : X) (lt : i < length xs) (is : x ≡ get_or xs i d) where
  abbrev rest : Bool
  rest = list_any test (map view (drop (i + 1) xs))

  next_any : list_any test (map view (drop i xs)) ≡ (test (view x) || rest)
  next_any = ap (λ (ys : List X). list_any test (map view ys)) (front_element xs i x d lt is)

  pub passed_over : test (view x) ≡ false → list_any test (map view (drop i xs)) ≡ rest
  passed_over e = next_any ∙ ap (λ b. b || rest) e

  pub stops_here : test (view x) ≡ true → list_any test (map view (drop i xs)) ≡ true
  stops_here e = next_any ∙ ap (λ b. b || rest) e

pub none_passed : {X Y : Type 0} (test : Y → Bool) (view : X → Y) (xs : List X) (i : ℕ) → length xs ≤ i → list_any test (map view (drop i xs)) ≡ false
none_passed test view xs i le = ap (λ (ys : List _). list_any test (map view ys)) (drop_all i xs le)

-- a test behind another
pub and_then : (both a b : Bool) → a ≡ true → both ≡ b → both ≡ (a && b)
and_then both a b is same = same ∙ sym (ap (λ (c : Bool). c && b) is)

pub and_else : (both a b : Bool) → a ≡ false → both ≡ false → both ≡ (a && b)
and_else both a b is same = same ∙ sym (ap (λ (c : Bool). c && b) is)
