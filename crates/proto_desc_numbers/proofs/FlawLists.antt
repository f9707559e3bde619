-- Lists of flaws: tokens that are marked, keys that repeat, and the least flaw (for the crates above).
use Rattle.std.proofs.Common.{◌≡◌, ◌≢◌, ℕ, zero, suc, ◌+◌, ◌<◌, ◌≤◌, Bool, true, false, ◌||◌, ◌&&◌, ◌==◌, List, [], ◌∷◌, ◌++◌, length, get_or, take, drop, map, flat_map, Option, Some, None, refl, sym, ap, subst, ◌∙◌, if◌then◌else◌, append_assoc, inl, inr, ◌⊎◌, arith, nat_lt, not, Contains, eqb-true, eq-eqb, ltb-false, le-ltb, take_all, take-append-drop}
use Rattle.std.proofs.Math.Bool.{not-not}
use Rattle.proto_base.proofs.Common.{list_any, cases_Bool, cases_lt, flat_map_more, take_more, Contains-append_left, Contains-append_right, Contains-append_cases, list_any-append, kind_number, contains_cases}
use Rattle.proto_base.specs.declared.fault.FaultKind.{FaultKind}
use Rattle.proto_desc_numbers.specs.Common.{Flaw, flaw_if, earlier, after_earlier, marked, comes_before, IsLeastOfFlaws}

-- ---- marked tokens

pub marked_more : (kind : FaultKind) (ts : List ℕ) (bs : List Bool) (i : ℕ) (t : ℕ) (b : Bool) → i < length ts → length ts ≡ length bs
    → marked kind (take (i + 1) ts) (take (i + 1) bs) ≡ marked kind (take i ts) (take i bs) ++ flaw_if (get_or bs i b) kind (get_or ts i t)
marked_more kind [] bs i t b h e = absurd (omega (arith, h))
marked_more kind (x ∷ ts) [] i t b h e = absurd (omega (arith, e))
marked_more kind (x ∷ ts) (y ∷ bs) zero t b h e = append_nil (flaw_if y kind x)
  where
    append_nil : (xs : List Flaw) → xs ++ [] ≡ [] ++ xs
    append_nil [] = refl
    append_nil (x ∷ xs) = ap (λ (ys : List Flaw). x ∷ ys) (append_nil xs)
marked_more kind (x ∷ ts) (y ∷ bs) (suc i) t b h e =
    let one : i + 1 ≡ suc i = omega arith in
    let two : suc i + 1 ≡ suc (suc i) = omega arith in
    let P : ℕ → Type 0 = λ n. marked kind (take n ts) (take n bs) ≡ marked kind (take i ts) (take i bs) ++ flaw_if (get_or bs i b) kind (get_or ts i t) in
    let Q : ℕ → Type 0 = λ n. marked kind (take n (x ∷ ts)) (take n (y ∷ bs)) ≡ (flaw_if y kind x ++ marked kind (take i ts) (take i bs)) ++ flaw_if (get_or bs i b) kind (get_or ts i t) in
    let more : P (suc i) = subst P one (marked_more kind ts bs i t b (omega (arith, h)) (omega (arith, e))) in
    let all : Q (suc (suc i)) = ap (λ (zs : List Flaw). flaw_if y kind x ++ zs) more ∙ sym (append_assoc (flaw_if y kind x) (marked kind (take i ts) (take i bs)) (flaw_if (get_or bs i b) kind (get_or ts i t))) in
    subst Q (sym two) all

pub marked_whole : (kind : FaultKind) (ts : List ℕ) (bs : List Bool) (i : ℕ) → length ts ≤ i → length ts ≡ length bs → marked kind (take i ts) (take i bs) ≡ marked kind ts bs
marked_whole kind ts bs i h e = ap (λ (z : List ℕ). marked kind z (take i bs)) (take_all i ts h) ∙ ap (λ (z : List Bool). marked kind ts z) (take_all i bs (omega (arith, h, e)))

-- the flaws of one element more, at its token where this holds of it
pub flaws_turn : {X : Type 0} (holds : X → Bool) (kind : FaultKind) (token : X → ℕ) (xs : List X) (i : ℕ) (d : X) (start before after : List Flaw) (flag : Bool) → i < length xs
    → before ≡ start ++ flat_map (λ x. flaw_if (holds x) kind (token x)) (take i xs) → flag ≡ holds (get_or xs i d)
    → after ≡ before ++ flaw_if flag kind (token (get_or xs i d)) → after ≡ start ++ flat_map (λ x. flaw_if (holds x) kind (token x)) (take (i + 1) xs)
flaws_turn {X = X} holds kind token xs i d start before after flag lt was is e =
    let flaws : X → List Flaw = λ x. flaw_if (holds x) kind (token x) in
    e
    ∙ ap (λ (z : List Flaw). z ++ flaw_if flag kind (token (get_or xs i d))) was
    ∙ ap (λ (b : Bool). (start ++ flat_map flaws (take i xs)) ++ flaw_if b kind (token (get_or xs i d))) is
    ∙ flat_map_more flaws start (take i xs) (get_or xs i d)
    ∙ ap (λ (z : List _). start ++ flat_map flaws z) (sym (take_more xs i d lt))

-- the flaws of all elements, where a loop ends
pub flaws_end : {X : Type 0} (holds : X → Bool) (kind : FaultKind) (token : X → ℕ) (xs : List X) (i : ℕ) (start found : List Flaw) → length xs ≤ i
    → found ≡ start ++ flat_map (λ x. flaw_if (holds x) kind (token x)) (take i xs) → found ≡ start ++ flat_map (λ x. flaw_if (holds x) kind (token x)) xs
flaws_end holds kind token xs i start found past are = are ∙ ap (λ (ys : List _). start ++ flat_map (λ x. flaw_if (holds x) kind (token x)) ys) (take_all i xs past)

-- ---- repeated keys

pub repeats_snoc : {K : Type 0} (eq : K → K → Bool) (front xs : List K) (x : K) → earlier eq front (xs ++ x ∷ []) ≡ earlier eq front xs ++ list_any (λ p. eq p x) (front ++ xs) ∷ []
repeats_snoc eq front [] x = ap (λ (ys : List _). list_any (λ p. eq p x) ys ∷ []) (nil_right front)
  where
    nil_right : {K : Type 0} (ys : List K) → ys ≡ ys ++ []
    nil_right [] = refl
    nil_right (y ∷ ys) = ap (λ (zs : List _). y ∷ zs) (nil_right ys)
repeats_snoc eq front (k ∷ xs) x =
    ap (λ (bs : List Bool). list_any (λ p. eq p k) front ∷ bs) (repeats_snoc eq (front ++ k ∷ []) xs x ∙ ap (λ (ys : List _). earlier eq (front ++ k ∷ []) xs ++ list_any (λ p. eq p x) ys ∷ []) (append_assoc front (k ∷ []) xs))

pub repeats_length : {K : Type 0} (eq : K → K → Bool) (front xs : List K) → length (earlier eq front xs) ≡ length xs
repeats_length eq front [] = refl
repeats_length eq front (k ∷ xs) = ap suc (repeats_length eq (front ++ k ∷ []) xs)

pub new_is : (added old front : Bool) → added ≡ not old → old ≡ front → not added ≡ front
new_is added old front e h = ap not e ∙ not-not old ∙ h

pub seen_more : {K : Type 0} (eq : K → K → Bool) (front : List K) (key q : K) (now before : Bool) → now ≡ (if eq key q then true else before) → before ≡ list_any (λ p. eq p q) front → now ≡ list_any (λ p. eq p q) (front ++ key ∷ [])
seen_more eq front key q now before e h = e ∙ by (eq key q) before (list_any (λ p. eq p q) front) h ∙ sym (list_any-append (λ p. eq p q) front (key ∷ []))
  where
    by : (b x y : Bool) → x ≡ y → (if b then true else x) ≡ (y || (b || false))
    by true x true h = refl
    by true x false h = refl
    by false x true h = h
    by false x false h = h

-- ---- the least

abbrev before : (t n u m : ℕ) → Bool
before t n u m = nat_lt t u || (t == u && nat_lt n m)

abbrev NotBefore : (t n u m : ℕ) → Type 0
NotBefore t n u m = (u < t) ⊎ ((t ≡ u) × (m ≤ n))

pub or_false : (a b : Bool) → (a || b) ≡ false → (a ≡ false) × (b ≡ false)
or_false true b h = absurd (cc)
or_false false b h = (refl, h)

pub false_or : (a b : Bool) → a ≡ false → b ≡ false → (a || b) ≡ false
false_or true b h k = absurd (cc)
false_or false b h k = k

and_false : (a b : Bool) → (a && b) ≡ false → (a ≡ false) ⊎ ((a ≡ true) × (b ≡ false))
and_false true b h = inr (refl, h)
and_false false b h = inl refl

false_and : (a b : Bool) → (a ≡ false) ⊎ (b ≡ false) → (a && b) ≡ false
false_and true b (inl h) = absurd (cc)
false_and true b (inr h) = h
false_and false b h = refl

not_equal : (a b : ℕ) → (a == b) ≡ false → a ≢ b
not_equal a b h e = let t = eq-eqb a b e in absurd (cc)

equal_not : (a b : ℕ) → a ≢ b → (a == b) ≡ false
equal_not a b ne = elim (cases_Bool (a == b)) [
  | inl e ↦ absurd (ne (eqb-true a b e))
  | inr e ↦ e
]

decode : (t n u m : ℕ) → before t n u m ≡ false → NotBefore t n u m
decode t n u m h =
    let a = or_false (nat_lt t u) _ h in
    let low : u ≤ t = ltb-false t u a.0 in
    elim (and_false (t == u) _ a.1) [
      | inl ne ↦ let apart = not_equal t u ne in inl (omega (arith, low, apart))
      | inr last ↦ inr (eqb-true t u last.0, ltb-false n m last.1)
    ]

encode : (t n u m : ℕ) → NotBefore t n u m → before t n u m ≡ false
encode t n u m (inl lt) = false_or (nat_lt t u) _ (le-ltb t u (omega (arith, lt))) (false_and (t == u) _ (inl (equal_not t u (λ e. omega (arith, e, lt)))))
encode t n u m (inr (same, le)) = false_or (nat_lt t u) _ (le-ltb t u (omega (arith, same))) (false_and (t == u) _ (inr (le-ltb n m le)))

not_before : (t n u m v k : ℕ) → NotBefore u m t n → NotBefore v k u m → NotBefore v k t n
not_before t n u m v k (inl a) (inl b) = inl (omega (arith, a, b))
not_before t n u m v k (inl a) (inr b) = inl (omega (arith, a, b.0))
not_before t n u m v k (inr a) (inl b) = inl (omega (arith, a.0, b))
not_before t n u m v k (inr a) (inr b) = inr (omega (arith, a.0, b.0), omega (arith, a.1, b.1))

-- no later one is before an earlier one
before_trans : (a b c : Flaw) → comes_before b a ≡ false → comes_before c b ≡ false → comes_before c a ≡ false
before_trans a b c h k =
    encode _ _ _ _ (not_before a.token (kind_number a.kind) b.token (kind_number b.kind) c.token (kind_number c.kind) (decode _ _ _ _ h) (decode _ _ _ _ k))

before_itself : (a : Flaw) → comes_before a a ≡ false
before_itself a = encode a.token (kind_number a.kind) a.token (kind_number a.kind) (inr (refl, omega arith))

either : (t n u m : ℕ) → NotBefore u m t n ⊎ NotBefore t n u m
either t n u m = elim (cases_lt t u) [
  | inl lt ↦ inl (inl lt)
  | inr late ↦ elim (cases_lt u t) [
    | inl lt ↦ inr (inl lt)
    | inr early ↦ elim (cases_lt m n) [
      | inl lt ↦ inr (inr (omega (arith, late, early), omega (arith, lt)))
      | inr low ↦ inl (inr (omega (arith, late, early), low))
    ]
  ]
]

before_back : (a b : Flaw) → comes_before a b ≡ true → comes_before b a ≡ false
before_back a b h = elim (either a.token (kind_number a.kind) b.token (kind_number b.kind)) [
  | inl back ↦ encode b.token (kind_number b.kind) a.token (kind_number a.kind) back
  | inr forth ↦ absurd (apart (comes_before a b) h (encode a.token (kind_number a.kind) b.token (kind_number b.kind) forth))
]
  where
    apart : (x : Bool) → x ≡ true → x ≡ false → ⊥
    apart x h k = cc

pub least_none : (x : Flaw) → Contains [] x → ⊥
least_none x c = omega (arith, c.1)

in_front : (xs : List Flaw) (x y : Flaw) → Contains xs y → Contains (xs ++ x ∷ []) y
in_front xs x y c = Contains-append_left xs (x ∷ []) y c

at_end : (xs : List Flaw) (x : Flaw) → Contains (xs ++ x ∷ []) x
at_end xs x = Contains-append_right xs (x ∷ []) x (0, omega arith, refl)

front_or_end : (xs : List Flaw) (x y : Flaw) → Contains (xs ++ x ∷ []) y → Contains xs y ⊎ (y ≡ x)
front_or_end xs x y c = elim (Contains-append_cases xs (x ∷ []) y c) [
  | inl k ↦ inl k
  | inr k ↦ elim (contains_cases x y [] k) [ inl e ↦ inr (sym e) | inr n ↦ absurd (least_none y n) ]
]

-- the least of none and one more is that one
pub first_is_least : (xs : List Flaw) (x : Flaw) → IsLeastOfFlaws (Contains xs) None → IsLeastOfFlaws (Contains (xs ++ x ∷ [])) (Some x)
first_is_least xs x h = (
  at_end xs x,
  λ y c. elim (front_or_end xs x y c) [
    | inl k ↦ absurd (h y k)
    | inr e ↦ subst (λ (z : Flaw). comes_before z x ≡ false) (sym e) (before_itself x)
  ],
)

-- one that comes before the least is the least
pub lower_is_least : (xs : List Flaw) (least x : Flaw) → IsLeastOfFlaws (Contains xs) (Some least) → comes_before x least ≡ true → IsLeastOfFlaws (Contains (xs ++ x ∷ [])) (Some x)
lower_is_least xs least x h lower = (
  at_end xs x,
  λ y c. elim (front_or_end xs x y c) [
    | inl k ↦ before_trans x least y (before_back x least lower) (h.1 y k)
    | inr e ↦ subst (λ (z : Flaw). comes_before z x ≡ false) (sym e) (before_itself x)
  ],
)

-- another leaves the least as it is
pub least_stays : (xs : List Flaw) (least x : Flaw) → IsLeastOfFlaws (Contains xs) (Some least) → comes_before x least ≡ false → IsLeastOfFlaws (Contains (xs ++ x ∷ [])) (Some least)
least_stays xs least x h not_lower = (
  in_front xs x least h.0,
  λ y c. elim (front_or_end xs x y c) [
    | inl k ↦ h.1 y k
    | inr e ↦ subst (λ (z : Flaw). comes_before z least ≡ false) (sym e) not_lower
  ],
)

pub least_more : (xs : List Flaw) (i : ℕ) (d x : Flaw) (next : Option Flaw) → i < length xs → x ≡ get_or xs i d → IsLeastOfFlaws (Contains (take i xs ++ x ∷ [])) next → IsLeastOfFlaws (Contains (take (i + 1) xs)) next
least_more xs i d x next lt is h =
    subst (λ (ys : List Flaw). IsLeastOfFlaws (Contains ys) next) (ap (λ (y : Flaw). take i xs ++ y ∷ []) is ∙ sym (take_more xs i d lt)) h

-- ---- as many flags as tokens

pub length_of_map : {A B : Type 0} (f : A → B) (xs : List A) → length (map f xs) ≡ length xs
length_of_map f [] = refl
length_of_map f (x ∷ xs) = ap suc (length_of_map f xs)

pub flags_length : {A K : Type 0} (so : K → K → Bool) (token : A → ℕ) (key : A → K) (xs : List A) (tokens : List ℕ) (flags : List Bool) → tokens ≡ map token xs → flags ≡ after_earlier so (map key xs) → length tokens ≡ length flags
flags_length so token key xs tokens flags e h =
    ap length e ∙ length_of_map token xs ∙ sym (length_of_map key xs) ∙ sym (repeats_length so [] (map key xs)) ∙ ap length (sym h)

pub flags_length_of : {A : Type 0} (so : A → A → Bool) (token : A → ℕ) (xs : List A) (tokens : List ℕ) (flags : List Bool) → tokens ≡ map token xs → flags ≡ after_earlier so xs → length tokens ≡ length flags
flags_length_of so token xs tokens flags e h = ap length e ∙ length_of_map token xs ∙ sym (repeats_length so [] xs) ∙ ap length (sym h)

-- the flags of one element more
pub earlier_more : {K : Type 0} (so : K → K → Bool) (xs : List K) (i : ℕ) (d : K) (flags more : List Bool) (flag : Bool) → i < length xs → flags ≡ after_earlier so (take i xs) → flag ≡ list_any (λ p. so p (get_or xs i d)) (take i xs) → more ≡ flags ++ flag ∷ [] → more ≡ after_earlier so (take (i + 1) xs)
earlier_more so xs i d flags more flag lt was is e =
    e
    ∙ ap (λ (z : List Bool). z ++ flag ∷ []) was
    ∙ ap (λ (b : Bool). after_earlier so (take i xs) ++ b ∷ []) is
    ∙ sym (repeats_snoc so [] (take i xs) (get_or xs i d))
    ∙ ap (after_earlier so) (sym (take_more xs i d lt))

-- ---- flags of two lists, one behind the other

pub earlier_append : {K : Type 0} (so : K → K → Bool) (front xs ys : List K) → earlier so front (xs ++ ys) ≡ earlier so front xs ++ earlier so (front ++ xs) ys
earlier_append so front [] ys = ap (λ (zs : List _). earlier so zs ys) (append_nil_right front)
  where
    append_nil_right : {K : Type 0} (zs : List K) → zs ≡ zs ++ []
    append_nil_right [] = refl
    append_nil_right (z ∷ zs) = ap (λ (us : List _). z ∷ us) (append_nil_right zs)
earlier_append so front (k ∷ xs) ys =
    ap (λ (bs : List Bool). list_any (λ p. so p k) front ∷ bs) (earlier_append so (front ++ k ∷ []) xs ys ∙ ap (λ (zs : List _). earlier so (front ++ k ∷ []) xs ++ earlier so zs ys) (append_assoc front (k ∷ []) xs))

pub earlier_at : {K : Type 0} (so : K → K → Bool) (xs : List K) (i : ℕ) (d : K) (e : Bool) → i < length xs → get_or (after_earlier so xs) i e ≡ list_any (λ p. so p (get_or xs i d)) (take i xs)
earlier_at so xs i d e lt = from so [] xs i d e lt
  where
    nil_right : {K : Type 0} (zs : List K) → zs ≡ zs ++ []
    nil_right [] = refl
    nil_right (z ∷ zs) = ap (λ (us : List _). z ∷ us) (nil_right zs)

    from : {K : Type 0} (so : K → K → Bool) (front xs : List K) (i : ℕ) (d : K) (e : Bool) → i < length xs → get_or (earlier so front xs) i e ≡ list_any (λ p. so p (get_or xs i d)) (front ++ take i xs)
    from so front [] i d e lt = absurd (omega (arith, lt))
    from so front (k ∷ xs) zero d e lt = ap (list_any (λ p. so p k)) (nil_right front)
    from so front (k ∷ xs) (suc i) d e lt = from so (front ++ k ∷ []) xs i d e (omega (arith, lt)) ∙ ap (list_any (λ p. so p (get_or xs i d))) (append_assoc front (k ∷ []) (take i xs))

-- the flags of one element more, behind others
pub sharing_turn : {K : Type 0} (so : K → K → Bool) (rs xs : List K) (i : ℕ) (d : K) (e : Bool) (known start before after : List Bool) (flag : Bool) → i < length xs → known ≡ after_earlier so xs
    → before ≡ start ++ earlier so rs (take i xs) → flag ≡ (list_any (λ p. so p (get_or xs i d)) rs || get_or known i e) → after ≡ before ++ flag ∷ [] → after ≡ start ++ earlier so rs (take (i + 1) xs)
sharing_turn so rs xs i d e known start before after flag lt k was is last =
    last
    ∙ ap (λ (z : List Bool). z ++ flag ∷ []) was
    ∙ append_assoc start (earlier so rs (take i xs)) (flag ∷ [])
    ∙ ap (λ (b : Bool). start ++ (earlier so rs (take i xs) ++ b ∷ [])) (is ∙ ap (λ (b : Bool). list_any (λ p. so p (get_or xs i d)) rs || b) (ap (λ (bs : List Bool). get_or bs i e) k ∙ earlier_at so xs i d e lt) ∙ sym (list_any-append (λ p. so p (get_or xs i d)) rs (take i xs)))
    ∙ ap (λ (z : List Bool). start ++ z) (sym (repeats_snoc so rs (take i xs) (get_or xs i d)))
    ∙ ap (λ (z : List _). start ++ earlier so rs z) (sym (take_more xs i d lt))

pub known_or : (b known : Bool) → b ≡ true → true ≡ (b || known)
known_or true known h = refl
known_or false known h = cc

pub or_known : (b known : Bool) → b ≡ false → known ≡ (b || known)
or_known true known h = cc
or_known false known h = refl

-- the flags of a list, from those of its halves
pub sharing_halves : {K : Type 0} (so : K → K → Bool) (xs front back : List K) (m : ℕ) (start flags : List Bool) → front ≡ take m xs → back ≡ drop m xs
    → start ≡ after_earlier so front → flags ≡ start ++ earlier so front back → flags ≡ after_earlier so xs
sharing_halves so xs front back m start flags f b s e =
    e
    ∙ ap (λ (z : List Bool). z ++ earlier so front back) s
    ∙ sym (earlier_append so [] front back)
    ∙ ap (after_earlier so) (ap (λ (z : List _). z ++ back) f ∙ ap (λ (z : List _). take m xs ++ z) b ∙ take-append-drop m xs)
