-- The table after a row more.
use Rattle.std.proofs.Common.{◌≡◌, ◌≢◌, ℕ, zero, suc, ◌+◌, ◌-◌, ◌<◌, ◌≤◌, Bool, true, false, ◌||◌, drop, List, [], ◌∷◌, ◌++◌, length, get_or, map, Option, Some, None, refl, sym, ◌∙◌, ap, subst, inl, inr, ◌⊎◌, arith, slice_get, slice_set, length-append, if◌then◌else◌, Bor, MatchOption, Result, Ok, Err, OnErr, option_and_then, position, ◌&&◌}
use Rattle.std.specs.Prelude.{◌==◌}
use Rattle.std.specs.List.{list_any}
use Rattle.std.specs.Str.{bytes_eq}
use Rattle.std.proofs.lemmas.Bool.{cases_Bool, cond-true, cond-false, false_from_ne_true, eqb-true, eq-eqb}
use Rattle.std.proofs.lemmas.List.{get_or-map, length-map}
use Rattle.std.proofs.lemmas.Option.{same_Some}
use Rattle.std.proofs.lemmas.List.Elements.{All-push}
use Rattle.proto_names_table.specs.declared.table.Row.{Row}
use Rattle.proto_names_table.specs.declared.table.Table.{Table}
use Rattle.proto_names_rules.specs.Joined.{IsPlain}
use Rattle.proto_names_rules.specs.Forest.{under, front, IsForest}
use Rattle.proto_names_table.specs.declared.index.Below.{Below}
use Rattle.proto_names_table.specs.Indexes.{aboves_in, HasWords, is_below_number, word_place}
use Rattle.proto_names_table.specs.Tables.{names_of, aboves_of, is_shared_row, look, AreAlone, IsTable}
use Rattle.proto_names_table.proofs.Positions.{nowhere}
use Rattle.proto_names_table.proofs.IndexAdded.{first_false, second_false, both_true}
use Rattle.proto_base.proofs.Lists.{word_from_same, same_from_word}
use Rattle.proto_names_rules.proofs.Edited.{map_append}
use Rattle.proto_names_rules.proofs.Forest.{forest_more}

pub get_set_same : {X : Type 0} (xs : List X) (i : ℕ) (y : X) → i < length xs → slice_get (slice_set xs i y) i ≡ Some y
get_set_same [] i y l = absurd (omega (arith, l))
get_set_same (x ∷ xs) zero y l = refl
get_set_same (x ∷ xs) (suc i) y l = get_set_same xs i y (omega (arith, l))

pub get_set_other : {X : Type 0} (xs : List X) (i q : ℕ) (y : X) → q ≢ i → slice_get (slice_set xs i y) q ≡ slice_get xs q
get_set_other [] i q y ne = refl
get_set_other (x ∷ xs) zero zero y ne = absurd (ne refl)
get_set_other (x ∷ xs) zero (suc q) y ne = refl
get_set_other (x ∷ xs) (suc i) zero y ne = refl
get_set_other (x ∷ xs) (suc i) (suc q) y ne = get_set_other xs i q y (λ e. ne (ap suc e))

-- the last place of a list with an element more
pub get_push_last : {X : Type 0} (xs : List X) (y : X) → slice_get (xs ++ y ∷ []) (length xs) ≡ Some y
get_push_last [] y = refl
get_push_last (x ∷ xs) y = get_push_last xs y

-- the places before it
pub get_push_other : {X : Type 0} (xs : List X) (q : ℕ) (y : X) → q < length xs → slice_get (xs ++ y ∷ []) q ≡ slice_get xs q
get_push_other [] q y l = absurd (omega (arith, l))
get_push_other (x ∷ xs) zero y l = refl
get_push_other (x ∷ xs) (suc q) y l = get_push_other xs q y (omega (arith, l))

-- a place that is set to what is seen alike
pub map_set_same : {X Y : Type 0} (f : X → Y) (xs : List X) (i : ℕ) (x y : X) → slice_get xs i ≡ Some x → f y ≡ f x → map f (slice_set xs i y) ≡ map f xs
map_set_same f [] i x y at same = refl
map_set_same f (z ∷ xs) zero x y at same = ap (λ q. q ∷ map f xs) (same ∙ ap f (sym (same_Some z x at)))
map_set_same f (z ∷ xs) (suc i) x y at same = ap (λ q. f z ∷ q) (map_set_same f xs i x y at same)

-- what holds whatever the result, holds of a refusal
pub at_refusal : {T E : Type 0} (r : Result T E) (P : Type 0) → P → OnErr r P
at_refusal (Ok x) P p = tt
at_refusal (Err e) P p = p

-- the text of a number past 0
pub front_at : (t : Table) (number : ℕ) (r : Row) → number ≢ 0 → number ≤ length t.rows.items → r ≡ get_or t.rows.items (number - 1) r → r.name ≡ front (names_of t) number
front_at t zero r ne l e = absurd (ne refl)
front_at t (suc k) r ne l e =
    let p : suc k - 1 ≡ k = omega arith in
    ap (λ z. z.name) (e ∙ ap (λ z. get_or t.rows.items z r) p) ∙ sym (get_or-map (λ z. z.name) t.rows.items k r [] (omega (arith, l)))

same_word : (v w : List ℕ) → (v ≡ w) ⊎ (v ≢ w)
same_word v w = elim (cases_Bool (bytes_eq v w)) [
  | inl h ↦ inl (word_from_same v w h)
  | inr h ↦ inr (λ e. differ (sym h ∙ same_from_word v w e))
]
  where
    differ : false ≡ true → ⊥
    differ e = cc

-- below a number past all rows nothing stands
none_above : (t : Table) → IsTable t → (above : ℕ) (v : List ℕ) → length t.rows.items < above → look t above v ≡ None
none_above t ok above v past = go (word_place t.below.words.keys v)
  where
    apart : (w k : ℕ) (d : Below) → k < length t.below.rows.keys → is_below_number above w (get_or t.below.rows.keys k d) ≡ false
    apart w k d l = first_false (above == (get_or t.below.rows.keys k d).above) (w == (get_or t.below.rows.keys k d).word) (false_from_ne_true (above == (get_or t.below.rows.keys k d).above) (λ q.
        let n = length-map t.rows.items (λ z. z.name) in
        let g = ok.forest.grown k (omega (arith, l, ok.sized, n)) in
        let e : (get_or t.below.rows.keys k d).above ≡ get_or (aboves_of t) k 0 = sym (get_or-map (λ (b : Below). b.above) t.below.rows.keys k d 0 l) ∙ ap (λ z. get_or z k 0) ok.keyed in
        omega (arith, eqb-true above (get_or t.below.rows.keys k d).above q, e, g.0, l, ok.sized, past)))

    go : (o : Option ℕ) → option_and_then (λ w. position (is_below_number above w) t.below.rows.keys) o ≡ None
    go None = refl
    go (Some w) = nowhere (is_below_number above w) t.below.rows.keys (apart w)

pub table_added : (t t' : Table) (p : ℕ) (word : List ℕ) (r : Row) → IsTable t → p ≤ length t.rows.items → IsPlain word → look t p word ≡ None
    → t'.rows.items ≡ t.rows.items ++ r ∷ [] → r.name ≡ under (front (names_of t) p) word → r.above ≡ p
    → ((q : ℕ) (v : List ℕ) → look t' q v ≡ (if (p == q) && bytes_eq word v then Some (length t.below.rows.keys) else look t q v))
    → aboves_in t'.below ≡ aboves_in t.below ++ p ∷ [] → length t'.below.rows.keys ≡ length t.below.rows.keys + 1 → HasWords t'.below → r.more.items ≡ [] → IsTable t'
table_added t t' p word r ok lp plain none rows name above here keyed long words none_more =
    let names : names_of t' ≡ names_of t ++ under (front (names_of t) p) word ∷ [] =
    ap (map (λ z. z.name)) rows ∙ map_append (λ z. z.name) t.rows.items (r ∷ []) ∙ ap (λ z. names_of t ++ z ∷ []) name in
    let aboves : aboves_of t' ≡ aboves_of t ++ p ∷ [] =
    ap (map (λ z. z.above)) rows ∙ map_append (λ z. z.above) t.rows.items (r ∷ []) ∙ ap (λ z. aboves_of t ++ z ∷ []) above in
    let ln : length (names_of t) ≡ length t.rows.items = length-map t.rows.items (λ z. z.name) in
    let la : length (aboves_of t) ≡ length t.rows.items = length-map t.rows.items (λ z. z.above) in
    let lr = length-append t.rows.items (r ∷ []) in
    let size = ok.sized in
    let at : look t' p word ≡ Some (length (names_of t)) =
    here p word ∙ cond-true ((p == p) && bytes_eq word word) (Some (length t.below.rows.keys)) (look t p word) (both_true (p == p) (bytes_eq word word) (eq-eqb p p refl) (same_from_word word word refl)) ∙ ap Some (size ∙ sym ln) in
    let forest = forest_more (names_of t) (aboves_of t) (look t) ok.forest p word (omega (arith, lp, ln)) plain none (look t') at
    (λ v ne. here p v ∙ cond-false ((p == p) && bytes_eq word v) (Some (length t.below.rows.keys)) (look t p v) (second_false (p == p) (bytes_eq word v) (differs word v ne)))
    (λ q v ne lq. here q v ∙ cond-false ((p == q) && bytes_eq word v) (Some (length t.below.rows.keys)) (look t q v) (first_false (p == q) (bytes_eq word v) (false_from_ne_true (p == q) (λ h. ne (sym (eqb-true p q h))))))
    (λ v. here (suc (length (names_of t))) v
    ∙ cond-false ((p == suc (length (names_of t))) && bytes_eq word v) (Some (length t.below.rows.keys)) (look t (suc (length (names_of t))) v)
    (first_false (p == suc (length (names_of t))) (bytes_eq word v) (false_from_ne_true (p == suc (length (names_of t))) (λ h. omega (arith, lp, ln, eqb-true p (suc (length (names_of t))) h))))
    ∙ none_above t ok (suc (length (names_of t))) v (omega (arith, ln)))
    same_word (la ∙ sym ln) in
    record {
      forest = subst (λ z. IsForest z (aboves_of t') (look t')) (sym names) (subst (λ z. IsForest (names_of t ++ under (front (names_of t) p) word ∷ []) z (look t')) (sym aboves) forest);
      sized = omega (arith, long, size, lr, ap length rows);
      keyed = keyed ∙ ap (λ z. z ++ p ∷ []) ok.keyed ∙ sym aboves;
      words = words;
      alone = subst AreAlone (sym rows) (All-push (λ (z : Row). is_shared_row z ≡ false → z.more.items ≡ []) t.rows.items r ok.alone (λ _. none_more));
    }
  where
    differs : (w v : List ℕ) → v ≢ w → bytes_eq w v ≡ false
    differs w v ne = elim (cases_Bool (bytes_eq w v)) [ inl h ↦ absurd (ne (sym (word_from_same w v h))) | inr h ↦ h ]

-- no element passes, place by place
pub none_passes : (xs : List ℕ) → ((i : ℕ) → i < length xs → get_or xs i 0 ≢ 46) → list_any (λ b. b == 46) xs ≡ false
none_passes [] h = refl
none_passes (x ∷ xs) h =
    let here : (x == 46) ≡ false = false_from_ne_true (x == 46) (λ q. h 0 (omega arith) (eqb-true x 46 q)) in
    ap (λ z. z || list_any (λ b. b == 46) xs) here ∙ none_passes xs (λ i l. h (suc i) (omega (arith, l)))

pub cut_is : (bs : List ℕ) (r : Option (Bor (List ℕ) × Bor (List ℕ))) → MatchOption r ((i : ℕ) → i < length bs → get_or bs i 0 ≢ 46) (λ x. (bs ≡ x.0.now ++ (46 ∷ x.1.now)) × ((i : ℕ) → i < length x.0.now → get_or x.0.now i 0 ≢ 46))
    → MatchOption r (list_any (λ b. b == 46) bs ≡ false) (λ x. (bs ≡ x.0.now ++ 46 ∷ x.1.now) × (list_any (λ b. b == 46) x.0.now ≡ false))
cut_is bs None h = none_passes bs h
cut_is bs (Some x) h = (h.0, none_passes x.0.now h.1)

-- whether some element from a place on passes
pub any_from_here : {X : Type 0} (p : X → Bool) (xs : List X) (i : ℕ) (d : X) → i < length xs → list_any p (drop i xs) ≡ (p (get_or xs i d) || list_any p (drop (i + 1) xs))
any_from_here p [] i d l = absurd (omega (arith, l))
any_from_here p (x ∷ xs) zero d l = refl
any_from_here p (x ∷ xs) (suc i) d l =
    let e : suc i + 1 ≡ suc (i + 1) = omega arith in
    any_from_here p xs i d (omega (arith, l)) ∙ ap (λ k. p (get_or xs i d) || list_any p (drop k (x ∷ xs))) (sym e)
