-- One step outward: a number's name is a word more than the name above it (for the crates above).
use Rattle.std.proofs.Common.{◌≡◌, ◌≢◌, ℕ, zero, suc, ◌<◌, ◌≤◌, Bool, false, List, [], ◌∷◌, ◌++◌, length, get_or, take, refl, sym, ◌∙◌, ap, subst, inl, inr, arith, append_assoc}
use Rattle.proto_base.proofs.Common.{both_ways, cases_eq, get_or-map, length-map}
use Rattle.proto_names_table.specs.Common.{Row, Table, names_of, aboves_of, look, IsTable, passes, HitsAt, NoneAbove}
use Rattle.proto_names_rules.specs.declared.wants.Wants.{Wants}
use Rattle.proto_names_rules.proofs.Common.{joined, IsPlain, ArePlain, under, front, under_apart, under_pointed, name_some}

pub joined_some : (w : List ℕ) (ws : List (List ℕ)) → IsPlain w → joined (w ∷ ws) ≢ []
joined_some w [] p e = p.1 e
joined_some [] (v ∷ ws) p e = p.1 refl
joined_some (b ∷ w) (v ∷ ws) p e = absurd (not_empty e)
  where
    not_empty : b ∷ (w ++ 46 ∷ joined (v ∷ ws)) ≡ [] → ⊥
    not_empty e = cc

pub joined_more : (xs : List (List ℕ)) (w : List ℕ) → ArePlain xs → joined (xs ++ w ∷ []) ≡ under (joined xs) w
joined_more [] w p = refl
joined_more (x ∷ []) w p = sym (under_pointed x w p.0.1)
joined_more (x ∷ y ∷ xs) w p =
    let some = joined_some y xs p.1.0 in
    ap (λ z. x ++ 46 ∷ z) (joined_more (y ∷ xs) w p.1 ∙ under_pointed (joined (y ∷ xs)) w some)
    ∙ sym (append_assoc x (46 ∷ joined (y ∷ xs)) (46 ∷ w))
    ∙ sym (under_pointed (x ++ 46 ∷ joined (y ∷ xs)) w (λ e. joined_some x (y ∷ xs) p.0 e))

take_more : {X : Type 0} (xs : List X) (k : ℕ) (d : X) → k < length xs → take (suc k) xs ≡ take k xs ++ get_or xs k d ∷ []
take_more [] k d l = absurd (omega (arith, l))
take_more (x ∷ xs) zero d l = refl
take_more (x ∷ xs) (suc k) d l = ap (λ z. x ∷ z) (take_more xs k d (omega (arith, l)))

pub take_whole : {X : Type 0} (xs : List X) → take (length xs) xs ≡ xs
take_whole [] = refl
take_whole (x ∷ xs) = ap (λ z. x ∷ z) (take_whole xs)

pub plain_take : (xs : List (List ℕ)) (k : ℕ) → ArePlain xs → ArePlain (take k xs)
plain_take xs zero p = tt
plain_take [] (suc k) p = tt
plain_take (x ∷ xs) (suc k) p = (p.0, plain_take xs k p.1)

plain_get : (xs : List (List ℕ)) (k : ℕ) → k < length xs → ArePlain xs → IsPlain (get_or xs k [])
plain_get [] k l p = absurd (omega (arith, l))
plain_get (x ∷ xs) zero l p = p.0
plain_get (x ∷ xs) (suc k) l p = plain_get xs k (omega (arith, l)) p.1

joined_take : (xs : List (List ℕ)) (k : ℕ) → ArePlain xs → k < length xs → joined (take (suc k) xs) ≡ under (joined (take k xs)) (get_or xs k [])
joined_take xs k p l = ap joined (take_more xs k [] l) ∙ joined_more (take k xs) (get_or xs k []) (plain_take xs k p)

pub record Outward (t : Table) (path : List (List ℕ)) (k : ℕ) (above m : ℕ) : Type 0 where
  pub less : ℕ
  pub one : k ≡ suc less
  pub front_is : front (names_of t) above ≡ joined (take less path)
  pub lower : above ≤ m

pub above_lower : (t : Table) → IsTable t → (m : ℕ) → m < length t.rows.items → (r : Row) → r ≡ get_or t.rows.items m r → r.above ≤ m
above_lower t ok m l r is =
    let n = length-map t.rows.items (λ z. z.name) in
    let g = ok.forest.grown m (omega (arith, l, n)) in
    let a : get_or (aboves_of t) m 0 ≡ r.above = get_or-map (λ z. z.above) t.rows.items m r 0 l ∙ ap (λ z. z.above) (sym is) in
    omega (arith, a, g.0)

pub outward : (t : Table) → IsTable t → (m : ℕ) → m < length t.rows.items → (r : Row) → r ≡ get_or t.rows.items m r → (path : List (List ℕ)) → ArePlain path → (k : ℕ) → k ≤ length path → front (names_of t) (suc m) ≡ joined (take k path) → Outward t path k r.above m
outward t ok m l r is path plain zero lk e = absurd (name_some (names_of t) (aboves_of t) (look t) ok.forest m (omega (arith, l, length-map t.rows.items (λ z. z.name))) e)
outward t ok m l r is path plain (suc k) lk e =
    let n = length-map t.rows.items (λ z. z.name) in
    let g = ok.forest.grown m (omega (arith, l, n)) in
    let a : get_or (aboves_of t) m 0 ≡ r.above = get_or-map (λ z. z.above) t.rows.items m r 0 l ∙ ap (λ z. z.above) (sym is) in
    let lk' : k < length path = omega (arith, lk) in
    let both = under_apart (front (names_of t) (get_or (aboves_of t) m 0)) g.1.0 (joined (take k path)) (get_or path k []) g.1.1 (plain_get path k lk' plain) (sym g.1.2 ∙ e ∙ joined_take path k plain lk') in
    record { less = k; one = refl; front_is = ap (front (names_of t)) (sym a) ∙ both.0; lower = omega (arith, a, g.0) }

-- at the empty name
pub outermost : (path : List (List ℕ)) (k : ℕ) → ArePlain path → k ≤ length path → [] ≡ joined (take k path) → k ≡ 0
outermost path zero p l e = refl
outermost [] (suc k) p l e = absurd (omega (arith, l))
outermost (x ∷ path) (suc k) p l e = absurd (joined_some x (take k path) p.0 (sym e))

abbrev pub Fails : Table → List Bool → Wants → Bool → ℕ → List ℕ → Type 0
Fails t seen what is_last number word = (row : ℕ) → row < length t.rows.items → get_or (names_of t) row [] ≡ under (front (names_of t) number) word → (d : Row) → passes seen what is_last (get_or t.rows.items row d) ≡ false

pub pick : {X : Type 0} (xs : List X) (k : ℕ) → k < length xs → X
pick [] k l = absurd (omega (arith, l))
pick (x ∷ xs) zero l = x
pick (x ∷ xs) (suc k) l = pick xs k (omega (arith, l))

no_hit : (t : Table) (seen : List Bool) (what : Wants) (is_last : Bool) (path : List (List ℕ)) (word : List ℕ) (k number : ℕ) → front (names_of t) number ≡ joined (take k path) → Fails t seen what is_last number word → (row : ℕ) → HitsAt t seen what is_last path word k row → ⊥
no_hit t seen what is_last path word k number e fails row h = let d = pick t.rows.items row h.within in both_ways (passes seen what is_last (get_or t.rows.items row d)) (fails row h.within (h.name ∙ ap (λ z. under z word) (sym e)) d) (h.passes_there d)

-- none passes here: none passes at the next front outward, but perhaps there
pub one_out : (t : Table) → IsTable t → (seen : List Bool) (what : Wants) (is_last : Bool) (word : List ℕ) (m : ℕ) → m < length t.rows.items → (r : Row) → r ≡ get_or t.rows.items m r → Fails t seen what is_last (suc m) word
    → (path : List (List ℕ)) → ArePlain path → (k : ℕ) → k ≤ length path → front (names_of t) (suc m) ≡ joined (take k path) → NoneAbove t seen what is_last path word k
    → (j : ℕ) × (j ≤ length path) × (front (names_of t) r.above ≡ joined (take j path)) × NoneAbove t seen what is_last path word j
one_out t ok seen what is_last word m l r is fails path plain k lk e none =
    let o = outward t ok m l r is path plain k lk e in (
      o.less,
      omega (arith, lk, o.one),
      o.front_is,
      λ j row a b h. elim (cases_eq j k) [
        | inl same ↦ no_hit t seen what is_last path word k (suc m) e fails row (subst (λ z. HitsAt t seen what is_last path word z row) same h)
        | inr other ↦ none j row (omega (arith, a, o.one, other)) b h
      ],
    )

-- none passes at the empty name either
pub none_at_all : (t : Table) (seen : List Bool) (what : Wants) (is_last : Bool) (word : List ℕ) → Fails t seen what is_last 0 word → (path : List (List ℕ)) → ArePlain path → (k : ℕ) → k ≤ length path → [] ≡ joined (take k path) → NoneAbove t seen what is_last path word k
    → (j row : ℕ) → j ≤ length path → HitsAt t seen what is_last path word j row → ⊥
none_at_all t seen what is_last word fails path plain k lk e none j row lj h =
    let z = outermost path k plain lk e in
    elim (cases_eq j 0) [
      | inl first ↦ no_hit t seen what is_last path word k 0 e fails row (subst (λ x. HitsAt t seen what is_last path word x row) (first ∙ sym z) h)
      | inr more ↦ none j row (omega (arith, z, more)) lj h
    ]
