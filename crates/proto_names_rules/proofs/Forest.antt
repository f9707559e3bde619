-- A name more in the forest (for the crates above).
use Rattle.std.proofs.Common.{◌≡◌, ◌≢◌, ℕ, zero, suc, ◌+◌, ◌<◌, ◌≤◌, false, List, [], ◌∷◌, ◌++◌, length, get_or, Option, Some, None, refl, sym, ◌∙◌, ap, subst, inl, inr, ◌⊎◌, arith, length-append, append_assoc, ◌==◌}
use Rattle.proto_base.proofs.Common.{list_any, cases_eq, none-some, same_Some}
use Rattle.proto_names_rules.specs.Joined.{IsPlain}
use Rattle.proto_names_rules.specs.Forest.{under, front, IsForest}
use Rattle.proto_names_rules.proofs.Joined.{not_pointed}

-- a word without a point is what stands behind the last point
last_point : (f q g w : List ℕ) → list_any (λ b. b == 46) q ≡ false → list_any (λ b. b == 46) w ≡ false → f ++ 46 ∷ q ≡ g ++ 46 ∷ w → (f ≡ g) × (q ≡ w)
last_point [] q [] w hq hw e = (refl, cc)
last_point [] q (b ∷ g) w hq hw e = let t : q ≡ g ++ 46 ∷ w = cc in absurd (not_pointed q g w hq t)
last_point (a ∷ f) q [] w hq hw e = let t : w ≡ f ++ 46 ∷ q = cc in absurd (not_pointed w f q hw t)
last_point (a ∷ f) q (b ∷ g) w hq hw e =
    let t : f ++ 46 ∷ q ≡ g ++ 46 ∷ w = cc in
    let h : a ≡ b = cc in
    let r = last_point f q g w hq hw t in
    (ap (λ z. z ∷ f) h ∙ ap (λ l. b ∷ l) r.0, r.1)

pub under_apart : (f q g w : List ℕ) → IsPlain q → IsPlain w → under f q ≡ under g w → (f ≡ g) × (q ≡ w)
under_apart [] q [] w hq hw e = (refl, e)
under_apart [] q (b ∷ g) w hq hw e = absurd (not_pointed q (b ∷ g) w hq.0 e)
under_apart (a ∷ f) q [] w hq hw e = absurd (not_pointed w (a ∷ f) q hw.0 (sym e))
under_apart (a ∷ f) q (b ∷ g) w hq hw e = last_point (a ∷ f) q (b ∷ g) w hq.0 hw.0 e

pub under_some : (f q : List ℕ) → IsPlain q → under f q ≢ []
under_some [] q hq e = hq.1 e
under_some (a ∷ f) q hq e = absurd (not_empty e)
  where
    not_empty : a ∷ (f ++ 46 ∷ q) ≡ [] → ⊥
    not_empty e = cc

pub under_pointed : (f w : List ℕ) → f ≢ [] → under f w ≡ f ++ 46 ∷ w
under_pointed [] w h = absurd (h refl)
under_pointed (b ∷ f) w h = refl

-- a point is the last one, or stands before it
point_parts : (f w g tail : List ℕ) → list_any (λ b. b == 46) w ≡ false → f ++ 46 ∷ w ≡ g ++ 46 ∷ tail → (f ≡ g) ⊎ ((t : List ℕ) × (f ≡ g ++ 46 ∷ t))
point_parts [] w [] tail h e = inl refl
point_parts [] w (b ∷ g) tail h e = let q : w ≡ g ++ 46 ∷ tail = cc in absurd (not_pointed w g tail h q)
point_parts (a ∷ f) w [] tail h e = let q : a ≡ 46 = cc in inr (f, ap (λ z. z ∷ f) q)
point_parts (a ∷ f) w (b ∷ g) tail h e =
    let t : f ++ 46 ∷ w ≡ g ++ 46 ∷ tail = cc in
    let q : a ≡ b = cc in
    elim (point_parts f w g tail h t) [
      | inl s ↦ inl (ap (λ z. z ∷ f) q ∙ ap (λ l. b ∷ l) s)
      | inr s ↦ inr (s.0, ap (λ z. z ∷ f) q ∙ ap (λ l. b ∷ l) s.1)
    ]

-- a word right below a word below a name
pub under_under : (f w r : List ℕ) → w ≢ [] → under (under f w) r ≡ under f (w ++ 46 ∷ r)
under_under [] w r h = under_pointed w r h
under_under (b ∷ f) w r h = append_assoc (b ∷ f) (46 ∷ w) (46 ∷ r)

-- what stands in a longer list
pub get_front : {X : Type 0} (xs ys : List X) (k : ℕ) (d : X) → k < length xs → get_or (xs ++ ys) k d ≡ get_or xs k d
get_front [] ys k d l = absurd (omega (arith, l))
get_front (x ∷ xs) ys zero d l = refl
get_front (x ∷ xs) ys (suc k) d l = get_front xs ys k d (omega (arith, l))

pub get_last : {X : Type 0} (xs : List X) (y d : X) → get_or (xs ++ y ∷ []) (length xs) d ≡ y
get_last [] y d = refl
get_last (x ∷ xs) y d = get_last xs y d

front_more : (names : List (List ℕ)) (x : List ℕ) (p : ℕ) → p ≤ length names → front (names ++ x ∷ []) p ≡ front names p
front_more names x zero l = refl
front_more names x (suc p) l = get_front names (x ∷ []) p [] (omega (arith, l))

module _ (names : List (List ℕ)) (aboves : List ℕ) (look : ℕ → List ℕ → Option ℕ) (forest : IsForest names aboves look) where
  -- no name is empty, and no two are the same
  pub name_some : (k : ℕ) → k < length names → get_or names k [] ≢ []
  name_some k l e = let g = (forest.grown k l).1 in under_some (front names (get_or aboves k 0)) g.0 g.1 (sym g.2 ∙ e)

  pub names_apart : (i j : ℕ) → i < length names → j < length names → get_or names i [] ≡ get_or names j [] → i ≡ j
  names_apart i j li lj e =
      let g = (forest.grown i li).1 in
      let a = (forest.grown i li).0 in
      let p : get_or aboves i 0 ≤ length names = omega (arith, a, li) in
      same_Some i j (sym (forest.complete (get_or aboves i 0) g.0 i p g.1 li g.2) ∙ forest.complete (get_or aboves i 0) g.0 j p g.1 lj (sym e ∙ g.2))

  pub fronts_apart : (p q : ℕ) → p ≤ length names → q ≤ length names → front names p ≡ front names q → p ≡ q
  fronts_apart zero zero lp lq e = refl
  fronts_apart zero (suc q) lp lq e = absurd (name_some q (omega (arith, lq)) (sym e))
  fronts_apart (suc p) zero lp lq e = absurd (name_some p (omega (arith, lp)) e)
  fronts_apart (suc p) (suc q) lp lq e = ap suc (names_apart p q (omega (arith, lp)) (omega (arith, lq)) e)

  -- what is looked up and not found is no name
  pub not_named : (p : ℕ) (word : List ℕ) → p ≤ length names → IsPlain word → look p word ≡ None → (k : ℕ) → k < length names → get_or names k [] ≢ under (front names p) word
  not_named p word lp plain none k l e = none-some k (sym none ∙ forest.complete p word k lp plain l e)

  module _ (p : ℕ) (word : List ℕ) (lp : p ≤ length names) (plain : IsPlain word) (none : look p word ≡ None)
      (look' : ℕ → List ℕ → Option ℕ) (here : look' p word ≡ Some (length names)) (beside : (v : List ℕ) → v ≢ word → look' p v ≡ look p v)
      (other : (q : ℕ) (v : List ℕ) → q ≢ p → q ≤ length names → look' q v ≡ look q v) (fresh : (v : List ℕ) → look' (suc (length names)) v ≡ None)
      (same : (v w : List ℕ) → (v ≡ w) ⊎ (v ≢ w)) where
    abbrev x : List ℕ
    x = under (front names p) word

    new_name : (k : ℕ) → k < length names → get_or names k [] ≢ under (front names p) word
    new_name = not_named p word lp plain none

    -- the new name is no front of an old number
    not_front : (a : ℕ) → a ≤ length names → front names a ≢ under (front names p) word
    not_front zero l e = under_some (front names p) word plain (sym e)
    not_front (suc a) l e = new_name a (omega (arith, l)) e

    longer : length (names ++ x ∷ []) ≡ length names + 1
    longer = length-append names (x ∷ [])

    sound' : (q : ℕ) (v : List ℕ) (k : ℕ) → q ≤ length (names ++ x ∷ []) → look' q v ≡ Some k → (k < length (names ++ x ∷ [])) × (get_or (names ++ x ∷ []) k [] ≡ under (front (names ++ x ∷ []) q) v) × IsPlain v
    sound' q v k lq e = elim (cases_eq q (suc (length names))) [
      | inl last ↦ absurd (none-some k (sym (fresh v) ∙ ap (λ z. look' z v) (sym last) ∙ e))
      | inr nl ↦
          let lq' : q ≤ length names = omega (arith, lq, longer, nl) in
          let old : look q v ≡ Some k → (k < length (names ++ x ∷ [])) × (get_or (names ++ x ∷ []) k [] ≡ under (front (names ++ x ∷ []) q) v) × IsPlain v = λ h. (
          let s = forest.sound q v k lq' h in
          (omega (arith, s.0, longer), get_front names (x ∷ []) k [] s.0 ∙ s.1 ∙ ap (λ z. under z v) (sym (front_more names x q lq')), s.2)) in
          elim (cases_eq q p) [
            | inr nq ↦ old (sym (other q v nq lq') ∙ e)
            | inl at ↦ elim (same v word) [
              | inr nv ↦ old (ap (λ z. look z v) at ∙ sym (beside v nv) ∙ ap (λ z. look' z v) (sym at) ∙ e)
              | inl is ↦
                  let kn : length names ≡ k = same_Some (length names) k (sym here ∙ ap (look' p) (sym is) ∙ ap (λ z. look' z v) (sym at) ∙ e) in (
                    omega (arith, kn, longer),
                    ap (λ z. get_or (names ++ x ∷ []) z []) (sym kn) ∙ get_last names x [] ∙ ap (under (front names p)) (sym is) ∙ ap (λ z. under (front names z) v) (sym at) ∙ ap (λ z. under z v) (sym (front_more names x q lq')),
                    subst IsPlain (sym is) plain,
                  )
            ]
          ]
    ]

    complete' : (q : ℕ) (v : List ℕ) (k : ℕ) → q ≤ length (names ++ x ∷ []) → IsPlain v → k < length (names ++ x ∷ []) → get_or (names ++ x ∷ []) k [] ≡ under (front (names ++ x ∷ []) q) v → look' q v ≡ Some k
    complete' q v k lq hv lk e = elim (cases_eq q (suc (length names))) [
      | inl last ↦
          let fx : front (names ++ x ∷ []) q ≡ x = ap (front (names ++ x ∷ [])) last ∙ get_last names x [] in
          let e' : get_or (names ++ x ∷ []) k [] ≡ under x v = e ∙ ap (λ z. under z v) fx in
          elim (cases_eq k (length names)) [
            | inl kn ↦ absurd (not_front p lp (under_apart (front names p) word x v plain hv (sym (ap (λ z. get_or (names ++ x ∷ []) z []) kn ∙ get_last names x []) ∙ e')).0)
            | inr nk ↦
                let lk' : k < length names = omega (arith, lk, longer, nk) in
                let g = forest.grown k lk' in
                let la : get_or aboves k 0 ≤ length names = omega (arith, g.0, lk') in
                absurd (not_front (get_or aboves k 0) la (under_apart (front names (get_or aboves k 0)) g.1.0 x v g.1.1 hv (sym g.1.2 ∙ sym (get_front names (x ∷ []) k [] lk') ∙ e')).0)
          ]
      | inr nl ↦
          let lq' : q ≤ length names = omega (arith, lq, longer, nl) in
          let e' : get_or (names ++ x ∷ []) k [] ≡ under (front names q) v = e ∙ ap (λ z. under z v) (front_more names x q lq') in
          elim (cases_eq k (length names)) [
            | inl kn ↦
                let r = under_apart (front names p) word (front names q) v plain hv (sym (ap (λ z. get_or (names ++ x ∷ []) z []) kn ∙ get_last names x []) ∙ e') in
                let qp : q ≡ p = sym (fronts_apart p q lp lq' r.0) in
                ap (λ z. look' z v) qp ∙ ap (look' p) (sym r.1) ∙ here ∙ ap Some (sym kn)
            | inr nk ↦
                let lk' : k < length names = omega (arith, lk, longer, nk) in
                let e2 : get_or names k [] ≡ under (front names q) v = sym (get_front names (x ∷ []) k [] lk') ∙ e' in
                let old = forest.complete q v k lq' hv lk' e2 in
                elim (cases_eq q p) [
                  | inr nq ↦ other q v nq lq' ∙ old
                  | inl at ↦ elim (same v word) [
                    | inr nv ↦ ap (λ z. look' z v) at ∙ beside v nv ∙ ap (λ z. look z v) (sym at) ∙ old
                    | inl is ↦ absurd (new_name k lk' (e2 ∙ ap (λ z. under (front names z) v) at ∙ ap (under (front names p)) is))
                  ]
                ]
          ]
    ]

    pub forest_more : length aboves ≡ length names → IsForest (names ++ x ∷ []) (aboves ++ p ∷ []) look'
    forest_more sized = record { sound = sound'; complete = complete'; grown = grown' }
      where
        grown' : (k : ℕ) → k < length (names ++ x ∷ []) → (get_or (aboves ++ p ∷ []) k 0 ≤ k) × ((w : List ℕ) × IsPlain w × (get_or (names ++ x ∷ []) k [] ≡ under (front (names ++ x ∷ []) (get_or (aboves ++ p ∷ []) k 0)) w))
        grown' k lk = elim (cases_eq k (length names)) [
          | inl kn ↦
              let a : get_or (aboves ++ p ∷ []) k 0 ≡ p = ap (λ z. get_or (aboves ++ p ∷ []) z 0) (kn ∙ sym sized) ∙ get_last aboves p 0 in
              (omega (arith, a, lp, kn), (word, plain, ap (λ z. get_or (names ++ x ∷ []) z []) kn ∙ get_last names x [] ∙ ap (λ z. under z word) (sym (front_more names x p lp)) ∙ ap (λ z. under (front (names ++ x ∷ []) z) word) (sym a)))
          | inr nk ↦
              let lk' : k < length names = omega (arith, lk, longer, nk) in
              let g = forest.grown k lk' in
              let a : get_or (aboves ++ p ∷ []) k 0 ≡ get_or aboves k 0 = get_front aboves (p ∷ []) k 0 (omega (arith, lk', sized)) in
              let la : get_or aboves k 0 ≤ length names = omega (arith, g.0, lk') in
              (omega (arith, a, g.0), (g.1.0, g.1.1, get_front names (x ∷ []) k [] lk' ∙ g.1.2 ∙ ap (λ z. under z g.1.0) (sym (front_more names x (get_or aboves k 0) la)) ∙ ap (λ z. under (front (names ++ x ∷ []) z) g.1.0) (sym a)))
        ]

  -- a front of a name up to a point is a name
  pub prefix_named : (n k : ℕ) → k < n → k < length names → (g tail : List ℕ) → get_or names k [] ≡ g ++ 46 ∷ tail → (j : ℕ) × (j < length names) × (get_or names j [] ≡ g)
  prefix_named zero k kn l g tail e = absurd (omega (arith, kn))
  prefix_named (suc n) k kn l g tail e =
      let r = forest.grown k l in
      go (get_or aboves k 0) r.0 r.1.0 r.1.1 (sym r.1.2 ∙ e) (λ a an la t h. prefix_named n a an la g t h)
    where
      go : (a : ℕ) → a ≤ k → (word : List ℕ) → IsPlain word → under (front names a) word ≡ g ++ 46 ∷ tail
          → ((a : ℕ) → a < n → a < length names → (t : List ℕ) → get_or names a [] ≡ g ++ 46 ∷ t → (j : ℕ) × (j < length names) × (get_or names j [] ≡ g)) → (j : ℕ) × (j < length names) × (get_or names j [] ≡ g)
      go zero la word plain h again = absurd (not_pointed word g tail plain.0 h)
      go (suc a) la word plain h again =
          let some = name_some a (omega (arith, la, l)) in
          elim (point_parts (get_or names a []) word g tail plain.0 (sym (under_pointed (get_or names a []) word some) ∙ h)) [
            | inl q ↦ (a, omega (arith, la, l), q)
            | inr q ↦ again a (omega (arith, la, kn)) (omega (arith, la, l)) q.0 q.1
          ]

  -- no name ends with a point
  pub not_ended : (k : ℕ) → k < length names → (f : List ℕ) → get_or names k [] ≢ f ++ 46 ∷ []
  not_ended k l f e =
      let r = forest.grown k l in
      go (front names (get_or aboves k 0)) r.1.0 r.1.1 (sym r.1.2 ∙ e)
    where
      go : (g word : List ℕ) → IsPlain word → under g word ≡ f ++ 46 ∷ [] → ⊥
      go [] word plain h = not_pointed word f [] plain.0 h
      go (b ∷ g) word plain h = plain.1 (last_point (b ∷ g) word f [] plain.0 refl h).1

  -- where a text is cut at its first point, its first word is looked up
  pub cut_found : (p : ℕ) (rest word behind : List ℕ) (j : ℕ) → p ≤ length names → rest ≡ word ++ 46 ∷ behind → look p word ≡ Some j → (j < length names) × (under (front names (suc j)) behind ≡ under (front names p) rest)
  cut_found p rest word behind j l cut h =
      let s = forest.sound p word j l h in
      (s.0, ap (λ z. under z behind) s.1 ∙ under_under (front names p) word behind s.2.1 ∙ ap (under (front names p)) (sym cut))

  pub cut_missing : (p : ℕ) (rest word behind : List ℕ) → p ≤ length names → list_any (λ b. b == 46) word ≡ false → rest ≡ word ++ 46 ∷ behind → look p word ≡ None → (k : ℕ) → k < length names → get_or names k [] ≢ under (front names p) rest
  cut_missing p rest [] behind l plain cut none k lk e = go (front names p) refl
    where
      go : (f : List ℕ) → front names p ≡ f → ⊥
      go [] q = let r = prefix_named (suc k) k (omega arith) lk [] behind (e ∙ ap (λ z. under z rest) q ∙ cut) in name_some r.0 r.1 r.2
      go (b ∷ f) q =
          let r = prefix_named (suc k) k (omega arith) lk ((b ∷ f) ++ 46 ∷ []) behind (e ∙ ap (λ z. under z rest) q ∙ ap (λ z. (b ∷ f) ++ 46 ∷ z) cut ∙ sym (append_assoc (b ∷ f) (46 ∷ []) (46 ∷ behind))) in
          not_ended r.0 r.1 (b ∷ f) r.2
  cut_missing p rest (c ∷ word) behind l plain cut none k lk e =
      let pw : IsPlain (c ∷ word) = (plain, λ h. not_empty h) in
      let g = under (front names p) (c ∷ word) in
      let whole : get_or names k [] ≡ g ++ 46 ∷ behind =
      e ∙ ap (under (front names p)) cut ∙ sym (under_under (front names p) (c ∷ word) behind pw.1) ∙ under_pointed g behind (under_some (front names p) (c ∷ word) pw) in
      let r = prefix_named (suc k) k (omega arith) lk g behind whole in
      not_named p (c ∷ word) l pw none r.0 r.1 r.2
    where
      not_empty : c ∷ word ≡ [] → ⊥
      not_empty h = cc

  -- a last word
  pub last_named : (p : ℕ) (rest : List ℕ) → p ≤ length names → list_any (λ b. b == 46) rest ≡ false → (k : ℕ) → k < length names → get_or names k [] ≡ under (front names p) rest → look p rest ≡ Some k
  last_named p [] l plain k lk e = absurd (go (front names p) refl)
    where
      go : (f : List ℕ) → front names p ≡ f → ⊥
      go [] q = name_some k lk (e ∙ ap (λ z. under z []) q)
      go (b ∷ f) q = not_ended k lk (b ∷ f) (e ∙ ap (λ z. under z []) q)
  last_named p (c ∷ rest) l plain k lk e = forest.complete p (c ∷ rest) k l (plain, λ h. not_empty h) lk e
    where
      not_empty : c ∷ rest ≡ [] → ⊥
      not_empty h = cc
