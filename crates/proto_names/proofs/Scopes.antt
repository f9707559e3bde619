-- A scope is cut at its points, and its words are looked up one below another.
use Rattle.std.proofs.Common.{◌≡◌, ◌≢◌, ◌⊎◌, ℕ, zero, suc, ◌+◌, ◌<◌, ◌≤◌, false, List, [], ◌∷◌, ◌++◌, length, take, Some, None, refl, sym, ◌∙◌, ap, subst, inl, inr, arith, length-append, append_assoc, ◌==◌, eq-eqb}
use Rattle.proto_base.proofs.Common.{list_any, or_parts, both_ways, length-map, none-some}
use Rattle.std.proofs.Math.Seq.{take-length, take-append_seam}
use Rattle.proto_names_rules.proofs.Common.{under, front, joined, ArePlain, under_some, not_pointed}
use Rattle.proto_names.specs.Scopes.{IsScopeFront}
use Rattle.proto_names_table.proofs.Common.{names_of, look, IsTable, joined_all, under_all_named, joined_more, plain_take}
use Rattle.proto_names_table.specs.declared.table.Table.{Table}

-- ---- words that are joined

pub plain_parts : (x y : List (List ℕ)) → ArePlain (x ++ y) → ArePlain x × ArePlain y
plain_parts [] y p = (tt, p)
plain_parts (w ∷ x) y p = let r = plain_parts x y p.1 in ((p.0, r.0), r.1)

-- up to the first point two texts agree
same_cut : (v w x y : List ℕ) → list_any (λ b. b == 46) v ≡ false → list_any (λ b. b == 46) w ≡ false → v ++ 46 ∷ x ≡ w ++ 46 ∷ y → (v ≡ w) × (x ≡ y)
same_cut [] [] x y hv hw h = (refl, cc)
same_cut [] (b ∷ w) x y hv hw h = let e : 46 ≡ b = cc in absurd (both_ways (b == 46) (or_parts (b == 46) (list_any (λ z. z == 46) w) hw).0 (eq-eqb b 46 (sym e)))
same_cut (a ∷ v) [] x y hv hw h = let e : a ≡ 46 = cc in absurd (both_ways (a == 46) (or_parts (a == 46) (list_any (λ z. z == 46) v) hv).0 (eq-eqb a 46 e))
same_cut (a ∷ v) (b ∷ w) x y hv hw h =
    let t : v ++ 46 ∷ x ≡ w ++ 46 ∷ y = cc in
    let e : a ≡ b = cc in
    let r = same_cut v w x y (or_parts (a == 46) (list_any (λ z. z == 46) v) hv).1 (or_parts (b == 46) (list_any (λ z. z == 46) w) hw).1 t in
    (ap (λ z. z ∷ v) e ∙ ap (λ l. b ∷ l) r.0, r.1)

-- what stands before the first point is the first word
first_cut : (ws : List (List ℕ)) (word behind : List ℕ) → ArePlain ws → list_any (λ b. b == 46) word ≡ false → joined ws ≡ word ++ 46 ∷ behind → (rest : List (List ℕ)) × (ws ≡ word ∷ rest) × (behind ≡ joined rest)
first_cut [] word behind p h e = absurd (not_pointed [] word behind refl e)
first_cut (w ∷ []) word behind p h e = absurd (not_pointed w word behind p.0.0 e)
first_cut (w ∷ v ∷ rest) word behind p h e = let r = same_cut w word (joined (v ∷ rest)) behind p.0.0 h e in (v ∷ rest, ap (λ z. z ∷ v ∷ rest) r.0, sym r.1)

-- without a point there is one word or none
last_cut : (ws : List (List ℕ)) (rest : List ℕ) → ArePlain ws → list_any (λ b. b == 46) rest ≡ false → rest ≡ joined ws → (ws ≡ []) ⊎ (ws ≡ rest ∷ [])
last_cut [] rest p h e = inl refl
last_cut (w ∷ []) rest p h e = inr (ap (λ z. z ∷ []) (sym e))
last_cut (w ∷ v ∷ ws) rest p h e = absurd (not_pointed rest w (joined (v ∷ ws)) h e)

take_past : {X : Type 0} (xs : List X) (y : X) (ys : List X) (j : ℕ) → length xs < j → (zs : List X) × (take j (xs ++ y ∷ ys) ≡ (xs ++ y ∷ []) ++ zs)
take_past [] y ys zero l = absurd (omega (arith, l))
take_past [] y ys (suc j) l = (take j ys, refl)
take_past (x ∷ xs) y ys zero l = absurd (omega (arith, l))
take_past (x ∷ xs) y ys (suc j) l = let r = take_past xs y ys j (omega (arith, l)) in (r.0, ap (λ z. x ∷ z) r.1)

-- ---- a scope's words, one below another

-- the number is that of the words before the rest
pub record IsInScope (t : Table) (path : List (List ℕ)) (number : ℕ) (rest : List ℕ) : Type 0 where
  pub before : List (List ℕ)
  pub behind : List (List ℕ)
  pub parts : path ≡ before ++ behind
  pub front_is : front (names_of t) number ≡ joined before
  pub rest_is : rest ≡ joined behind

pub scope_begun : (t : Table) (path : List (List ℕ)) (rest : List ℕ) → rest ≡ joined path → IsInScope t path 0 rest
scope_begun t path rest e = record { before = []; behind = path; parts = refl; front_is = refl; rest_is = e }

module _ (t : Table) (ok : IsTable t) (number : ℕ) (l : number ≤ length t.rows.items) where
  sized : length (names_of t) ≡ length t.rows.items
  sized = length-map t.rows.items (λ r. r.name)

  pub row_within : (word : List ℕ) (row : ℕ) → look t number word ≡ Some row → row < length t.rows.items
  row_within word row h = let s = ok.forest.sound number word row (omega (arith, l, sized)) h in omega (arith, s.0, sized)

  one_more : (before : List (List ℕ)) (word : List ℕ) (row : ℕ) → ArePlain before → front (names_of t) number ≡ joined before → look t number word ≡ Some row → front (names_of t) (row + 1) ≡ joined (before ++ word ∷ [])
  one_more before word row pb e h =
      let s = ok.forest.sound number word row (omega (arith, l, sized)) h in
      let z : row + 1 ≡ suc row = omega arith in
      ap (front (names_of t)) z ∙ s.1 ∙ ap (λ z. under z word) e ∙ sym (joined_more before word pb)

  -- the next word is missing
  front_missing : (before : List (List ℕ)) (word : List ℕ) (rest : List (List ℕ)) → ArePlain (before ++ word ∷ rest) → front (names_of t) number ≡ joined before → look t number word ≡ None → IsScopeFront t (before ++ word ∷ rest) number
  front_missing before word rest pp e none =
      let pb = plain_parts before (word ∷ rest) pp in
      let pw = pb.1.0 in
      let n = length-append before (word ∷ rest) in
      let ne : joined (before ++ word ∷ []) ≢ [] = λ q. under_some (joined before) word pw (sym (joined_more before word pb.0) ∙ q) in
      record {
        words = length before;
        within = omega (arith, n);
        front_is = e ∙ ap joined (sym (take-append_seam before (word ∷ rest)));
        longest = λ j row a b lr q. (
            let p = take_past before word rest j a in
            let both = plain_parts (before ++ word ∷ []) p.0 (subst ArePlain p.1 (plain_take (before ++ word ∷ rest) j pp)) in
            let x = under_all_named t ok p.0 both.1 (joined (before ++ word ∷ [])) ne row lr (q ∙ ap joined p.1 ∙ joined_all (before ++ word ∷ []) p.0 both.0 both.1) in
            none-some x.0 (sym none ∙ ok.forest.complete number word x.0 (omega (arith, l, sized)) pw (omega (arith, x.1, sized)) (x.2 ∙ joined_more before word pb.0 ∙ ap (λ z. under z word) (sym e))));
      }

  front_whole : (path : List (List ℕ)) (m : ℕ) → front (names_of t) m ≡ joined path → IsScopeFront t path m
  front_whole path m e = record { words = length path; within = omega arith; front_is = e ∙ ap joined (sym (take-length path)); longest = λ j row a b lr q. absurd (omega (arith, a, b)) }

  module _ (path : List (List ℕ)) (plain : ArePlain path) (rest : List ℕ) (i : IsInScope t path number rest) where
    both : ArePlain i.before × ArePlain i.behind
    both = plain_parts i.before i.behind (subst ArePlain i.parts plain)

    missing_at : (word : List ℕ) (others : List (List ℕ)) → i.behind ≡ word ∷ others → look t number word ≡ None → IsScopeFront t path number
    missing_at word others e none =
        let parts : path ≡ i.before ++ word ∷ others = i.parts ∙ ap (λ z. i.before ++ z) e in
        subst (λ z. IsScopeFront t z number) (sym parts) (front_missing i.before word others (subst ArePlain parts plain) i.front_is none)

    -- a word before a point
    pub scope_step : (word behind : List ℕ) → rest ≡ word ++ 46 ∷ behind → list_any (λ b. b == 46) word ≡ false → (row : ℕ) → look t number word ≡ Some row → IsInScope t path (row + 1) behind
    scope_step word behind cut h row found =
        let r = first_cut i.behind word behind both.1 h (sym i.rest_is ∙ cut) in
        record {
          before = i.before ++ word ∷ [];
          behind = r.0;
          parts = i.parts ∙ ap (λ z. i.before ++ z) r.1 ∙ sym (append_assoc i.before (word ∷ []) r.0);
          front_is = one_more i.before word row both.0 i.front_is found;
          rest_is = r.2;
        }

    pub scope_missing : (word behind : List ℕ) → rest ≡ word ++ 46 ∷ behind → list_any (λ b. b == 46) word ≡ false → look t number word ≡ None → IsScopeFront t path number
    scope_missing word behind cut h none = let r = first_cut i.behind word behind both.1 h (sym i.rest_is ∙ cut) in missing_at word r.0 r.1 none

    -- the last word, or none
    pub scope_last : list_any (λ b. b == 46) rest ≡ false → (row : ℕ) → look t number rest ≡ Some row → IsScopeFront t path (row + 1)
    scope_last h row found = elim (last_cut i.behind rest both.1 h i.rest_is) [
      | inl none ↦
          let s = ok.forest.sound number rest row (omega (arith, l, sized)) found in
          absurd (s.2.1 (i.rest_is ∙ ap joined none))
      | inr one ↦
          let parts : path ≡ i.before ++ rest ∷ [] = i.parts ∙ ap (λ z. i.before ++ z) one in
          front_whole path (row + 1) (one_more i.before rest row both.0 i.front_is found ∙ ap joined (sym parts))
    ]

    pub scope_ended : list_any (λ b. b == 46) rest ≡ false → look t number rest ≡ None → IsScopeFront t path number
    scope_ended h none = elim (last_cut i.behind rest both.1 h i.rest_is) [
      | inl no_more ↦ front_whole path number (i.front_is ∙ ap joined (whole i.before i.behind no_more ∙ sym i.parts))
      | inr one ↦ missing_at rest [] one none
    ]
      where
        whole : (x y : List (List ℕ)) → y ≡ [] → x ≡ x ++ y
        whole [] y e = sym e
        whole (w ∷ x) y e = ap (λ z. w ∷ z) (whole x y e)
