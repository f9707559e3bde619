-- A name goes on from another one as its text does.
use Rattle.std.proofs.Common.{◌≡◌, ◌≢◌, ℕ, ◌+◌, ◌≤◌, Bool, true, false, List, [], ◌∷◌, ◌++◌, length, get_or, Option, Some, None, refl, sym, ap, ap₂, ◌∙◌, inl, inr, arith, append_assoc, if◌then◌else◌, ◌==◌, count_by, option_and_then, eqb-true, eq-eqb, append-nil}
use Rattle.proto_base.proofs.Common.{list_any, cases_Bool, cond-true, cond-false, or_parts, none-some, same_Some}
use Rattle.std.proofs.lemmas.List.Recursion.{is_count_by}
use Rattle.proto_names_rules.proofs.Common.{joined, ArePlain, at_point, joined_apart, not_pointed}
use Rattle.proto_edit_rename.specs.StandingTokens.{points, behind, words_in, words_behind}

pub points_count : (text : List ℕ) → points text ≡ count_by (λ b. b == 46) text
points_count text = is_count_by points (λ b. b == 46) refl (λ b rest. refl) text

-- a point comes first
pub pointed : (rest : List ℕ) (n : ℕ) → 1 ≤ length rest → get_or rest 0 0 ≡ 46 → n ≡ count_by (λ b. b == 46) rest → Some n ≡ words_in rest
pointed [] n l h e = absurd (omega (arith, l))
pointed (b ∷ rest) n l h e = ap Some (e ∙ sym (points_count (b ∷ rest))) ∙ sym (cond-true (b == 46) (Some (points (b ∷ rest))) None (eq-eqb b 46 h))

-- ---- what stands behind a front

pub behind_front : (front rest : List ℕ) → behind front (front ++ rest) ≡ Some rest
behind_front [] rest = refl
behind_front (b ∷ front) rest = cond-true (b == b) (behind front (front ++ rest)) None (eq-eqb b b refl) ∙ behind_front front rest

pub front_behind : (front text rest : List ℕ) → behind front text ≡ Some rest → text ≡ front ++ rest
front_behind [] text rest e = same_Some text rest e
front_behind (c ∷ front) [] rest e = absurd (none-some rest e)
front_behind (c ∷ front) (b ∷ text) rest e = elim (cases_Bool (b == c)) [
  | inl t ↦ ap₂ (λ (x : ℕ) (xs : List ℕ). x ∷ xs) (eqb-true b c t) (front_behind front text rest (sym (cond-true (b == c) (behind front text) None t) ∙ e))
  | inr f ↦ absurd (none-some rest (sym (cond-false (b == c) (behind front text) None f) ∙ e))
]

pub no_front : (front text : List ℕ) → ((rest : List ℕ) → text ≢ front ++ rest) → behind front text ≡ None
no_front front text h = by (behind front text) refl
  where
    by : (o : Option (List ℕ)) → behind front text ≡ o → behind front text ≡ None
    by None e = e
    by (Some rest) e = absurd (h rest (front_behind front text rest e))

-- ---- points

plain_points : (w : List ℕ) → list_any (λ b. b == 46) w ≡ false → points w ≡ 0
plain_points [] h = refl
plain_points (b ∷ w) h =
    let p = or_parts (b == 46) (list_any (λ x. x == 46) w) h in
    cond-false (b == 46) (1 + points w) (points w) p.0 ∙ plain_points w p.1

points_step : (t : Bool) (n m k : ℕ) → n ≡ m + k → (if t then 1 + n else n) ≡ (if t then 1 + m else m) + k
points_step true n m k e = omega (arith, e)
points_step false n m k e = e

points_append : (a b : List ℕ) → points (a ++ b) ≡ points a + points b
points_append [] b = omega arith
points_append (x ∷ a) b = points_step (x == 46) (points (a ++ b)) (points a) (points b) (points_append a b)

-- a name has a point between each two words
pub joined_points : (m : List (List ℕ)) → ArePlain m → m ≢ [] → 1 + points (joined m) ≡ length m
joined_points [] p some = absurd (some refl)
joined_points (w ∷ []) p some = let e = plain_points w p.0.0 in omega (arith, e)
joined_points (w ∷ v ∷ ms) p some =
    let a = points_append w (46 ∷ joined (v ∷ ms)) in
    let e = plain_points w p.0.0 in
    let step : points (46 ∷ joined (v ∷ ms)) ≡ 1 + points (joined (v ∷ ms)) = refl in
    let more = joined_points (v ∷ ms) p.1 (λ z. cc) in
    omega (arith, a, e, step, more)

-- ---- names and their texts

-- a text that goes on at a point is that of a name that goes on
goes_on : (t m : List (List ℕ)) (r : List ℕ) → ArePlain t → ArePlain m → t ≢ [] → joined m ≡ joined t ++ 46 ∷ r → (rest : List (List ℕ)) × (m ≡ t ++ rest) × ArePlain rest × (rest ≢ []) × (joined rest ≡ r)
goes_on [] m r pt pm some e = absurd (some refl)
goes_on (u ∷ []) [] r pt pm some e = absurd (not_pointed [] u r refl e)
goes_on (u ∷ []) (w ∷ []) r pt pm some e = absurd (not_pointed w u r pm.0.0 e)
goes_on (u ∷ []) (w ∷ v ∷ ms) r pt pm some e =
    let p = at_point w u (joined (v ∷ ms)) r pm.0.0 pt.0.0 e in
    (v ∷ ms, ap (λ (z : List ℕ). z ∷ v ∷ ms) p.0, pm.1, λ z. cc, p.1)
goes_on (u ∷ x ∷ ts) [] r pt pm some e = absurd (not_pointed [] (u ++ 46 ∷ joined (x ∷ ts)) r refl e)
goes_on (u ∷ x ∷ ts) (w ∷ []) r pt pm some e = absurd (not_pointed w u (joined (x ∷ ts) ++ 46 ∷ r) pm.0.0 (e ∙ append_assoc u (46 ∷ joined (x ∷ ts)) (46 ∷ r)))
goes_on (u ∷ x ∷ ts) (w ∷ v ∷ ms) r pt pm some e =
    let p = at_point w u (joined (v ∷ ms)) (joined (x ∷ ts) ++ 46 ∷ r) pm.0.0 pt.0.0 (e ∙ append_assoc u (46 ∷ joined (x ∷ ts)) (46 ∷ r)) in
    let more = goes_on (x ∷ ts) (v ∷ ms) r pt.1 pm.1 (λ z. cc) p.1 in
    (more.0, ap₂ (λ (a : List ℕ) (b : List (List ℕ)). a ∷ b) p.0 more.1, more.2, more.3, more.4)

joined_append : (t : List (List ℕ)) (v : List ℕ) (vs : List (List ℕ)) → t ≢ [] → joined (t ++ v ∷ vs) ≡ joined t ++ 46 ∷ joined (v ∷ vs)
joined_append [] v vs some = absurd (some refl)
joined_append (u ∷ []) v vs some = refl
joined_append (u ∷ x ∷ ts) v vs some =
    ap (λ (z : List ℕ). u ++ 46 ∷ z) (joined_append (x ∷ ts) v vs (λ z. cc)) ∙ sym (append_assoc u (46 ∷ joined (x ∷ ts)) (46 ∷ joined (v ∷ vs)))

plain_back : (t rest : List (List ℕ)) → ArePlain (t ++ rest) → ArePlain rest
plain_back [] rest p = p
plain_back (w ∷ t) rest p = plain_back t rest p.1

-- ---- the words behind a name, by the texts

pub behind_is : (t rest : List (List ℕ)) → t ≢ [] → ArePlain (t ++ rest) → words_behind (joined t) (joined (t ++ rest)) ≡ Some (length rest)
behind_is t [] some p =
    ap (λ (z : List ℕ). option_and_then words_in (behind (joined t) z)) (ap joined (append-nil t) ∙ sym (append-nil (joined t)))
    ∙ ap (option_and_then words_in) (behind_front (joined t) [])
behind_is t (v ∷ vs) some p =
    let step : points (46 ∷ joined (v ∷ vs)) ≡ 1 + points (joined (v ∷ vs)) = refl in
    let last : words_in (46 ∷ joined (v ∷ vs)) ≡ Some (points (46 ∷ joined (v ∷ vs))) = refl in
    ap (λ (z : List ℕ). option_and_then words_in (behind (joined t) z)) (joined_append t v vs some)
    ∙ ap (option_and_then words_in) (behind_front (joined t) (46 ∷ joined (v ∷ vs)))
    ∙ last
    ∙ ap Some (step ∙ joined_points (v ∷ vs) (plain_back t (v ∷ vs) p) (λ z. cc))

pub is_behind : (t m : List (List ℕ)) (n : ℕ) → t ≢ [] → ArePlain t → ArePlain m → words_behind (joined t) (joined m) ≡ Some n → (rest : List (List ℕ)) × (m ≡ t ++ rest) × (length rest ≡ n)
is_behind t m n some pt pm h = by (behind (joined t) (joined m)) refl h
  where
    by : (o : Option (List ℕ)) → behind (joined t) (joined m) ≡ o → option_and_then words_in o ≡ Some n → (rest : List (List ℕ)) × (m ≡ t ++ rest) × (length rest ≡ n)
    by None e h = absurd (none-some n h)
    by (Some []) e h = ([], joined_apart m t pm pt (front_behind (joined t) (joined m) [] e ∙ append-nil (joined t)) ∙ sym (append-nil t), same_Some 0 n h)
    by (Some (b ∷ r)) e h = elim (cases_Bool (b == 46)) [
      | inl q ↦
          let is : b ≡ 46 = eqb-true b 46 q in
          let go = goes_on t m r pt pm some (front_behind (joined t) (joined m) (b ∷ r) e ∙ ap (λ (z : ℕ). joined t ++ z ∷ r) is) in
          let count : points (b ∷ r) ≡ n = same_Some (points (b ∷ r)) n (sym (cond-true (b == 46) (Some (points (b ∷ r))) None q) ∙ h) in
          let one : points (b ∷ r) ≡ 1 + points r = cond-true (b == 46) (1 + points r) (points r) q in
          let all = joined_points go.0 go.2 go.3 in
          (go.0, go.1, sym all ∙ ap (λ (z : List ℕ). 1 + points z) go.4 ∙ sym one ∙ count)
      | inr q ↦ absurd (none-some n (sym (cond-false (b == 46) (Some (points (b ∷ r))) None q) ∙ h))
    ]
