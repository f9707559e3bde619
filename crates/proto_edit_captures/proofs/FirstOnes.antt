-- The first of the references that are read in step with what they mean.
use Rattle.std.proofs.Common.{◌≡◌, ℕ, suc, ◌+◌, ◌<◌, Bool, true, false, cond, List, [], ◌∷◌, length, get_or, drop, map, min, Option, Some, None, refl, sym, ap, subst, ◌∙◌, inl, inr, arith, AllPairs, Contains}
use Rattle.proto_base.proofs.Common.{both_ways, cases_Bool, cases_lt, cond-false, cond-true, drop_all, drop_more, none-some, same_Some, contains_cases, contains_head, contains_later, contains_map, from_map}
use Rattle.proto_files.proofs.Common.{ReadOf, FileOf}
use Rattle.proto_names_rules.specs.Skeleton.{Used}
use Rattle.proto_names.proofs.Common.{TextMeant, meant_by_link, meant_by_use, LinkOf}
use Rattle.proto_names_outline.specs.declared.listing.Use.{Use}
use Rattle.proto_names.specs.Linking.{Meant}
use Rattle.proto_edit_captures.specs.FirstCaptured.{first_passing}

-- what is left of a list begins with its next element
pub front : {X : Type 0} (xs : List X) (i : ℕ) (x : X) → i < length xs → x ≡ get_or xs i x → drop i xs ≡ x ∷ drop (i + 1) xs
front xs i x lt is = drop_more xs i x lt ∙ ap (λ (y : _). y ∷ drop (i + 1) xs) (sym is)

none_left : (test : Use → Meant → Bool) (us : List Use) → first_passing test us [] ≡ None
none_left test [] = refl
none_left test (u ∷ us) = refl

pub none_behind : (test : Use → Meant → Bool) (us : List Use) (ms : List Meant) (n : ℕ) → n ≡ min (length us) (length ms) → first_passing test (drop n us) (drop n ms) ≡ None
none_behind test us ms n e = elim (cases_lt (length us) (length ms)) [
  | inl l ↦ ap (λ z. first_passing test z (drop n ms)) (drop_all n us (omega (arith, e, l)))
  | inr l ↦ ap (first_passing test (drop n us)) (drop_all n ms (omega (arith, e, l))) ∙ none_left test (drop n us)
]

module _ (test : Use → Meant → Bool) (us : List Use) (ms : List Meant) (n : ℕ) (u : Use) (m : Meant) (more_us : n < length us) (more_ms : n < length ms) (u_is : u ≡ get_or us n u) (m_is : m ≡ get_or ms n m) where
  -- the pair that is next
  next_pair : first_passing test (drop n us) (drop n ms) ≡ cond (test u m) (Some m.token) (first_passing test (drop (n + 1) us) (drop (n + 1) ms))
  next_pair =
      ap (λ z. first_passing test z (drop n ms)) (front us n u more_us u_is)
      ∙ ap (first_passing test (u ∷ drop (n + 1) us)) (front ms n m more_ms m_is)

  pub passed_over : test u m ≡ false → (k : ℕ) → k ≡ n + 1 → first_passing test (drop n us) (drop n ms) ≡ first_passing test (drop k us) (drop k ms)
  passed_over e k is =
      next_pair ∙ cond-false (test u m) (Some m.token) (first_passing test (drop (n + 1) us) (drop (n + 1) ms)) e
      ∙ ap (λ j. first_passing test (drop j us) (drop j ms)) (sym is)

  pub stops_here : test u m ≡ true → first_passing test (drop n us) (drop n ms) ≡ Some m.token
  stops_here e = next_pair ∙ cond-true (test u m) (Some m.token) (first_passing test (drop (n + 1) us) (drop (n + 1) ms)) e

-- ---- where each is decided

module _ (files : List FileOf) (reads : List ReadOf) (l : LinkOf) (file : ℕ) (P : Used ℕ → Type 0) (test : Use → Meant → Bool) (used : Use → Used ℕ) where
  -- what is known of one reference and what it means
  abbrev IsDecided : Use → Type 0
  IsDecided u = (m : Meant) → meant_by_link l m ≡ meant_by_use files reads file (used u) → (test u m ≡ true → P (used u)) × (P (used u) → test u m ≡ true)

  token_is : (m : Meant) (u : Used ℕ) → meant_by_link l m ≡ meant_by_use files reads file u → m.token ≡ u.first
  token_is m u h = ap (λ (z : TextMeant). z.token) h

  -- each token behind is greater
  later : (m : Meant) (ms : List Meant) → AllPairs (λ a b. a.token < b.token) (m ∷ ms) → (us : List (Used ℕ)) → map (meant_by_link l) ms ≡ map (meant_by_use files reads file) us → (v : Used ℕ) → Contains us v → m.token < v.first
  later m ms rise us same v cv =
      let there = subst (λ (z : List TextMeant). Contains z (meant_by_use files reads file v)) (sym same) (contains_map (meant_by_use files reads file) us v cv) in
      let x = from_map (meant_by_link l) ms (meant_by_use files reads file v) there in
      let c = x.1 in
      let above = rise 0 (suc c.0) x.0 (omega arith) (let lt = c.1 in omega (arith, lt)) in
      let e1 = ap (λ (z : Meant). z.token) c.2 in
      let e2 = token_is x.0 v x.2 in
      omega (arith, above, e1, e2)

  pub none_passes : (us : List Use) (ms : List Meant) → map (meant_by_link l) ms ≡ map (meant_by_use files reads file) (map used us) → ((u : Use) → Contains us u → IsDecided u) → first_passing test us ms ≡ None
      → (v : Used ℕ) → Contains (map used us) v → P v → ⊥
  none_passes [] ms same decided h v cv pv = absurd (omega (arith, cv.1))
  none_passes (u ∷ us) [] same decided h v cv pv = absurd cc
  none_passes (u ∷ us) (m ∷ ms) same decided h v cv pv =
      let head : meant_by_link l m ≡ meant_by_use files reads file (used u) = cc in
      let tail : map (meant_by_link l) ms ≡ map (meant_by_use files reads file) (map used us) = cc in
      let d = decided u (contains_head u us) m head in
      elim (cases_Bool (test u m)) [
        | inl t ↦ absurd (some_none (sym (cond-true (test u m) (Some m.token) (first_passing test us ms) t) ∙ h))
        | inr f ↦ elim (contains_cases (used u) v (map used us) cv) [
          | inl e ↦ both_ways (test u m) f (d.1 (subst P (sym e) pv))
          | inr c ↦ none_passes us ms tail (λ x cx. decided x (contains_later u x us cx)) (sym (cond-false (test u m) (Some m.token) (first_passing test us ms) f) ∙ h) v c pv
        ]
      ]
    where
      some_none : ◌≡◌ {A = Option ℕ} (Some m.token) None → ⊥
      some_none z = cc

  pub one_passes : (us : List Use) (ms : List Meant) (t : ℕ) → map (meant_by_link l) ms ≡ map (meant_by_use files reads file) (map used us) → AllPairs (λ a b. a.token < b.token) ms
      → ((u : Use) → Contains us u → IsDecided u) → first_passing test us ms ≡ Some t
      → (u : Used ℕ) × Contains (map used us) u × P u × (u.first ≡ t) × ((v : Used ℕ) → Contains (map used us) v → v.first < t → P v → ⊥)
  one_passes [] ms t same rise decided h = absurd (none-some t h)
  one_passes (u ∷ us) [] t same rise decided h = absurd (none-some t h)
  one_passes (u ∷ us) (m ∷ ms) t same rise decided h =
      let head : meant_by_link l m ≡ meant_by_use files reads file (used u) = cc in
      let tail : map (meant_by_link l) ms ≡ map (meant_by_use files reads file) (map used us) = cc in
      let d = decided u (contains_head u us) m head in
      let here = token_is m (used u) head in
      elim (cases_Bool (test u m)) [
        | inl hit ↦
            let token : m.token ≡ t = same_Some m.token t (sym (cond-true (test u m) (Some m.token) (first_passing test us ms) hit) ∙ h) in (
              used u,
              contains_head (used u) (map used us),
              d.0 hit,
              sym here ∙ token,
              λ v cv below pv. elim (contains_cases (used u) v (map used us) cv) [
                | inl e ↦ (let z = ap (λ (x : Used ℕ). x.first) e in absurd (omega (arith, below, z, here, token)))
                | inr c ↦ (let z = later m ms rise (map used us) tail v c in absurd (omega (arith, below, z, token)))
              ],
            )
        | inr miss ↦
            let r = one_passes us ms t tail (λ i j x a b. rise (suc i) (suc j) x (omega (arith, a)) (omega (arith, b))) (λ x cx. decided x (contains_later u x us cx)) (sym (cond-false (test u m) (Some m.token) (first_passing test us ms) miss) ∙ h) in (
              r.0,
              contains_later (used u) r.0 (map used us) r.1,
              r.2,
              r.3,
              λ v cv below pv. elim (contains_cases (used u) v (map used us) cv) [
                | inl e ↦ both_ways (test u m) miss (d.1 (subst P (sym e) pv))
                | inr c ↦ r.4 v c below pv
              ],
            )
      ]
