-- A file's declarations nest, and its tokens declare one symbol each, its package's words among them (for the crates above).
use Rattle.std.proofs.Common.{◌≡◌, ℕ, ◌+◌, ◌<◌, ◌≤◌, true, List, [], ◌∷◌, ◌++◌, Some, refl, sym, ◌∙◌, ap, subst, inl, inr, ◌⊎◌, arith, map, append_assoc, Contains}
use Rattle.proto_base.proofs.Common.{Contains-append_left, Contains-append_right, Contains-append_cases, contains_head, contains_later, contains_cases}
use Rattle.proto_names_rules.specs.Common.{Package, holds, Source, Token, Items, no_items, packaged, item, Placed, place, placed, prefixes, package_of, items_placed, file_placed, Rises, ItemsSpan, token_of}
use Rattle.proto_names_rules.proofs.Tree.{none_left, token_is, in_span, one_place, stands}

-- a declaration stands right in another one
abbrev pub Within : List Placed → Placed → Type 0
Within all p = (u : Placed) × Contains all u × (p.above ≡ u.above ++ u.last ∷ []) × (holds u.kind p.kind ≡ true)

rises_order : (ts : List ℕ) (lo hi : ℕ) → Rises lo hi ts → lo ≤ hi
rises_order [] lo hi r = r
rises_order (t ∷ ts) lo hi r = omega (arith, r.0, r.1)

prefix_in_span : (ts : List ℕ) (path : List (Source ℕ)) (lo hi d : ℕ) → Rises lo hi ts → (p : Placed) → Contains (prefixes path ts) p → token_of p.last ≡ Some d → (lo ≤ d) × (d < hi)
prefix_in_span [] path lo hi d r p c h = none_left p c
prefix_in_span (t ∷ ts) path lo hi d r p c h = elim (contains_cases (place path (Token t) Package) p (prefixes (path ++ Token t ∷ []) ts) c) [
  | inl e ↦ let x = token_is (place path (Token t) Package) p d t e refl h in (omega (arith, r.0, x), omega (arith, r.1, x))
  | inr n ↦ let s = prefix_in_span ts (path ++ Token t ∷ []) (t + 1) hi d r.2 p n h in (omega (arith, s.0, r.0), s.1)
]

prefix_one_place : (ts : List ℕ) (path : List (Source ℕ)) (lo hi d : ℕ) → Rises lo hi ts → (p q : Placed) → Contains (prefixes path ts) p → Contains (prefixes path ts) q → token_of p.last ≡ Some d → token_of q.last ≡ Some d → p.above ≡ q.above
prefix_one_place [] path lo hi d r p q cp cq hp hq = none_left p cp
prefix_one_place (t ∷ ts) path lo hi d r p q cp cq hp hq =
    let rest = prefixes (path ++ Token t ∷ []) ts in
    let head = place path (Token t) Package in
    elim (contains_cases head p rest cp) [
      | inl ep ↦ elim (contains_cases head q rest cq) [
        | inl eq ↦ sym (ap (λ z. z.above) ep) ∙ ap (λ z. z.above) eq
        | inr nq ↦ absurd (omega (arith, token_is head p d t ep refl hp, (prefix_in_span ts (path ++ Token t ∷ []) (t + 1) hi d r.2 q nq hq).0))
      ]
      | inr np ↦ elim (contains_cases head q rest cq) [
        | inl eq ↦ absurd (omega (arith, token_is head q d t eq refl hq, (prefix_in_span ts (path ++ Token t ∷ []) (t + 1) hi d r.2 p np hp).0))
        | inr nq ↦ prefix_one_place ts (path ++ Token t ∷ []) (t + 1) hi d r.2 p q np nq hp hq
      ]
    ]

prefix_stands : (ts : List ℕ) (path : List (Source ℕ)) (p : Placed) → Contains (prefixes path ts) p → (p.above ≡ path) ⊎ Within (prefixes path ts) p
prefix_stands [] path p c = none_left p c
prefix_stands (t ∷ ts) path p c =
    let rest = prefixes (path ++ Token t ∷ []) ts in
    let head = place path (Token t) Package in
    elim (contains_cases head p rest c) [
      | inl e ↦ inl (sym (ap (λ z. z.above) e))
      | inr n ↦ elim (prefix_stands ts (path ++ Token t ∷ []) p n) [
        | inl a ↦ inr (head, contains_head head rest, a, refl)
        | inr u ↦ inr (u.0, contains_later head u.0 rest u.1, u.2, u.3)
      ]
    ]

-- the whole package is declared
pub prefix_whole : (t : ℕ) (ts : List ℕ) (path : List (Source ℕ)) → (u : Placed) × Contains (prefixes path (t ∷ ts)) u × (path ++ map (λ i. Token i) (t ∷ ts) ≡ u.above ++ u.last ∷ []) × (u.kind ≡ Package)
prefix_whole t [] path = (place path (Token t) Package, contains_head (place path (Token t) Package) [], refl, refl)
prefix_whole t (v ∷ ts) path =
    let r = prefix_whole v ts (path ++ Token t ∷ []) in (
      r.0,
      contains_later (place path (Token t) Package) r.0 (prefixes (path ++ Token t ∷ []) (v ∷ ts)) r.1,
      sym (append_assoc path (Token t ∷ []) (map (λ i. Token i) (v ∷ ts))) ∙ r.2,
      r.3,
    )

pub items_in_span : (is : Items) (path : List (Source ℕ)) (lo hi d : ℕ) → ItemsSpan lo hi is → (p : Placed) → Contains (items_placed path is) p → token_of p.last ≡ Some d → (lo ≤ d) × (d < hi)
items_in_span no_items path lo hi d s p c h = none_left p c
items_in_span (packaged ts rest) path lo hi d s p c h = elim (Contains-append_cases (prefixes [] ts) (items_placed path rest) p c) [
  | inl a ↦ let r = prefix_in_span ts [] lo s.0 d s.2 p a h in (r.0, omega (arith, r.1, s.1))
  | inr b ↦ let r = items_in_span rest path s.0 hi d s.3 p b h in (omega (arith, r.0, rises_order ts lo s.0 s.2), r.1)
]
items_in_span (item m rest) path lo hi d s p c h = elim (Contains-append_cases (placed path m) (items_placed path rest) p c) [
  | inl a ↦ let r = in_span m path lo s.0 d s.3 p a h in (r.0, omega (arith, r.1, s.1))
  | inr b ↦ let r = items_in_span rest path s.0 hi d s.4 p b h in (omega (arith, r.0, s.2), r.1)
]

pub items_one_place : (is : Items) (path : List (Source ℕ)) (lo hi d : ℕ) → ItemsSpan lo hi is → (p q : Placed) → Contains (items_placed path is) p → Contains (items_placed path is) q → token_of p.last ≡ Some d → token_of q.last ≡ Some d → p.above ≡ q.above
items_one_place no_items path lo hi d s p q cp cq hp hq = none_left p cp
items_one_place (packaged ts rest) path lo hi d s p q cp cq hp hq = elim (Contains-append_cases (prefixes [] ts) (items_placed path rest) p cp) [
  | inl ap' ↦ elim (Contains-append_cases (prefixes [] ts) (items_placed path rest) q cq) [
    | inl aq ↦ prefix_one_place ts [] lo s.0 d s.2 p q ap' aq hp hq
    | inr bq ↦ absurd (omega (arith, (prefix_in_span ts [] lo s.0 d s.2 p ap' hp).1, (items_in_span rest path s.0 hi d s.3 q bq hq).0))
  ]
  | inr bp ↦ elim (Contains-append_cases (prefixes [] ts) (items_placed path rest) q cq) [
    | inl aq ↦ absurd (omega (arith, (prefix_in_span ts [] lo s.0 d s.2 q aq hq).1, (items_in_span rest path s.0 hi d s.3 p bp hp).0))
    | inr bq ↦ items_one_place rest path s.0 hi d s.3 p q bp bq hp hq
  ]
]
items_one_place (item m rest) path lo hi d s p q cp cq hp hq = elim (Contains-append_cases (placed path m) (items_placed path rest) p cp) [
  | inl ap' ↦ elim (Contains-append_cases (placed path m) (items_placed path rest) q cq) [
    | inl aq ↦ one_place m path lo s.0 d s.3 p q ap' aq hp hq
    | inr bq ↦ absurd (omega (arith, (in_span m path lo s.0 d s.3 p ap' hp).1, (items_in_span rest path s.0 hi d s.4 q bq hq).0))
  ]
  | inr bp ↦ elim (Contains-append_cases (placed path m) (items_placed path rest) q cq) [
    | inl aq ↦ absurd (omega (arith, (in_span m path lo s.0 d s.3 q aq hq).1, (items_in_span rest path s.0 hi d s.4 p bp hp).0))
    | inr bq ↦ items_one_place rest path s.0 hi d s.4 p q bp bq hp hq
  ]
]

items_stand : (is : Items) (path : List (Source ℕ)) (p : Placed) → Contains (items_placed path is) p → (p.above ≡ []) ⊎ ((p.above ≡ path) ⊎ Within (items_placed path is) p)
items_stand no_items path p c = none_left p c
items_stand (packaged ts rest) path p c = elim (Contains-append_cases (prefixes [] ts) (items_placed path rest) p c) [
  | inl a ↦ elim (prefix_stands ts [] p a) [ inl x ↦ inl x | inr u ↦ inr (inr (u.0, Contains-append_left (prefixes [] ts) (items_placed path rest) u.0 u.1, u.2, u.3)) ]
  | inr b ↦ elim (items_stand rest path p b) [
    | inl x ↦ inl x
    | inr (inl x) ↦ inr (inl x)
    | inr (inr u) ↦ inr (inr (u.0, Contains-append_right (prefixes [] ts) (items_placed path rest) u.0 u.1, u.2, u.3))
  ]
]
items_stand (item m rest) path p c = elim (Contains-append_cases (placed path m) (items_placed path rest) p c) [
  | inl a ↦ elim (stands m path p a) [ inl x ↦ inr (inl x) | inr u ↦ inr (inr (u.0, Contains-append_left (placed path m) (items_placed path rest) u.0 u.1, u.2, u.3)) ]
  | inr b ↦ elim (items_stand rest path p b) [
    | inl x ↦ inl x
    | inr (inl x) ↦ inr (inl x)
    | inr (inr u) ↦ inr (inr (u.0, Contains-append_right (placed path m) (items_placed path rest) u.0 u.1, u.2, u.3))
  ]
]

pub package_within : (is : Items) (path : List (Source ℕ)) (p : Placed) → Contains (prefixes [] (package_of is)) p → Contains (items_placed path is) p
package_within no_items path p c = none_left p c
package_within (packaged ts rest) path p c = Contains-append_left (prefixes [] ts) (items_placed path rest) p c
package_within (item m rest) path p c = Contains-append_right (placed path m) (items_placed path rest) p (package_within rest path p c)

-- Each declaration of a file is outermost, or stands right in another one.
pub file_stands : (is : Items) (p : Placed) → Contains (file_placed is) p → (p.above ≡ []) ⊎ Within (file_placed is) p
file_stands is p c = elim (items_stand is (map (λ t. Token t) (package_of is)) p c) [
  | inl x ↦ inl x
  | inr (inl x) ↦ go (package_of is) refl x
  | inr (inr u) ↦ inr u
]
  where
    go : (ts : List ℕ) → package_of is ≡ ts → p.above ≡ map (λ t. Token t) (package_of is) → (p.above ≡ []) ⊎ Within (file_placed is) p
    go [] e x = inl (x ∙ ap (map (λ t. Token t)) e)
    go (t ∷ ts) e x =
        let r = prefix_whole t ts [] in
        inr (
          r.0,
          package_within is (map (λ t. Token t) (package_of is)) r.0 (subst (λ l. Contains (prefixes [] l) r.0) (sym e) r.1),
          x ∙ ap (map (λ t. Token t)) e ∙ r.2,
          ap (λ k. holds k p.kind) r.3,
        )

pub file_one_place : (is : Items) (lo hi d : ℕ) → ItemsSpan lo hi is → (p q : Placed) → Contains (file_placed is) p → Contains (file_placed is) q → token_of p.last ≡ Some d → token_of q.last ≡ Some d → p.above ≡ q.above
file_one_place is lo hi d s p q cp cq hp hq = items_one_place is (map (λ t. Token t) (package_of is)) lo hi d s p q cp cq hp hq
