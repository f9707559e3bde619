-- A tree's declarations nest, and its tokens declare one symbol each (for the crates above).
use Rattle.std.proofs.Common.{◌≡◌, ℕ, ◌+◌, ◌<◌, ◌≤◌, true, false, not, List, [], ◌∷◌, ◌++◌, Some, None, refl, sym, ◌∙◌, ap, inl, inr, ◌⊎◌, arith, map, Contains, All}
use Rattle.proto_base.proofs.Common.{none-some, same_Some, Contains-append_left, Contains-append_right, Contains-append_cases, All-contains, contains_head, contains_later, contains_cases, from_map}
use Rattle.proto_names_rules.specs.Common.{Kind, Message, Entry, Enum, Service, Field, EntryField, Oneof, Value, Method, Extension, holds, is_package, is_leaf, Source, Token, EntryOf, Given, Member, field, map_field, oneof, message, enum, service, extend, Members, no_members, member, Placed, place, beside, key_word, value_word, placed, all_placed, Spans, AllSpan, token_of}

pub none_left : {P : Type 0} (p : Placed) → Contains [] p → P
none_left p c = absurd (omega (arith, c.1))

-- from what a declaration is to what its token is
pub token_is : (p q : Placed) (d t : ℕ) → p ≡ q → token_of p.last ≡ Some t → token_of q.last ≡ Some d → t ≡ d
token_is p q d t e a b = same_Some t d (sym a ∙ ap (λ z. token_of z.last) e ∙ b)

abbrev value_only : List (Source ℕ) → ℕ → List Placed
value_only path t = place (path ++ EntryOf t ∷ []) (Given value_word) EntryField ∷ []

abbrev key_and_value : List (Source ℕ) → ℕ → List Placed
key_and_value path t = place (path ++ EntryOf t ∷ []) (Given key_word) EntryField ∷ value_only path t

abbrev entry_on : List (Source ℕ) → ℕ → List Placed
entry_on path t = place path (EntryOf t) Entry ∷ key_and_value path t

-- what a map field declares
map_parts : (path : List (Source ℕ)) (t : ℕ) (p : Placed) → Contains (placed path (map_field t)) p → ((p.above ≡ path) × (token_of p.last ≡ Some t)) ⊎ ((p.above ≡ path ++ EntryOf t ∷ []) × (token_of p.last ≡ None) × (p.kind ≡ EntryField))
map_parts path t p c = elim (contains_cases (place path (Token t) Field) p (entry_on path t) c) [
  | inl e ↦ inl (sym (ap (λ z. z.above) e), sym (ap (λ z. token_of z.last) e))
  | inr c1 ↦ elim (contains_cases (place path (EntryOf t) Entry) p (key_and_value path t) c1) [
    | inl e ↦ inl (sym (ap (λ z. z.above) e), sym (ap (λ z. token_of z.last) e))
    | inr c2 ↦ elim (contains_cases (place (path ++ EntryOf t ∷ []) (Given key_word) EntryField) p (value_only path t) c2) [
      | inl e ↦ inr (sym (ap (λ z. z.above) e), sym (ap (λ z. token_of z.last) e), sym (ap (λ z. z.kind) e))
      | inr c3 ↦ elim (contains_cases (place (path ++ EntryOf t ∷ []) (Given value_word) EntryField) p [] c3) [
        | inl e ↦ inr (sym (ap (λ z. z.above) e), sym (ap (λ z. token_of z.last) e), sym (ap (λ z. z.kind) e))
        | inr c4 ↦ none_left p c4
      ]
    ]
  ]
]

-- symbols side by side
record IsBeside (path : List (Source ℕ)) (t : ℕ) (outer inner : Kind) (ts : List ℕ) (p : Placed) : Type 0 where
  above : p.above ≡ path
  token : (token_of p.last ≡ Some t) ⊎ ((v : ℕ) × Contains ts v × (token_of p.last ≡ Some v))
  kind : (p.kind ≡ outer) ⊎ (p.kind ≡ inner)

beside_parts : (path : List (Source ℕ)) (t : ℕ) (outer inner : Kind) (ts : List ℕ) (p : Placed) → Contains (beside path t outer inner ts) p → IsBeside path t outer inner ts p
beside_parts path t outer inner ts p c = elim (contains_cases (place path (Token t) outer) p (map (λ i. place path (Token i) inner) ts) c) [
  | inl e ↦ record { above = sym (ap (λ z. z.above) e); token = inl (sym (ap (λ z. token_of z.last) e)); kind = inl (sym (ap (λ z. z.kind) e)) }
  | inr n ↦
      let v = from_map (λ i. place path (Token i) inner) ts p n in
      record { above = sym (ap (λ z. z.above) v.2); token = inr (v.0, v.1, sym (ap (λ z. token_of z.last) v.2)); kind = inr (sym (ap (λ z. z.kind) v.2)) }
]

service_parts : (path : List (Source ℕ)) (t : ℕ) (ms : List ℕ) (p : Placed) → Contains (placed path (service t ms)) p → ((p.above ≡ path) × (token_of p.last ≡ Some t) × (p.kind ≡ Service)) ⊎ ((p.above ≡ path ++ Token t ∷ []) × ((v : ℕ) × Contains ms v × (token_of p.last ≡ Some v)) × (p.kind ≡ Method))
service_parts path t ms p c = elim (contains_cases (place path (Token t) Service) p (map (λ i. place (path ++ Token t ∷ []) (Token i) Method) ms) c) [
  | inl e ↦ inl (sym (ap (λ z. z.above) e), sym (ap (λ z. token_of z.last) e), sym (ap (λ z. z.kind) e))
  | inr n ↦
      let v = from_map (λ i. place (path ++ Token t ∷ []) (Token i) Method) ms p n in
      inr (sym (ap (λ z. z.above) v.2), (v.0, v.1, sym (ap (λ z. token_of z.last) v.2)), sym (ap (λ z. z.kind) v.2))
]

-- the tokens of symbols side by side
beside_in : (t lo hi d : ℕ) (ts : List ℕ) (s : Source ℕ) → lo ≤ t → t < hi → All (λ v. (t < v) × (v < hi)) ts → (token_of s ≡ Some t) ⊎ ((v : ℕ) × Contains ts v × (token_of s ≡ Some v)) → token_of s ≡ Some d → (lo ≤ d) × (d < hi)
beside_in t lo hi d ts s l u all cases h = elim cases [
  | inl a ↦ let x : t ≡ d = same_Some t d (sym a ∙ h) in (omega (arith, l, x), omega (arith, u, x))
  | inr b ↦
      let x : b.0 ≡ d = same_Some b.0 d (sym b.2 ∙ h) in
      let y = All-contains (λ v. (t < v) × (v < hi)) ts b.0 all b.1 in
      (omega (arith, l, x, y.0), omega (arith, y.1, x))
]

mutual
  -- its token is one of the tree's
  pub in_span : (m : Member) (path : List (Source ℕ)) (lo hi d : ℕ) → Spans lo hi m → (p : Placed) → Contains (placed path m) p → token_of p.last ≡ Some d → (lo ≤ d) × (d < hi)
  in_span (field t) path lo hi d s p c h = elim (contains_cases (place path (Token t) Field) p [] c) [
    | inl e ↦ let x = token_is (place path (Token t) Field) p d t e refl h in (omega (arith, s.0, x), omega (arith, s.1, x))
    | inr n ↦ none_left p n
  ]
  in_span (map_field t) path lo hi d s p c h = elim (map_parts path t p c) [
    | inl a ↦ let x : t ≡ d = same_Some t d (sym a.1 ∙ h) in (omega (arith, s.0, x), omega (arith, s.1, x))
    | inr b ↦ absurd (none-some d (sym b.1 ∙ h))
  ]
  in_span (message t ms) path lo hi d s p c h = elim (contains_cases (place path (Token t) Message) p (all_placed (path ++ Token t ∷ []) ms) c) [
    | inl e ↦ let x = token_is (place path (Token t) Message) p d t e refl h in let y = span_order ms (t + 1) hi s.1 in (omega (arith, s.0, x), omega (arith, y, x))
    | inr n ↦ let r = all_in_span ms (path ++ Token t ∷ []) (t + 1) hi d s.1 p n h in (omega (arith, r.0, s.0), r.1)
  ]
  in_span (enum t vs) path lo hi d s p c h = let b = beside_parts path t Enum Value vs p c in beside_in t lo hi d vs p.last s.0 s.1 s.2 b.token h
  in_span (oneof t fs) path lo hi d s p c h = let b = beside_parts path t Oneof Field fs p c in beside_in t lo hi d fs p.last s.0 s.1 s.2 b.token h
  in_span (service t ms) path lo hi d s p c h = elim (service_parts path t ms p c) [
    | inl a ↦ beside_in t lo hi d ms p.last s.0 s.1 s.2 (inl a.1) h
    | inr b ↦ beside_in t lo hi d ms p.last s.0 s.1 s.2 (inr b.1) h
  ]
  in_span (extend ts) path lo hi d s p c h =
      let v = from_map (λ i. place path (Token i) Extension) ts p c in
      let x : v.0 ≡ d = same_Some v.0 d (ap (λ z. token_of z.last) v.2 ∙ h) in
      let y = All-contains (λ i. (lo ≤ i) × (i < hi)) ts v.0 s v.1 in
      (omega (arith, x, y.0), omega (arith, x, y.1))

  pub all_in_span : (ms : Members) (path : List (Source ℕ)) (lo hi d : ℕ) → AllSpan lo hi ms → (p : Placed) → Contains (all_placed path ms) p → token_of p.last ≡ Some d → (lo ≤ d) × (d < hi)
  all_in_span no_members path lo hi d s p c h = none_left p c
  all_in_span (member m ms) path lo hi d s p c h = elim (Contains-append_cases (placed path m) (all_placed path ms) p c) [
    | inl a ↦ let r = in_span m path lo s.0 d s.3 p a h in (r.0, omega (arith, r.1, s.1))
    | inr b ↦ let r = all_in_span ms path s.0 hi d s.4 p b h in (omega (arith, r.0, s.2), r.1)
  ]

  span_order : (ms : Members) (lo hi : ℕ) → AllSpan lo hi ms → lo ≤ hi
  span_order no_members lo hi s = s
  span_order (member m ms) lo hi s = omega (arith, s.1, s.2)

mutual
  -- a token stands at one place: what it declares, and the entry beside it, are right below one path
  pub one_place : (m : Member) (path : List (Source ℕ)) (lo hi d : ℕ) → Spans lo hi m → (p q : Placed) → Contains (placed path m) p → Contains (placed path m) q → token_of p.last ≡ Some d → token_of q.last ≡ Some d → p.above ≡ q.above
  one_place (field t) path lo hi d s p q cp cq hp hq = only p cp ∙ sym (only q cq)
    where
      only : (p : Placed) → Contains (placed path (field t)) p → p.above ≡ path
      only p c = elim (contains_cases (place path (Token t) Field) p [] c) [ inl e ↦ sym (ap (λ z. z.above) e) | inr n ↦ none_left p n ]
  one_place (map_field t) path lo hi d s p q cp cq hp hq = only p cp hp ∙ sym (only q cq hq)
    where
      only : (p : Placed) → Contains (placed path (map_field t)) p → token_of p.last ≡ Some d → p.above ≡ path
      only p c h = elim (map_parts path t p c) [ inl a ↦ a.0 | inr b ↦ absurd (none-some d (sym b.1 ∙ h)) ]
  one_place (enum t vs) path lo hi d s p q cp cq hp hq = (beside_parts path t Enum Value vs p cp).above ∙ sym (beside_parts path t Enum Value vs q cq).above
  one_place (oneof t fs) path lo hi d s p q cp cq hp hq = (beside_parts path t Oneof Field fs p cp).above ∙ sym (beside_parts path t Oneof Field fs q cq).above
  one_place (service t ms) path lo hi d s p q cp cq hp hq = elim (service_parts path t ms p cp) [
    | inl a ↦ elim (service_parts path t ms q cq) [
      | inl b ↦ a.0 ∙ sym b.0
      | inr b ↦ absurd (not_above t hi d ms p.last q.last s.2 a.1 b.1 hp hq)
    ]
    | inr a ↦ elim (service_parts path t ms q cq) [
      | inl b ↦ absurd (not_above t hi d ms q.last p.last s.2 b.1 a.1 hq hp)
      | inr b ↦ a.0 ∙ sym b.0
    ]
  ]
    where
      not_above : (t hi d : ℕ) (ms : List ℕ) (x y : Source ℕ) → All (λ v. (t < v) × (v < hi)) ms → token_of x ≡ Some t → (v : ℕ) × Contains ms v × (token_of y ≡ Some v) → token_of x ≡ Some d → token_of y ≡ Some d → ⊥
      not_above t hi d ms x y all hx v kx ky =
          let a : t ≡ d = same_Some t d (sym hx ∙ kx) in
          let b : v.0 ≡ d = same_Some v.0 d (sym v.2 ∙ ky) in
          let o = All-contains (λ v. (t < v) × (v < hi)) ms v.0 all v.1 in
          absurd (omega (arith, a, b, o.0))
  one_place (message t ms) path lo hi d s p q cp cq hp hq =
      let rest = all_placed (path ++ Token t ∷ []) ms in
      let head = place path (Token t) Message in
      elim (contains_cases head p rest cp) [
        | inl ep ↦ elim (contains_cases head q rest cq) [
          | inl eq ↦ sym (ap (λ z. z.above) ep) ∙ ap (λ z. z.above) eq
          | inr nq ↦ absurd (omega (arith, token_is head p d t ep refl hp, (all_in_span ms (path ++ Token t ∷ []) (t + 1) hi d s.1 q nq hq).0))
        ]
        | inr np ↦ elim (contains_cases head q rest cq) [
          | inl eq ↦ absurd (omega (arith, token_is head q d t eq refl hq, (all_in_span ms (path ++ Token t ∷ []) (t + 1) hi d s.1 p np hp).0))
          | inr nq ↦ all_one_place ms (path ++ Token t ∷ []) (t + 1) hi d s.1 p q np nq hp hq
        ]
      ]
  one_place (extend ts) path lo hi d s p q cp cq hp hq =
      let v = from_map (λ i. place path (Token i) Extension) ts p cp in
      let w = from_map (λ i. place path (Token i) Extension) ts q cq in
      sym (ap (λ z. z.above) v.2) ∙ ap (λ z. z.above) w.2

  pub all_one_place : (ms : Members) (path : List (Source ℕ)) (lo hi d : ℕ) → AllSpan lo hi ms → (p q : Placed) → Contains (all_placed path ms) p → Contains (all_placed path ms) q → token_of p.last ≡ Some d → token_of q.last ≡ Some d → p.above ≡ q.above
  all_one_place no_members path lo hi d s p q cp cq hp hq = none_left p cp
  all_one_place (member m ms) path lo hi d s p q cp cq hp hq = elim (Contains-append_cases (placed path m) (all_placed path ms) p cp) [
    | inl ap' ↦ elim (Contains-append_cases (placed path m) (all_placed path ms) q cq) [
      | inl aq ↦ one_place m path lo s.0 d s.3 p q ap' aq hp hq
      | inr bq ↦ absurd (omega (arith, (in_span m path lo s.0 d s.3 p ap' hp).1, (all_in_span ms path s.0 hi d s.4 q bq hq).0))
    ]
    | inr bp ↦ elim (Contains-append_cases (placed path m) (all_placed path ms) q cq) [
      | inl aq ↦ absurd (omega (arith, (in_span m path lo s.0 d s.3 q aq hq).1, (all_in_span ms path s.0 hi d s.4 p bp hp).0))
      | inr bq ↦ all_one_place ms path s.0 hi d s.4 p q bp bq hp hq
    ]
  ]

-- no member is a package
mutual
  no_package : (m : Member) (path : List (Source ℕ)) (p : Placed) → Contains (placed path m) p → is_package p.kind ≡ false
  no_package (field t) path p c = elim (contains_cases (place path (Token t) Field) p [] c) [ inl e ↦ ap (λ z. is_package z.kind) (sym e) | inr n ↦ none_left p n ]
  no_package (map_field t) path p c = elim (contains_cases (place path (Token t) Field) p (entry_on path t) c) [
    | inl e ↦ ap (λ z. is_package z.kind) (sym e)
    | inr c1 ↦ elim (contains_cases (place path (EntryOf t) Entry) p (key_and_value path t) c1) [
      | inl e ↦ ap (λ z. is_package z.kind) (sym e)
      | inr c2 ↦ elim (contains_cases (place (path ++ EntryOf t ∷ []) (Given key_word) EntryField) p (value_only path t) c2) [
        | inl e ↦ ap (λ z. is_package z.kind) (sym e)
        | inr c3 ↦ elim (contains_cases (place (path ++ EntryOf t ∷ []) (Given value_word) EntryField) p [] c3) [
          | inl e ↦ ap (λ z. is_package z.kind) (sym e)
          | inr c4 ↦ none_left p c4
        ]
      ]
    ]
  ]
  no_package (enum t vs) path p c = elim (beside_parts path t Enum Value vs p c).kind [ inl e ↦ ap is_package e | inr e ↦ ap is_package e ]
  no_package (oneof t fs) path p c = elim (beside_parts path t Oneof Field fs p c).kind [ inl e ↦ ap is_package e | inr e ↦ ap is_package e ]
  no_package (service t ms) path p c = elim (service_parts path t ms p c) [ inl a ↦ ap is_package a.2 | inr a ↦ ap is_package a.2 ]
  no_package (message t ms) path p c = elim (contains_cases (place path (Token t) Message) p (all_placed (path ++ Token t ∷ []) ms) c) [
    | inl e ↦ ap (λ z. is_package z.kind) (sym e)
    | inr n ↦ all_no_package ms (path ++ Token t ∷ []) p n
  ]
  no_package (extend ts) path p c = let v = from_map (λ i. place path (Token i) Extension) ts p c in ap (λ z. is_package z.kind) (sym v.2)

  all_no_package : (ms : Members) (path : List (Source ℕ)) (p : Placed) → Contains (all_placed path ms) p → is_package p.kind ≡ false
  all_no_package no_members path p c = none_left p c
  all_no_package (member m ms) path p c = elim (Contains-append_cases (placed path m) (all_placed path ms) p c) [ inl a ↦ no_package m path p a | inr b ↦ all_no_package ms path p b ]

-- each declaration stands right below the path, or right in another one of the tree
mutual
  pub stands : (m : Member) (path : List (Source ℕ)) (p : Placed) → Contains (placed path m) p → (p.above ≡ path) ⊎ ((u : Placed) × Contains (placed path m) u × (p.above ≡ u.above ++ u.last ∷ []) × (holds u.kind p.kind ≡ true))
  stands (field t) path p c = elim (contains_cases (place path (Token t) Field) p [] c) [ inl e ↦ inl (sym (ap (λ z. z.above) e)) | inr n ↦ none_left p n ]
  stands (map_field t) path p c = elim (map_parts path t p c) [
    | inl a ↦ inl a.0
    | inr b ↦ inr (place path (EntryOf t) Entry, contains_later (place path (Token t) Field) (place path (EntryOf t) Entry) (entry_on path t) (contains_head (place path (EntryOf t) Entry) (key_and_value path t)), b.0, ap (holds Entry) b.2)
  ]
  stands (enum t vs) path p c = inl (beside_parts path t Enum Value vs p c).above
  stands (oneof t fs) path p c = inl (beside_parts path t Oneof Field fs p c).above
  stands (service t ms) path p c = elim (service_parts path t ms p c) [
    | inl a ↦ inl a.0
    | inr b ↦ inr (place path (Token t) Service, contains_head (place path (Token t) Service) (map (λ i. place (path ++ Token t ∷ []) (Token i) Method) ms), b.0, ap is_leaf b.2)
  ]
  stands (message t ms) path p c = elim (contains_cases (place path (Token t) Message) p (all_placed (path ++ Token t ∷ []) ms) c) [
    | inl e ↦ inl (sym (ap (λ z. z.above) e))
    | inr n ↦ elim (all_stand ms (path ++ Token t ∷ []) p n) [
      | inl a ↦ inr (place path (Token t) Message, contains_head (place path (Token t) Message) (all_placed (path ++ Token t ∷ []) ms), a, ap not (all_no_package ms (path ++ Token t ∷ []) p n))
      | inr b ↦ inr (b.0, contains_later (place path (Token t) Message) b.0 (all_placed (path ++ Token t ∷ []) ms) b.1, b.2, b.3)
    ]
  ]
  stands (extend ts) path p c = let v = from_map (λ i. place path (Token i) Extension) ts p c in inl (sym (ap (λ z. z.above) v.2))

  pub all_stand : (ms : Members) (path : List (Source ℕ)) (p : Placed) → Contains (all_placed path ms) p → (p.above ≡ path) ⊎ ((u : Placed) × Contains (all_placed path ms) u × (p.above ≡ u.above ++ u.last ∷ []) × (holds u.kind p.kind ≡ true))
  all_stand no_members path p c = none_left p c
  all_stand (member m ms) path p c = elim (Contains-append_cases (placed path m) (all_placed path ms) p c) [
    | inl a ↦ elim (stands m path p a) [ inl x ↦ inl x | inr u ↦ inr (u.0, Contains-append_left (placed path m) (all_placed path ms) u.0 u.1, u.2, u.3) ]
    | inr b ↦ elim (all_stand ms path p b) [ inl x ↦ inl x | inr u ↦ inr (u.0, Contains-append_right (placed path m) (all_placed path ms) u.0 u.1, u.2, u.3) ]
  ]
