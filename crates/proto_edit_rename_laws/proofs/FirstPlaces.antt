-- A rename that captures a reference has one least captured place (for the crates above).
use Rattle.std.proofs.Common.{◌≡◌, ◌≤◌, ℕ, true, ◌⊎◌, ◌↔◌, List, [], ◌∷◌, refl, sym, ap, ap₂, subst, ◌∙◌, inl, inr, arith, Contains}
use Rattle.proto_base.proofs.Common.{both_ways, cases_Bool, cases_eq, cases_lt, cases_order, contains_cases, contains_head, contains_later}
use Rattle.proto_case.specs.Camel.{entry_name}
use Rattle.proto_text.specs.Texts.{offset_at}
use Rattle.proto_files.proofs.Common.{file_at, read_at}
use Rattle.proto_names_rules.proofs.Common.{IsCaptured, Renaming, is_captured, At, at, Reference, Workspace, Used, reference_of}
use Rattle.proto_names_imports.specs.Links.{link_skeleton, names_of_files, text_of}
use Rattle.proto_edit_rename_laws.specs.Common.{StandsBefore, name_map}
use Rattle.proto_edit_rename_laws.specs.FirstPlaces.{FirstPlacesAreOne, FirstPlacesAreThere}

-- ---- the order of places

never_before_itself : (a : At) → StandsBefore a a → ⊥
never_before_itself a (inl l) = omega (arith, l)
never_before_itself a (inr s) = omega (arith, s.1)

before_both : (a b c : At) → StandsBefore a b → StandsBefore b c → StandsBefore a c
before_both a b c (inl x) (inl y) = inl (omega (arith, x, y))
before_both a b c (inl x) (inr y) = inl (omega (arith, x, y.0))
before_both a b c (inr x) (inl y) = inl (omega (arith, x.0, y))
before_both a b c (inr x) (inr y) = inr (x.0 ∙ y.0, omega (arith, x.1, y.1))

before_or_not : (a b : At) → StandsBefore a b ⊎ (StandsBefore a b → ⊥)
before_or_not a b = elim (cases_lt a.file b.file) [
  | inl l ↦ inl (inl l)
  | inr m ↦ elim (cases_eq a.file b.file) [
    | inl e ↦ elim (cases_lt a.token b.token) [
      | inl l ↦ inl (inr (e, l))
      | inr n ↦ inr (neither m n)
    ]
    | inr other ↦ inr (apart m other)
  ]
]
  where
    neither : b.file ≤ a.file → b.token ≤ a.token → StandsBefore a b → ⊥
    neither m n (inl x) = omega (arith, x, m)
    neither m n (inr y) = omega (arith, y.1, n)

    apart : b.file ≤ a.file → (a.file ≡ b.file → ⊥) → StandsBefore a b → ⊥
    apart m other (inl x) = omega (arith, x, m)
    apart m other (inr y) = other y.0

one_place : (a b : At) → (StandsBefore a b → ⊥) → (StandsBefore b a → ⊥) → a ≡ b
one_place a b f g = elim (cases_order a.file b.file) [
  | inl e ↦ elim (cases_order a.token b.token) [
    | inl i ↦ ap₂ (λ (x y : ℕ). at x y) e i
    | inr (inl l) ↦ absurd (f (inr (e, l)))
    | inr (inr l) ↦ absurd (g (inr (sym e, l)))
  ]
  | inr (inl l) ↦ absurd (f (inl l))
  | inr (inr l) ↦ absurd (g (inl l))
]

-- ---- the least use of which something holds

-- an element of which it holds, and of none before it
record IsFirstOf (P : Used At → Type 0) (us : List (Used At)) (u : Used At) : Type 0 where
  inside : Contains us u
  holds : P u
  first : (v : Used At) → Contains us v → P v → StandsBefore v.first u.first → ⊥

module _ (P : Used At → Type 0) (decide : (u : Used At) → P u ⊎ (P u → ⊥)) where
  abbrev Answer : List (Used At) → Type 0
  Answer us = ((u : Used At) × IsFirstOf P us u) ⊎ ((v : Used At) → Contains us v → P v → ⊥)

  itself : (x v : Used At) → x ≡ v → StandsBefore v.first x.first → ⊥
  itself x v e h = never_before_itself x.first (subst (λ (z : Used At). StandsBefore z.first x.first) (sym e) h)

  -- the head, where nothing behind it comes before it
  head_first : (x : Used At) (us : List (Used At)) → P x → ((v : Used At) → Contains us v → P v → StandsBefore v.first x.first → ⊥) → IsFirstOf P (x ∷ us) x
  head_first x us p h = record { inside = contains_head x us; holds = p; first = λ v cv pv b. elim (contains_cases x v us cv) [ inl e ↦ itself x v e b | inr d ↦ h v d pv b ] }

  -- the first one behind, where the head does not come before it or is not meant
  later_first : (x u : Used At) (us : List (Used At)) → IsFirstOf P us u → (P x → StandsBefore x.first u.first → ⊥) → IsFirstOf P (x ∷ us) u
  later_first x u us r h = record {
    inside = contains_later x u us r.inside;
    holds = r.holds;
    first = λ v cv pv b. elim (contains_cases x v us cv) [ inl e ↦ h (subst P (sym e) pv) (subst (λ (z : Used At). StandsBefore z.first u.first) (sym e) b) | inr d ↦ r.first v d pv b ];
  }

  with_head : (x : Used At) (us : List (Used At)) → P x → Answer us → Answer (x ∷ us)
  with_head x us p (inl r) = elim (before_or_not x.first r.0.first) [
    | inl b ↦ inl (x, head_first x us p (λ v cv pv h. r.1.first v cv pv (before_both v.first x.first r.0.first h b)))
    | inr behind ↦ inl (r.0, later_first x r.0 us r.1 (λ q. behind))
  ]
  with_head x us p (inr none) = inl (x, head_first x us p (λ v cv pv h. none v cv pv))

  without_head : (x : Used At) (us : List (Used At)) → (P x → ⊥) → Answer us → Answer (x ∷ us)
  without_head x us fails (inl r) = inl (r.0, later_first x r.0 us r.1 (λ p b. fails p))
  without_head x us fails (inr none) = inr (λ v cv pv. elim (contains_cases x v us cv) [ inl e ↦ fails (subst P (sym e) pv) | inr d ↦ none v d pv ])

  first_of_all : (us : List (Used At)) → Answer us
  first_of_all [] = inr (λ v c p. omega (arith, c.1))
  first_of_all (x ∷ us) = elim (decide x) [ inl p ↦ with_head x us p (first_of_all us) | inr fails ↦ without_head x us fails (first_of_all us) ]

-- ---- captured places

-- given that captures are told by a test
pub first_places_are_there : ((e : Renaming) (w : Workspace) (r : Reference) → (is_captured e w r ≡ true) ↔ IsCaptured e w r) → FirstPlacesAreThere
first_places_are_there decided files reads t to u h = elim (first_of_all is decide (link_skeleton files reads).used) [
  | inl r ↦ (
    (file_at files r.0.first.file).path,
    offset_at (read_at reads r.0.first.file).tokens r.0.first.token,
    record { u = r.0; holds = record { used = r.1.inside; captured = r.1.holds }; least = λ v c. r.1.first v c.used c.captured; path_is = refl; offset_is = refl },
  )
  | inr none ↦ absurd (none u h.used h.captured)
]
  where
    is : Used At → Type 0
    is v = IsCaptured (name_map files reads t to) (names_of_files files reads) (reference_of (text_of files reads) entry_name v)

    decide : (v : Used At) → is v ⊎ (is v → ⊥)
    decide v =
        let r = reference_of (text_of files reads) entry_name v in
        let e = name_map files reads t to in
        let w = names_of_files files reads in
        elim (cases_Bool (is_captured e w r)) [
          | inl y ↦ inl ((decided e w r).0 y)
          | inr n ↦ inr (λ c. both_ways (is_captured e w r) n ((decided e w r).1 c))
        ]

pub first_places_are_one : FirstPlacesAreOne
first_places_are_one files reads t to path other offset i x y =
    let same = one_place x.u.first y.u.first (y.least x.u x.holds) (x.least y.u y.holds) in (
      x.path_is ∙ ap (λ (z : At). (file_at files z.file).path) same ∙ sym y.path_is,
      x.offset_is ∙ ap (λ (z : At). offset_at (read_at reads z.file).tokens z.token) same ∙ sym y.offset_is,
    )
