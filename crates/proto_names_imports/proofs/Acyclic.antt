-- Imports of which none leads back, by ranks and by walks back.
use Rattle.std.proofs.Common.{◌≡◌, ◌↔◌, ℕ, ◌+◌, ◌<◌, Bool, true, false, List, [], get_or, refl, sym, ◌∙◌, subst, inl, inr, arith, Contains, true≢false}
use Rattle.proto_base.proofs.Common.{cases_eq, list_any, any_from, any_to}
use Rattle.proto_names_rules.specs.Cycles.{IsAcyclic}
use Rattle.proto_names_rules.proofs.Common.{Import, Leads}
use Rattle.proto_names_imports.specs.Common.{AreImporters, IsMarked, NoneLeadsBack, Walks}
use Rattle.proto_names_imports.proofs.CycleFaults.{MarksBack, lead_back, walk_back}
use Rattle.proto_names_imports.proofs.ImportGraph.{IsGraph, lead_falls}

-- where ranks fall along imports
pub acyclic_by_ranks : (rank : ℕ → ℕ) (next : List (List ℕ)) (imports : List Import) → IsGraph next imports → ((a b : ℕ) → Contains (get_or next a []) b → rank b < rank a) → IsAcyclic imports
acyclic_by_ranks rank next imports graph falls i c leads =
    let edge = λ (j : Import) (d : Contains imports j). falls j.from j.to ((graph j.from j.to).1 (j, d, refl, refl)) in
    let low = lead_falls rank imports edge leads in
    let high = edge i c in
    omega (arith, low, high)

-- where walks back do not meet
pub acyclic_by_walks : (next back : List (List ℕ)) (imports : List Import) → IsGraph next imports → AreImporters back imports → NoneLeadsBack next back ↔ IsAcyclic imports
acyclic_by_walks next back imports graph ok = (
  λ none i c leads. none i.from i.to ((graph i.from i.to).1 (i, c, refl, refl)) (walk_back back imports ok leads),
  λ acyclic file target c walks.
      (let i = (graph file target).0 c in
      acyclic i.0 i.1 (subst (λ g. Leads imports i.0.to g) (sym i.2) (subst (λ g. Leads imports g file) (sym i.3) (lead_back back imports ok walks)))),
)

-- a test that tells the one tells the other
pub told_alike : (b : Bool) (P Q : Type 0) → (b ≡ true) ↔ P → P ↔ Q → (b ≡ true) ↔ Q
told_alike b P Q told same = (λ h. same.0 (told.0 h), λ q. told.1 (same.1 q))

-- ---- the files before a number

abbrev pub NoneBefore : List (List ℕ) → List (List ℕ) → ℕ → Type 0
NoneBefore next back file = (f target : ℕ) → f < file → Contains (get_or next f []) target → Walks back f target → ⊥

abbrev pub is_marked_in : List Bool → ℕ → Bool
is_marked_in marked g = get_or marked g false

-- a file whose list has a marked one
pub leads_back : (next back : List (List ℕ)) (file : ℕ) (marked : List Bool) → MarksBack back file marked → list_any (is_marked_in marked) (get_or next file []) ≡ true → (false ≡ true) ↔ NoneLeadsBack next back
leads_back next back file marked marks any = (
  λ h. absurd (true≢false (sym h)),
  λ none. (let g = any_to (is_marked_in marked) (get_or next file []) any in absurd (none file g.0 g.1 ((marks g.0).0 g.2))),
)

-- a file more whose list has no marked one
pub none_before_more : (next back : List (List ℕ)) (file : ℕ) (marked : List Bool) → MarksBack back file marked → list_any (is_marked_in marked) (get_or next file []) ≡ false → NoneBefore next back file → NoneBefore next back (file + 1)
none_before_more next back file marked marks none before f target lt c walks = elim (cases_eq f file) [
  | inl e ↦
      let here : Contains (get_or next file []) target = subst (λ z. Contains (get_or next z []) target) e c in
      let mark : IsMarked marked target = (marks target).1 (subst (λ z. Walks back z target) e walks) in
      true≢false (sym (any_from (is_marked_in marked) (get_or next file []) target here mark) ∙ none)
  | inr apart ↦ before f target (omega (arith, lt, apart)) c walks
]
