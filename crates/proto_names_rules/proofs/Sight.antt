-- A file sees what it saw.
use Rattle.std.proofs.Common.{◌≡◌, ℕ, Bool, true, List, sym, ◌∙◌, inl, inr, Contains}
use Rattle.proto_base.proofs.Common.{cases_Bool, false_from_ne_true, both_ways}
use Rattle.proto_names_rules.proofs.Common.{Import, Reaches, Sees, along, by_import, here, itself, sees, sees_is}
use Rattle.proto_names_rules.specs.Sight.{SameImports, SamePublic, SightIsKept, SightIsTested}

-- what is reached stays so, where each file on the way has the public imports that it had
onward : (a b : List Import) (g h : ℕ) → ((k : ℕ) → Reaches a g k → (i : Import) → i.from ≡ k → i.is_public ≡ true → Contains a i → Contains b i) → Reaches a g h → Reaches b g h
onward a b g h same here = here
onward a b g h same (along i c e p rest) =
    along i (same g here i e p c) e p
    (onward a b i.to h (λ k r. same k (along i c e p r)) rest)

-- what is reached now was reached, since each file on the way, which was reached, had these imports
before : (a b : List Import) (g h : ℕ) → ((k : ℕ) → Reaches a g k → (i : Import) → i.from ≡ k → i.is_public ≡ true → Contains b i → Contains a i) → Reaches b g h → Reaches a g h
before a b g h same here = here
before a b g h same (along i c e p rest) =
    let d = same g here i e p c in
    along i d e p (before a b i.to h (λ k r. same k (along i d e p r)) rest)

module _ (old new : List Import) (f : ℕ) (own : SameImports old new f) (seen : (k : ℕ) → Sees old f k → SamePublic old new k) where
  forth : (g : ℕ) → Sees old f g → Sees new f g
  forth g itself = itself
  forth g (by_import i c e r) =
      by_import i ((own i e).0 c) e (onward old new i.to g (λ k q j e2 p2 d. (seen k (by_import i c e q) j e2 p2).0 d) r)

  back : (g : ℕ) → Sees new f g → Sees old f g
  back g itself = itself
  back g (by_import i c e r) =
      let d = (own i e).1 c in
      by_import i d e (before old new i.to g (λ k q j e2 p2 x. (seen k (by_import i d e q) j e2 p2).1 x) r)

pub sight_is_kept : SightIsKept
sight_is_kept old new f own seen g = (forth old new f own seen g, back old new f own seen g)

-- tests that pass together are the same
same_tests : (a b : Bool) → (a ≡ true → b ≡ true) → (b ≡ true → a ≡ true) → b ≡ a
same_tests a b to from = elim (cases_Bool a) [
  | inl yes_a ↦ to yes_a ∙ sym yes_a
  | inr no_a ↦ false_from_ne_true b (λ yes_b. both_ways a no_a (from yes_b)) ∙ sym no_a
]

pub sight_is_tested : SightIsTested
sight_is_tested w v ok_w ok_v f own seen g =
    let kept = sight_is_kept w.imports v.imports f own seen g in
    let was = sees_is w ok_w f g in
    let is = sees_is v ok_v f g in
    same_tests (sees w f g) (sees v f g) (λ h. is.1 (kept.0 (was.0 h))) (λ h. was.1 (kept.1 (is.0 h)))
