-- Sets of faults that are the same but for those at whose place one with a lower number stands have the same least.
use Rattle.std.proofs.Common.{◌≡◌, ◌<◌, ◌⊎◌, ℕ, zero, suc, nat_cmp, List, ◌∷◌, length, get_or, sym, ap, ◌∙◌, subst, inl, inr, arith, Contains}
use Rattle.proto_base.proofs.Common.{Ordering, Equal, ordering_then, nat_cmp_total, nat_list_cmp_total, tied_itself, kind_number, phase_of}
use Rattle.proto_files.proofs.Common.{FaultAt, ComesBefore, IsLeastFault, HasNoFault, comes_before_cases}
use Rattle.proto_files.specs.Faults.{fault_cmp}
use Rattle.proto_files.specs.WorkspacePaths.{path_cmp}
use Rattle.proto_files.proofs.FaultOrder.{BeforeInPhase}
use Rattle.proto_files.proofs.OneLeast.{fault_cmp_total}
use Rattle.proto_names_faults.specs.AllFaults.{AreAllOf}
use Rattle.proto_all_faults.specs.Common.{FirstPhase, HasLower}
use Rattle.proto_all_faults.proofs.FirstPhases.{cmp_less}

tied : (a b : ℕ) → a ≡ b → nat_cmp a b ≡ Equal
tied a b e = ap (λ (n : ℕ). nat_cmp n b) e ∙ tied_itself nat_cmp_total b

then_behind : (o p : Ordering) → o ≡ Equal → ordering_then o p ≡ p
then_behind o p e = ap (λ (q : Ordering). ordering_then q p) e

-- the lower one comes before
lower_before : (faults : FaultAt → Type 0) (x : FaultAt) (h : HasLower faults x) → ComesBefore h.lower x
lower_before faults x h =
    let l = h.lower in
    let numbers : Ordering = nat_cmp (kind_number l.kind) (kind_number x.kind) in
    let offsets : Ordering = nat_cmp l.offset x.offset in
    let paths : Ordering = path_cmp l.path x.path in
    let same_path : paths ≡ Equal = ap (λ (p : List ℕ). path_cmp p x.path) h.path ∙ tied_itself nat_list_cmp_total x.path in
    then_behind (nat_cmp (phase_of l.kind) (phase_of x.kind)) (ordering_then paths (ordering_then offsets numbers)) (tied (phase_of l.kind) (phase_of x.kind) h.phase)
    ∙ then_behind paths (ordering_then offsets numbers) same_path
    ∙ then_behind offsets numbers (tied l.offset x.offset h.offset)
    ∙ cmp_less (kind_number l.kind) (kind_number x.kind) h.number

before_trans : (x y z : FaultAt) → ComesBefore x y → ComesBefore y z → ComesBefore x z
before_trans x y z a b = fault_cmp_total.trans x y z a b

not_itself : (x : FaultAt) → ComesBefore x x → ⊥
not_itself x h = (let e : fault_cmp x x ≡ Equal = tied_itself fault_cmp_total x in cc)

module _ (a b : FaultAt → Type 0) (forth : (x : FaultAt) → a x → b x ⊎ HasLower b x) (back : (x : FaultAt) → b x → a x ⊎ HasLower a x) where
  -- a fault of the other set does not come before the least one
  none_before : (x y : FaultAt) → IsLeastFault a x → b y → ComesBefore y x → ⊥
  none_before x y least h before = elim (back y h) [
    | inl k ↦ least.is_least y k before
    | inr low ↦ least.is_least low.lower low.is_fault (before_trans low.lower y x (lower_before a y low) before)
  ]

  pub same_least : (x : FaultAt) → IsLeastFault a x → IsLeastFault b x
  same_least x least = record { is_fault = here (forth x least.is_fault); is_least = λ y h before. none_before x y least h before }
    where
      here : b x ⊎ HasLower b x → b x
      here (inl h) = h
      here (inr low) = absurd (none_before x low.lower least low.is_fault (lower_before b x low))

  pub same_none : HasNoFault a → HasNoFault b
  same_none none y h = elim (back y h) [
    | inl k ↦ none y k
    | inr low ↦ none low.lower low.is_fault
  ]

-- the first of all faults of the first phase is the least
pub first_least : (faults : FaultAt → Type 0) (x : FaultAt) (rest : List FaultAt) → AreAllOf (FirstPhase faults) (x ∷ rest) → IsLeastFault faults x
first_least faults x rest all = record { is_fault = first.0; is_least = λ y h before. go y h before (comes_before_cases y x before) }
  where
    first : FirstPhase faults x
    first = all.sound 0 x (omega arith)

    listed : (y : FaultAt) → ComesBefore y x → Contains (x ∷ rest) y → ⊥
    listed y before c = at c.0 c.1 c.2
      where
        at : (k : ℕ) → k < length (x ∷ rest) → get_or (x ∷ rest) k y ≡ y → ⊥
        at zero l e = not_itself x (subst (λ (z : FaultAt). ComesBefore z x) (sym e) before)
        at (suc k) l e =
            let after : ComesBefore x y = subst (ComesBefore x) e (all.rising 0 (suc k) y (omega arith) l) in
            not_itself x (before_trans x y x after before)

    go : (y : FaultAt) → faults y → ComesBefore y x → (phase_of y.kind < phase_of x.kind) ⊎ ((phase_of y.kind ≡ phase_of x.kind) × BeforeInPhase y x) → ⊥
    go y h before (inl less) = (let a = first.1 y h in omega (arith, a, less))
    go y h before (inr more) = (let same : phase_of y.kind ≡ phase_of x.kind = more.0 in listed y before (all.whole y (h, λ z k. (let a = first.1 z k in omega (arith, a, same)))))
