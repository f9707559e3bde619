-- The order of faults, and least faults of sets joined (for the crates above).
use Rattle.std.proofs.Common.{◌≡◌, ℕ, ◌<◌, refl, sym, inl, inr, ⊎_elim, arith, ◌⊎◌, nat_cmp}
use Rattle.proto_base.proofs.Common.{Ordering, Less, Equal, Greater, ordering_then, ranked, kind_number, phase_of}
use Rattle.proto_files.specs.Common.{path_cmp, IsBefore, FaultAt, ComesBefore, IsLeastFault, HasNoFault}
use Rattle.proto_files.proofs.PathOrder.{same_from_equal}

then_less : (a b : Ordering) → ordering_then a b ≡ Less → (a ≡ Less) ⊎ ((a ≡ Equal) × (b ≡ Less))
then_less Less b h = inl refl
then_less Equal b h = inr (refl, h)
then_less Greater b h = absurd (cc)

nat_less : (x y : ℕ) → nat_cmp x y ≡ Less → x < y
nat_less x y h = ranked x y Less (sym h)

nat_equal : (x y : ℕ) → nat_cmp x y ≡ Equal → x ≡ y
nat_equal x y h = ranked x y Equal (sym h)

-- in one phase: an earlier path, or in one file an earlier place, or at one place a lower number
abbrev pub BeforeInPhase : FaultAt → FaultAt → Type 0
BeforeInPhase x y = IsBefore x.path y.path ⊎ ((x.path ≡ y.path) × ((x.offset < y.offset) ⊎ ((x.offset ≡ y.offset) × (kind_number x.kind < kind_number y.kind))))

pub comes_before_cases : (x y : FaultAt) → ComesBefore x y → (phase_of x.kind < phase_of y.kind) ⊎ ((phase_of x.kind ≡ phase_of y.kind) × BeforeInPhase x y)
comes_before_cases x y h =
    ⊎_elim (λ less. inl (nat_less (phase_of x.kind) (phase_of y.kind) less))
    (λ more. inr (nat_equal (phase_of x.kind) (phase_of y.kind) more.0, in_phase more.1))
    (then_less (nat_cmp (phase_of x.kind) (phase_of y.kind)) _ h)
  where
    at_place : ordering_then (nat_cmp x.offset y.offset) (nat_cmp (kind_number x.kind) (kind_number y.kind)) ≡ Less → (x.offset < y.offset) ⊎ ((x.offset ≡ y.offset) × (kind_number x.kind < kind_number y.kind))
    at_place e =
        ⊎_elim (λ less. inl (nat_less x.offset y.offset less))
        (λ more. inr (nat_equal x.offset y.offset more.0, nat_less (kind_number x.kind) (kind_number y.kind) more.1))
        (then_less (nat_cmp x.offset y.offset) _ e)

    in_phase : ordering_then (path_cmp x.path y.path) (ordering_then (nat_cmp x.offset y.offset) (nat_cmp (kind_number x.kind) (kind_number y.kind))) ≡ Less → BeforeInPhase x y
    in_phase e =
        ⊎_elim (λ less. inl less)
        (λ more. inr (same_from_equal x.path y.path more.0, at_place more.1))
        (then_less (path_cmp x.path y.path) _ e)

-- The faults of two phases: where the first has none, the least is that of the second.
pub least_of_second : (A B : FaultAt → Type 0) (x : FaultAt) → HasNoFault A → IsLeastFault B x → IsLeastFault (λ y. A y ⊎ B y) x
least_of_second A B x clean least =
    record { is_fault = inr least.is_fault; is_least = λ y f. ⊎_elim (λ a _. absurd (clean y a)) (λ b. least.is_least y b) f }

-- Where the first has some, and those of the second are of a later phase, it is that of the first.
pub least_of_first : (A B : FaultAt → Type 0) (x : FaultAt) → ((y : FaultAt) → B y → phase_of x.kind < phase_of y.kind) → IsLeastFault A x → IsLeastFault (λ y. A y ⊎ B y) x
least_of_first A B x later least =
    record {
      is_fault = inl least.is_fault;
      is_least = λ y f before. ⊎_elim (λ a. least.is_least y a before)
          (λ b. let after : phase_of x.kind < phase_of y.kind = later y b in
          ⊎_elim (λ (lt : phase_of y.kind < phase_of x.kind). absurd (omega arith)) (λ eq. let same : phase_of y.kind ≡ phase_of x.kind = eq.0 in absurd (omega arith)) (comes_before_cases y x before)) f;
    }

pub none_of_both : (A B : FaultAt → Type 0) → HasNoFault A → HasNoFault B → HasNoFault (λ y. A y ⊎ B y)
none_of_both A B a b y f = ⊎_elim (λ h. a y h) (λ h. b y h) f
