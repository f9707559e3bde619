-- All faults of the first phase, from all those of one phase (for the crates above).
use Rattle.std.proofs.Common.{◌≡◌, ◌≤◌, ◌<◌, ◌⊎◌, ℕ, zero, suc, Bool, true, cond, ◌==◌, nat_cmp, nat_lt, List, [], get_or, ap, inl, inr, arith, AllPairs, Contains}
use Rattle.std.specs.Prelude.{◌↔◌}
use Rattle.proto_base.proofs.Common.{Ordering, Less, Equal, Greater, ordering_then, cases_lt, kind_number, nat_tests, phase_of, Contains-get_or}
use Rattle.proto_files.proofs.Common.{FaultAt, ComesBefore, IsLeastFault, HasNoFault}
use Rattle.proto_files.specs.WorkspacePaths.{path_cmp}
use Rattle.proto_names_faults.specs.AllFaults.{AreAllOf}
use Rattle.proto_all_faults.specs.Common.{AreFound, FirstPhase}

less : (a b : ℕ) → a < b → nat_lt a b ≡ true
less a b l = grind (arith, nat_tests)

pub cmp_less : (a b : ℕ) → a < b → nat_cmp a b ≡ Less
cmp_less a b l = ap (λ (t : Bool). cond t Less (cond (a == b) Equal Greater)) (less a b l)

-- a fault of an earlier phase comes before
pub earlier : (x y : FaultAt) → phase_of x.kind < phase_of y.kind → ComesBefore x y
earlier x y l =
    let behind : Ordering = ordering_then (path_cmp x.path y.path) (ordering_then (nat_cmp x.offset y.offset) (nat_cmp (kind_number x.kind) (kind_number y.kind))) in
    ap (λ (o : Ordering). ordering_then o behind) (cmp_less (phase_of x.kind) (phase_of y.kind) l)

-- no fault is of an earlier phase than the least one
pub not_earlier : (faults : FaultAt → Type 0) (x y : FaultAt) → IsLeastFault faults x → faults y → phase_of x.kind ≤ phase_of y.kind
not_earlier faults x y least h = elim (cases_lt (phase_of y.kind) (phase_of x.kind)) [
  | inl before ↦ absurd (least.is_least y h (earlier y x before))
  | inr other ↦ other
]

module _ (faults part : FaultAt → Type 0) (listed : List FaultAt) (n : ℕ) (inside : (y : FaultAt) → part y → faults y × (phase_of y.kind ≡ n)) where
  -- all faults of a phase that has one, where all others are of a later phase
  pub from_part : (x : FaultAt) → part x → ((y : FaultAt) → faults y → part y ⊎ (n < phase_of y.kind)) → AreAllOf part listed → AreAllOf (FirstPhase faults) listed
  from_part x here others all = record {
    rising = all.rising;
    sound = λ k d l. ((inside (get_or listed k d) (all.sound k d l)).0, at_most (get_or listed k d) (all.sound k d l));
    whole = λ y h. all.whole y (in_part y h (others y h.0));
  }
    where
      at_most : (z : FaultAt) → part z → (y : FaultAt) → faults y → phase_of z.kind ≤ phase_of y.kind
      at_most z p y h = elim (others y h) [
        | inl q ↦ (let a = (inside z p).1 in let b = (inside y q).1 in omega (arith, a, b))
        | inr later ↦ (let a = (inside z p).1 in omega (arith, a, later))
      ]

      in_part : (y : FaultAt) → FirstPhase faults y → part y ⊎ (n < phase_of y.kind) → part y
      in_part y h (inl p) = p
      in_part y h (inr later) = (let a = (inside x here).1 in let b = h.1 x (inside x here).0 in absurd (omega (arith, a, b, later)))

  -- all faults of a phase, where there are no others
  pub from_last : ((y : FaultAt) → faults y → part y) → AreAllOf part listed → AreAllOf (FirstPhase faults) listed
  from_last others all = record {
    rising = all.rising;
    sound = λ k d l. ((inside (get_or listed k d) (all.sound k d l)).0, at_most (get_or listed k d) (all.sound k d l));
    whole = λ y h. all.whole y (others y h.0);
  }
    where
      at_most : (z : FaultAt) → part z → (y : FaultAt) → faults y → phase_of z.kind ≤ phase_of y.kind
      at_most z p y h = (let a = (inside z p).1 in let b = (inside y (others y h)).1 in omega (arith, a, b))

-- the same faults have the same first phase
pub same_first : (a b : FaultAt → Type 0) (listed : List FaultAt) → ((y : FaultAt) → a y → b y) → ((y : FaultAt) → b y → a y) → AreAllOf (FirstPhase a) listed → AreAllOf (FirstPhase b) listed
same_first a b listed forth back all = record {
  rising = all.rising;
  sound = λ k d l. (forth (get_or listed k d) (all.sound k d l).0, λ y h. (all.sound k d l).1 y (back y h));
  whole = λ x h. all.whole x (back x h.0, λ y k. h.1 y (forth y k));
}

-- the faults that were found, in their order
pub in_their_order : (faults : FaultAt → Type 0) (found listed : List FaultAt) → AreFound faults found → AllPairs ComesBefore listed → ((x : FaultAt) → Contains listed x ↔ Contains found x) → AreAllOf faults listed
in_their_order faults found listed are rising same = record {
  rising = rising;
  sound = λ k d l. are.sound (get_or listed k d) ((same (get_or listed k d)).0 (Contains-get_or listed k d l));
  whole = λ x h. (same x).1 (are.whole x h);
}

-- where none is listed, there is none
pub none_there : (faults : FaultAt → Type 0) → AreAllOf (FirstPhase faults) [] → HasNoFault faults
none_there faults all y h = none_below (suc (phase_of y.kind)) y h (omega arith)
  where
    none_below : (n : ℕ) (z : FaultAt) → faults z → phase_of z.kind < n → ⊥
    none_below zero z k l = omega (arith, l)
    none_below (suc n) z k l =
        let c = all.whole z (
          k,
          λ w m. elim (cases_lt (phase_of w.kind) (phase_of z.kind)) [
            | inl before ↦ absurd (none_below n w m (omega (arith, before, l)))
            | inr other ↦ other
          ],
        ) in omega (arith, c.1)
