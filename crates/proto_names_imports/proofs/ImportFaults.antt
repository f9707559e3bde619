-- The first fault of imports, of either kind.
use Rattle.std.proofs.Common.{◌≡◌, ◌⊎◌, ℕ, Option, None, Some, List, refl, sym, subst, inl, inr, arith}
use Rattle.proto_base.proofs.Common.{cases_eq, cases_lt, none-some, same_Some}
use Rattle.proto_names_rules.specs.Faults as all
use Rattle.proto_names_imports.specs.ImportSteps as one
use Rattle.proto_names_rules.specs.Faults.{Fault, FaultIsBefore, AskedImport, ImportFault}
use Rattle.proto_names_imports.specs.ImportSteps.{IsFirst, PathFault, CycleFault}

before_same : (a b c : Fault) → a.place.file ≡ b.place.file → a.place.token ≡ b.place.token → a.number ≡ b.number → FaultIsBefore a c → FaultIsBefore b c
before_same a b c e f g h = elim h [
  | inl l ↦ inl (omega (arith, l, e))
  | inr p ↦ inr (omega (arith, p.0, e), elim p.1 [ inl t ↦ inl (omega (arith, t, f)) | inr q ↦ inr (omega (arith, q.0, f), omega (arith, q.1, g)) ])
]

before_trans : (a b c : Fault) → FaultIsBefore a b → FaultIsBefore b c → FaultIsBefore a c
before_trans a b c h k = elim h [
  | inl l ↦ elim k [ inl m ↦ inl (omega (arith, l, m)) | inr q ↦ inl (omega (arith, l, q.0)) ]
  | inr p ↦ elim k [
    | inl m ↦ inl (omega (arith, p.0, m))
    | inr q ↦ inr (
      omega (arith, p.0, q.0),
      elim p.1 [
        | inl t ↦ elim q.1 [ inl u ↦ inl (omega (arith, t, u)) | inr u ↦ inl (omega (arith, t, u.0)) ]
        | inr t ↦ elim q.1 [ inl u ↦ inl (omega (arith, t.0, u)) | inr u ↦ inr (omega (arith, t.0, u.0), omega (arith, t.1, u.1)) ]
      ],
    )
  ]
]

-- what isn't after a fault is before what comes after that
before_first : (g h f : Fault) → (FaultIsBefore g h → ⊥) → FaultIsBefore g f → FaultIsBefore h f
before_first g h f never b = elim (cases_lt g.place.file h.place.file) [
  | inl l ↦ absurd (never (inl l))
  | inr l ↦ elim (cases_eq g.place.file h.place.file) [
    | inr ne ↦ before_trans h g f (inl (omega (arith, l, ne))) b
    | inl e ↦ elim (cases_lt g.place.token h.place.token) [
      | inl t ↦ absurd (never (inr (e, inl t)))
      | inr t ↦ elim (cases_eq g.place.token h.place.token) [
        | inr ne ↦ before_trans h g f (inr (sym e, inl (omega (arith, t, ne)))) b
        | inl e' ↦ elim (cases_lt g.number h.number) [
          | inl n ↦ absurd (never (inr (e, inr (e', n))))
          | inr n ↦ elim (cases_eq g.number h.number) [
            | inr ne ↦ before_trans h g f (inr (sym e, inr (sym e', omega (arith, n, ne)))) b
            | inl e'' ↦ before_same g h f e e' e'' b
          ]
        ]
      ]
    ]
  ]
]

-- of one of the two
abbrev Either : Option Fault → Option Fault → Fault → Type 0
Either a b f = (a ≡ Some f) ⊎ (b ≡ Some f)

-- no fault of a kind is before the first of two
first_of_kind : (Says : Fault → Type 0) (o : Option Fault) (f : Fault) → IsFirst Says o → ((h : Fault) → o ≡ Some h → FaultIsBefore h f → ⊥) → (g : Fault) → Says g → FaultIsBefore g f → ⊥
first_of_kind Says None f first least g s b = first g s
first_of_kind Says (Some h) f first least g s b = least h refl (before_first g h f (first.least g s) b)

none_of_kind : (Says : Fault → Type 0) (o : Option Fault) → IsFirst Says o → ((h : Fault) → o ≡ Some h → ⊥) → (g : Fault) → Says g → ⊥
none_of_kind Says None first none g s = first g s
none_of_kind Says (Some h) first none g s = none h refl

holds_of : (Says : Fault → Type 0) (o : Option Fault) (f : Fault) → IsFirst Says o → o ≡ Some f → Says f
holds_of Says None f first e = absurd (none-some f e)
holds_of Says (Some h) f first e = subst Says (same_Some h f e) first.holds

path_is : {paths : List (List ℕ)} {asked : List AskedImport} {f : Fault} → PathFault paths asked f → ImportFault paths asked f
path_is (one.unknown a c n) = all.unknown a c n
path_is (one.double a c) = all.double a c

cycle_is : {paths : List (List ℕ)} {asked : List AskedImport} {f : Fault} → CycleFault paths asked f → ImportFault paths asked f
cycle_is (one.cycle a to c n l) = all.cycle a to c n l

fault_is : {paths : List (List ℕ)} {asked : List AskedImport} {f : Fault} → ImportFault paths asked f → PathFault paths asked f ⊎ CycleFault paths asked f
fault_is (all.unknown a c n) = inl (one.unknown a c n)
fault_is (all.double a c) = inl (one.double a c)
fault_is (all.cycle a to c n l) = inr (one.cycle a to c n l)

-- the first of both kinds
pub first_is : (paths : List (List ℕ)) (asked : List AskedImport) (a b r : Option Fault) → IsFirst (PathFault paths asked) a → IsFirst (CycleFault paths asked) b → IsFirst (Either a b) r → IsFirst (ImportFault paths asked) r
first_is paths asked a b None p q r = λ f s. elim (fault_is s) [
  | inl k ↦ none_of_kind (PathFault paths asked) a p (λ h e. r h (inl e)) f k
  | inr k ↦ none_of_kind (CycleFault paths asked) b q (λ h e. r h (inr e)) f k
]
first_is paths asked a b (Some f) p q r = record {
  holds = elim r.holds [ inl e ↦ path_is (holds_of (PathFault paths asked) a f p e) | inr e ↦ cycle_is (holds_of (CycleFault paths asked) b f q e) ];
  least = λ g s before. elim (fault_is s) [
    | inl k ↦ first_of_kind (PathFault paths asked) a f p (λ h e. r.least h (inl e)) g k before
    | inr k ↦ first_of_kind (CycleFault paths asked) b f q (λ h e. r.least h (inr e)) g k before
  ];
}
