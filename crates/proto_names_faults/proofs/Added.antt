-- Flaws that are added to others.
use Rattle.std.proofs.Common.{◌≡◌, ◌↔◌, ◌⊎◌, ℕ, ◌+◌, ◌<◌, List, [], ◌∷◌, ◌++◌, length, get_or, take, map, option_map, Option, Some, None, refl, sym, ap, subst, ◌∙◌, inl, inr, arith, Bool, true, false, Contains, append-nil, true≢false}
use Rattle.proto_base.proofs.Common.{Contains-append_cases, Contains-append_left, Contains-append_right, contains_cases, contains_head, kind_number, map-append, none-some, same_Some}
use Rattle.proto_base.specs.declared.fault.FaultKind.{FaultKind}
use Rattle.proto_names_imports.proofs.Common.{take_more}
use Rattle.proto_names_rules.proofs.Common.{Fault, at, fault}
use Rattle.proto_names_faults.specs.Common.{AreAdded, AreFlawsOf, Flaw, fault_of_flaw, flaw_if, kind_if}

abbrev Has : List Flaw → Fault → Type 0
Has ws f = Contains (map fault_of_flaw ws) f

-- ---- one element more

pub only_one : {X : Type 0} (x y : X) → Contains (x ∷ []) y → x ≡ y
only_one x y c = elim (contains_cases x y [] c) [ inl e ↦ e | inr d ↦ absurd (omega (arith, d.1)) ]

-- what a list with one element more has
pub one_more : {X : Type 0} (xs : List X) (x y : X) → Contains (xs ++ x ∷ []) y ↔ (Contains xs y ⊎ (x ≡ y))
one_more xs x y = (
  λ c. elim (Contains-append_cases xs (x ∷ []) y c) [ inl a ↦ inl a | inr b ↦ inr (only_one x y b) ],
  λ h. elim h [
    | inl a ↦ Contains-append_left xs (x ∷ []) y a
    | inr e ↦ Contains-append_right xs (x ∷ []) y (subst (Contains (x ∷ [])) e (contains_head x []))
  ],
)

-- what the first elements of a list have, with one more
pub taken_one : {X : Type 0} (xs : List X) (i : ℕ) (x y : X) → i < length xs → x ≡ get_or xs i x → Contains (take (i + 1) xs) y ↔ (Contains (take i xs) y ⊎ (x ≡ y))
taken_one {X} xs i x y l is =
    let more : take (i + 1) xs ≡ take i xs ++ x ∷ [] = take_more xs i x l ∙ ap (λ z. take i xs ++ z ∷ []) (sym is) in
    subst (λ (ys : List X). Contains ys y ↔ (Contains (take i xs) y ⊎ (x ≡ y))) (sym more) (one_more (take i xs) x y)

-- ---- flaws

-- the fault of a flaw that is added where there is a kind
abbrev pub IsNew : ℕ → ℕ → Option FaultKind → Fault → Type 0
IsNew file token o f = (n : ℕ) × (option_map kind_number o ≡ Some n) × (f ≡ fault (at file token) n)

pub flaw_added : (found next : List Flaw) (file token : ℕ) (o : Option FaultKind) → next ≡ found ++ flaw_if file token o → AreAdded (IsNew file token o) found next
flaw_added found next file token None e f =
    let same : next ≡ found = e ∙ append-nil found in (
      λ c. inl (subst (λ ws. Has ws f) same c),
      λ h. elim h [ inl c ↦ subst (λ ws. Has ws f) (sym same) c | inr n ↦ absurd (none-some n.0 n.1) ],
    )
flaw_added found next file token (Some kind) e f =
    let w : Flaw = record { file = file; token = token; kind = kind } in
    let m : map fault_of_flaw next ≡ map fault_of_flaw found ++ fault_of_flaw w ∷ [] = ap (map fault_of_flaw) e ∙ map-append fault_of_flaw found (w ∷ []) in
    let one = one_more (map fault_of_flaw found) (fault_of_flaw w) f in (
      λ c. elim (one.0 (subst (λ (fs : List Fault). Contains fs f) m c)) [ inl a ↦ inl a | inr b ↦ inr (kind_number kind, refl, sym b) ],
      λ h. subst (λ (fs : List Fault). Contains fs f) (sym m) (one.1 (elim h [
        | inl a ↦ inl a
        | inr n ↦ inr (ap (fault (at file token)) (same_Some (kind_number kind) n.0 n.1) ∙ sym n.2)
      ])),
    )

-- the same flaws by another sentence
pub added_as : (A B : Fault → Type 0) (old new : List Flaw) → ((f : Fault) → A f ↔ B f) → AreAdded A old new → AreAdded B old new
added_as A B old new same h f = (
  λ c. elim ((h f).0 c) [ inl a ↦ inl a | inr b ↦ inr ((same f).0 b) ],
  λ d. (h f).1 (elim d [ inl a ↦ inl a | inr b ↦ inr ((same f).1 b) ]),
)

pub flaws_as : (A B : Fault → Type 0) (ws : List Flaw) → ((f : Fault) → A f ↔ B f) → AreFlawsOf A ws → AreFlawsOf B ws
flaws_as A B ws same h f = (λ c. (same f).0 ((h f).0 c), λ b. (h f).1 ((same f).1 b))

-- flaws are added to some that were added
pub added_both : (A B C : Fault → Type 0) (old mid new : List Flaw) → ((f : Fault) → (A f ⊎ B f) ↔ C f) → AreAdded A old mid → AreAdded B mid new → AreAdded C old new
added_both A B C old mid new same first second f = (
  λ c. elim ((second f).0 c) [
    | inl m ↦ elim ((first f).0 m) [ inl a ↦ inl a | inr b ↦ inr ((same f).0 (inl b)) ]
    | inr b ↦ inr ((same f).0 (inr b))
  ],
  λ h. (second f).1 (elim h [
    | inl a ↦ inl ((first f).1 (inl a))
    | inr k ↦ elim ((same f).1 k) [ inl b ↦ inl ((first f).1 (inr b)) | inr b ↦ inr b ]
  ]),
)

pub flaws_more : (A B C : Fault → Type 0) (old new : List Flaw) → ((f : Fault) → (A f ⊎ B f) ↔ C f) → AreFlawsOf A old → AreAdded B old new → AreFlawsOf C new
flaws_more A B C old new same first second f = (
  λ c. (same f).0 (elim ((second f).0 c) [ inl m ↦ inl ((first f).0 m) | inr b ↦ inr b ]),
  λ k. (second f).1 (elim ((same f).1 k) [ inl a ↦ inl ((first f).1 a) | inr b ↦ inr b ]),
)

-- no flaw of nothing
pub none_added : (A : Fault → Type 0) (found : List Flaw) → ((f : Fault) → A f → ⊥) → AreAdded A found found
none_added A found none f = (λ c. inl c, λ h. elim h [ inl c ↦ c | inr a ↦ absurd (none f a) ])

pub none_found : (A : Fault → Type 0) (found : List Flaw) → found ≡ [] → ((f : Fault) → A f → ⊥) → AreFlawsOf A found
none_found A found e none f = (λ c. absurd (let d = subst (λ ws. Has ws f) e c in omega (arith, d.1)), λ a. absurd (none f a))

-- a flaw that is added if it is so
pub new_if : (file token : ℕ) (is_so : Bool) (kind : FaultKind) (f : Fault) → IsNew file token (kind_if is_so kind) f ↔ ((is_so ≡ true) × (f ≡ fault (at file token) (kind_number kind)))
new_if file token true kind f = (
  λ n. (refl, n.2 ∙ ap (fault (at file token)) (sym (same_Some (kind_number kind) n.0 n.1))),
  λ h. (kind_number kind, refl, h.1),
)
new_if file token false kind f = (λ n. absurd (none-some n.0 n.1), λ h. absurd (true≢false (sym h.0)))
