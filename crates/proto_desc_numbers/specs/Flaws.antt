-- The flaws of a file that is linked: each is a token of the file, and the kind of the fault that
-- stands there.
use Rattle.std.specs.Prelude.{◌≡◌, ℕ, Bool, false, ◌||◌, ◌&&◌, ◌==◌, nat_lt, if◌then◌else◌, List, [], ◌∷◌, ◌++◌, Option, Some, None}
use Rattle.std.specs.List.{list_any}
use Rattle.proto_base.specs.declared.fault.FaultKind.{FaultKind}
use Rattle.proto_base.specs.FaultTable.{kind_number}
use Rattle.proto_desc_numbers.specs.declared.flaw.Flaw.{Flaw}

-- a fault of the kind, at the token
abbrev pub flaw : FaultKind → ℕ → Flaw
flaw kind token = record { token = token; kind = kind }

-- the flaw where this holds, and none where it does not
abbrev pub flaw_if : Bool → FaultKind → ℕ → List Flaw
flaw_if holds kind token = if holds then flaw kind token ∷ [] else []

-- for each of some elements, whether an element before it is so with it: one of those given as
-- before all of them, or one of themselves
abbrev pub earlier : {K : Type 0} → (K → K → Bool) → List K → List K → List Bool
earlier so before [] = []
earlier so before (k ∷ ks) = list_any (λ p. so p k) before ∷ earlier so (before ++ k ∷ []) ks

-- for each of some elements, whether an earlier one of them is so with it
abbrev pub after_earlier : {K : Type 0} → (K → K → Bool) → List K → List Bool
after_earlier so keys = earlier so [] keys

-- a flaw at each token that is marked
abbrev pub marked : FaultKind → List ℕ → List Bool → List Flaw
marked kind [] flags = []
marked kind (t ∷ ts) [] = []
marked kind (t ∷ ts) (b ∷ bs) = flaw_if b kind t ++ marked kind ts bs

-- ---- the least of some flaws

-- by token, then by number
abbrev pub comes_before : Flaw → Flaw → Bool
comes_before a b =
    nat_lt a.token b.token
    || (a.token == b.token && nat_lt (kind_number a.kind) (kind_number b.kind))

-- none of them holds, or this one does and no other comes before it
abbrev pub IsLeastOfFlaws : (Flaw → Type 0) → Option Flaw → Type 0
IsLeastOfFlaws holds None = (x : Flaw) → holds x → ⊥
IsLeastOfFlaws holds (Some least) =
    holds least × ((x : Flaw) → holds x → comes_before x least ≡ false)
