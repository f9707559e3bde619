-- The rules by their numbers, and the order of their identifiers (for the crates above).
use Rattle.std.proofs.Common.{◌≡◌, ◌↔◌, ℕ, zero, suc, ◌<◌, ◌≤◌, Bool, true, false, ◌&&◌, List, [], ◌∷◌, length, slice_index_or, slice_get, Some, None, bytes_eq, refl, sym, ap, ◌∙◌, arith, nat_cmp, is_lt}
use Rattle.proto_base.proofs.Common.{by_ranked, nat_list_cmp_total, on_total, ranked, tied_itself, IsTotalOrder, nat_list_eq_equiv, same_text, slice_cmp, ordering_reverse, Ordering, Less, Equal, Greater}
use Rattle.proto_lint_rules.specs.declared.rule.Rule.{Rule}
use Rattle.proto_lint_rules.specs.declared.rule.Rule.TheVariants as rule
use Rattle.proto_lint_rules.specs.contracts.rule.RuleOrd.TheImpl as derived
use Rattle.proto_lint_rules.specs.contracts.rule.RuleOrd.TheImpl.Laws as laws
use Rattle.proto_lint_rules.specs.Rules.{identifier, number}

abbrev pub all : List Rule
all = rule.DirectorySamePackage ∷ rule.EnumFirstValueZero ∷ rule.EnumNoAllowAlias ∷ rule.EnumPascalCase ∷ rule.EnumValuePrefix ∷ rule.EnumValueUpperSnakeCase ∷ rule.EnumZeroValueSuffix ∷ rule.FieldLowerSnakeCase ∷ rule.FileLowerSnakeCase ∷ rule.ImportNoPublic ∷ rule.ImportUsed ∷ rule.MessagePascalCase ∷ rule.OneofLowerSnakeCase ∷ rule.PackageDefined ∷ rule.PackageDirectoryMatch ∷ rule.PackageLowerSnakeCase ∷ rule.PackageSameDirectory ∷ rule.PackageVersionSuffix ∷ rule.RpcNoClientStreaming ∷ rule.RpcNoServerStreaming ∷ rule.RpcPascalCase ∷ rule.RpcRequestResponseUnique ∷ rule.RpcRequestStandardName ∷ rule.RpcResponseStandardName ∷ rule.ServicePascalCase ∷ rule.ServiceSuffix ∷ rule.SyntaxSpecified ∷ []

pub number_at : (r : Rule) → slice_get all (number r) ≡ Some r
number_at rule.DirectorySamePackage = refl
number_at rule.EnumFirstValueZero = refl
number_at rule.EnumNoAllowAlias = refl
number_at rule.EnumPascalCase = refl
number_at rule.EnumValuePrefix = refl
number_at rule.EnumValueUpperSnakeCase = refl
number_at rule.EnumZeroValueSuffix = refl
number_at rule.FieldLowerSnakeCase = refl
number_at rule.FileLowerSnakeCase = refl
number_at rule.ImportNoPublic = refl
number_at rule.ImportUsed = refl
number_at rule.MessagePascalCase = refl
number_at rule.OneofLowerSnakeCase = refl
number_at rule.PackageDefined = refl
number_at rule.PackageDirectoryMatch = refl
number_at rule.PackageLowerSnakeCase = refl
number_at rule.PackageSameDirectory = refl
number_at rule.PackageVersionSuffix = refl
number_at rule.RpcNoClientStreaming = refl
number_at rule.RpcNoServerStreaming = refl
number_at rule.RpcPascalCase = refl
number_at rule.RpcRequestResponseUnique = refl
number_at rule.RpcRequestStandardName = refl
number_at rule.RpcResponseStandardName = refl
number_at rule.ServicePascalCase = refl
number_at rule.ServiceSuffix = refl
number_at rule.SyntaxSpecified = refl

-- a rule is known by its number
pub same_number : (r s : Rule) → number r ≡ number s → r ≡ s
same_number r s e = let p = number_at r in let q = number_at s in let k = ap (λ (n : ℕ). slice_get all n) e in cc

within : (rs : List Rule) (i : ℕ) (r : Rule) → slice_get rs i ≡ Some r → i < length rs
within [] i r h = cc
within (s ∷ rs) zero r h = omega arith
within (s ∷ rs) (suc i) r h = let l = within rs i r h in omega (arith, l)

there : (rules : List Rule) (k : ℕ) (d r : Rule) → slice_get rules k ≡ Some r → slice_index_or rules k d ≡ r
there [] k d r h = cc
there (x ∷ xs) zero d r h = cc
there (x ∷ xs) (suc k) d r h = there xs k d r h

-- ---- orders that rise with the numbers

less : (o : Ordering) (b : Bool) → (is_lt o && b) ≡ true → o ≡ Less
less Less b h = refl
less Equal b h = cc
less Greater b h = cc

rest_rises : (o : Ordering) (b : Bool) → (is_lt o && b) ≡ true → b ≡ true
rest_rises Less b h = h
rest_rises Equal b h = cc
rest_rises Greater b h = cc

-- each rule is below the next
abbrev rises : (Rule → Rule → Ordering) → List Rule → Bool
rises order [] = true
rises order (r ∷ []) = true
rises order (r ∷ s ∷ rest) = is_lt (order r s) && rises order (s ∷ rest)

module _ (order : Rule → Rule → Ordering) (total : IsTotalOrder order) where
  first_below : (r : Rule) (rs : List Rule) → rises order (r ∷ rs) ≡ true → (j : ℕ) (d : Rule) → j < length rs → order r (slice_index_or rs j d) ≡ Less
  first_below r [] h j d l = absurd (omega (arith, l))
  first_below r (s ∷ rs) h zero d l = less (order r s) (rises order (s ∷ rs)) h
  first_below r (s ∷ rs) h (suc j) d l =
      total.trans r s (slice_index_or rs j d) (less (order r s) (rises order (s ∷ rs)) h) (first_below s rs (rest_rises (order r s) (rises order (s ∷ rs)) h) j d (omega (arith, l)))

  earlier_below : (rs : List Rule) → rises order rs ≡ true → (i j : ℕ) (d : Rule) → i < j → j < length rs → order (slice_index_or rs i d) (slice_index_or rs j d) ≡ Less
  earlier_below [] h i j d a b = absurd (omega (arith, b))
  earlier_below (r ∷ rs) h zero zero d a b = absurd (omega (arith, a))
  earlier_below (r ∷ rs) h zero (suc j) d a b = first_below r rs h j d (omega (arith, b))
  earlier_below (r ∷ rs) h (suc i) zero d a b = absurd (omega (arith, a))
  earlier_below (r ∷ []) h (suc i) (suc j) d a b = absurd (omega (arith, b))
  earlier_below (r ∷ s ∷ rs) h (suc i) (suc j) d a b = earlier_below (s ∷ rs) (rest_rises (order r s) (rises order (s ∷ rs)) h) i j d (omega (arith, a)) (omega (arith, b))

  lower_less : rises order all ≡ true → (r s : Rule) → number r < number s → order r s ≡ Less
  lower_less h r s l =
      ap (λ (t : Rule). order t s) (sym (there all (number r) r r (number_at r)))
      ∙ ap (order (slice_index_or all (number r) r)) (sym (there all (number s) r s (number_at s)))
      ∙ earlier_below all h (number r) (number s) r l (within all (number s) s (number_at s))

  by_number : rises order all ≡ true → (r s : Rule) → order r s ≡ nat_cmp (number r) (number s)
  by_number h r s = by_ranked (number r < number s) (number r ≡ number s) (number s < number r) (nat_cmp (number r) (number s)) (ranked (number r) (number s) _ refl)
      (λ e l. lower_less h r s l ∙ sym e)
      (λ e l. ap (order r) (sym (same_number r s l)) ∙ tied_itself total r ∙ sym e)
      (λ e l. total.antisymm r s ∙ ap ordering_reverse (lower_less h s r l) ∙ sym e)

pub identifiers_rise : (r s : Rule) → slice_cmp nat_cmp (identifier r) (identifier s) ≡ nat_cmp (number r) (number s)
identifiers_rise r s = by_number (λ r s. slice_cmp nat_cmp (identifier r) (identifier s)) (on_total identifier nat_list_cmp_total) refl r s

-- the order of the code
pub derived_is : (r s : Rule) → (derived.cmp-value).it r s ≡ slice_cmp nat_cmp (identifier r) (identifier s)
derived_is r s = by_number (derived.cmp-value).it laws.total-law refl r s ∙ sym (identifiers_rise r s)

pub equal_numbers : (i j : ℕ) → nat_cmp i j ≡ Equal → i ≡ j
equal_numbers i j h = by_ranked (i < j) (i ≡ j) (j < i) (nat_cmp i j) (ranked i j _ refl) (λ e l. cc) (λ e l. l) (λ e l. cc)

-- a rule is known by its identifier, too
pub same_identifier : (r s : Rule) → identifier r ≡ identifier s → r ≡ s
same_identifier r s e =
    let same = ap (slice_cmp nat_cmp (identifier r)) (sym e) ∙ tied_itself nat_list_cmp_total (identifier r) in
    let tied : nat_cmp (number r) (number s) ≡ Equal = sym (identifiers_rise r s) ∙ same in
    same_number r s (equal_numbers (number r) (number s) tied)

-- ---- a rule by its name

pub is_found : (r : Rule) (text name : List ℕ) → text ≡ identifier r → true ≡ bytes_eq text name → (rule : Rule) → (Some r ≡ Some rule) ↔ (name ≡ identifier rule)
is_found r text name is same rule =
    let e : text ≡ name = same_text text name same in (
      λ (h : Some r ≡ Some rule). let k : r ≡ rule = cc in sym e ∙ is ∙ ap identifier k,
      λ (h : name ≡ identifier rule). ap Some (same_identifier r rule (sym is ∙ e ∙ h)),
    )

-- no rule at this place has the name
abbrev pub IsOther : List Rule → List ℕ → ℕ → Type 0
IsOther rules name k = (r : Rule) → slice_get rules k ≡ Some r → name ≡ identifier r → ⊥

pub none_found : (name : List ℕ) (n : ℕ) → length all ≤ n → ((k : ℕ) → k < n → IsOther all name k) → (rule : Rule) → (None ≡ Some rule) ↔ (name ≡ identifier rule)
none_found name n h none rule =
    let l = within all (number rule) rule (number_at rule) in
    (λ (e : None ≡ Some rule). cc, λ (e : name ≡ identifier rule). absurd (none (number rule) (omega (arith, l, h)) rule (number_at rule) e))

pub is_other : (rules : List Rule) (text name : List ℕ) (k : ℕ) (d : Rule) → text ≡ identifier (slice_index_or rules k d) → false ≡ bytes_eq text name → IsOther rules name k
is_other rules text name k d is differs r at e =
    let same : text ≡ name = is ∙ ap identifier (there rules k d r at) ∙ sym e in
    let t = nat_list_eq_equiv.refl text in
    let f : false ≡ bytes_eq text text = differs ∙ ap (bytes_eq text) (sym same) in
    let bad : false ≡ true = f ∙ t in
    cc
