-- The order of faults is total, and a set of faults has one least (for the crates above).
use Rattle.std.proofs.Common.{◌≡◌, ℕ, ◌-◌, List, [], ◌∷◌, get_or, refl, sym, ap, ◌∙◌, nat_cmp}
use Rattle.proto_base.proofs.Common.{Ordering, Less, Equal, Greater, IsTotalOrder, ordering_then, ordering_reverse, ranked, nat_cmp_total, nat_list_cmp_total, on_total, then_total, kind_number, phase_of}
use Rattle.proto_base.specs.declared.fault.FaultKind.{FaultKind}
use Rattle.proto_base.specs.declared.fault.FaultKind.TheVariants.{TooLarge, NotUtf8, BadChar, OpenComment, OpenString, BadEscape, BadNumber, Syntax, TooDeep, UnknownImport, DoubleImport, ImportCycle, DuplicateName, Unresolved, WrongKind, MapEntryRef, NumberRange, DuplicateNumber, ReservedNumber, ReservedName, RangeOverlap, EmptyEnum, FirstNotZero, ClosedEnum, Label, BadMap, BadOption, BadDefault, EmptyOneof, JsonClash, NotInProto3, AliasNotAllowed, BadPath, DoublePath, TooManyFiles, NotExtendable, DuplicateExtension, RequiredExtension, NotAnOption}
use Rattle.proto_files.specs.Common.{path_cmp, FaultAt, ComesBefore, fault_cmp, IsLeastFault}
use Rattle.proto_files.proofs.PathOrder.{same_from_equal}

abbrev kinds : List FaultKind
kinds = TooLarge ∷ NotUtf8 ∷ BadChar ∷ OpenComment ∷ OpenString ∷ BadEscape ∷ BadNumber ∷ Syntax ∷ TooDeep ∷ UnknownImport ∷ DoubleImport ∷ ImportCycle ∷ DuplicateName ∷ Unresolved ∷ WrongKind ∷ MapEntryRef ∷ NumberRange ∷ DuplicateNumber ∷ ReservedNumber ∷ ReservedName ∷ RangeOverlap ∷ EmptyEnum ∷ FirstNotZero ∷ ClosedEnum ∷ Label ∷ BadMap ∷ BadOption ∷ BadDefault ∷ EmptyOneof ∷ JsonClash ∷ NotInProto3 ∷ AliasNotAllowed ∷ BadPath ∷ DoublePath ∷ TooManyFiles ∷ NotExtendable ∷ DuplicateExtension ∷ RequiredExtension ∷ NotAnOption ∷ []

-- the fault of a number
abbrev kind_at : ℕ → FaultKind
kind_at n = get_or kinds (n - 1) TooLarge

kind_at-number_of : (k : FaultKind) → kind_at (kind_number k) ≡ k
kind_at-number_of TooLarge = refl
kind_at-number_of NotUtf8 = refl
kind_at-number_of BadChar = refl
kind_at-number_of OpenComment = refl
kind_at-number_of OpenString = refl
kind_at-number_of BadEscape = refl
kind_at-number_of BadNumber = refl
kind_at-number_of Syntax = refl
kind_at-number_of TooDeep = refl
kind_at-number_of UnknownImport = refl
kind_at-number_of DoubleImport = refl
kind_at-number_of ImportCycle = refl
kind_at-number_of DuplicateName = refl
kind_at-number_of Unresolved = refl
kind_at-number_of WrongKind = refl
kind_at-number_of MapEntryRef = refl
kind_at-number_of NumberRange = refl
kind_at-number_of DuplicateNumber = refl
kind_at-number_of ReservedNumber = refl
kind_at-number_of ReservedName = refl
kind_at-number_of RangeOverlap = refl
kind_at-number_of EmptyEnum = refl
kind_at-number_of FirstNotZero = refl
kind_at-number_of ClosedEnum = refl
kind_at-number_of Label = refl
kind_at-number_of BadMap = refl
kind_at-number_of BadOption = refl
kind_at-number_of BadDefault = refl
kind_at-number_of EmptyOneof = refl
kind_at-number_of JsonClash = refl
kind_at-number_of NotInProto3 = refl
kind_at-number_of AliasNotAllowed = refl
kind_at-number_of BadPath = refl
kind_at-number_of DoublePath = refl
kind_at-number_of TooManyFiles = refl
kind_at-number_of NotExtendable = refl
kind_at-number_of DuplicateExtension = refl
kind_at-number_of RequiredExtension = refl
kind_at-number_of NotAnOption = refl

-- A number is that of one fault.
pub kinds_by_number : (j k : FaultKind) → kind_number j ≡ kind_number k → j ≡ k
kinds_by_number j k e = sym (kind_at-number_of j) ∙ ap kind_at e ∙ kind_at-number_of k

pub fault_cmp_total : IsTotalOrder fault_cmp
fault_cmp_total =
    then_total (on_total (λ (x : FaultAt). phase_of x.kind) nat_cmp_total)
    (then_total (on_total (λ (x : FaultAt). x.path) nat_list_cmp_total)
    (then_total (on_total (λ (x : FaultAt). x.offset) nat_cmp_total) (on_total (λ (x : FaultAt). kind_number x.kind) nat_cmp_total)))

then_equal : (a b : Ordering) → ordering_then a b ≡ Equal → (a ≡ Equal) × (b ≡ Equal)
then_equal Less b h = absurd (cc)
then_equal Equal b h = (refl, h)
then_equal Greater b h = absurd (cc)

same_place : (x y : FaultAt) → fault_cmp x y ≡ Equal → x ≡ y
same_place x y h =
    let phases = then_equal (nat_cmp (phase_of x.kind) (phase_of y.kind)) _ h in
    let paths = then_equal (path_cmp x.path y.path) _ phases.1 in
    let places = then_equal (nat_cmp x.offset y.offset) _ paths.1 in
    let path = same_from_equal x.path y.path paths.0 in
    let offset : x.offset ≡ y.offset = ranked x.offset y.offset Equal (sym places.0) in
    let number : kind_number x.kind ≡ kind_number y.kind = ranked (kind_number x.kind) (kind_number y.kind) Equal (sym places.1) in
    let kind = kinds_by_number x.kind y.kind number in
    λ i. record { path = path i; offset = offset i; kind = kind i }

-- Two faults, neither before the other, are the same.
pub neither_before : (x y : FaultAt) → (ComesBefore x y → ⊥) → (ComesBefore y x → ⊥) → x ≡ y
neither_before x y a b = go (fault_cmp x y) refl where
  go : (o : Ordering) → fault_cmp x y ≡ o → x ≡ y
  go Less e = absurd (a e)
  go Equal e = same_place x y e
  go Greater e = absurd (b (fault_cmp_total.antisymm y x ∙ ap ordering_reverse e))

-- A set of faults has one least.
pub least_is_one : (faults : FaultAt → Type 0) (x y : FaultAt) → IsLeastFault faults x → IsLeastFault faults y → x ≡ y
least_is_one faults x y a b = neither_before x y (b.is_least x a.is_fault) (a.is_least y b.is_fault)
