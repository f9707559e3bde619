-- A file has a tree, or one fault.
use Rattle.std.proofs.Common.{◌≡◌, ℕ, ◌+◌, ◌<◌, List, refl, sym, ap, ◌∙◌, ◌⊎◌, inl, inr, arith, Result, Ok, Err, IfOk, IfErr, IsErrAnd, MatchResult}
use Rattle.std.proofs.lemmas.Bool.{cases_lt}
use Rattle.proto_text.specs.declared.lexer.Token.{Token}
use Rattle.proto_base.specs.declared.profile.Profile.TheVariants as profile
use Rattle.proto_tree.specs.Common.{Profile, Lexeme, tree_of_file, Tree, IsLongestFront, IsShallow, IsTooDeep, OneTree, OneTreeIn, classed_in, ReadsIn, place_at, IsParseFaultIn, is_fault_or_memory_in, IsParsed}
use Rattle.proto_tree.specs.Laws.{OneFault, NoFaultWithTree}
use Rattle.proto_tree.specs.declared.tree.File.{File}
use Rattle.proto_tree.specs.declared.parsing.ParseFault.{ParseFault}
use Rattle.proto_tree.specs.declared.parsing.ParseFault.TheVariants as fault
use Rattle.proto_tree.proofs.Faults.{one_tree}

-- ---- one place

one_place : (s : List Lexeme) (j k : ℕ) → IsLongestFront s j → IsLongestFront s k → j ≡ k
one_place s j k a b = elim (cases_lt j k) [
  | inl lt ↦ absurd (a.longest k lt b.within b.good)
  | inr le ↦ elim (cases_lt k j) [
    | inl lt ↦ absurd (b.longest j lt a.within a.good)
    | inr ge ↦ omega arith
  ]
]

later_deep : (s : List Lexeme) (j k : ℕ) → IsTooDeep s j → IsTooDeep s k → j < k → ⊥
later_deep s j k a b lt = omega (arith, a.deep, b.before (j + 1) (omega arith))

one_deep : (s : List Lexeme) (j k : ℕ) → IsTooDeep s j → IsTooDeep s k → j ≡ k
one_deep s j k a b = elim (cases_lt j k) [
  | inl lt ↦ absurd (later_deep s j k a b lt)
  | inr le ↦ elim (cases_lt k j) [
    | inl lt ↦ absurd (later_deep s k j b a lt)
    | inr ge ↦ omega arith
  ]
]

shallow_deep : (s : List Lexeme) (k : ℕ) → IsShallow s → IsTooDeep s k → ⊥
shallow_deep s k a b = omega (arith, b.deep, b.within, a (k + 1) (omega (arith, b.within)))

-- ---- a tree, or a fault

pub no_fault_in : (p : Profile) (text : List ℕ) (tokens : List Token) (t : Tree) (f : ParseFault) → ReadsIn p text tokens t → IsParseFaultIn p text tokens f → ⊥
no_fault_in p text tokens t (fault.Syntax offset) r h = h.no_tree t r.spells
no_fault_in p text tokens t (fault.TooDeep offset) r h = shallow_deep (classed_in p text tokens) h.at r.shallow h.place
no_fault_in p text tokens t fault.NoMemory r h = h

pub one_fault_in : (p : Profile) (text : List ℕ) (tokens : List Token) (f g : ParseFault) → IsParseFaultIn p text tokens f → IsParseFaultIn p text tokens g → f ≡ g
one_fault_in p text tokens (fault.Syntax i) (fault.Syntax j) a b =
    let same : i ≡ j = a.offset_is ∙ ap (place_at text tokens) (one_place (classed_in p text tokens) a.at b.at a.place b.place) ∙ sym b.offset_is in
    ap (λ x. fault.Syntax x) same
one_fault_in p text tokens (fault.Syntax i) (fault.TooDeep j) a b = absurd (shallow_deep (classed_in p text tokens) b.at a.shallow b.place)
one_fault_in p text tokens (fault.TooDeep i) (fault.Syntax j) a b = absurd (shallow_deep (classed_in p text tokens) a.at b.shallow a.place)
one_fault_in p text tokens (fault.TooDeep i) (fault.TooDeep j) a b =
    let same : i ≡ j = a.offset_is ∙ ap (place_at text tokens) (one_deep (classed_in p text tokens) a.at b.at a.place b.place) ∙ sym b.offset_is in
    ap (λ x. fault.TooDeep x) same
one_fault_in p text tokens fault.NoMemory g a b = absurd a
one_fault_in p text tokens (fault.Syntax i) fault.NoMemory a b = absurd b
one_fault_in p text tokens (fault.TooDeep i) fault.NoMemory a b = absurd b

-- ---- what parse answers

fault_or_memory : (p : Profile) (text : List ℕ) (tokens : List Token) (f : ParseFault) → is_fault_or_memory_in p text tokens f → (f ≡ fault.NoMemory) ⊎ IsParseFaultIn p text tokens f
fault_or_memory p text tokens fault.NoMemory h = inl refl
fault_or_memory p text tokens (fault.Syntax offset) h = inr h
fault_or_memory p text tokens (fault.TooDeep offset) h = inr h

pub parsed_found : (p : Profile) (text : List ℕ) (tokens : List Token) (r : Result File ParseFault) → IsParsed p text tokens r → IfOk r (λ f. ReadsIn p text tokens (tree_of_file f))
parsed_found p text tokens (Ok f) h = h.0
parsed_found p text tokens (Err e) h = tt

pub parsed_only : (p : Profile) (text : List ℕ) (tokens : List Token) (r : Result File ParseFault) → IsParsed p text tokens r → (t : Tree) → ReadsIn p text tokens t → MatchResult r (λ f. t ≡ tree_of_file f) (λ e. e ≡ fault.NoMemory)
parsed_only p text tokens (Ok f) h t reads = h.1 t reads.spells
parsed_only p text tokens (Err e) h t reads = elim (fault_or_memory p text tokens e h) [
  | inl memory ↦ memory
  | inr k ↦ absurd (no_fault_in p text tokens t e reads k)
]

pub parsed_fault : (p : Profile) (text : List ℕ) (tokens : List Token) (r : Result File ParseFault) → IsParsed p text tokens r → IfErr r (is_fault_or_memory_in p text tokens)
parsed_fault p text tokens (Ok f) h = tt
parsed_fault p text tokens (Err e) h = h

pub parsed_only_fault : (p : Profile) (text : List ℕ) (tokens : List Token) (r : Result File ParseFault) → IsParsed p text tokens r → (f : ParseFault) → IsParseFaultIn p text tokens f → IsErrAnd r (λ e. (e ≡ f) ⊎ (e ≡ fault.NoMemory))
parsed_only_fault p text tokens (Ok x) h f k = absurd (no_fault_in p text tokens (tree_of_file x) f h.0 k)
parsed_only_fault p text tokens (Err e) h f k = elim (fault_or_memory p text tokens e h) [
  | inl memory ↦ inr memory
  | inr g ↦ inl (one_fault_in p text tokens e f g k)
]

-- ---- one tree

pub one_reading_in : (p : Profile) → OneTreeIn p
one_reading_in p text tokens a b r s = one_tree a b (classed_in p text tokens) r.spells s.spells

-- ---- the same in the core language

pub one_reading : OneTree
one_reading = one_reading_in profile.Core

pub one_fault : OneFault
one_fault = one_fault_in profile.Core

pub no_fault : NoFaultWithTree
no_fault = no_fault_in profile.Core
