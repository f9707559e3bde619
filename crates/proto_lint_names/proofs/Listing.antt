-- Findings that are sorted, each kept once.
use Rattle.std.proofs.Common.{◌≡◌, ℕ, zero, suc, ◌<◌, Bool, true, List, [], ◌∷◌, length, map, get_or, refl, sym, ap, ◌∙◌, arith, AllPairs, Contains, IsPermutation, IsSorted, is_eq, nat_cmp, string_bytes}
use Rattle.proto_base.proofs.Common.{IsEquivalence, IsTotalOrder, same_text, slice_cmp, texts_ties, dedup, IsStrictlySortedBy, eq_by_cmp, ordering_then, Ordering, Less, Equal, Greater, eq_by_cmp_equiv, length-map, Any-dedup, Contains-from_dedup, IsStrictlySortedBy-dedup, Contains-permutation, IsPermutation-sym}
use Rattle.std.proofs.lemmas.Map.Keys.{Less-from_sorted}
use Rattle.proto_lint_names.specs.declared.finding.Finding.{Finding}
use Rattle.proto_lint_names.specs.Common.{FindingOf, IsListingOf, finding_cmp, finding_of}
use Rattle.proto_lint_rules.specs.Rules.{identifier}
use Rattle.proto_lint_names.specs.contracts.finding.FindingOrd.TheImpl as derived
use Rattle.proto_lint_rules.proofs.RuleOrder.{derived_is, equal_numbers, same_identifier}

-- ---- equal findings

front_equal : (o p : Ordering) → ordering_then o p ≡ Equal → o ≡ Equal
front_equal Less p e = e
front_equal Equal p e = refl
front_equal Greater p e = e

back_equal : (o p : Ordering) → ordering_then o p ≡ Equal → p ≡ Equal
back_equal Less p e = cc
back_equal Equal p e = e
back_equal Greater p e = cc

equal_texts : (xs ys : List ℕ) → slice_cmp nat_cmp xs ys ≡ Equal → xs ≡ ys
equal_texts xs ys e = same_text xs ys (sym (texts_ties xs ys ∙ ap is_eq e))

equal_findings : (f g : FindingOf) → finding_cmp f g ≡ Equal → f ≡ g
equal_findings f g e =
    let names : Ordering = slice_cmp nat_cmp f.name g.name in
    let rules : Ordering = slice_cmp nat_cmp (identifier f.rule) (identifier g.rule) in
    let offsets : Ordering = nat_cmp f.offset g.offset in
    let paths : Ordering = slice_cmp nat_cmp f.path g.path in
    let behind_path = back_equal paths (ordering_then offsets (ordering_then rules names)) e in
    let behind_offset = back_equal offsets (ordering_then rules names) behind_path in
    let path : f.path ≡ g.path = equal_texts f.path g.path (front_equal paths (ordering_then offsets (ordering_then rules names)) e) in
    let offset : f.offset ≡ g.offset = equal_numbers f.offset g.offset (front_equal offsets (ordering_then rules names) behind_path) in
    let rule : f.rule ≡ g.rule = same_identifier f.rule g.rule (equal_texts (identifier f.rule) (identifier g.rule) (front_equal rules names behind_offset)) in
    let name : f.name ≡ g.name = equal_texts f.name g.name (back_equal rules names behind_offset) in
    λ i. record { path = path i; offset = offset i; rule = rule i; name = name i }

-- ---- lists and their views

at_map : {A B : Type 0} (f : A → B) (xs : List A) (i : ℕ) (a : A) (b : B) → i < length xs → get_or (map f xs) i b ≡ f (get_or xs i a)
at_map f [] i a b l = absurd (omega (arith, l))
at_map f (x ∷ xs) zero a b l = refl
at_map f (x ∷ xs) (suc i) a b l = at_map f xs i a b (omega (arith, l))

-- an element that is seen so
abbrev Seen : List Finding → FindingOf → Type 0
Seen xs y = (x : Finding) × Contains xs x × (finding_of x ≡ y)

seen_from : (xs : List Finding) (y : FindingOf) → Contains (map finding_of xs) y → Seen xs y
seen_from [] y (k, l, e) = absurd (omega (arith, l))
seen_from (x ∷ xs) y (k, l, e) =
    let within : k < length (x ∷ xs) = let n = length-map (x ∷ xs) finding_of in omega (arith, n, l) in
    (get_or (x ∷ xs) k x, (k, within, itself (x ∷ xs) k x within), sym (at_map finding_of (x ∷ xs) k x y within) ∙ e) where
      itself : (xs : List Finding) (k : ℕ) (d : Finding) → k < length xs → get_or xs k (get_or xs k d) ≡ get_or xs k d
      itself [] k d l = absurd (omega (arith, l))
      itself (x ∷ xs) zero d l = refl
      itself (x ∷ xs) (suc k) d l = itself xs k d (omega (arith, l))

from_seen : (xs : List Finding) (y : FindingOf) → Seen xs y → Contains (map finding_of xs) y
from_seen xs y (x, (k, l, e), is) = (k, (let n = length-map xs finding_of in omega (arith, n, l)), at_map finding_of xs k x y l ∙ ap finding_of e ∙ is)

module _ (cmp : Finding → Finding → Ordering) (total : IsTotalOrder cmp) (same : Finding → Finding → Bool) (ties : (f g : Finding) → same f g ≡ eq_by_cmp cmp f g) (agrees : (f g : Finding) → cmp f g ≡ finding_cmp (finding_of f) (finding_of g)) where
  equivalence : IsEquivalence same
  equivalence =
      let e : IsEquivalence (eq_by_cmp cmp) = eq_by_cmp_equiv total in
      record {
        refl = λ x. ties x x ∙ e.refl x;
        symm = λ x y. ties x y ∙ e.symm x y ∙ sym (ties y x);
        congr = λ x y z h. ties x z ∙ e.congr x y z (sym (ties x y) ∙ h) ∙ sym (ties y z);
      }

  is_equal : (o : Ordering) → is_eq o ≡ true → o ≡ Equal
  is_equal Less e = cc
  is_equal Equal e = refl
  is_equal Greater e = cc

  same_view : (f g : Finding) → same f g ≡ true → finding_of f ≡ finding_of g
  same_view f g e = equal_findings (finding_of f) (finding_of g) (sym (agrees f g) ∙ is_equal (cmp f g) (sym (ties f g) ∙ e))

  in_order : (fs : List Finding) → IsStrictlySortedBy cmp fs → AllPairs (λ f g. finding_cmp f g ≡ Less) (map finding_of fs)
  in_order [] s i j d a b = absurd (omega (arith, b))
  in_order (f ∷ fs) s i j d a b =
      let n = length-map (f ∷ fs) finding_of in
      let last : j < length (f ∷ fs) = omega (arith, n, b) in
      let first : i < length (f ∷ fs) = omega (arith, a, last) in
      ap (λ (x : FindingOf). finding_cmp x (get_or (map finding_of (f ∷ fs)) j d)) (at_map finding_of (f ∷ fs) i f d first)
      ∙ ap (finding_cmp (finding_of (get_or (f ∷ fs) i f))) (at_map finding_of (f ∷ fs) j f d last)
      ∙ sym (agrees (get_or (f ∷ fs) i f) (get_or (f ∷ fs) j f))
      ∙ Less-from_sorted cmp (f ∷ fs) i j f s a last

  pub is_listing : (all sorted : List Finding) → IsPermutation all sorted → IsSorted cmp sorted → IsListingOf (map finding_of all) (map finding_of (dedup same sorted))
  is_listing all sorted moved ordered = record {
    ordered = in_order (dedup same sorted) (IsStrictlySortedBy-dedup total ties sorted ordered);
    same = λ y. (forth y, back y);
  } where
    forth : (y : FindingOf) → Contains (map finding_of (dedup same sorted)) y → Contains (map finding_of all) y
    forth y h =
        let s = seen_from (dedup same sorted) y h in
        from_seen all y (s.0, Contains-permutation sorted all s.0 (IsPermutation-sym all sorted moved) (Contains-from_dedup same sorted s.0 s.1), s.2)

    back : (y : FindingOf) → Contains (map finding_of all) y → Contains (map finding_of (dedup same sorted)) y
    back y h =
        let s = seen_from all y h in
        let kept = Any-dedup equivalence sorted s.0 (Contains-permutation all sorted s.0 moved s.1) in
        from_seen (dedup same sorted) y (kept.1, (kept.0, kept.2, kept.3), sym (same_view s.0 kept.1 kept.4) ∙ s.2)

-- ---- the order of the code

pub agrees : (f g : Finding) → (derived.cmp-value).it f g ≡ finding_cmp (finding_of f) (finding_of g)
agrees f g =
    let paths = slice_cmp nat_cmp (string_bytes f.path) (string_bytes g.path) in
    let offsets = nat_cmp f.offset g.offset in
    let rules = slice_cmp nat_cmp (identifier f.rule) (identifier g.rule) in
    let names = slice_cmp nat_cmp (string_bytes f.name) (string_bytes g.name) in
    ap (λ (o : Ordering). ordering_then paths (ordering_then offsets (ordering_then o names))) (derived_is f.rule g.rule)
