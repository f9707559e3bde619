-- References by their first tokens, which rise: where a search for a token ends.
use Rattle.std.proofs.Common.{◌≡◌, ℕ, ◌<◌, ◌≤◌, Bool, false, List, length, get_or, option_map, slice_get, Some, None, Result, Ok, Err, sym, ◌∙◌, ap, inl, inr, arith, ◌==◌, MatchResult, AllPairs, Contains, nat_cmp, eq-eqb, ne_eqb}
use Rattle.proto_base.proofs.Common.{position_or_len, IsSearchInRange, IsBinarySearchResult, IsNonDecreasingBy, ordering_index, cases_order, nat_tests, ranked, get_or_default, find_at, IsNonDecreasingBy-from_default, position_or_len_is, slice_get-get_or, slice_get_past}
use Rattle.proto_names.specs.Common.{row_at, Meant}

module _ (ms : List Meant) (rising : AllPairs (λ m n. m.token < n.token) ms) (token : ℕ) where
  abbrev none : Meant
  none = record { token = 0; first = 0; row = 0 }

  abbrev test : Meant → Bool
  test m = m.token == token

  comparisons_rise : IsNonDecreasingBy (λ m. ordering_index (nat_cmp m.token token)) ms
  comparisons_rise = IsNonDecreasingBy-from_default (λ m. ordering_index (nat_cmp m.token token)) ms none (λ i j le in_range.
      let tokens_rise : (get_or ms i none).token ≤ (get_or ms j none).token = grind (arith, rising i j none, λ (same : i ≡ j). ap (λ k. (get_or ms k none).token) same) in
      grind (arith, nat_tests))

  no_test : (k : ℕ) → ((get_or ms k none).token ≡ token → ⊥) → test (get_or ms k none) ≡ false
  no_test k other = ne_eqb (get_or ms k none).token token other

  at_place : (i : ℕ) → i < length ms → (get_or ms i none).token ≡ token → row_at ms token ≡ Some (get_or ms i none).row
  at_place i within here =
      let first : position_or_len test ms ≡ i = position_or_len_is test ms i none (omega (arith, within))
      (λ k l. no_test k (λ e. let p = rising k i none l within in omega (arith, p, e, here))) (λ l. eq-eqb (get_or ms i none).token token here) in
      ap (option_map (λ m. m.row)) (find_at test ms ∙ ap (slice_get ms) first ∙ slice_get-get_or ms i none within)

  -- a reference of the file is found by its first token
  pub row_of_member : (m : Meant) → Contains ms m → m.token ≡ token → row_at ms token ≡ Some m.row
  row_of_member m c here =
      let e : get_or ms c.0 none ≡ m = get_or_default ms c.0 none m c.1 ∙ c.2 in
      at_place c.0 c.1 (ap (λ (x : Meant). x.token) e ∙ here) ∙ ap (λ (x : Meant). Some x.row) e

  -- a search for the token ends at its reference, or there is none
  pub searched : (r : Result ℕ ℕ) → IsSearchInRange r (length ms) → IsBinarySearchResult (λ m. nat_cmp m.token token) ms r
      → MatchResult r (λ i. Some (get_or ms i none).row ≡ row_at ms token) (λ i. None ≡ row_at ms token)
  searched (Ok i) within equal = sym (at_place i within (ranked _ token _ (sym (equal none))))
  searched (Err i) within parted =
      let other : (k : ℕ) → k < length ms → (get_or ms k none).token ≡ token → ⊥ = λ k l e. elim (cases_order k i) [
        | inl b ↦ (let h = ranked _ token _ (sym ((parted comparisons_rise).1 k none (omega (arith, b)) l)) in omega (arith, h, e))
        | inr (inl b) ↦ (let h = ranked _ token _ (sym ((parted comparisons_rise).0 k none (omega arith) b)) in omega (arith, h, e))
        | inr (inr b) ↦ (let h = ranked _ token _ (sym ((parted comparisons_rise).1 k none (omega (arith, b)) l)) in omega (arith, h, e))
      ] in
      let first : position_or_len test ms ≡ length ms = position_or_len_is test ms (length ms) none (omega arith) (λ k l. no_test k (other k l)) (λ l. absurd (omega (arith, l))) in
      sym (ap (option_map (λ m. m.row)) (find_at test ms ∙ ap (slice_get ms) first ∙ slice_get_past ms (length ms) (omega arith)))
