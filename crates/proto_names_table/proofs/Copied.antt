-- Copies of the words and rows of an index: each goes behind the others.
use Rattle.std.proofs.Common.{◌≡◌, ℕ, zero, suc, ◌+◌, ◌<◌, Bool, false, List, [], ◌∷◌, ◌++◌, length, get_or, map, take, position, None, sym, ◌∙◌, ap, arith, string_bytes, String, length-take-le, get_or-take}
use Rattle.std.specs.Prelude.{◌==◌}
use Rattle.std.specs.List.{IsDistinct}
use Rattle.std.specs.Str.{bytes_eq}
use Rattle.std.specs.declared.alloc.Global.{Global}
use Rattle.std.proofs.lemmas.Bool.{both_ways, eq-eqb, eqb-true, false_from_ne_true}
use Rattle.std.proofs.lemmas.Map.Keys.{IsDistinct-head, IsDistinct-tail}
use Rattle.proto_base.proofs.Common.{All-from_recursion, and_parts, get_or-map, get_or_default, length-map, map-append, map_more, same_from_word, take_more, word_from_same}
use Rattle.indexmap.specs.IndexSet.{insert_key}
use Rattle.proto_names_table.specs.declared.index.Below.{Below}
use Rattle.proto_names_table.specs.Indexes.{is_below_number, word_place}
use Rattle.proto_names_table.proofs.IndexAdded.{both_true, new_last}
use Rattle.proto_names_table.proofs.Positions.{nowhere}

-- of distinct keys one is not equal to a later one
distinct_at : {K : Type 0} (e : K → K → Bool) (xs : List K) → IsDistinct e xs → (i j : ℕ) (d : K) → i < j → j < length xs → e (get_or xs i d) (get_or xs j d) ≡ false
distinct_at e [] apart i j d l m = absurd (omega (arith, m))
distinct_at e (x ∷ xs) apart i zero d l m = absurd (omega (arith, l))
distinct_at e (x ∷ xs) apart zero (suc j) d l m = All-from_recursion (λ y. e x y ≡ false) xs (IsDistinct-head e x xs apart) j d (omega (arith, m))
distinct_at e (x ∷ xs) apart (suc i) (suc j) d l m = distinct_at e xs (IsDistinct-tail e x xs apart) i j d (omega (arith, l)) (omega (arith, m))

abbrev pub same_word : String Global → String Global → Bool
same_word a b = bytes_eq (string_bytes a) (string_bytes b)

module _ (words copy : List (String Global)) (i : ℕ) (item own : String Global) (apart : IsDistinct same_word words) (same : map string_bytes copy ≡ map string_bytes (take i words)) (l : i < length words) (is : item ≡ get_or words i item) (own_is : string_bytes own ≡ string_bytes item) where
  word_new : word_place copy (string_bytes own) ≡ None
  word_new = nowhere (λ k. bytes_eq (string_bytes own) (string_bytes k)) copy (λ k d lk. false_from_ne_true (bytes_eq (string_bytes own) (string_bytes (get_or copy k d))) (λ q.
      let taken = length-take-le i words (omega (arith, l)) in
      let lt : k < length (take i words) = omega (arith, lk, length-map copy string_bytes, ap length same, length-map (take i words) string_bytes) in
      let li : k < i = omega (arith, lt, taken) in
      let before : string_bytes (get_or copy k item) ≡ string_bytes (get_or words k item) =
      sym (get_or-map string_bytes copy k item [] lk) ∙ ap (λ z. get_or z k []) same ∙ get_or-map string_bytes (take i words) k item [] lt ∙ ap string_bytes (get_or-take i words k item li) in
      let here : string_bytes (get_or copy k item) ≡ string_bytes (get_or copy k d) = sym (get_or-map string_bytes copy k item [] lk) ∙ get_or-map string_bytes copy k d [] lk in
      let equal : string_bytes (get_or words k item) ≡ string_bytes (get_or words i item) =
      sym before ∙ here ∙ sym (word_from_same (string_bytes own) (string_bytes (get_or copy k d)) q) ∙ own_is ∙ ap string_bytes is in
      both_ways (same_word (get_or words k item) (get_or words i item)) (distinct_at same_word words apart k i item li l) (same_from_word (string_bytes (get_or words k item)) (string_bytes (get_or words i item)) equal)))

  pub word_copied : map string_bytes (insert_key same_word copy own) ≡ map string_bytes (take (i + 1) words)
  word_copied =
      ap (map string_bytes) (new_last same_word copy own word_new)
      ∙ map-append string_bytes copy (own ∷ [])
      ∙ ap (λ z. z ++ string_bytes own ∷ []) same
      ∙ ap (λ z. map string_bytes (take i words) ++ z ∷ []) (own_is ∙ ap string_bytes is)
      ∙ sym (map_more string_bytes words i item l)

abbrev pub same_below : Below → Below → Bool
same_below a b = is_below_number a.above a.word b

module _ (rows copy : List Below) (i : ℕ) (own : Below) (apart : IsDistinct same_below rows) (same : copy ≡ take i rows) (l : i < length rows) (is : own ≡ get_or rows i own) where
  row_new : position (same_below own) copy ≡ None
  row_new = nowhere (same_below own) copy (λ k d lk. false_from_ne_true (same_below own (get_or copy k d)) (λ q.
      let taken = length-take-le i rows (omega (arith, l)) in
      let li : k < i = omega (arith, lk, ap length same, taken) in
      let here : get_or copy k d ≡ get_or rows k d = ap (λ z. get_or z k d) same ∙ get_or-take i rows k d li in
      let p = and_parts (own.above == (get_or copy k d).above) (own.word == (get_or copy k d).word) q in
      let a = eqb-true own.above (get_or copy k d).above p.0 in
      let b = eqb-true own.word (get_or copy k d).word p.1 in
      let there : get_or rows i d ≡ own = at_any rows i own d l is in
      both_ways (same_below (get_or rows k d) (get_or rows i d)) (distinct_at same_below rows apart k i d li l)
      (both_true ((get_or rows k d).above == (get_or rows i d).above) ((get_or rows k d).word == (get_or rows i d).word)
      (eq-eqb (get_or rows k d).above (get_or rows i d).above (ap (λ (z : Below). z.above) (sym here) ∙ sym a ∙ ap (λ (z : Below). z.above) (sym there)))
      (eq-eqb (get_or rows k d).word (get_or rows i d).word (ap (λ (z : Below). z.word) (sym here) ∙ sym b ∙ ap (λ (z : Below). z.word) (sym there))))))
    where
      at_any : (xs : List Below) (j : ℕ) (x d : Below) → j < length xs → x ≡ get_or xs j x → get_or xs j d ≡ x
      at_any xs j x d lj e = get_or_default xs j d x lj ∙ sym e

  pub row_copied : insert_key same_below copy own ≡ take (i + 1) rows
  row_copied =
      new_last same_below copy own row_new
      ∙ ap (λ z. z ++ own ∷ []) same
      ∙ ap (λ z. take i rows ++ z ∷ []) is
      ∙ sym (take_more rows i own l)
