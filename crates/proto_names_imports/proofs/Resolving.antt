-- The imports of files that name files (for the crates above).
use Rattle.std.proofs.Common.{◌≡◌, ℕ, suc, ◌+◌, ◌<◌, Bool, true, false, List, [], ◌∷◌, ◌++◌, length, get_or, map, take, drop, option_map, Option, Some, None, refl, sym, ◌∙◌, ap, inl, inr, arith, string_bytes, cond, not, nat_lt, append_assoc, position, bytes_eq, length-take-le, append-nil}
use Rattle.proto_base.proofs.Common.{cons_option, position_or_len, cases_Bool, cases_lt, cond-true, cond-false, false_from_ne_true, both_ways, nat_tests, map-append, filter_map-append, word_from_same, same_from_word}
use Rattle.std.proofs.Math.Seq.{drop-cons}
use Rattle.proto_names_rules.proofs.Common.{Import, file_with_path, import_from_asked, imports_of}
use Rattle.proto_names_imports.specs.Common.{asked_by, all_asked, import_from, all_imports, WrittenImport, FileImport}
use Rattle.proto_names_imports.proofs.Turned.{take_more}

-- the first of some paths, or a later one
pub position_cons : {X : Type 0} (p : X → Bool) (x : X) (xs : List X) → position p (x ∷ xs) ≡ cond (p x) (Some 0) (option_map suc (position p xs))
position_cons p x xs = go (p x) (position_or_len p xs) (length xs)
  where
    go : (b : Bool) (n m : ℕ) → cond (nat_lt (cond (not b) (1 + n) 0) (suc m)) (Some (cond (not b) (1 + n) 0)) None ≡ cond b (Some 0) (option_map suc (cond (nat_lt n m) (Some n) None))
    go true n m = grind (arith, nat_tests)
    go false n m = elim (cases_lt n m) [
      | inl l ↦
          let a : nat_lt n m ≡ true = grind (arith, nat_tests) in
          let b : nat_lt (1 + n) (suc m) ≡ true = grind (arith, nat_tests) in
          cond-true (nat_lt (1 + n) (suc m)) (Some (1 + n)) None b ∙ ap Some (omega arith) ∙ sym (ap (option_map suc) (cond-true (nat_lt n m) (Some n) None a))
      | inr l ↦
          let a : nat_lt n m ≡ false = grind (arith, nat_tests) in
          let b : nat_lt (1 + n) (suc m) ≡ false = grind (arith, nat_tests) in
          cond-false (nat_lt (1 + n) (suc m)) (Some (1 + n)) None b ∙ sym (ap (option_map suc) (cond-false (nat_lt n m) (Some n) None a))
    ]

later_file : (f : ℕ) (o : Option ℕ) → option_map (λ k. k + (f + 1)) o ≡ option_map (λ k. k + f) (option_map suc o)
later_file f None = refl
later_file f (Some k) = ap Some (omega arith)

-- one path more, before the others
pub index_step : (ps : List (List ℕ)) (f : ℕ) (path key : List ℕ) (old new : Option ℕ) → f < length ps → key ≡ get_or ps f [] → old ≡ option_map (λ k. k + (f + 1)) (file_with_path (drop (f + 1) ps) path) → new ≡ cond (bytes_eq key path) (Some f) old → new ≡ option_map (λ k. k + f) (file_with_path (drop f ps) path)
index_step ps f path key old new l here was is =
    let d : drop f ps ≡ key ∷ drop (f + 1) ps =
    let z : suc f ≡ f + 1 = omega arith in
    drop-cons ps f [] l ∙ ap (λ k. get_or ps f [] ∷ drop k ps) z ∙ ap (λ k. k ∷ drop (f + 1) ps) (sym here) in
    elim (cases_Bool (bytes_eq path key)) [
      | inl same ↦
          let z : f ≡ 0 + f = omega arith in
          is ∙ cond-true (bytes_eq key path) (Some f) old (same_from_word key path (sym (word_from_same path key same))) ∙ ap Some z
          ∙ sym (ap (λ xs. option_map (λ k. k + f) (file_with_path xs path)) d ∙ ap (option_map (λ k. k + f)) (position_cons (bytes_eq path) key (drop (f + 1) ps) ∙ cond-true (bytes_eq path key) (Some 0) _ same))
      | inr apart ↦
          is ∙ cond-false (bytes_eq key path) (Some f) old (false_from_ne_true (bytes_eq key path) (λ h. both_ways (bytes_eq path key) apart (same_from_word path key (sym (word_from_same key path h)))))
          ∙ was ∙ later_file f (file_with_path (drop (f + 1) ps) path)
          ∙ sym (ap (λ xs. option_map (λ k. k + f) (file_with_path xs path)) d ∙ ap (option_map (λ k. k + f)) (position_cons (bytes_eq path) key (drop (f + 1) ps) ∙ cond-false (bytes_eq path key) (Some 0) _ apart))
    ]

import_is : (paths : List (List ℕ)) (file to : ℕ) (w : WrittenImport) (r : FileImport) → file_with_path paths (string_bytes w.path) ≡ Some to → r.to ≡ to → r.is_public ≡ w.is_public → import_from_asked paths (asked_by file w) ≡ Some (import_from file r)
import_is paths file to w r h t p =
    ap (option_map (λ to. let i : Import = record { from = file; to = to; is_public = w.is_public } in i)) h
    ∙ ap (λ z. let i : Import = record { from = file; to = z; is_public = w.is_public } in Some i) (sym t)
    ∙ ap (λ z. let i : Import = record { from = file; to = r.to; is_public = z } in Some i) (sym p)

asked_more : (paths : List (List ℕ)) (file : ℕ) (ws : List WrittenImport) (i : ℕ) (w : WrittenImport) → i < length ws → w ≡ get_or ws i w → imports_of paths (map (asked_by file) (take (i + 1) ws)) ≡ imports_of paths (map (asked_by file) (take i ws)) ++ imports_of paths (asked_by file w ∷ [])
asked_more paths file ws i w l e =
    ap (λ z. imports_of paths (map (asked_by file) z)) (take_more ws i w l ∙ ap (λ y. take i ws ++ y ∷ []) (sym e))
    ∙ ap (imports_of paths) (map-append (asked_by file) (take i ws) (w ∷ []))
    ∙ filter_map-append (import_from_asked paths) (map (asked_by file) (take i ws)) (asked_by file w ∷ [])

-- one import more, of a file
pub resolve_some : (paths : List (List ℕ)) (file : ℕ) (ws : List WrittenImport) (i to : ℕ) (w : WrittenImport) (is : List FileImport) (r : FileImport) → i < length ws → w ≡ get_or ws i w → map (import_from file) is ≡ imports_of paths (map (asked_by file) (take i ws))
    → file_with_path paths (string_bytes w.path) ≡ Some to → r.to ≡ to → r.is_public ≡ w.is_public → map (import_from file) (is ++ r ∷ []) ≡ imports_of paths (map (asked_by file) (take (i + 1) ws))
resolve_some paths file ws i to w is r l e inv h t p =
    map-append (import_from file) is (r ∷ []) ∙ ap (λ z. z ++ import_from file r ∷ []) inv
    ∙ ap (λ z. imports_of paths (map (asked_by file) (take i ws)) ++ cons_option z []) (sym (import_is paths file to w r h t p))
    ∙ sym (asked_more paths file ws i w l e)

-- one import more, of no file
pub resolve_none : (paths : List (List ℕ)) (file : ℕ) (ws : List WrittenImport) (i : ℕ) (w : WrittenImport) (is : List FileImport) → i < length ws → w ≡ get_or ws i w → map (import_from file) is ≡ imports_of paths (map (asked_by file) (take i ws))
    → file_with_path paths (string_bytes w.path) ≡ None → map (import_from file) is ≡ imports_of paths (map (asked_by file) (take (i + 1) ws))
resolve_none paths file ws i w is l e inv h =
    inv ∙ sym (append-nil (imports_of paths (map (asked_by file) (take i ws))))
    ∙ ap (λ z. imports_of paths (map (asked_by file) (take i ws)) ++ cons_option z []) (sym (ap (option_map (λ to. let i : Import = record { from = file; to = to; is_public = w.is_public } in i)) h))
    ∙ sym (asked_more paths file ws i w l e)

all_imports_more : (n : ℕ) (is : List (List FileImport)) (x : List FileImport) → all_imports n (is ++ x ∷ []) ≡ all_imports n is ++ map (import_from (n + length is)) x
all_imports_more n [] x = let z : n ≡ n + 0 = omega arith in append-nil (map (import_from n) x) ∙ ap (λ k. map (import_from k) x) z
all_imports_more n (y ∷ is) x =
    let z : suc n + length is ≡ n + suc (length is) = omega arith in
    ap (λ t. map (import_from n) y ++ t) (all_imports_more (suc n) is x ∙ ap (λ k. all_imports (suc n) is ++ map (import_from k) x) z)
    ∙ sym (append_assoc (map (import_from n) y) (all_imports (suc n) is) (map (import_from (n + suc (length is))) x))

all_asked_more : (n : ℕ) (fs : List (List WrittenImport)) (x : List WrittenImport) → all_asked n (fs ++ x ∷ []) ≡ all_asked n fs ++ map (asked_by (n + length fs)) x
all_asked_more n [] x = let z : n ≡ n + 0 = omega arith in append-nil (map (asked_by n) x) ∙ ap (λ k. map (asked_by k) x) z
all_asked_more n (y ∷ fs) x =
    let z : suc n + length fs ≡ n + suc (length fs) = omega arith in
    ap (λ t. map (asked_by n) y ++ t) (all_asked_more (suc n) fs x ∙ ap (λ k. all_asked (suc n) fs ++ map (asked_by k) x) z)
    ∙ sym (append_assoc (map (asked_by n) y) (all_asked (suc n) fs) (map (asked_by (n + suc (length fs))) x))

-- one file more
pub resolve_file : (paths : List (List ℕ)) (fs : List (List WrittenImport)) (is : List (List FileImport)) (k : ℕ) (new : List FileImport) → length is ≡ k → k < length fs → all_imports 0 is ≡ imports_of paths (all_asked 0 (take k fs))
    → ((file : ℕ) → map (import_from file) new ≡ imports_of paths (map (asked_by file) (get_or fs k []))) → all_imports 0 (is ++ new ∷ []) ≡ imports_of paths (all_asked 0 (take (k + 1) fs))
resolve_file paths fs is k new n l inv h =
    let t = take_more fs k [] l in
    let m : 0 + length is ≡ 0 + length (take k fs) = let q = length-take-le k fs (omega (arith, l)) in omega (arith, q, n) in
    all_imports_more 0 is new
    ∙ ap (λ z. z ++ map (import_from (0 + length is)) new) inv
    ∙ ap (λ z. imports_of paths (all_asked 0 (take k fs)) ++ z) (h (0 + length is) ∙ ap (λ z. imports_of paths (map (asked_by z) (get_or fs k []))) m)
    ∙ sym (filter_map-append (import_from_asked paths) (all_asked 0 (take k fs)) (map (asked_by (0 + length (take k fs))) (get_or fs k [])))
    ∙ ap (imports_of paths) (sym (all_asked_more 0 (take k fs) (get_or fs k [])))
    ∙ ap (λ z. imports_of paths (all_asked 0 z)) (sym t)
