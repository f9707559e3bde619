-- Heads, and the parts of what they say.
use Rattle.std.proofs.Common.{◌≡◌, ℕ, zero, suc, ◌+◌, ◌<◌, ◌≤◌, ◌&&◌, Bool, true, false, not, List, [], ◌∷◌, ◌++◌, length, get_or, map, drop, cond, nat_lt, find, Option, Some, None, IfSome, MatchOption, option_map, Bor, refl, sym, ◌∙◌, ap, inl, inr, arith, ◌==◌, codes, slice_get, is_some, option_and_then, bytes_eq}
use Rattle.proto_base.proofs.Common.{list_all, list_any, position_or_len, rsplit_once, cases_Bool, cases_lt, cond-true, cond-false, both_ways, false_from_ne_true, or_right, nat_tests, length-map, find_at, same_from_word, word_from_same}
use Rattle.proto_text.specs.declared.lexer.Token.{Token}
use Rattle.proto_text.proofs.Common.{AreTokens, lexeme_at, one_token_list}
use Rattle.proto_tree.specs.Tree.{Tree}
use Rattle.proto_files.proofs.Common.{FileOf, file_at, ReadOf, AreRead, read_at, IsTreeOf, same_tree}
use Rattle.proto_names_rules.specs.Faults.{file_with_path}
use Rattle.proto_lint_names.proofs.LastSplit.{split_whole}
use Rattle.proto_lint_names.proofs.Common.{back_or, behind_last, LintFile}
use Rattle.proto_lint.specs.Common.{head_of, head_of_file, is_there, IsProtoPath, Head}

-- ---- names

pub some_first : (xs : List ℕ) → is_some (slice_get xs 0) ≡ is_there xs
some_first [] = refl
some_first (x ∷ xs) = refl

-- ---- paths

has_slash : (front back : List ℕ) → list_any (λ b. b == 47) (front ++ 47 ∷ back) ≡ true
has_slash [] back = refl
has_slash (b ∷ front) back = or_right (b == 47) _ (has_slash front back)

-- an ending without slash is that of what stands behind a slash
ending_behind : (front back start ending : List ℕ) → list_any (λ b. b == 47) ending ≡ false → front ++ 47 ∷ back ≡ start ++ ending → (rest : List ℕ) × (back ≡ rest ++ ending)
ending_behind front back [] ending none e = absurd (both_ways (list_any (λ b. b == 47) ending) none (ap (list_any (λ b. b == 47)) (sym e) ∙ has_slash front back))
ending_behind [] back (b ∷ start) ending none e = let same : back ≡ start ++ ending = cc in (start, same)
ending_behind (a ∷ front) back (b ∷ start) ending none e = let same : front ++ 47 ∷ back ≡ start ++ ending = cc in ending_behind front back start ending none same

pub name_ends : (path : List ℕ) → IsProtoPath path → IsProtoPath (behind_last 47 path)
name_ends path ends = go (rsplit_once 47 path) refl
  where
    go : (o : Option (List ℕ × List ℕ)) → rsplit_once 47 path ≡ o → IsProtoPath (back_or o path)
    go None e = ends
    go (Some p) e =
        ending_behind p.0 p.1 ends.0 (codes ".proto") refl (sym (split_whole 47 path p e) ∙ ends.1)

-- ---- the first of some heads

same_turned : (x y : List ℕ) → bytes_eq x y ≡ bytes_eq y x
same_turned x y = elim (cases_Bool (bytes_eq x y)) [
  | inl same ↦ same ∙ sym (same_from_word y x (sym (word_from_same x y same)))
  | inr apart ↦ apart ∙ sym (false_from_ne_true (bytes_eq y x) (λ h. both_ways (bytes_eq x y) apart (same_from_word x y (sym (word_from_same y x h)))))
]

place_same : (f : Head → List ℕ) (name : List ℕ) (hs : List Head) → position_or_len (bytes_eq name) (map f hs) ≡ position_or_len (λ g. bytes_eq (f g) name) hs
place_same f name [] = refl
place_same f name (h ∷ hs) = ap (λ b. cond (not b) (1 + position_or_len (bytes_eq name) (map f hs)) 0) (same_turned name (f h)) ∙ ap (λ n. cond (not (bytes_eq (f h) name)) (1 + n) 0) (place_same f name hs)

past_all : {X : Type 0} (xs : List X) (i : ℕ) → length xs ≤ i → slice_get xs i ≡ None
past_all [] i l = refl
past_all (x ∷ xs) zero l = absurd (omega (arith, l))
past_all (x ∷ xs) (suc i) l = past_all xs i (omega (arith, l))

there_at : {X : Type 0} (xs : List X) (i : ℕ) (d : X) → i < length xs → slice_get xs i ≡ Some (get_or xs i d)
there_at [] i d l = absurd (omega (arith, l))
there_at (x ∷ xs) zero d l = refl
there_at (x ∷ xs) (suc i) d l = there_at xs i d (omega (arith, l))

-- what `get` answers
pub got_at : {X : Type 0} (P : Bor X → Type 0) (xs : List X) (i : ℕ) (r : Option (Bor X)) → IfSome r (λ x. x.now ≡ get_or xs i x.now) → MatchOption r (length xs ≤ i) (λ x. (i < length xs) × P x) → option_map (λ x. x.now) r ≡ slice_get xs i
got_at P xs i None same within = sym (past_all xs i within)
got_at P xs i (Some x) same within = ap Some same ∙ sym (there_at xs i x.now within.0)

at_place : {X : Type 0} (xs : List X) (i : ℕ) → option_and_then (λ k. slice_get xs k) (cond (nat_lt i (length xs)) (Some i) None) ≡ slice_get xs i
at_place xs i = elim (cases_lt i (length xs)) [
  | inl l ↦
      let a : nat_lt i (length xs) ≡ true = grind (arith, nat_tests) in
      ap (option_and_then (λ k. slice_get xs k)) (cond-true (nat_lt i (length xs)) (Some i) None a)
  | inr l ↦
      let a : nat_lt i (length xs) ≡ false = grind (arith, nat_tests) in
      ap (option_and_then (λ k. slice_get xs k)) (cond-false (nat_lt i (length xs)) (Some i) None a) ∙ sym (past_all xs i l)
]

pub first_head : (f : Head → List ℕ) (name : List ℕ) (hs : List Head) → option_and_then (λ k. slice_get hs k) (file_with_path (map f hs) name) ≡ find (λ g. bytes_eq (f g) name) hs
first_head f name hs =
    ap (λ n. option_and_then (λ k. slice_get hs k) (cond (nat_lt n (length (map f hs))) (Some n) None)) (place_same f name hs)
    ∙ ap (λ m. option_and_then (λ k. slice_get hs k) (cond (nat_lt at m) (Some at) None)) (length-map hs f) ∙ got ∙ sym (find_at (λ g. bytes_eq (f g) name) hs)
  where
    at : ℕ
    at = position_or_len (λ g. bytes_eq (f g) name) hs

    got : option_and_then (λ k. slice_get hs k) (cond (nat_lt at (length hs)) (Some at) None) ≡ slice_get hs at
    got = at_place hs at

-- ---- of files

pub head_same : (files : List FileOf) (reads : List ReadOf) (file : ℕ) (tokens : List Token) (tree : Tree) (h : Head) → AreRead files reads → file < length files
    → AreTokens (file_at files file).bytes tokens → IsTreeOf (file_at files file) tree
    → h ≡ head_of (file_at files file).path (record { tokens = tokens; lexemes = map (lexeme_at (file_at files file).bytes) tokens; means = [] }) tree → h ≡ head_of_file files reads file
head_same files reads file tokens tree h are within t is e =
    let path : List ℕ = (file_at files file).path in
    let bytes : List ℕ = (file_at files file).bytes in
    let one = one_token_list bytes tokens (read_at reads file).tokens t (are.tokens file within) in
    let same : tree ≡ (read_at reads file).tree = sym (same_tree files reads file tree are within is) in
    e ∙ ap (λ (ts : List Token). head_of path (reading bytes ts) tree) one ∙ ap (head_of path (reading bytes (read_at reads file).tokens)) same
  where
    reading : List ℕ → List Token → LintFile
    reading bytes ts = record { tokens = ts; lexemes = map (lexeme_at bytes) ts; means = [] }

-- ---- tests of lists

pub all_more : (p : List ℕ → Bool) (ws : List (Bor (List ℕ))) (i : ℕ) (d : Bor (List ℕ)) → i < length ws → list_all p (map (λ w. w.now) (drop i ws)) ≡ p (get_or ws i d).now && list_all p (map (λ w. w.now) (drop (i + 1) ws))
all_more p [] i d l = absurd (omega (arith, l))
all_more p (w ∷ ws) zero d l = refl
all_more p (w ∷ ws) (suc i) d l = all_more p ws i d (omega (arith, l)) ∙ ap (λ k. p (get_or ws i d).now && list_all p (map (λ v. v.now) (drop k (w ∷ ws)))) {x = suc (i + 1)} {y = suc i + 1} (omega arith)

pub same_lists : (xs ys : List ℕ) → length xs ≡ length ys → ((k : ℕ) → k < length xs → get_or xs k 0 ≡ get_or ys k 0) → xs ≡ ys
same_lists [] [] n h = refl
same_lists [] (y ∷ ys) n h = absurd (omega (arith, n))
same_lists (x ∷ xs) [] n h = absurd (omega (arith, n))
same_lists (x ∷ xs) (y ∷ ys) n h = ap (λ z. z ∷ xs) (h 0 (omega arith)) ∙ ap (λ zs. y ∷ zs) (same_lists xs ys (omega (arith, n)) (λ k l. h (suc k) (omega (arith, l))))

pub differs : (xs ys : List ℕ) → (xs ≡ ys → ⊥) → bytes_eq xs ys ≡ false
differs xs ys h = false_from_ne_true (bytes_eq xs ys) (λ e. h (word_from_same xs ys e))
