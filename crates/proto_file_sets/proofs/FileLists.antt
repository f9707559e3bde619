-- The numbers of the files whose bits are set.
use Rattle.std.proofs.Common.{◌≡◌, ℕ, zero, suc, ◌+◌, ◌-◌, ◌*◌, ◌/◌, ◌%◌, ◌<◌, ◌≤◌, Bool, false, List, [], ◌∷◌, ◌++◌, cond, length, get_or, filter, nat_eq, refl, sym, ◌∙◌, ap, arith}
use Rattle.std.specs.Int.{bit_at}
use Rattle.std.specs.List.{range_with_len}
use Rattle.std.proofs.lemmas.List.{append_assoc, append-nil}
use Rattle.std.proofs.lemmas.List.Elements.{filter-append, filter_agree}
use Rattle.std.proofs.lemmas.Nat.Bits.{bit_at-zero}
use Rattle.proto_file_sets.specs.FileSets.{files_in}
use Rattle.proto_file_sets.specs.Words.{has_file, members, AreWords}
use Rattle.proto_file_sets.proofs.FilesInWords.{bit_of_word, member, length-members}

-- ---- numbers in a row
range_split : (a n m : ℕ) → range_with_len a (n + m) ≡ range_with_len a n ++ range_with_len (a + n) m
range_split a zero m =
    let all : zero + m ≡ m = omega arith in
    let start : a ≡ a + zero = omega arith in
    ap (range_with_len a) all ∙ ap (λ b. range_with_len b m) start
range_split a (suc n) m =
    let all : suc n + m ≡ suc (n + m) = omega arith in
    let start : a + 1 + n ≡ a + suc n = omega arith in
    ap (range_with_len a) all ∙ ap (λ ns. a ∷ ns) (range_split (a + 1) n m ∙ ap (λ b. range_with_len (a + 1) n ++ range_with_len b m) start)

module _ (p : ℕ → Bool) where
  -- those that pass, of two rows
  filter_split : (a n m : ℕ) → filter p (range_with_len a (n + m)) ≡ filter p (range_with_len a n) ++ filter p (range_with_len (a + n) m)
  filter_split a n m = ap (filter p) (range_split a n m) ∙ filter-append p (range_with_len a n) (range_with_len (a + n) m)

  -- none passes
  filter_none : (a n : ℕ) → ((k : ℕ) → a ≤ k → k < a + n → p k ≡ false) → filter p (range_with_len a n) ≡ []
  filter_none a zero none = refl
  filter_none a (suc n) none =
      let rest = filter p (range_with_len (a + 1) n) in
      ap (λ b. cond b (a ∷ rest) rest) (none a (omega arith) (omega arith))
      ∙ filter_none (a + 1) n (λ k low high. none k (omega (arith, low)) (omega (arith, high)))

  -- one more number, behind a list
  pub number_more : (old : List ℕ) (a n : ℕ) → (old ++ filter p (range_with_len a n)) ++ filter p ((a + n) ∷ []) ≡ old ++ filter p (range_with_len a (n + 1))
  number_more old a n = append_assoc old (filter p (range_with_len a n)) (filter p ((a + n) ∷ [])) ∙ ap (λ ns. old ++ ns) (sym (filter_split a n 1))

  -- the numbers of one more word
  pub word_more : (j : ℕ) → filter p (range_with_len 0 (64 * j)) ++ filter p (range_with_len (64 * j) 64) ≡ filter p (range_with_len 0 (64 * (j + 1)))
  word_more j =
      let start : 64 * j ≡ 0 + 64 * j = omega arith in
      let more : 64 * j + 64 ≡ 64 * (j + 1) = omega arith in
      ap (λ a. filter p (range_with_len 0 (64 * j)) ++ filter p (range_with_len a 64)) start
      ∙ sym (filter_split 0 (64 * j) 64)
      ∙ ap (λ n. filter p (range_with_len 0 n)) more

-- a word that is 0 has no files
pub no_files : (words : List ℕ) (j : ℕ) → get_or words j 0 ≡ 0 → filter (has_file words) (range_with_len (64 * j) 64) ≡ []
no_files words j none = filter_none (has_file words) (64 * j) 64 (λ file low high.
    let same : file / 64 ≡ j = omega (arith, low, high) in
    sym (bit_of_word words j file same) ∙ ap (λ w. nat_eq (bit_at w (file % 64)) 1) none ∙ ap (λ b. nat_eq b 1) (bit_at-zero (file % 64)))

-- of all words, the files of the set
pub files_of_words : (count : ℕ) (words : List ℕ) → AreWords count words → filter (has_file words) (range_with_len 0 (64 * length words)) ≡ files_in (members count words)
unfolding files_in
files_of_words count words are =
    let p = has_file words in
    let q : ℕ → Bool = λ file. get_or (members count words) file false in
    let spare = 64 * length words - count in
    let all : 64 * length words ≡ count + spare = omega (arith, are.count) in
    ap (λ n. filter p (range_with_len 0 n)) all
    ∙ filter_split p 0 count spare
    ∙ ap (λ ns. filter p (range_with_len 0 count) ++ ns) (filter_none p (0 + count) spare (λ file low _. are.spare file (omega (arith, low))))
    ∙ append-nil (filter p (range_with_len 0 count))
    ∙ filter_agree p q (λ file. sym (member count words file are)) (range_with_len 0 count)
    ∙ ap (λ n. filter q (range_with_len 0 n)) (sym (length-members count words))
