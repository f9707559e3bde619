-- The words of a set: files in them, and the list that they stand for.
use Rattle.std.proofs.Common.{◌≡◌, ◌≢◌, ℕ, ◌+◌, ◌-◌, ◌*◌, ◌/◌, ◌%◌, ◌^◌, ◌<◌, ◌≤◌, Bool, true, false, List, length, get_or, replicate, set, slice_set, nat_eq, bit_and, bit_or, refl, sym, ◌∙◌, ap, ap₂, inl, inr, arith, w64, Fits, length-set, get_or-set_same, get_or-set_other, ext_get_or}
use Rattle.std.specs.Int.{bit_at, div_ceil}
use Rattle.std.proofs.lemmas.Bool.{cases_eq, cases_lt}
use Rattle.std.proofs.lemmas.List.{get_or_past, get_or-replicate, length-replicate}
use Rattle.std.proofs.lemmas.List.FromFn.{length-map-range_with_len, get_or-map-range_with_len}
use Rattle.std.proofs.lemmas.Nat.Bits.{bit_at-lt, bit_at-zero, bit_at_ones, bit_at_set_same, bit_at_set_other, same_from_bits_below}
use Rattle.proto_file_sets.specs.Words.{has_file, members, AreWords}
use Rattle.proto_file_sets.proofs.Bits.{is_one, bits_agree, low_kept, high_cleared, common_bit, no_common_bit}

-- the test of a file's bit
pub has_file_is : (words : List ℕ) (file : ℕ) → has_file words file ≡ nat_eq (bit_at (get_or words (file / 64) 0) (file % 64)) 1
unfolding has_file
has_file_is words file = refl

-- the bit k of the word j
has_file_at : (words : List ℕ) (j k : ℕ) → k < 64 → has_file words (64 * j + k) ≡ nat_eq (bit_at (get_or words j 0) k) 1
has_file_at words j k l = has_file_is words (64 * j + k) ∙ ap₂ (λ d m. nat_eq (bit_at (get_or words d 0) m) 1) (omega arith) (omega arith)

-- the bit of a file, where the word is known by another index
pub bit_of_word : (words : List ℕ) (j file : ℕ) → file / 64 ≡ j → nat_eq (bit_at (get_or words j 0) (file % 64)) 1 ≡ has_file words file
bit_of_word words j file same = ap (λ n. nat_eq (bit_at (get_or words n 0) (file % 64)) 1) (sym same) ∙ sym (has_file_is words file)

-- no file is past the words
pub no_file : (words : List ℕ) (file : ℕ) → length words ≤ file / 64 → has_file words file ≡ false
no_file words file past =
    has_file_is words file ∙ ap (λ w. nat_eq (bit_at w (file % 64)) 1) (get_or_past words (file / 64) 0 past) ∙ ap (λ b. nat_eq b 1) (bit_at-zero (file % 64))

-- ---- the list of truth values
pub length-members : (count : ℕ) (words : List ℕ) → length (members count words) ≡ count
unfolding members
length-members count words = length-map-range_with_len (has_file words) 0 count

pub member_below : (count : ℕ) (words : List ℕ) (file : ℕ) → file < count → get_or (members count words) file false ≡ has_file words file
unfolding members
member_below count words file l = get_or-map-range_with_len (has_file words) 0 count file file false l (omega arith)

-- it answers for each number, also one past the files
pub member : (count : ℕ) (words : List ℕ) (file : ℕ) → AreWords count words → get_or (members count words) file false ≡ has_file words file
member count words file are = elim (cases_lt file count) [
  | inl l ↦ member_below count words file l
  | inr past ↦ get_or_past (members count words) file false (omega (arith, past, length-members count words)) ∙ sym (are.spare file past)
]

-- it is any list that answers so
members_from : (count : ℕ) (words : List ℕ) (files : List Bool) → length files ≡ count → ((file : ℕ) → file < count → has_file words file ≡ get_or files file false) → members count words ≡ files
members_from count words files long same =
    ext_get_or false (members count words) files (length-members count words ∙ sym long) (λ file l.
    let below : file < count = omega (arith, l, length-members count words) in
    member_below count words file below ∙ same file below)

-- words of 64 bits with the same files are the same
pub same_words : (words others : List ℕ) → length words ≡ length others → ((k : ℕ) → Fits w64 (get_or words k 0)) → ((k : ℕ) → Fits w64 (get_or others k 0)) → ((file : ℕ) → has_file words file ≡ has_file others file) → words ≡ others
same_words words others long fits also files =
    ext_get_or 0 words others long (λ j _.
    same_from_bits_below 64 (get_or words j 0) (get_or others j 0) (omega (arith, fits j)) (omega (arith, also j)) (λ k l.
    bits_agree (bit_at (get_or words j 0) k) (bit_at (get_or others j 0) k) (bit_at-lt (get_or words j 0) k) (bit_at-lt (get_or others j 0) k)
    (sym (has_file_at words j k l) ∙ files (64 * j + k) ∙ has_file_at others j k l)))

-- sets that are the same list have the same files
pub same_files : (count more : ℕ) (words others : List ℕ) → AreWords count words → AreWords more others → members count words ≡ members more others → (file : ℕ) → has_file words file ≡ has_file others file
same_files count more words others are also e file = sym (member count words file are) ∙ ap (λ (s : List Bool). get_or s file false) e ∙ member more others file also

-- sets of as many files with the same files are the same list
pub members-same : (count more : ℕ) (words others : List ℕ) → AreWords more others → count ≡ more → ((file : ℕ) → has_file words file ≡ has_file others file) → members count words ≡ members more others
members-same count more words others also e files = ap (λ n. members n words) e ∙ members_from more words (members more others) (length-members more others) (λ file _. files file ∙ sym (member more others file also))

-- the list after a file was put in
pub members-inserted : (count : ℕ) (old new : List ℕ) (file : ℕ) → file < count → has_file new file ≡ true → ((other : ℕ) → other ≢ file → has_file new other ≡ has_file old other)
    → members count new ≡ slice_set (members count old) file true
members-inserted count old new file below is others =
    let files = members count old in
    members_from count new (slice_set files file true) (length-set files file true ∙ length-members count old) (λ other l. elim (cases_eq other file) [
      | inl same ↦
          ap (has_file new) same ∙ is ∙ sym (get_or-set_same files file true false (omega (arith, below, length-members count old)))
          ∙ ap (λ n. get_or (slice_set files file true) n false) (sym same)
      | inr apart ↦ others other apart ∙ sym (member_below count old other l) ∙ sym (get_or-set_other files file other true false apart)
    ])

-- ---- words that are all the same
none_in : (n file : ℕ) → has_file (replicate n 0) file ≡ false
none_in n file = elim (cases_lt (file / 64) n) [
  | inl l ↦
      has_file_is (replicate n 0) file
      ∙ ap (λ w. nat_eq (bit_at w (file % 64)) 1) (get_or-replicate n (file / 64) 0 0 l)
      ∙ ap (λ b. nat_eq b 1) (bit_at-zero (file % 64))
  | inr past ↦ no_file (replicate n 0) file (omega (arith, past, length-replicate {A = ℕ} n 0))
]

each_in : (n file : ℕ) → file / 64 < n → has_file (replicate n (2 ^ 64 - 1)) file ≡ true
each_in n file l =
    has_file_is (replicate n (2 ^ 64 - 1)) file
    ∙ ap (λ w. nat_eq (bit_at w (file % 64)) 1) (get_or-replicate n (file / 64) (2 ^ 64 - 1) 0 l)
    ∙ ap (λ b. nat_eq b 1) (bit_at_ones 64 (file % 64) (omega arith))

pub AreWords-none : (count : ℕ) → AreWords count (replicate (div_ceil count 64) 0)
AreWords-none count = record { count = length-replicate {A = ℕ} (div_ceil count 64) 0; spare = λ file _. none_in (div_ceil count 64) file }

pub members-none : (count : ℕ) → members count (replicate (div_ceil count 64) 0) ≡ replicate count false
members-none count =
    members_from count (replicate (div_ceil count 64) 0) (replicate count false) (length-replicate count false) (λ file l.
    none_in (div_ceil count 64) file ∙ sym (get_or-replicate count file false false l))

pub members-all : (count : ℕ) (words : List ℕ) → ((file : ℕ) → file < count → has_file words file ≡ has_file (replicate (div_ceil count 64) (2 ^ 64 - 1)) file) → members count words ≡ replicate count true
members-all count words same =
    members_from count words (replicate count true) (length-replicate count true) (λ file l.
    same file l ∙ each_in (div_ceil count 64) file (omega (arith, l)) ∙ sym (get_or-replicate count file true false l))

-- ---- one word is replaced
module _ (words : List ℕ) (j w : ℕ) (within : j < length words) where
  pub has_file-set_same : (file : ℕ) → file / 64 ≡ j → has_file (set words j w) file ≡ nat_eq (bit_at w (file % 64)) 1
  has_file-set_same file same =
      has_file_is (set words j w) file
      ∙ ap (λ v. nat_eq (bit_at v (file % 64)) 1) (ap (λ n. get_or (set words j w) n 0) same ∙ get_or-set_same words j w 0 within)

  pub has_file-set_other : (file : ℕ) → file / 64 ≢ j → has_file (set words j w) file ≡ has_file words file
  has_file-set_other file apart =
      has_file_is (set words j w) file ∙ ap (λ v. nat_eq (bit_at v (file % 64)) 1) (get_or-set_other words j (file / 64) w 0 apart) ∙ sym (has_file_is words file)

-- a word, and the file's place in it
module _ (words : List ℕ) (file : ℕ) (within : file / 64 < length words) where
  pub has_its_bit : has_file (set words (file / 64) (bit_or (get_or words (file / 64) 0) (1 * 2 ^ (file % 64) % 2 ^ 64))) file ≡ true
  has_its_bit =
      has_file-set_same words (file / 64) (bit_or (get_or words (file / 64) 0) (1 * 2 ^ (file % 64) % 2 ^ 64)) within file refl
      ∙ ap (λ b. nat_eq b 1) (bit_at_set_same w64 (get_or words (file / 64) 0) (file % 64) (omega arith))

  pub others_as_before : (other : ℕ) → other ≢ file → has_file (set words (file / 64) (bit_or (get_or words (file / 64) 0) (1 * 2 ^ (file % 64) % 2 ^ 64))) other ≡ has_file words other
  others_as_before other apart =
      let w = bit_or (get_or words (file / 64) 0) (1 * 2 ^ (file % 64) % 2 ^ 64) in
      elim (cases_eq (other / 64) (file / 64)) [
        | inl same ↦
            has_file-set_same words (file / 64) w within other same
            ∙ ap (λ b. nat_eq b 1) (bit_at_set_other w64 (get_or words (file / 64) 0) (file % 64) (omega arith) (other % 64) (λ e. apart (omega (arith, same, e))))
            ∙ bit_of_word words (file / 64) other same
        | inr away ↦ has_file-set_other words (file / 64) w within other away
      ]

-- ---- the bits past the last file
module _ (count : ℕ) (words : List ℕ) (long : length words ≡ div_ceil count 64) where
  pub none_spare : length words ≤ count / 64 → AreWords count words
  none_spare whole = record { count = long; spare = λ file past. no_file words file (omega (arith, whole, past)) }

  pub spare_cleared : count / 64 < length words → AreWords count (set words (count / 64) (bit_and (get_or words (count / 64) 0) (2 ^ (count % 64) - 1)))
  spare_cleared within =
      let last = get_or words (count / 64) 0 in
      let w = bit_and last (2 ^ (count % 64) - 1) in
      record {
        count = length-set words (count / 64) w ∙ long;
        spare = λ file past. elim (cases_eq (file / 64) (count / 64)) [
          | inl same ↦
              has_file-set_same words (count / 64) w within file same
              ∙ ap (λ b. nat_eq b 1) (high_cleared last (count % 64) (file % 64) (omega (arith, past, same)))
          | inr away ↦ has_file-set_other words (count / 64) w within file away ∙ no_file words file (omega (arith, past, away, long))
        ];
      }

-- the files before them stay
pub files_kept : (count : ℕ) (words : List ℕ) → count / 64 < length words → (file : ℕ) → file < count
    → has_file (set words (count / 64) (bit_and (get_or words (count / 64) 0) (2 ^ (count % 64) - 1))) file ≡ has_file words file
files_kept count words within file l =
    let last = get_or words (count / 64) 0 in
    let w = bit_and last (2 ^ (count % 64) - 1) in
    elim (cases_eq (file / 64) (count / 64)) [
      | inl same ↦
          has_file-set_same words (count / 64) w within file same
          ∙ ap (λ b. nat_eq b 1) (low_kept last (count % 64) (file % 64) (omega (arith, l, same)))
          ∙ bit_of_word words (count / 64) file same
      | inr away ↦ has_file-set_other words (count / 64) w within file away
    ]

-- ---- files of both
module _ (words others : List ℕ) where
  pub file_in_both : (j : ℕ) → bit_and (get_or words j 0) (get_or others j 0) ≢ 0 → bit_and (get_or words j 0) (get_or others j 0) < 2 ^ 64
      → (file : ℕ) × (has_file words file ≡ true) × (has_file others file ≡ true)
  file_in_both j some small =
      let bit = common_bit (get_or words j 0) (get_or others j 0) some small in (
        64 * j + bit.0,
        has_file_at words j bit.0 bit.1 ∙ ap (λ b. nat_eq b 1) bit.2,
        has_file_at others j bit.0 bit.1 ∙ ap (λ b. nat_eq b 1) bit.3,
      )

  pub no_file_in_both : (file : ℕ) → bit_and (get_or words (file / 64) 0) (get_or others (file / 64) 0) ≡ 0 → has_file words file ≡ true → has_file others file ≡ true → ⊥
  no_file_in_both file none is also =
      no_common_bit (get_or words (file / 64) 0) (get_or others (file / 64) 0) (file % 64) none
      (is_one (bit_at (get_or words (file / 64) 0) (file % 64)) (sym (has_file_is words file) ∙ is))
      (is_one (bit_at (get_or others (file / 64) 0) (file % 64)) (sym (has_file_is others file) ∙ also))
