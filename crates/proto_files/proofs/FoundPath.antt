-- What a binary search finds among files in the order of their paths.
use Rattle.std.proofs.Common.{◌≡◌, ℕ, ◌+◌, ◌<◌, ◌≤◌, inl, inr, true, false, cond, nat_lt, List, [], ◌∷◌, length, get_or, Some, None, Result, Ok, Err, MatchResult, position, bytes_eq, sym, ap, ◌∙◌, subst, arith, string_bytes, is_lt}
use Rattle.proto_base.proofs.Common.{cases_lt, Equal, Greater, ordering_index, ordering_reverse, nat_list_cmp_total, nat_tests, bytes_eq-Decides, cond-true, cond-false, get_or-map, length-map, position_or_len, position_or_len_is, searchable_from_sorted, tied_itself, IsNonDecreasingBy, IsSearchInRange, IsBinarySearchResult}
use Rattle.proto_files.specs.Common.{ReadFile, FileOf, paths_of, AreWorkspaceFiles, IsBefore, path_cmp, read_file, read_files}
use Rattle.proto_files.proofs.LeastOfFiles.{length-read_files}
use Rattle.proto_files.proofs.PathOrder.{bytes_apart, never_before_itself, same_from_equal}

some_of : (files : List ReadFile) (k : ℕ) → k < length files → ReadFile
some_of [] k lt = absurd (omega (arith, lt))
some_of (f ∷ files) k lt = f

module _ (files : List ReadFile) (w : AreWorkspaceFiles (read_files files)) (path : List ℕ) where
  abbrev paths : List (List ℕ)
  paths = paths_of (read_files files)

  count : length paths ≡ length files
  count = length-map (read_files files) (λ f. f.path) ∙ length-read_files files

  path_at : (k : ℕ) (d : ReadFile) → k < length files → get_or paths k [] ≡ string_bytes (get_or files k d).path
  path_at k d lt =
      let within : k < length (read_files files) = omega (arith, lt, length-read_files files) in
      get_or-map (λ f. f.path) (read_files files) k (read_file d) [] within
      ∙ ap (λ (f : FileOf). f.path) (get_or-map read_file files k d (read_file d) lt)

  before : (i j : ℕ) (d : ReadFile) → i < j → j < length files → IsBefore (string_bytes (get_or files i d).path) (string_bytes (get_or files j d).path)
  before i j d lt within =
      let behind : j < length (read_files files) = omega (arith, within, length-read_files files) in
      let first : i < length files = omega (arith, lt, within) in
      subst (λ (f : FileOf). IsBefore f.path (string_bytes (get_or files j d).path)) (get_or-map read_file files i d (read_file d) first)
      (subst (λ (f : FileOf). IsBefore (get_or (read_files files) i (read_file d)).path f.path) (get_or-map read_file files j d (read_file d) within) (w.ordered i j (read_file d) lt behind))

  -- the comparisons with a path rise along the files, as a binary search asks
  paths_rise : IsNonDecreasingBy (λ (f : ReadFile). ordering_index (path_cmp (string_bytes f.path) path)) files
  paths_rise =
      searchable_from_sorted nat_list_cmp_total (λ (f : ReadFile). string_bytes f.path) files path
      (λ k d low lt. ap is_lt (nat_list_cmp_total.antisymm (string_bytes (get_or files (k + 1) d).path) (string_bytes (get_or files k d).path) ∙ ap ordering_reverse (before k (k + 1) d (omega arith) lt)))

  -- the place of a path is where the first one passes
  place_is : (i : ℕ) → i ≤ length files → ((k : ℕ) → k < i → bytes_eq path (get_or paths k []) ≡ false) → (i < length files → bytes_eq path (get_or paths i []) ≡ true) → position_or_len (bytes_eq path) paths ≡ i
  place_is i le none here =
      position_or_len_is (bytes_eq path) paths i [] (omega (arith, le, count)) none (λ lt. here (omega (arith, lt, count)))

  abbrev Apart : ℕ → Type 0
  Apart k = bytes_eq path (get_or paths k []) ≡ false

  apart_before : (k : ℕ) (d : ReadFile) → k < length files → IsBefore (string_bytes (get_or files k d).path) path → Apart k
  apart_before k d lt b =
      bytes_apart path (get_or paths k [])
      (λ e. never_before_itself path (subst (λ p. IsBefore p path) (sym (path_at k d lt) ∙ sym e) b))

  apart_behind : (k : ℕ) (d : ReadFile) → k < length files → path_cmp (string_bytes (get_or files k d).path) path ≡ Greater → Apart k
  apart_behind k d lt b =
      bytes_apart path (get_or paths k [])
      (λ e.
      (let same : path_cmp path path ≡ Equal = tied_itself nat_list_cmp_total path in
      let over : path_cmp path path ≡ Greater = ap (λ p. path_cmp p path) (e ∙ path_at k d lt) ∙ b in
      cc))

  pub place_found : (r : Result ℕ ℕ) → IsSearchInRange r (length files) → IsBinarySearchResult (λ (f : ReadFile). path_cmp (string_bytes f.path) path) files r
      → MatchResult r (λ i. Some i ≡ position (bytes_eq path) paths) (λ _. None ≡ position (bytes_eq path) paths)
  place_found (Ok i) within equal =
      let d = some_of files i within in
      let is : string_bytes (get_or files i d).path ≡ path = same_from_equal (string_bytes (get_or files i d).path) path (equal d) in
      let at : position_or_len (bytes_eq path) paths ≡ i =
      place_is i (omega (arith, within))
      (λ k lt. apart_before k d (omega (arith, lt, within)) (subst (λ p. IsBefore (string_bytes (get_or files k d).path) p) is (before k i d lt within)))
      (λ lt. (bytes_eq-Decides path (get_or paths i [])).1 (sym is ∙ sym (path_at i d within))) in
      let here : i < length paths = omega (arith, within, count) in
      let inside : nat_lt i (length paths) ≡ true = grind (arith, nat_tests) in
      sym (ap (λ n. cond (nat_lt n (length paths)) (Some n) None) at ∙ cond-true (nat_lt i (length paths)) (Some i) None inside)
  place_found (Err i) within parted =
      let parts = parted paths_rise in
      let at : position_or_len (bytes_eq path) paths ≡ length files =
      place_is (length files) (omega arith)
      (λ k lt. (let d = some_of files k lt in elim (cases_lt k i) [
        | inl low ↦ apart_before k d lt (parts.0 k d (omega arith) low)
        | inr high ↦ apart_behind k d lt (parts.1 k d high lt)
      ]))
      (λ lt. absurd (omega (arith, lt))) in
      let past : length paths ≤ length files = omega (arith, count) in
      let outside : nat_lt (length files) (length paths) ≡ false = grind (arith, nat_tests) in
      sym (ap (λ n. cond (nat_lt n (length paths)) (Some n) None) at ∙ cond-false (nat_lt (length files) (length paths)) (Some (length files)) None outside)
