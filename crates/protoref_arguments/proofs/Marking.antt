-- The words as they are handed to `clap`, one by one.
use Rattle.std.proofs.Common.{◌≡◌, ◌∙◌, ℕ, zero, suc, ◌+◌, ◌<◌, ◌==◌, true, false, List, [], ◌∷◌, ◌++◌, map, take, length, slice_index_or, Result, Ok, Err, String, string_bytes, refl, sym, ap, ap₂, subst, arith, IsErrAnd, MatchResult, append_assoc, length-take-le}
use Rattle.proto_base.proofs.Common.{Global, length-map, map-append, take_more, Text}
use Rattle.protoref_arguments.specs.Common.{begins_dashed, is_bad_at, marked_first, words_marked, marks_for_word, IsWordsFaultOf, UsageError}
use Rattle.protoref_arguments.specs.declared.request.UsageError.TheVariants as fault

marked_more : (xs : List Text) (w : Text) → words_marked (xs ++ w ∷ []) ≡ words_marked xs ++ marks_for_word (length xs) w
marked_more [] w = refl
marked_more (a ∷ []) w = refl
marked_more (a ∷ b ∷ []) w = ap (λ m. a ∷ b ∷ m) (Rattle.std.proofs.Common.append-nil (marked_first w))
marked_more (a ∷ b ∷ c ∷ xs) w =
    let three : (length (a ∷ b ∷ c ∷ xs) == 2) ≡ false = grind arith in
    rw three (ap (λ m. a ∷ b ∷ m) (sym (append_assoc (marked_first c) xs (w ∷ []))))

begins_more : (xs : List Text) (w : Text) → begins_dashed xs ≡ false → is_bad_at (length xs) w ≡ false → begins_dashed (xs ++ w ∷ []) ≡ false
begins_more [] w plain e = refl
begins_more (a ∷ []) w plain e = e
begins_more (a ∷ b ∷ xs) w plain e = plain

bad_here : (xs : List Text) (i : ℕ) (d : Text) → i < length xs → is_bad_at i (slice_index_or xs i d) ≡ true → begins_dashed xs ≡ true
bad_here xs zero d lt e = cc
bad_here [] (suc zero) d lt e = absurd (omega arith)
bad_here (a ∷ []) (suc zero) d lt e = absurd (omega arith)
bad_here (a ∷ b ∷ xs) (suc zero) d lt e = e
bad_here xs (suc (suc i)) d lt e =
    let far : (suc (suc i) == 1) ≡ false = grind arith in
    let none : is_bad_at (suc (suc i)) (slice_index_or xs (suc (suc i)) d) ≡ false = rw far refl in
    cc

abbrev Words : Type 0
Words = List (String Global)

abbrev pub bytes : Words → List Text
bytes = map string_bytes

bytes_more : (ws : Words) (i : ℕ) (w : String Global) → i < length ws → w ≡ slice_index_or ws i w → bytes (take (i + 1) ws) ≡ bytes (take i ws) ++ string_bytes w ∷ []
bytes_more ws i w lt is =
    ap bytes (take_more ws i w lt) ∙ map-append string_bytes (take i ws) (slice_index_or ws i w ∷ [])
    ∙ ap (λ v. bytes (take i ws) ++ string_bytes v ∷ []) (sym is)

count : (ws : Words) (i : ℕ) → i < length ws → length (bytes (take i ws)) ≡ i
count ws i lt = length-map (take i ws) string_bytes ∙ length-take-le i ws (omega arith)

pub handed_more : (ws : Words) (i : ℕ) (w : String Global) (before after : List Text) → i < length ws → w ≡ slice_index_or ws i w → before ≡ words_marked (bytes (take i ws))
    → after ≡ before ++ marks_for_word i (string_bytes w) → after ≡ words_marked (bytes (take (i + 1) ws))
handed_more ws i w before after lt is old new =
    new ∙ ap₂ (λ b n. b ++ marks_for_word n (string_bytes w)) old (sym (count ws i lt)) ∙ sym (marked_more (bytes (take i ws)) (string_bytes w)) ∙ ap words_marked (sym (bytes_more ws i w lt is))

pub plain_more : (ws : Words) (i : ℕ) (w : String Global) → i < length ws → w ≡ slice_index_or ws i w → begins_dashed (bytes (take i ws)) ≡ false
    → is_bad_at i (string_bytes w) ≡ false → begins_dashed (bytes (take (i + 1) ws)) ≡ false
plain_more ws i w lt is old new =
    ap begins_dashed (bytes_more ws i w lt is) ∙ begins_more (bytes (take i ws)) (string_bytes w) old (ap (λ n. is_bad_at n (string_bytes w)) (count ws i lt) ∙ new)

mapped : (ws : Words) (i : ℕ) (d : String Global) → i < length ws → slice_index_or (bytes ws) i (string_bytes d) ≡ string_bytes (slice_index_or ws i d)
mapped [] i d lt = absurd (omega arith)
mapped (w ∷ ws) zero d lt = refl
mapped (w ∷ ws) (suc i) d lt = mapped ws i d (omega arith)

pub bad_word : (ws : Words) (i : ℕ) (w : String Global) → i < length ws → w ≡ slice_index_or ws i w → is_bad_at i (string_bytes w) ≡ true → begins_dashed (bytes ws) ≡ true
bad_word ws i w lt is e =
    bad_here (bytes ws) i (string_bytes w) (rw length-map lt) (ap (is_bad_at i) (mapped ws i w lt ∙ ap string_bytes (sym is)) ∙ e)

-- the fault of one word is that of all
pub fault_here : {T : Type 0} (P : T → Type 0) (ws : Words) (i : ℕ) (w : String Global) (f : UsageError) (r : Result T UsageError) → i < length ws → w ≡ slice_index_or ws i w
    → IsErrAnd r (λ e. e ≡ f) → IsWordsFaultOf (is_bad_at i (string_bytes w)) f → MatchResult r P (IsWordsFaultOf (begins_dashed (bytes ws)))
fault_here P ws i w f (Ok x) lt is same bad = absurd same
fault_here P ws i w fault.BadCommandLine (Err g) lt is same bad = subst (IsWordsFaultOf (begins_dashed (bytes ws))) (sym same) (bad_word ws i w lt is bad)
fault_here P ws i w fault.NoMemory (Err g) lt is same bad = subst (IsWordsFaultOf (begins_dashed (bytes ws))) (sym same) tt
