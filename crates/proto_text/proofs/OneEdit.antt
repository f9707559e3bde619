-- The words after a change, and the edit of one word (for the crates above).
use Rattle.std.proofs.Common.{◌≡◌, ◌≢◌, ℕ, zero, suc, ◌+◌, ◌<◌, ◌≤◌, List, [], ◌∷◌, ◌++◌, length, get_or, map, Option, Some, None, refl, sym, ap, ◌∙◌, arith}
use Rattle.proto_text.specs.Common.{Token, Edit, text_at, Lexeme, lexeme_at, word_at, offset_at, or_word, changed, edit_if, token_edits, WordsAreChanged, OtherWordsStay, CountStays, OneWordIsOneEdit, WordsStandAtSpans}

-- ---- the words after

pub word_after : (c : ℕ → Option (List ℕ)) (n i : ℕ) (ls : List Lexeme) → i < length ls → word_at (changed c n ls) i ≡ or_word (c (n + i)) (word_at ls i)
word_after c n i [] lt = absurd (omega (arith, lt))
word_after c n zero (l ∷ ls) lt = ap (λ (k : ℕ). or_word (c k) l.text) (omega arith)
word_after c n (suc i) (l ∷ ls) lt = word_after c (suc n) i ls (omega (arith, lt)) ∙ ap (λ (k : ℕ). or_word (c k) (word_at ls i)) (omega arith)

pub word_none : (c : ℕ → Option (List ℕ)) (n i : ℕ) (ls : List Lexeme) → c (n + i) ≡ None → word_at (changed c n ls) i ≡ word_at ls i
word_none c n i [] e = refl
word_none c n zero (l ∷ ls) e = ap (λ (o : Option (List ℕ)). or_word o l.text) (ap c (omega arith) ∙ e)
word_none c n (suc i) (l ∷ ls) e = word_none c (suc n) i ls (ap c (omega arith) ∙ e)

pub length_changed : (c : ℕ → Option (List ℕ)) (n : ℕ) (ls : List Lexeme) → length (changed c n ls) ≡ length ls
length_changed c n [] = refl
length_changed c n (l ∷ ls) = ap suc (length_changed c (suc n) ls)

pub length_map : {A B : Type 0} (f : A → B) (xs : List A) → length (map f xs) ≡ length xs
length_map f [] = refl
length_map f (x ∷ xs) = ap suc (length_map f xs)

pub words_are_changed : WordsAreChanged
words_are_changed text tokens c new after is i lt =
    let ls = map (lexeme_at text) tokens in
    let many = length_map (lexeme_at text) tokens in
    ap (λ (z : List Lexeme). word_at z i) is.words ∙ word_after c 0 i ls (omega (arith, lt, many)) ∙ ap (λ (k : ℕ). or_word (c k) (word_at ls i)) (omega arith)

pub other_words_stay : OtherWordsStay
other_words_stay text tokens c new after is i e = ap (λ (z : List Lexeme). word_at z i) is.words ∙ word_none c 0 i (map (lexeme_at text) tokens) (ap c (omega arith) ∙ e)

pub count_stays : CountStays
count_stays text tokens c new after is =
    sym (length_map (lexeme_at new) after) ∙ ap length is.words ∙ length_changed c 0 (map (lexeme_at text) tokens) ∙ length_map (lexeme_at text) tokens

-- ---- one edit

edits_none : (text : List ℕ) (c : ℕ → Option (List ℕ)) (n : ℕ) (ts : List Token) → ((j : ℕ) → n ≤ j → c j ≡ None) → token_edits text c n ts ≡ []
edits_none text c n [] h = refl
edits_none text c n (t ∷ ts) h =
    ap (λ (o : Option (List ℕ)). edit_if o t.span.start (text_at text t.span) ++ token_edits text c (suc n) ts) (h n (omega arith))
    ∙ edits_none text c (suc n) ts (λ j le. h j (omega (arith, le)))

pub edits_one : (text : List ℕ) (c : ℕ → Option (List ℕ)) (to : List ℕ) (n k : ℕ) (ts : List Token) → k < length ts → c (n + k) ≡ Some to → ((j : ℕ) → j ≢ n + k → c j ≡ None)
    → token_edits text c n ts ≡ record { at = offset_at ts k; old = word_at (map (lexeme_at text) ts) k; new = to } ∷ []
edits_one text c to n k [] lt is others = absurd (omega (arith, lt))
edits_one text c to n zero (t ∷ ts) lt is others =
    let here : c n ≡ Some to = ap c (omega arith) ∙ is in
    ap (λ (o : Option (List ℕ)). edit_if o t.span.start (text_at text t.span) ++ token_edits text c (suc n) ts) here
    ∙ ap (λ (es : List Edit). record { at = t.span.start; old = text_at text t.span; new = to } ∷ es) (edits_none text c (suc n) ts (λ j le. others j (λ e. absurd (omega (arith, le, e)))))
edits_one text c to n (suc k) (t ∷ ts) lt is others =
    ap (λ (o : Option (List ℕ)). edit_if o t.span.start (text_at text t.span) ++ token_edits text c (suc n) ts) (others n (λ e. absurd (omega (arith, e))))
    ∙ edits_one text c to (suc n) k ts (omega (arith, lt)) (ap c (omega arith) ∙ is) (λ j ne. others j (λ e. ne (omega (arith, e))))

pub one_word_is_one_edit : OneWordIsOneEdit
one_word_is_one_edit text tokens c i to lt is others =
    edits_one text c to 0 i tokens lt (ap c (omega arith) ∙ is) (λ j ne. others j (λ e. ne (omega (arith, e))))

-- ---- words at spans

pub word_at_token : (text : List ℕ) (ts : List Token) (i : ℕ) (d : Token) → i < length ts → word_at (map (lexeme_at text) ts) i ≡ text_at text (get_or ts i d).span
word_at_token text [] i d lt = absurd (omega (arith, lt))
word_at_token text (t ∷ ts) zero d lt = refl
word_at_token text (t ∷ ts) (suc i) d lt = word_at_token text ts i d (omega (arith, lt))

pub offset_at_token : (ts : List Token) (i : ℕ) (d : Token) → i < length ts → offset_at ts i ≡ (get_or ts i d).span.start
offset_at_token [] i d lt = absurd (omega (arith, lt))
offset_at_token (t ∷ ts) zero d lt = refl
offset_at_token (t ∷ ts) (suc i) d lt = offset_at_token ts i d (omega (arith, lt))

pub words_stand_at_spans : WordsStandAtSpans
words_stand_at_spans text tokens i other lt = (word_at_token text tokens i other lt, offset_at_token tokens i other lt)
