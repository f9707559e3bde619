-- Tokens stand in order, and are in the lexical sets; where a token stays, it has its word at its moved index (for the crates above).
use Rattle.std.proofs.Common.{◌≡◌, ℕ, zero, suc, ◌+◌, ◌-◌, ◌<◌, ◌≤◌, ◌⊎◌, inl, inr, ltb, List, [], ◌∷◌, ◌++◌, length, get_or, take, drop, map, All, refl, sym, ap, subst, ◌∙◌, arith, lt-ltb, le-ltb, append-nil, length-append, length-take}
use Rattle.proto_base.proofs.Common.{AllByRecursion, cond-true, cond-false, All-from_recursion}
use Rattle.proto_text.specs.Common.{PieceKind, Blank, LineComment, BlockComment, Solid, TokenKind, Text, Token, Piece, IsLexeme, ArePieces, pieces_text, end_before, TokensAreInOrder, TokensAreMoved, TokensAreLexemes, moved, text_at, IsString, word_at, offset_at, Lexeme, lexeme_at, lexeme_if, lexemes, token_at, tokens_from, AreTokens}
use Rattle.proto_text.proofs.Reading.{tokens_read_pieces}
use Rattle.proto_text.proofs.WordChange.{not_empty}

-- ---- order

-- tokens between two offsets
record AreWithin (lo hi : ℕ) (ts : List Token) : Type 0 where
  first : (i : ℕ) → i < length ts → lo ≤ offset_at ts i
  apart : (i : ℕ) → i < length ts → end_before ts i ≤ offset_at ts i
  some : (i : ℕ) → i < length ts → offset_at ts i < end_before ts (suc i)
  last : (i : ℕ) → i < length ts → end_before ts (suc i) ≤ hi
  back : (i : ℕ) → i < length ts → lo ≤ end_before ts (suc i)
  rising : (i j : ℕ) → i ≤ j → j ≤ length ts → end_before ts i ≤ end_before ts j

none : (lo hi : ℕ) → AreWithin lo hi []
none lo hi = record {
  first = λ i lt. absurd (omega (arith, lt));
  apart = λ i lt. absurd (omega (arith, lt));
  some = λ i lt. absurd (omega (arith, lt));
  last = λ i lt. absurd (omega (arith, lt));
  back = λ i lt. absurd (omega (arith, lt));
  rising = λ i j le lt. at i j le lt;
}
  where
    at : (i j : ℕ) → i ≤ j → j ≤ 0 → end_before [] i ≤ end_before [] j
    at zero j le lt = omega arith
    at (suc i) j le lt = absurd (omega (arith, le, lt))

wider : (lo mid hi : ℕ) (ts : List Token) → lo ≤ mid → AreWithin mid hi ts → AreWithin lo hi ts
wider lo mid hi ts le w = record {
  first = λ i lt. omega (arith, le, w.first i lt);
  apart = w.apart;
  some = w.some;
  last = w.last;
  back = λ i lt. omega (arith, le, w.back i lt);
  rising = w.rising;
}

one_more : (lo mid hi : ℕ) (t : Token) (ts : List Token) → t.span.start ≡ lo → t.span.end ≡ mid → lo < mid → mid ≤ hi → AreWithin mid hi ts → AreWithin lo hi (t ∷ ts)
one_more lo mid hi t ts start stop lt le w = record { first = first; apart = apart; some = some; last = last; back = back; rising = rising }
  where
    first : (i : ℕ) → i < suc (length ts) → lo ≤ offset_at (t ∷ ts) i
    first zero below = omega (arith, start)
    first (suc i) below = let h = w.first i (omega (arith, below)) in omega (arith, h, lt)

    apart : (i : ℕ) → i < suc (length ts) → end_before (t ∷ ts) i ≤ offset_at (t ∷ ts) i
    apart zero below = omega arith
    apart (suc zero) below = let h = w.first 0 (omega (arith, below)) in omega (arith, h, stop)
    apart (suc (suc i)) below = w.apart (suc i) (omega (arith, below))

    some : (i : ℕ) → i < suc (length ts) → offset_at (t ∷ ts) i < end_before (t ∷ ts) (suc i)
    some zero below = omega (arith, start, stop, lt)
    some (suc i) below = w.some i (omega (arith, below))

    last : (i : ℕ) → i < suc (length ts) → end_before (t ∷ ts) (suc i) ≤ hi
    last zero below = omega (arith, stop, le)
    last (suc i) below = w.last i (omega (arith, below))

    back : (i : ℕ) → i < suc (length ts) → lo ≤ end_before (t ∷ ts) (suc i)
    back zero below = omega (arith, stop, lt)
    back (suc i) below = let h = w.back i (omega (arith, below)) in omega (arith, h, lt)

    rising : (i j : ℕ) → i ≤ j → j ≤ suc (length ts) → end_before (t ∷ ts) i ≤ end_before (t ∷ ts) j
    rising zero j le below = omega arith
    rising (suc i) zero le below = absurd (omega (arith, le))
    rising (suc zero) (suc zero) le below = omega arith
    rising (suc zero) (suc (suc j)) le below = let h = w.back j (omega (arith, below)) in omega (arith, h, stop)
    rising (suc (suc i)) (suc zero) le below = absurd (omega (arith, le))
    rising (suc (suc i)) (suc (suc j)) le below = w.rising (suc i) (suc j) (omega (arith, le)) (omega (arith, below))

order_step : (kind : PieceKind) (bytes : List ℕ) (at hi : ℕ) (ts : List Token) → IsLexeme kind bytes → at + length bytes ≤ hi → AreWithin (at + length bytes) hi ts → AreWithin at hi (token_at kind at (length bytes) ++ ts)
order_step Blank bytes at hi ts is le w = wider at (at + length bytes) hi ts (omega arith) w
order_step LineComment bytes at hi ts is le w = wider at (at + length bytes) hi ts (omega arith) w
order_step BlockComment bytes at hi ts is le w = wider at (at + length bytes) hi ts (omega arith) w
order_step (Solid k) bytes at hi ts is le w = one_more at (at + length bytes) hi (record { kind = k; span = record { start = at; end = at + length bytes } }) ts refl refl (some bytes is) le w
  where
    some : (bytes : List ℕ) → IsLexeme (Solid k) bytes → at < at + length bytes
    some [] is = absurd (not_empty (Solid k) is)
    some (b ∷ bytes) is = omega arith

ordered : (ps : List Piece) (at hi : ℕ) → ArePieces ps [] → at + length (pieces_text ps) ≤ hi → AreWithin at hi (tokens_from at ps)
ordered [] at hi h le = none at hi
ordered (p ∷ ps) at hi h le =
    let len = length-append p.bytes (pieces_text ps) in
    order_step p.kind p.bytes at hi (tokens_from (at + length p.bytes) ps) h.0 (omega (arith, le, len)) (ordered ps (at + length p.bytes) hi h.2 (omega (arith, le, len)))

pub tokens_are_in_order : TokensAreInOrder
tokens_are_in_order text tokens lexed =
    let len = ap (λ (t : List ℕ). length t) (lexed.1.1 ∙ append-nil (pieces_text lexed.0)) in
    let w = subst (AreWithin 0 (length text)) (sym lexed.2) (ordered lexed.0 0 (length text) lexed.1.0 (omega (arith, len))) in
    record {
      apart = w.apart;
      some = w.some;
      rising = w.rising;
      within = λ i le. bound i le w;
    }
  where
    bound : (i : ℕ) → i ≤ length tokens → AreWithin 0 (length text) tokens → end_before tokens i ≤ length text
    bound zero le w = omega arith
    bound (suc i) le w = w.last i (omega (arith, le))

-- ---- the lexical sets

lexeme_step : (kind : PieceKind) (bytes : List ℕ) (ls : List Lexeme) → IsLexeme kind bytes → AllByRecursion (λ (l : Lexeme). IsLexeme (Solid l.kind) l.text) ls → AllByRecursion (λ (l : Lexeme). IsLexeme (Solid l.kind) l.text) (lexeme_if kind bytes ++ ls)
lexeme_step Blank bytes ls is h = h
lexeme_step LineComment bytes ls is h = h
lexeme_step BlockComment bytes ls is h = h
lexeme_step (Solid k) bytes ls is h = (is, h)

all_lexemes : (ps : List Piece) (rest : List ℕ) → ArePieces ps rest → AllByRecursion (λ (l : Lexeme). IsLexeme (Solid l.kind) l.text) (lexemes ps)
all_lexemes [] rest h = tt
all_lexemes (p ∷ ps) rest h = lexeme_step p.kind p.bytes (lexemes ps) h.0 (all_lexemes ps rest h.2)

pub tokens_are_lexemes : TokensAreLexemes
tokens_are_lexemes text tokens lexed =
    let e = ap (map (lexeme_at text)) lexed.2 ∙ tokens_read_pieces text lexed.0 lexed.1 in
    subst (All (λ (l : Lexeme). IsLexeme (Solid l.kind) l.text)) (sym e) (All-from_recursion (λ (l : Lexeme). IsLexeme (Solid l.kind) l.text) (lexemes lexed.0) (all_lexemes lexed.0 [] lexed.1.0))

-- a token's text is in the lexical set of its kind
pub token_is_lexeme : (text : List ℕ) (tokens : List Token) (i : ℕ) (other : Token) → AreTokens text tokens → i < length tokens → IsLexeme (Solid (get_or tokens i other).kind) (text_at text (get_or tokens i other).span)
token_is_lexeme text tokens i other lexed lt =
    let e = ap (map (lexeme_at text)) lexed.2 ∙ tokens_read_pieces text lexed.0 lexed.1 in
    let all = subst (AllByRecursion (λ (l : Lexeme). IsLexeme (Solid l.kind) l.text)) (sym e) (all_lexemes lexed.0 [] lexed.1.0) in
    at tokens i lt all
  where
    at : (ts : List Token) (i : ℕ) → i < length ts → AllByRecursion (λ (l : Lexeme). IsLexeme (Solid l.kind) l.text) (map (lexeme_at text) ts) → IsLexeme (Solid (get_or ts i other).kind) (text_at text (get_or ts i other).span)
    at [] i lt all = absurd (omega (arith, lt))
    at (t ∷ ts) zero lt all = all.0
    at (t ∷ ts) (suc i) lt all = at ts i (omega (arith, lt)) all.1

pub text_token_is_string : (text : List ℕ) (tokens : List Token) (i : ℕ) (other : Token) → AreTokens text tokens → i < length tokens → (get_or tokens i other).kind ≡ Text → IsString (text_at text (get_or tokens i other).span)
text_token_is_string text tokens i other lexed lt e =
    subst (λ (k : TokenKind). IsLexeme (Solid k) (text_at text (get_or tokens i other).span)) e (token_is_lexeme text tokens i other lexed lt)

-- ---- moved indices

word_in_front : (xs ys : List Lexeme) (k : ℕ) → k < length xs → word_at (xs ++ ys) k ≡ word_at xs k
word_in_front [] ys k lt = absurd (omega (arith, lt))
word_in_front (x ∷ xs) ys zero lt = refl
word_in_front (x ∷ xs) ys (suc k) lt = word_in_front xs ys k (omega (arith, lt))

word_behind : (xs ys : List Lexeme) (n k : ℕ) → n ≡ length xs + k → word_at (xs ++ ys) n ≡ word_at ys k
word_behind [] ys n k e = ap (word_at ys) (omega (arith, e))
word_behind (x ∷ xs) ys zero k e = absurd (omega (arith, e))
word_behind (x ∷ xs) ys (suc n) k e = word_behind xs ys n k (omega (arith, e))

word_in_take : (i : ℕ) (xs : List Lexeme) (k : ℕ) → k < i → word_at (take i xs) k ≡ word_at xs k
word_in_take zero xs k lt = absurd (omega (arith, lt))
word_in_take (suc i) [] k lt = refl
word_in_take (suc i) (x ∷ xs) zero lt = refl
word_in_take (suc i) (x ∷ xs) (suc k) lt = word_in_take i xs k (omega (arith, lt))

word_in_drop : (j : ℕ) (xs : List Lexeme) (k : ℕ) → word_at (drop j xs) k ≡ word_at xs (j + k)
word_in_drop zero xs k = ap (word_at xs) (omega arith)
word_in_drop (suc j) [] k = refl
word_in_drop (suc j) (x ∷ xs) k = let e : suc (j + k) ≡ suc j + k = omega arith in word_in_drop j xs k ∙ ap (word_at (x ∷ xs)) e

pub tokens_are_moved : TokensAreMoved
tokens_are_moved ls ns i j le fits = (λ k h. stays k h, λ k lt. comes k lt)
  where
    front : length (take i ls) ≡ i
    front = omega (arith, length-take i ls, le, fits)

    comes : (k : ℕ) → k < length ns → word_at (take i ls ++ (ns ++ drop j ls)) (i + k) ≡ word_at ns k
    comes k lt = word_behind (take i ls) (ns ++ drop j ls) (i + k) k (omega (arith, front)) ∙ word_in_front ns (drop j ls) k lt

    stays : (k : ℕ) → (k < i) ⊎ (j ≤ k) → word_at (take i ls ++ (ns ++ drop j ls)) (moved i j (length ns) k) ≡ word_at ls k
    stays k (inl lt) =
        ap (word_at (take i ls ++ (ns ++ drop j ls))) (cond-true (ltb k i) k ((k - j) + (i + length ns)) (lt-ltb k i lt))
        ∙ word_in_front (take i ls) (ns ++ drop j ls) k (omega (arith, front, lt)) ∙ word_in_take i ls k lt
    stays k (inr past) =
        ap (word_at (take i ls ++ (ns ++ drop j ls))) (cond-false (ltb k i) k ((k - j) + (i + length ns)) (le-ltb k i (omega (arith, le, past))))
        ∙ word_behind (take i ls) (ns ++ drop j ls) ((k - j) + (i + length ns)) (length ns + (k - j)) (omega (arith, front))
        ∙ word_behind ns (drop j ls) (length ns + (k - j)) (k - j) refl
        ∙ word_in_drop j ls (k - j) ∙ ap (word_at ls) (omega (arith, past))
