-- Words in place of words (for the crates above).
use Rattle.std.proofs.Common.{◌≡◌, ℕ, zero, suc, ◌+◌, ◌<◌, true, arith, List, [], ◌∷◌, ◌++◌, ◌⊎◌, inl, inr, length, map, Option, Some, None, refl, sym, ap, subst, ◌∙◌, append-nil, take_at, drop_at, IsUtf8, slice_index}
use Rattle.std.proofs.lemmas.Str.{IsUtf8-append, IsUtf8-nil, IsUtf8-take, IsUtf8-drop, IsUtf8-from_ascii}
use Rattle.proto_text.specs.Common.{Class, Space, Digit, Quote, Mark, Slash, Other, class_of, extends_word, is_identifier, EachByte, Letter, PieceKind, Blank, LineComment, BlockComment, Solid, TokenKind, Word, Token, Edit, Puts, Piece, IsRun, IsLexeme, ArePieces, IsMadeOf, pieces_text, text_at, Lexeme, lexeme_at, lexeme_if, lexemes, token_at, tokens_from, IsWord, SameButWords, piece_after, edits_from, or_word, changed, edit_if, token_edits, AreWords, IsReworded, WordsArePut}
use Rattle.proto_text.proofs.Spans.{boundary, classed_is_low}
use Rattle.proto_text.proofs.WordChange.{made_again}
use Rattle.proto_text.proofs.PieceEdits.{edits_change_pieces}
use Rattle.proto_text.proofs.Reading.{tokens_read_pieces}

abbrev Change : Type 0
Change = ℕ → Option (List ℕ)

-- the index behind a piece
abbrev next_of : PieceKind → ℕ → ℕ
next_of Blank n = n
next_of LineComment n = n
next_of BlockComment n = n
next_of (Solid k) n = suc n

abbrev change_of : PieceKind → Option (List ℕ) → Option (List ℕ)
change_of Blank o = None
change_of LineComment o = None
change_of BlockComment o = None
change_of (Solid k) o = o

abbrev pub changes : Change → ℕ → List Piece → List (Piece × Option (List ℕ))
changes c n [] = []
changes c n (p ∷ ps) = (p, change_of p.kind (c n)) ∷ changes c (next_of p.kind n) ps

abbrev pub pieces_after : Change → ℕ → List Piece → List Piece
pieces_after c n ps = map piece_after (changes c n ps)

firsts : (c : Change) (n : ℕ) (ps : List Piece) → map (λ (x : Piece × Option (List ℕ)). x.0) (changes c n ps) ≡ ps
firsts c n [] = refl
firsts c n (p ∷ ps) = ap (λ l. p ∷ l) (firsts c (next_of p.kind n) ps)

abbrev piece : PieceKind → List ℕ → Piece
piece kind bytes = record { kind = kind; bytes = bytes }

abbrev lexeme : TokenKind → List ℕ → Lexeme
lexeme kind text = record { kind = kind; text = text }

lexemes_step : (c : Change) (n : ℕ) (kind : PieceKind) (bytes : List ℕ) (ls : List Lexeme) (qs : List Piece) → lexemes qs ≡ changed c (next_of kind n) ls
    → lexemes (piece_after (piece kind bytes, change_of kind (c n)) ∷ qs) ≡ changed c n (lexeme_if kind bytes ++ ls)
lexemes_step c n Blank bytes ls qs h = h
lexemes_step c n LineComment bytes ls qs h = h
lexemes_step c n BlockComment bytes ls qs h = h
lexemes_step c n (Solid k) bytes ls qs h = by (c n)
  where
    by : (o : Option (List ℕ)) → lexemes (piece_after (piece (Solid k) bytes, o) ∷ qs) ≡ lexeme k (or_word o bytes) ∷ changed c (suc n) ls
    by None = ap (λ l. lexeme k bytes ∷ l) h
    by (Some w) = ap (λ l. lexeme k w ∷ l) h

lexemes_after : (c : Change) (n : ℕ) (ps : List Piece) → lexemes (pieces_after c n ps) ≡ changed c n (lexemes ps)
lexemes_after c n [] = refl
lexemes_after c n (p ∷ ps) = lexemes_step c n p.kind p.bytes (lexemes ps) (pieces_after c (next_of p.kind n) ps) (lexemes_after c (next_of p.kind n) ps)

words_step : (c : Change) (n : ℕ) (kind : PieceKind) (bytes : List ℕ) (ls : List Lexeme) → IsLexeme kind bytes → AreWords c n (lexeme_if kind bytes ++ ls)
    → ((piece kind bytes ≡ piece_after (piece kind bytes, change_of kind (c n))) ⊎ (IsWord (piece kind bytes) × IsWord (piece_after (piece kind bytes, change_of kind (c n))))) × AreWords c (next_of kind n) ls
words_step c n Blank bytes ls is w = (inl refl, w)
words_step c n LineComment bytes ls is w = (inl refl, w)
words_step c n BlockComment bytes ls is w = (inl refl, w)
words_step c n (Solid k) bytes ls is w = (by (c n) refl, w.1)
  where
    by : (o : Option (List ℕ)) → c n ≡ o → (piece (Solid k) bytes ≡ piece_after (piece (Solid k) bytes, o)) ⊎ (IsWord (piece (Solid k) bytes) × IsWord (piece_after (piece (Solid k) bytes, o)))
    by None e = inl refl
    by (Some v) e =
        let it = w.0 v e in
        let kind : Solid k ≡ Solid Word = ap Solid it.0 in
        inr ((kind, subst (λ (x : TokenKind). IsLexeme (Solid x) bytes) it.0 is), (kind, it.1))

same_but_words : (c : Change) (n : ℕ) (ps : List Piece) → ArePieces ps [] → AreWords c n (lexemes ps) → SameButWords ps (pieces_after c n ps)
same_but_words c n [] is w = tt
same_but_words c n (p ∷ ps) is w =
    let step = words_step c n p.kind p.bytes (lexemes ps) is.0 w in
    (step.0, same_but_words c (next_of p.kind n) ps is.2 step.1)

abbrev head_text : List Lexeme → List ℕ
head_text [] = []
head_text (l ∷ ls) = l.text

abbrev tail_of : List Lexeme → List Lexeme
tail_of [] = []
tail_of (l ∷ ls) = ls

edits_step : (text : List ℕ) (c : Change) (n at : ℕ) (kind : PieceKind) (bytes : List ℕ) (ts : List Token) (ls : List Lexeme) (es : List Edit)
    → map (lexeme_at text) (token_at kind at (length bytes) ++ ts) ≡ lexeme_if kind bytes ++ ls
    → (map (lexeme_at text) ts ≡ ls → es ≡ token_edits text c (next_of kind n) ts)
    → edit_if (change_of kind (c n)) at bytes ++ es ≡ token_edits text c n (token_at kind at (length bytes) ++ ts)
edits_step text c n at Blank bytes ts ls es h k = k h
edits_step text c n at LineComment bytes ts ls es h k = k h
edits_step text c n at BlockComment bytes ts ls es h k = k h
edits_step text c n at (Solid kind) bytes ts ls es h k = by (c n)
  where
    there : text_at text (record { start = at; end = at + length bytes }) ≡ bytes
    there = ap head_text h

    by : (o : Option (List ℕ)) → edit_if o at bytes ++ es ≡ edit_if o at (text_at text (record { start = at; end = at + length bytes })) ++ token_edits text c (suc n) ts
    by None = k (ap tail_of h)
    by (Some w) =
        ap (λ (l : List Edit). record { at = at; old = bytes; new = w } ∷ l) (k (ap tail_of h))
        ∙ ap (λ (b : List ℕ). let e : Edit = record { at = at; old = b; new = w } in e ∷ token_edits text c (suc n) ts) (sym there)

edits_are : (text : List ℕ) (c : Change) (n at : ℕ) (ps : List Piece) → map (lexeme_at text) (tokens_from at ps) ≡ lexemes ps → edits_from at (changes c n ps) ≡ token_edits text c n (tokens_from at ps)
edits_are text c n at [] h = refl
edits_are text c n at (p ∷ ps) h =
    edits_step text c n at p.kind p.bytes (tokens_from (at + length p.bytes) ps) (lexemes ps) (edits_from (at + length p.bytes) (changes c (next_of p.kind n) ps)) h
    (λ k. edits_are text c (next_of p.kind n) (at + length p.bytes) ps k)

-- ---- UTF-8

abbrev AllUtf8 : List Piece → Type 0
AllUtf8 [] = Unit {0}
AllUtf8 (p ∷ ps) = IsUtf8 p.bytes × AllUtf8 ps

utf8_pieces : (ps : List Piece) → ArePieces ps [] → IsUtf8 (pieces_text ps) → AllUtf8 ps
utf8_pieces [] is u = tt
utf8_pieces (p ∷ ps) is u =
    let seam = boundary (p.bytes ++ pieces_text ps) p.bytes ps is.2 refl in (
      subst IsUtf8 (take_at p.bytes (pieces_text ps) (length p.bytes) refl) (IsUtf8-take (p.bytes ++ pieces_text ps) (length p.bytes) u seam),
      utf8_pieces ps is.2 (subst IsUtf8 (drop_at p.bytes (pieces_text ps) (length p.bytes) refl) (IsUtf8-drop (p.bytes ++ pieces_text ps) (length p.bytes) u seam)),
    )

extends_low : (b : ℕ) (k : Class) → class_of b ≡ k → extends_word k ≡ true → b < 128
extends_low b Space e h = absurd (cc)
extends_low b Letter e h = classed_is_low b Letter e (λ z. cc)
extends_low b Digit e h = classed_is_low b Digit e (λ z. cc)
extends_low b Quote e h = absurd (cc)
extends_low b Mark e h = absurd (cc)
extends_low b Slash e h = absurd (cc)
extends_low b Other e h = absurd (cc)

past : (i : ℕ) → slice_index [] i < 128
past zero = omega arith
past (suc i) = omega arith

each_ascii : (bytes : List ℕ) → EachByte is_identifier bytes → IsUtf8 bytes
each_ascii [] h = IsUtf8-nil
each_ascii (b ∷ bytes) h = IsUtf8-append (b ∷ []) bytes (one_ascii b (extends_low b (class_of b) refl h.0)) (each_ascii bytes h.1)
  where
    one_ascii : (b : ℕ) → b < 128 → IsUtf8 (b ∷ [])
    one_ascii b lt = IsUtf8-from_ascii (b ∷ []) (λ i. at i)
      where
        at : (i : ℕ) → slice_index (b ∷ []) i < 128
        at zero = lt
        at (suc i) = past i

run_utf8 : (bytes : List ℕ) → IsRun Letter bytes → IsUtf8 bytes
run_utf8 [] h = absurd h
run_utf8 (b ∷ bytes) h = each_ascii (b ∷ bytes) (ap extends_word h.0, h.1)

utf8_step : (c : Change) (n : ℕ) (kind : PieceKind) (bytes : List ℕ) (ls : List Lexeme) → IsUtf8 bytes → AreWords c n (lexeme_if kind bytes ++ ls)
    → IsUtf8 (piece_after (piece kind bytes, change_of kind (c n))).bytes × AreWords c (next_of kind n) ls
utf8_step c n Blank bytes ls u w = (u, w)
utf8_step c n LineComment bytes ls u w = (u, w)
utf8_step c n BlockComment bytes ls u w = (u, w)
utf8_step c n (Solid k) bytes ls u w = (by (c n) refl, w.1)
  where
    by : (o : Option (List ℕ)) → c n ≡ o → IsUtf8 (piece_after (piece (Solid k) bytes, o)).bytes
    by None e = u
    by (Some v) e = run_utf8 v (w.0 v e).1

utf8_after : (c : Change) (n : ℕ) (ps : List Piece) → AllUtf8 ps → AreWords c n (lexemes ps) → IsUtf8 (pieces_text (pieces_after c n ps))
utf8_after c n [] u w = IsUtf8-nil
utf8_after c n (p ∷ ps) u w =
    let step = utf8_step c n p.kind p.bytes (lexemes ps) u.0 w in
    IsUtf8-append _ _ step.0 (utf8_after c (next_of p.kind n) ps u.1 step.1)

-- the edit, over pieces of the text
pub reworded : (text : List ℕ) (c : Change) (ps : List Piece) → IsMadeOf text ps → AreWords c 0 (lexemes ps)
    → IsReworded text (tokens_from 0 ps) c (pieces_text (pieces_after c 0 ps)) (tokens_from 0 (pieces_after c 0 ps))
reworded text c ps is w =
    let qs = pieces_after c 0 ps in
    let same = same_but_words c 0 ps is.0 w in
    let new_pieces = made_again text ps qs is same in
    let whole : pieces_text (map (λ (x : Piece × Option (List ℕ)). x.0) (changes c 0 ps)) ≡ text = ap pieces_text (firsts c 0 ps) ∙ sym (is.1 ∙ append-nil (pieces_text ps)) in
    let read = tokens_read_pieces text ps is in
    let put_0 = edits_change_pieces (changes c 0 ps) in
    let put_1 = subst (λ (t : List ℕ). Puts 0 t (edits_from 0 (changes c 0 ps)) (pieces_text qs)) whole put_0 in
    record {
      put = subst (λ (es : List Edit). Puts 0 text es (pieces_text qs)) (edits_are text c 0 0 ps read) put_1;
      lexed = (qs, new_pieces, refl);
      utf8 = λ u. utf8_after c 0 ps (utf8_pieces ps is.0 (subst IsUtf8 (is.1 ∙ append-nil (pieces_text ps)) u)) w;
      words = tokens_read_pieces (pieces_text qs) qs new_pieces ∙ lexemes_after c 0 ps ∙ ap (changed c 0) (sym read);
    }

pub words_are_put : WordsArePut
words_are_put text tokens c lexed w =
    let ps = lexed.0 in
    let e : tokens ≡ tokens_from 0 ps = lexed.2 in
    let w_0 = subst (λ (ts : List Token). AreWords c 0 (map (lexeme_at text) ts)) e w in
    let w_1 = subst (AreWords c 0) (tokens_read_pieces text ps lexed.1) w_0 in
    let qs = pieces_after c 0 ps in
    (pieces_text qs, tokens_from 0 qs, subst (λ (ts : List Token). IsReworded text ts c (pieces_text qs) (tokens_from 0 qs)) (sym e) (reworded text c ps lexed.1 w_1))
