-- Tokens of a text stand in order, and so do the words that replace some of them.
use Rattle.std.proofs.Common.{◌≡◌, ℕ, zero, suc, ◌+◌, ◌-◌, ◌*◌, ◌<◌, ◌≤◌, Bool, true, false, List, [], ◌∷◌, ◌++◌, length, get_or, drop, map, refl, sym, ap, subst, ◌∙◌, arith, length-append, zero-mul, suc-mul, length-take, length-drop, append-nil}
use Rattle.proto_base.proofs.Common.{at_drop_more, text_limit}
use Rattle.proto_text.specs.declared.kind.PieceKind.{PieceKind}
use Rattle.proto_text.specs.declared.kind.PieceKind.TheVariants.{Blank, LineComment, BlockComment, Solid}
use Rattle.proto_text.specs.declared.lexer.Token.{Token}
use Rattle.proto_text.proofs.Common.{AreShort, old_len, new_len, Piece, IsLexeme, ArePieces, pieces_text, text_at, AreTokens, token_at, tokens_from, not_empty}
use Rattle.proto_edit_rename.specs.MadeChanges.{bytes_in, marked_tokens, StandInOrder, word_put}

-- ---- in order

earlier : (from to less : ℕ) (ts : List Token) → less ≤ from → StandInOrder from to ts → StandInOrder less to ts
earlier from to less [] le h = omega (arith, le, h)
earlier from to less (t ∷ ts) le h = let a = h.0 in (omega (arith, le, a), h.1, h.2)

piece_in_order : (kind : PieceKind) (bytes : List ℕ) (at to : ℕ) (ts : List Token) → IsLexeme kind bytes → StandInOrder (at + length bytes) to ts → StandInOrder at to (token_at kind at (length bytes) ++ ts)
piece_in_order Blank bytes at to ts is h = earlier (at + length bytes) to at ts (omega arith) h
piece_in_order LineComment bytes at to ts is h = earlier (at + length bytes) to at ts (omega arith) h
piece_in_order BlockComment bytes at to ts is h = earlier (at + length bytes) to at ts (omega arith) h
piece_in_order (Solid kind) [] at to ts is h = absurd (not_empty (Solid kind) is)
piece_in_order (Solid kind) (b ∷ bytes) at to ts is h = (omega arith, omega arith, h)

pieces_in_order : (ps : List Piece) (at : ℕ) → ArePieces ps [] → StandInOrder at (at + length (pieces_text ps)) (tokens_from at ps)
pieces_in_order [] at is = omega arith
pieces_in_order (p ∷ ps) at is =
    let long = length-append p.bytes (pieces_text ps) in
    let ends : (at + length p.bytes) + length (pieces_text ps) ≡ at + length (p.bytes ++ pieces_text ps) = omega (arith, long) in
    piece_in_order p.kind p.bytes at (at + length (p.bytes ++ pieces_text ps)) (tokens_from (at + length p.bytes) ps) is.0
    (subst (λ (z : ℕ). StandInOrder (at + length p.bytes) z (tokens_from (at + length p.bytes) ps)) ends (pieces_in_order ps (at + length p.bytes) is.2))

pub tokens_in_order : (text : List ℕ) (tokens : List Token) → AreTokens text tokens → StandInOrder 0 (length text) tokens
tokens_in_order text tokens are =
    let whole : text ≡ pieces_text are.0 = are.1.1 ∙ append-nil (pieces_text are.0) in
    let ends : 0 + length (pieces_text are.0) ≡ length text = let e = ap length whole in omega (arith, e) in
    subst (λ (z : List Token). StandInOrder 0 (length text) z) (sym are.2) (subst (λ (z : ℕ). StandInOrder 0 z (tokens_from 0 are.0)) ends (pieces_in_order are.0 0 are.1.0))

pub marked_in_order : (from to : ℕ) (ts : List Token) (ms : List Bool) → StandInOrder from to ts → StandInOrder from to (marked_tokens ts ms)
marked_in_order from to [] ms h = h
marked_in_order from to (t ∷ ts) [] h = let a = h.0 in let b = h.1 in let c = ends t.span.end to ts h.2 in omega (arith, a, b, c)
  where
    ends : (x y : ℕ) (zs : List Token) → StandInOrder x y zs → x ≤ y
    ends x y [] k = k
    ends x y (z ∷ zs) k = let a = k.0 in let b = k.1 in let c = ends z.span.end y zs k.2 in omega (arith, a, b, c)
marked_in_order from to (t ∷ ts) (true ∷ ms) h = (h.0, h.1, marked_in_order t.span.end to ts ms h.2)
marked_in_order from to (t ∷ ts) (false ∷ ms) h = let a = h.0 in let b = h.1 in earlier t.span.end to from (marked_tokens ts ms) (omega (arith, a, b)) (marked_in_order t.span.end to ts ms h.2)

-- ---- how many bytes they have

pub bytes_fit : (from to : ℕ) (ts : List Token) → StandInOrder from to ts → from + bytes_in ts ≤ to
bytes_fit from to [] h = omega (arith, h)
bytes_fit from to (t ∷ ts) h = let a = h.0 in let b = h.1 in let more = bytes_fit t.span.end to ts h.2 in omega (arith, a, b, more)

pub few_tokens : (from to : ℕ) (ts : List Token) → StandInOrder from to ts → length ts ≤ bytes_in ts
few_tokens from to [] h = omega arith
few_tokens from to (t ∷ ts) h = let b = h.1 in let more = few_tokens t.span.end to ts h.2 in omega (arith, b, more)

length_at : (text : List ℕ) (t : Token) → t.span.start < t.span.end → t.span.end ≤ length text → length (text_at text t.span) ≡ t.span.end - t.span.start
length_at text t b c =
    let d = length-drop t.span.start text in
    let e = length-take (t.span.end - t.span.start) (drop t.span.start text) in
    omega (arith, b, c, d, e)

ends_within : (from to : ℕ) (ts : List Token) → StandInOrder from to ts → from ≤ to
ends_within from to ts h = let e = bytes_fit from to ts h in omega (arith, e)

pub put_old_len : (text to : List ℕ) (from : ℕ) (ts : List Token) → StandInOrder from (length text) ts → old_len (map (word_put text to) ts) ≡ bytes_in ts
put_old_len text to from [] h = refl
put_old_len text to from (t ∷ ts) h =
    let here = length_at text t h.1 (ends_within t.span.end (length text) ts h.2) in
    let more = put_old_len text to t.span.end ts h.2 in
    omega (arith, here, more)

pub put_new_len : (text to : List ℕ) (ts : List Token) → new_len (map (word_put text to) ts) ≡ length ts * length to
put_new_len text to [] = sym (zero-mul (length to))
put_new_len text to (t ∷ ts) = let more = put_new_len text to ts in let step = suc-mul (length ts) (length to) in omega (arith, more, step)

-- ---- the words that come in their place are in order, where the text is not too long with them

short_from : (text to : List ℕ) (new from : ℕ) (ts : List Token) → StandInOrder from (length text) ts → length text ≤ text_limit
    → new + (length text - from) + new_len (map (word_put text to) ts) ≤ text_limit + old_len (map (word_put text to) ts) → AreShort new from (map (word_put text to) ts)
short_from text to new from [] h le fits = tt
short_from text to new from (t ∷ ts) h le fits =
    let a = h.0 in
    let b = h.1 in
    let c = ends_within t.span.end (length text) ts h.2 in
    let here = length_at text t b c in
    let old = put_old_len text to t.span.end ts h.2 in
    let rest = bytes_fit t.span.end (length text) ts h.2 in
    let whole : old_len (map (word_put text to) (t ∷ ts)) ≡ length (text_at text t.span) + old_len (map (word_put text to) ts) = refl in
    let words : new_len (map (word_put text to) (t ∷ ts)) ≡ length to + new_len (map (word_put text to) ts) = refl in
    let ends : t.span.start + length (text_at text t.span) ≡ t.span.end = omega (arith, here, b) in (
      a,
      omega (arith, ends, c, le),
      omega (arith, fits, a, b, c, here, old, rest, whole, words),
      subst (λ (z : ℕ). AreShort ((new + (t.span.start - from)) + length to) z (map (word_put text to) ts)) (sym ends)
          (short_from text to ((new + (t.span.start - from)) + length to) t.span.end ts h.2 le (omega (arith, fits, a, b, c, here, whole, words))),
    )

pub words_are_short : (text to : List ℕ) (ts : List Token) → StandInOrder 0 (length text) ts → length text ≤ text_limit → length text + length ts * length to ≤ text_limit + bytes_in ts → AreShort 0 0 (map (word_put text to) ts)
words_are_short text to ts h le fits =
    let old = put_old_len text to 0 ts h in
    let new = put_new_len text to ts in
    short_from text to 0 0 ts h le (omega (arith, old, new, fits))

-- ---- the walk over tokens

wider : (from to more : ℕ) (ts : List Token) → to ≤ more → StandInOrder from to ts → StandInOrder from more ts
wider from to more [] le h = omega (arith, le, h)
wider from to more (t ∷ ts) le h = (h.0, h.1, wider t.span.end to more ts le h.2)

pub in_any_text : (from to : ℕ) (ts : List Token) → to ≤ text_limit → StandInOrder from to ts → StandInOrder from text_limit ts
in_any_text from to ts le h = wider from to text_limit ts le h

pub one_ordered : (from to i : ℕ) (ts : List Token) (d : Token) → i < length ts → StandInOrder from to ts → (get_or ts i d).span.start < (get_or ts i d).span.end
one_ordered from to i [] d l h = absurd (omega (arith, l))
one_ordered from to zero (t ∷ ts) d l h = h.1
one_ordered from to (suc i) (t ∷ ts) d l h = one_ordered t.span.end to i ts d (omega (arith, l)) h.2

pub bytes_step : (ts : List Token) (i : ℕ) (d : Token) → i < length ts → bytes_in (drop i ts) ≡ ((get_or ts i d).span.end - (get_or ts i d).span.start) + bytes_in (drop (i + 1) ts)
bytes_step ts i d l = at_drop_more bytes_in ts i d l
