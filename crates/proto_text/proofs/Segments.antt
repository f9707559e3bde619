-- A text is cut between its tokens, and segments are put in.
use Rattle.std.proofs.Common.{◌≡◌, ℕ, zero, suc, ◌+◌, ◌-◌, ◌<◌, ◌≤◌, ◌⊎◌, inl, inr, Bool, true, false, not, eqb, List, [], ◌∷◌, ◌++◌, length, take, drop, map, refl, sym, ap, subst, ◌∙◌, arith, append_assoc, IsUtf8, IsCharBoundary, append-nil, length-append, take_at, drop_at}
use Rattle.std.proofs.lemmas.Str.{IsUtf8-append, IsUtf8-take, IsUtf8-drop}
use Rattle.proto_text.specs.Common.{Class, Space, Letter, Digit, Quote, Mark, PieceKind, Blank, LineComment, BlockComment, Solid, TokenKind, Word, Number, Text, Punctuation, Token, Stops, class_of, Piece, is_in_line, IsLexeme, EndsBefore, ArePieces, IsMadeOf, pieces_text, offset_at, Lexeme, lexeme_at, lexeme_if, lexemes, token_at, tokens_from, AreTokens, EndsByItself, IsSeam, end_before, IsPlace, SegmentsJoin, bytes_between, BetweenPlaces, RunsAreReplaced}
use Rattle.proto_text.proofs.OneEdit.{length_map}
use Rattle.proto_text.proofs.Reading.{tokens_read_pieces}
use Rattle.proto_text.proofs.Spans.{boundary}
use Rattle.proto_text.proofs.WordChange.{not_empty, ends_same, feed_is_space}

abbrev piece : PieceKind → List ℕ → Piece
piece kind bytes = record { kind = kind; bytes = bytes }

-- ---- lists of pieces

pub text_append : (ps qs : List Piece) → pieces_text (ps ++ qs) ≡ pieces_text ps ++ pieces_text qs
text_append [] qs = refl
text_append (p ∷ ps) qs = ap (λ (t : List ℕ). p.bytes ++ t) (text_append ps qs) ∙ sym (append_assoc p.bytes (pieces_text ps) (pieces_text qs))

pub lexemes_append : (ps qs : List Piece) → lexemes (ps ++ qs) ≡ lexemes ps ++ lexemes qs
lexemes_append [] qs = refl
lexemes_append (p ∷ ps) qs = ap (λ (t : List Lexeme). lexeme_if p.kind p.bytes ++ t) (lexemes_append ps qs) ∙ sym (append_assoc (lexeme_if p.kind p.bytes) (lexemes ps) (lexemes qs))

pub pieces_join : (ps qs : List Piece) (rest : List ℕ) → ArePieces ps (pieces_text qs ++ rest) → ArePieces qs rest → ArePieces (ps ++ qs) rest
pieces_join [] qs rest a b = b
pieces_join (p ∷ ps) qs rest a b =
    let e = ap (λ (t : List ℕ). t ++ rest) (text_append ps qs) ∙ append_assoc (pieces_text ps) (pieces_text qs) rest in
    (a.0, subst (EndsBefore p.kind) (sym e) a.1, pieces_join ps qs rest a.2 b)

pub pieces_part : (ps qs : List Piece) (rest : List ℕ) → ArePieces (ps ++ qs) rest → ArePieces ps (pieces_text qs ++ rest) × ArePieces qs rest
pieces_part [] qs rest h = (tt, h)
pieces_part (p ∷ ps) qs rest h =
    let e = ap (λ (t : List ℕ). t ++ rest) (text_append ps qs) ∙ append_assoc (pieces_text ps) (pieces_text qs) rest in
    let more = pieces_part ps qs rest h.2 in
    ((h.0, subst (EndsBefore p.kind) e h.1, more.0), more.1)

-- ---- what ends by itself

abbrev IsFree : PieceKind → Type 0
IsFree Blank = Unit {0}
IsFree LineComment = ⊥
IsFree BlockComment = Unit {0}
IsFree (Solid kind) = EndsByItself kind

free_ends : (kind : PieceKind) (rest : List ℕ) → IsFree kind → EndsBefore kind rest
free_ends Blank rest f = tt
free_ends LineComment rest f = absurd f
free_ends BlockComment rest f = tt
free_ends (Solid Word) rest f = absurd f
free_ends (Solid Number) rest f = absurd f
free_ends (Solid Text) rest f = tt
free_ends (Solid Punctuation) rest f = tt

abbrev last_kind : PieceKind → List Piece → PieceKind
last_kind kind [] = kind
last_kind kind (p ∷ ps) = last_kind p.kind ps

-- pieces whose last one ends by itself may stand before anything
stays : (kind : PieceKind) (ps : List Piece) (back : List ℕ) → ArePieces ps back → IsFree (last_kind kind ps) → (rest : List ℕ) → ArePieces ps rest
stays kind [] back h f rest = tt
stays kind (p ∷ []) back h f rest = (h.0, free_ends p.kind rest f, tt)
stays kind (p ∷ q ∷ ps) back h f rest =
    let a = subst (EndsBefore p.kind) (append_assoc q.bytes (pieces_text ps) back) h.1 in
    let b = ends_same p.kind q (pieces_text ps ++ back) (pieces_text ps ++ rest) h.2.0 a in
    (h.0, subst (EndsBefore p.kind) (sym (append_assoc q.bytes (pieces_text ps) rest)) b, stays p.kind (q ∷ ps) back h.2 f rest)

-- ---- a cut between tokens

-- pieces that begin at an offset, behind a piece of a kind, are cut at a place with i tokens before it
record IsCut (kind : PieceKind) (ps : List Piece) (at i place : ℕ) : Type 0 where
  front : List Piece
  back : List Piece
  parts : ps ≡ front ++ back
  here : place ≡ at + length (pieces_text front)
  count : length (lexemes front) ≡ i
  free : IsFree (last_kind kind front)

cut_on : (kind next : PieceKind) (bytes : List ℕ) (ps : List Piece) (at i n place : ℕ) → IsCut next ps (at + length bytes) i place → length (lexeme_if next bytes) + i ≡ n → IsCut kind (piece next bytes ∷ ps) at n place
cut_on kind next bytes ps at i n place c e = record {
  front = piece next bytes ∷ c.front;
  back = c.back;
  parts = ap (λ (x : List Piece). piece next bytes ∷ x) c.parts;
  here = omega (arith, c.here, length-append bytes (pieces_text c.front));
  count = omega (arith, c.count, e, length-append (lexeme_if next bytes) (lexemes c.front));
  free = c.free;
}

cut_here : (kind : PieceKind) (ps : List Piece) (at : ℕ) → IsFree kind → IsCut kind ps at 0 at
cut_here kind ps at f = record { front = []; back = ps; parts = refl; here = omega arith; count = refl; free = f }

-- right behind a token that ends by itself
cut_behind_step : (kind next : PieceKind) (bytes : List ℕ) (ps : List Piece) (at i : ℕ) → IsSeam (token_at next at (length bytes) ++ tokens_from (at + length bytes) ps) (suc i)
    → ((j : ℕ) → IsSeam (tokens_from (at + length bytes) ps) (suc j) → IsCut next ps (at + length bytes) (suc j) (end_before (tokens_from (at + length bytes) ps) (suc j)))
    → IsCut kind (piece next bytes ∷ ps) at (suc i) (end_before (token_at next at (length bytes) ++ tokens_from (at + length bytes) ps) (suc i))
cut_behind_step kind Blank bytes ps at i s again = cut_on kind Blank bytes ps at (suc i) (suc i) _ (again i s) (omega arith)
cut_behind_step kind LineComment bytes ps at i s again = cut_on kind LineComment bytes ps at (suc i) (suc i) _ (again i s) (omega arith)
cut_behind_step kind BlockComment bytes ps at i s again = cut_on kind BlockComment bytes ps at (suc i) (suc i) _ (again i s) (omega arith)
cut_behind_step kind (Solid k) bytes ps at zero s again = cut_on kind (Solid k) bytes ps at 0 1 (at + length bytes) (cut_here (Solid k) ps (at + length bytes) s) refl
cut_behind_step kind (Solid k) bytes ps at (suc i) s again = cut_on kind (Solid k) bytes ps at (suc i) (suc (suc i)) _ (again i s) (omega arith)

cut_behind : (kind : PieceKind) (ps : List Piece) (at i : ℕ) → IsSeam (tokens_from at ps) (suc i) → IsCut kind ps at (suc i) (end_before (tokens_from at ps) (suc i))
cut_behind kind [] at i s = absurd s
cut_behind kind (p ∷ ps) at i s = cut_behind_step kind p.kind p.bytes ps at i s (λ j t. cut_behind p.kind ps (at + length p.bytes) j t)

-- a token does not begin with a line feed
feed_by : (b : ℕ) (class : Class) (t : Bool) → class_of b ≡ class → (class ≡ Space → ⊥) → eqb b 10 ≡ t → not t ≡ false → ⊥
feed_by b class true c apart e h = apart (sym c ∙ feed_is_space b e)
feed_by b class false c apart e h = absurd (cc)

in_line : (b : ℕ) (class : Class) → class_of b ≡ class → (class ≡ Space → ⊥) → is_in_line b ≡ false → ⊥
in_line b class c apart h = feed_by b class (eqb b 10) c apart refl h

letter≢space : Letter ≡ Space → ⊥
letter≢space e = cc

digit≢space : Digit ≡ Space → ⊥
digit≢space e = cc

quote≢space : Quote ≡ Space → ⊥
quote≢space e = cc

mark≢space : Mark ≡ Space → ⊥
mark≢space e = cc

head_is : (a b : ℕ) (x y : List ℕ) → a ∷ x ≡ b ∷ y → a ≡ b
head_is a b x y e = cc

no_feed : (k : TokenKind) (bytes more : List ℕ) → IsLexeme (Solid k) bytes → Stops is_in_line (bytes ++ more) → ⊥
no_feed k [] more is h = not_empty (Solid k) is
no_feed Word (b ∷ bytes) more is h = in_line b Letter is.0 letter≢space h
no_feed Number (b ∷ bytes) more is h = in_line b Digit is.0.0 digit≢space h
no_feed Text (b ∷ bytes) more is h = in_line b Quote (ap class_of (head_is b is.0 bytes (is.1 ++ is.0 ∷ []) is.2.1) ∙ is.2.0) quote≢space h
no_feed Punctuation (b ∷ bytes) more is h = in_line b Mark (ap class_of (head_is b is.0 bytes [] is.1) ∙ is.2) mark≢space h

-- what stands before a token that is next
abbrev IsReady : PieceKind → ℕ → List ℕ → Type 0
IsReady kind zero text = IsFree kind ⊎ ((kind ≡ LineComment) × Stops is_in_line text)
IsReady kind (suc i) text = Unit {0}

ready : (kind : PieceKind) (i : ℕ) (text : List ℕ) → IsFree kind → IsReady kind i text
ready kind zero text f = inl f
ready kind (suc i) text f = tt

ready_line : (i : ℕ) (text : List ℕ) → Stops is_in_line text → IsReady LineComment i text
ready_line zero text h = inr (refl, h)
ready_line (suc i) text h = tt

free_from : (kind : PieceKind) (k : TokenKind) (bytes more : List ℕ) → IsLexeme (Solid k) bytes → IsReady kind 0 (bytes ++ more) → IsFree kind
free_from kind k bytes more is (inl f) = f
free_from kind k bytes more is (inr line) = absurd (no_feed k bytes more is line.1)

ready_behind : (k : TokenKind) (i : ℕ) (t : Token) (ts : List Token) (text : List ℕ) → t.kind ≡ k → IsSeam (t ∷ ts) (suc i) → IsReady (Solid k) i text × IsSeam ts i
ready_behind k zero t ts text e s = (inl (subst EndsByItself e s), tt)
ready_behind k (suc i) t ts text e s = (tt, s)

-- right before a token
cut_before_step : (kind next : PieceKind) (bytes : List ℕ) (ps : List Piece) (at i : ℕ) → IsReady kind i (bytes ++ pieces_text ps) → IsLexeme next bytes → EndsBefore next (pieces_text ps)
    → IsSeam (token_at next at (length bytes) ++ tokens_from (at + length bytes) ps) i → i < length (token_at next at (length bytes) ++ tokens_from (at + length bytes) ps)
    → ((j : ℕ) → IsReady next j (pieces_text ps) → IsSeam (tokens_from (at + length bytes) ps) j → j < length (tokens_from (at + length bytes) ps) → IsCut next ps (at + length bytes) j (offset_at (tokens_from (at + length bytes) ps) j))
    → IsCut kind (piece next bytes ∷ ps) at i (offset_at (token_at next at (length bytes) ++ tokens_from (at + length bytes) ps) i)
cut_before_step kind Blank bytes ps at i r is ends s lt again = cut_on kind Blank bytes ps at i i _ (again i (ready Blank i (pieces_text ps) tt) s lt) (omega arith)
cut_before_step kind LineComment bytes ps at i r is ends s lt again = cut_on kind LineComment bytes ps at i i _ (again i (ready_line i (pieces_text ps) ends) s lt) (omega arith)
cut_before_step kind BlockComment bytes ps at i r is ends s lt again = cut_on kind BlockComment bytes ps at i i _ (again i (ready BlockComment i (pieces_text ps) tt) s lt) (omega arith)
cut_before_step kind (Solid k) bytes ps at zero r is ends s lt again = cut_here kind (piece (Solid k) bytes ∷ ps) at (free_from kind k bytes (pieces_text ps) is r)
cut_before_step kind (Solid k) bytes ps at (suc i) r is ends s lt again =
    let next = ready_behind k i (record { kind = k; span = record { start = at; end = at + length bytes } }) (tokens_from (at + length bytes) ps) (pieces_text ps) refl s in
    cut_on kind (Solid k) bytes ps at i (suc i) _ (again i next.0 next.1 (omega (arith, lt))) (omega arith)

cut_before : (kind : PieceKind) (ps : List Piece) (at i : ℕ) → ArePieces ps [] → IsReady kind i (pieces_text ps) → IsSeam (tokens_from at ps) i → i < length (tokens_from at ps)
    → IsCut kind ps at i (offset_at (tokens_from at ps) i)
cut_before kind [] at i h r s lt = absurd (omega (arith, lt))
cut_before kind (p ∷ ps) at i h r s lt =
    cut_before_step kind p.kind p.bytes ps at i r h.0 (subst (EndsBefore p.kind) (append-nil (pieces_text ps)) h.1) s lt
    (λ j ready seam below. cut_before p.kind ps (at + length p.bytes) j h.2 ready seam below)

cut_at : (ps : List Piece) (i place : ℕ) → ArePieces ps [] → IsPlace (tokens_from 0 ps) i place → IsCut Blank ps 0 i place
cut_at ps i place h is = by i is.seam is.there
  where
    by : (i : ℕ) → IsSeam (tokens_from 0 ps) i → (place ≡ end_before (tokens_from 0 ps) i) ⊎ ((i < length (tokens_from 0 ps)) × (place ≡ offset_at (tokens_from 0 ps) i)) → IsCut Blank ps 0 i place
    by zero s (inl e) = subst (IsCut Blank ps 0 0) (sym e) (cut_here Blank ps 0 tt)
    by (suc i) s (inl e) = subst (IsCut Blank ps 0 (suc i)) (sym e) (cut_behind Blank ps 0 i s)
    by i s (inr e) = subst (IsCut Blank ps 0 i) (sym e.1) (cut_before Blank ps 0 i h (ready Blank i (pieces_text ps) tt) s e.0)

-- ---- two cuts

-- the shorter front stands in the longer one
nested : (a b c d : List Piece) → ArePieces (a ++ b) [] → a ++ b ≡ c ++ d → length (pieces_text a) ≤ length (pieces_text c) → (mid : List Piece) × (c ≡ a ++ mid) × (b ≡ mid ++ d)
nested [] b c d h e le = (c, refl, e)
nested (p ∷ a) b [] d h e le = absurd (too_long p.bytes h.0 le)
  where
    too_long : (bytes : List ℕ) → IsLexeme p.kind bytes → length (bytes ++ pieces_text a) ≤ 0 → ⊥
    too_long [] is le = not_empty p.kind is
    too_long (x ∷ bytes) is le = omega (arith, le)
nested (p ∷ a) b (q ∷ c) d h e le =
    let same : p ≡ q = head_same p q (a ++ b) (c ++ d) e in
    let rest : a ++ b ≡ c ++ d = ap (drop 1) e in
    let len = ap (λ (x : Piece). length x.bytes) same in
    let more = nested a b c d h.2 rest (omega (arith, le, len, length-append p.bytes (pieces_text a), length-append q.bytes (pieces_text c))) in
    (more.0, ap (λ (x : List Piece). q ∷ x) more.1 ∙ ap (λ (x : Piece). x ∷ (a ++ more.0)) (sym same), more.2)
  where
    head_same : (x y : Piece) (xs ys : List Piece) → x ∷ xs ≡ y ∷ ys → x ≡ y
    head_same x y xs ys e = cc

-- a text in three, cut at two places
record AreCuts (text : List ℕ) (tokens : List Token) (i j from to : ℕ) : Type 0 where
  front : List Piece
  mid : List Piece
  back : List Piece
  whole : text ≡ pieces_text front ++ (pieces_text mid ++ pieces_text back)
  at_from : from ≡ length (pieces_text front)
  at_to : to ≡ from + length (pieces_text mid)
  front_stays : (rest : List ℕ) → ArePieces front rest
  mid_stays : (rest : List ℕ) → ArePieces mid rest
  back_is : ArePieces back []
  read : map (lexeme_at text) tokens ≡ lexemes front ++ (lexemes mid ++ lexemes back)
  front_count : i ≡ length (lexemes front)
  mid_count : j ≡ i + length (lexemes mid)

cuts : (text : List ℕ) (tokens : List Token) (i j from to : ℕ) → AreTokens text tokens → IsPlace tokens i from → IsPlace tokens j to → from ≤ to → AreCuts text tokens i j from to
cuts text tokens i j from to lexed a b le =
    let ps = lexed.0 in
    let is = lexed.1.0 in
    let e : tokens ≡ tokens_from 0 ps = lexed.2 in
    let x = cut_at ps i from is (subst (λ (ts : List Token). IsPlace ts i from) e a) in
    let y = cut_at ps j to is (subst (λ (ts : List Token). IsPlace ts j to) e b) in
    let n = nested x.front x.back y.front y.back (subst (λ (z : List Piece). ArePieces z []) x.parts is) (sym x.parts ∙ y.parts) (omega (arith, le, x.here, y.here)) in
    let mid = n.0 in
    let y_stays = stays Blank y.front (pieces_text y.back ++ []) (pieces_part y.front y.back [] (subst (λ (z : List Piece). ArePieces z []) y.parts is)).0 y.free in
    let all = x.parts ∙ ap (λ (z : List Piece). x.front ++ z) n.2 in
    let y_text = ap (λ (z : List Piece). length (pieces_text z)) n.1 ∙ ap (λ (t : List ℕ). length t) (text_append x.front mid) ∙ length-append (pieces_text x.front) (pieces_text mid) in
    let y_count = ap (λ (z : List Piece). length (lexemes z)) n.1 ∙ ap (λ (t : List Lexeme). length t) (lexemes_append x.front mid) ∙ length-append (lexemes x.front) (lexemes mid) in
    record {
      front = x.front;
      mid = mid;
      back = y.back;
      whole = lexed.1.1 ∙ append-nil (pieces_text ps) ∙ ap pieces_text all ∙ text_append x.front (mid ++ y.back) ∙ ap (λ (t : List ℕ). pieces_text x.front ++ t) (text_append mid y.back);
      at_from = omega (arith, x.here);
      at_to = omega (arith, x.here, y.here, y_text);
      front_stays = stays Blank x.front (pieces_text x.back ++ []) (pieces_part x.front x.back [] (subst (λ (z : List Piece). ArePieces z []) x.parts is)).0 x.free;
      mid_stays = λ rest. (pieces_part x.front mid rest (subst (λ (z : List Piece). ArePieces z rest) n.1 (y_stays rest))).1;
      back_is = (pieces_part y.front y.back [] (subst (λ (z : List Piece). ArePieces z []) y.parts is)).1;
      read = ap (map (lexeme_at text)) e ∙ tokens_read_pieces text ps lexed.1 ∙ ap lexemes all ∙ lexemes_append x.front (mid ++ y.back) ∙ ap (λ (t : List Lexeme). lexemes x.front ++ t) (lexemes_append mid y.back);
      front_count = sym x.count;
      mid_count = omega (arith, x.count, y.count, y_count);
    }

-- ---- the laws

pub segments_join : SegmentsJoin
segments_join a b ls ms x y = (
  x.0 ++ y.0,
  λ rest. pieces_join x.0 y.0 rest (x.1 (pieces_text y.0 ++ rest)) (y.1 rest),
  ap (λ (t : List ℕ). t ++ b) x.2 ∙ ap (λ (t : List ℕ). pieces_text x.0 ++ t) y.2 ∙ sym (text_append x.0 y.0),
  ap (λ (t : List Lexeme). t ++ ms) x.3 ∙ ap (λ (t : List Lexeme). lexemes x.0 ++ t) y.3 ∙ sym (lexemes_append x.0 y.0),
)

-- the middle of three lists
middle : {A : Type 0} (whole a b c : List A) (m n : ℕ) → whole ≡ a ++ (b ++ c) → m ≡ length a → n ≡ length b → take n (drop m whole) ≡ b
middle whole a b c m n e len many = ap (λ t. take n (drop m t)) e ∙ ap (take n) (drop_at a (b ++ c) m (sym len)) ∙ take_at b c n (sym many)

first_third : {A : Type 0} (whole a b c : List A) (m : ℕ) → whole ≡ a ++ (b ++ c) → m ≡ length a → take m whole ≡ a
first_third whole a b c m e len = ap (take m) e ∙ take_at a (b ++ c) m (sym len)

last_third : {A : Type 0} (whole a b c : List A) (m n : ℕ) → whole ≡ a ++ (b ++ c) → m ≡ length a → n ≡ m + length b → drop n whole ≡ c
last_third whole a b c m n e len many =
    ap (drop n) (e ∙ sym (append_assoc a b c)) ∙ drop_at (a ++ b) c n (omega (arith, len, many, length-append a b))

pub between_places : BetweenPlaces
between_places text tokens i j from to lexed a b le =
    let c = cuts text tokens i j from to lexed a b le in
    let bytes : bytes_between text from to ≡ pieces_text c.mid = middle text (pieces_text c.front) (pieces_text c.mid) (pieces_text c.back) from (to - from) c.whole c.at_from (omega (arith, c.at_to)) in
    let ls : take (j - i) (drop i (map (lexeme_at text) tokens)) ≡ lexemes c.mid = middle (map (lexeme_at text) tokens) (lexemes c.front) (lexemes c.mid) (lexemes c.back) i (j - i) c.read c.front_count (omega (arith, c.mid_count)) in
    let many = ap (λ (z : List Lexeme). length z) c.read ∙ length-append (lexemes c.front) (lexemes c.mid ++ lexemes c.back) in
    let rest = length-append (lexemes c.mid) (lexemes c.back) in
    let mapped = length_map (lexeme_at text) tokens in
    let start = boundary text (pieces_text c.front) (c.mid ++ c.back) (pieces_join c.mid c.back [] (c.mid_stays (pieces_text c.back ++ [])) c.back_is) (c.whole ∙ ap (λ (t : List ℕ). pieces_text c.front ++ t) (sym (text_append c.mid c.back))) in
    let stop = boundary text (pieces_text c.front ++ pieces_text c.mid) c.back c.back_is (c.whole ∙ sym (append_assoc (pieces_text c.front) (pieces_text c.mid) (pieces_text c.back))) in (
      (c.mid, c.mid_stays, bytes, ls),
      record {
        ordered = le;
        starts = subst (IsCharBoundary text) (sym c.at_from) start;
        ends = subst (IsCharBoundary text) (omega (arith, c.at_from, c.at_to, length-append (pieces_text c.front) (pieces_text c.mid))) stop;
      },
      omega (arith, c.mid_count),
      omega (arith, c.mid_count, c.front_count, many, rest, mapped),
    )

pub runs_are_replaced : RunsAreReplaced
runs_are_replaced text tokens i j from to new ls lexed a b le seg =
    let c = cuts text tokens i j from to lexed a b le in
    let qs = c.front ++ (seg.0 ++ c.back) in
    let later = pieces_join seg.0 c.back [] (seg.1 (pieces_text c.back ++ [])) c.back_is in
    let are = pieces_join c.front (seg.0 ++ c.back) [] (c.front_stays (pieces_text (seg.0 ++ c.back) ++ [])) later in
    let front = first_third text (pieces_text c.front) (pieces_text c.mid) (pieces_text c.back) from c.whole c.at_from in
    let mid = middle text (pieces_text c.front) (pieces_text c.mid) (pieces_text c.back) from (to - from) c.whole c.at_from (omega (arith, c.at_to)) in
    let back = last_third text (pieces_text c.front) (pieces_text c.mid) (pieces_text c.back) from to c.whole c.at_from c.at_to in
    let result : pieces_text qs ≡ take from text ++ (new ++ drop to text) =
    text_append c.front (seg.0 ++ c.back) ∙ ap (λ (t : List ℕ). pieces_text c.front ++ t) (text_append seg.0 c.back)
    ∙ ap (λ (t : List ℕ). t ++ (pieces_text seg.0 ++ pieces_text c.back)) (sym front)
    ∙ ap (λ (t : List ℕ). take from text ++ (t ++ pieces_text c.back)) (sym seg.2)
    ∙ ap (λ (t : List ℕ). take from text ++ (new ++ t)) (sym back) in
    let whole : text ≡ take from text ++ (bytes_between text from to ++ drop to text) =
    c.whole ∙ ap (λ (t : List ℕ). t ++ (pieces_text c.mid ++ pieces_text c.back)) (sym front)
    ∙ ap (λ (t : List ℕ). take from text ++ (t ++ pieces_text c.back)) (sym mid)
    ∙ ap (λ (t : List ℕ). take from text ++ (bytes_between text from to ++ t)) (sym back) in
    let is_pieces : IsMadeOf (pieces_text qs) qs = (are, sym (append-nil (pieces_text qs))) in
    let start = boundary text (pieces_text c.front) (c.mid ++ c.back) (pieces_join c.mid c.back [] (c.mid_stays (pieces_text c.back ++ [])) c.back_is) (c.whole ∙ ap (λ (t : List ℕ). pieces_text c.front ++ t) (sym (text_append c.mid c.back))) in
    let stop = boundary text (pieces_text c.front ++ pieces_text c.mid) c.back c.back_is (c.whole ∙ sym (append_assoc (pieces_text c.front) (pieces_text c.mid) (pieces_text c.back))) in
    let at_start = subst (IsCharBoundary text) (sym c.at_from) start in
    let end : length (pieces_text c.front ++ pieces_text c.mid) ≡ to = omega (arith, c.at_from, c.at_to, length-append (pieces_text c.front) (pieces_text c.mid)) in
    let at_stop = subst (IsCharBoundary text) end stop in
    let ls_front = first_third (map (lexeme_at text) tokens) (lexemes c.front) (lexemes c.mid) (lexemes c.back) i c.read c.front_count in
    let ls_back = last_third (map (lexeme_at text) tokens) (lexemes c.front) (lexemes c.mid) (lexemes c.back) i j c.read c.front_count c.mid_count in (
      pieces_text qs,
      tokens_from 0 qs,
      record {
        is = result;
        put = (take from text, drop to text, drop to text, (whole, omega (arith, ap (λ (t : List ℕ). length t) front, c.at_from)), result, refl);
        lexed = (qs, is_pieces, refl);
        lexemes = tokens_read_pieces (pieces_text qs) qs is_pieces ∙ lexemes_append c.front (seg.0 ++ c.back) ∙ ap (λ (t : List Lexeme). lexemes c.front ++ t) (lexemes_append seg.0 c.back)
            ∙ ap (λ (t : List Lexeme). t ++ (lexemes seg.0 ++ lexemes c.back)) (sym ls_front)
            ∙ ap (λ (t : List Lexeme). take i (map (lexeme_at text) tokens) ++ (t ++ lexemes c.back)) (sym seg.3)
            ∙ ap (λ (t : List Lexeme). take i (map (lexeme_at text) tokens) ++ (ls ++ t)) (sym ls_back);
        utf8 = λ u v. subst IsUtf8 (sym result) (IsUtf8-append (take from text) (new ++ drop to text) (IsUtf8-take text from u at_start) (IsUtf8-append new (drop to text) v (IsUtf8-drop text to u at_stop)));
      },
    )
