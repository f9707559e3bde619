-- Pieces one after the other: a front goes on by a piece, and there is one list of pieces (for the crates above).
use Rattle.std.proofs.Common.{◌≡◌, ℕ, ◌+◌, ◌≤◌, ◌==◌, Bool, true, false, not, eqb-true, List, [], ◌∷◌, ◌++◌, length, take, drop, zero-add, ◌⊎◌, inl, inr, Result, Ok, Err, refl, sym, ap, subst, ◌∙◌, arith, append_assoc, take_at, append-nil, length-append, drop_at, MatchResult, IfOk, IsErrAnd}
use Rattle.proto_base.proofs.Common.{append_cancel_left, nil_from_length, same_from_push, Vec, text_limit}
use Rattle.proto_text.specs.Common.{PieceKind, LexFault, BadChar, OpenComment, OpenString, BadEscape, BadNumber, Digit, TextFault, Token, Piece, IsLexeme, EndsBefore, pieces_text, ArePieces, IsFront, IsPiecesIn, IsFault, IsRun, PieceFound, piece_at, token_at, tokens_from, AreTokens, AreTokensIn, AreAllowed, may_begin, Profile, class_of, IsFaultIn, IsLexed, IsLexErrorIn, NothingBegins, text_fault_of, BeginsWith, IsFirstPiece, IsQuoted, IsAllowed, Solid, Text, Punctuation}
use Rattle.proto_text.specs.declared.fault.TextFault.TheVariants.{TooLarge, NotUtf8, At, NoMemory}
use Rattle.proto_base.specs.declared.profile.Profile.TheVariants as profile
use Rattle.proto_text.proofs.WordChange.{not_empty}
use Rattle.proto_text.proofs.Begins.{raw_is, piece_again, found_at, fault_again}
use Rattle.proto_base.specs.declared.or_no_memory.OrNoMemory.{OrNoMemory}
use Rattle.proto_base.specs.declared.or_no_memory.OrNoMemory.TheVariants as or

text_push : (ps : List Piece) (p : Piece) (rest : List ℕ) → pieces_text (ps ++ p ∷ []) ++ rest ≡ pieces_text ps ++ (p.bytes ++ rest)
text_push [] p rest = ap (λ (t : List ℕ). t ++ rest) (append-nil p.bytes)
text_push (q ∷ ps) p rest = append_assoc q.bytes (pieces_text (ps ++ p ∷ [])) rest ∙ ap (λ (t : List ℕ). q.bytes ++ t) (text_push ps p rest) ∙ sym (append_assoc q.bytes (pieces_text ps) (p.bytes ++ rest))

pieces_push : (ps : List Piece) (p : Piece) (rest : List ℕ) → ArePieces ps (p.bytes ++ rest) → IsLexeme p.kind p.bytes → EndsBefore p.kind rest → ArePieces (ps ++ p ∷ []) rest
pieces_push [] p rest h is ends = (is, ends, tt)
pieces_push (q ∷ ps) p rest h is ends = (h.0, subst (EndsBefore q.kind) (sym (text_push ps p rest)) h.1, pieces_push ps p rest h.2 is ends)

-- one piece more
pub front_push : (text : List ℕ) (ps : List Piece) (p : Piece) (rest : List ℕ) → IsFront text ps (p.bytes ++ rest) → IsLexeme p.kind p.bytes → EndsBefore p.kind rest → IsFront text (ps ++ p ∷ []) rest
front_push text ps p rest h is ends = (pieces_push ps p rest h.0 is ends, h.1 ∙ sym (text_push ps p rest))

pub length_push : (ps : List Piece) (p : Piece) → length (pieces_text (ps ++ p ∷ [])) ≡ length (pieces_text ps) + length p.bytes
length_push [] p = omega (arith, ap length (append-nil p.bytes))
length_push (q ∷ ps) p = omega (arith, length-append q.bytes (pieces_text (ps ++ p ∷ [])), length-append q.bytes (pieces_text ps), length_push ps p)

pub tokens_push : (at : ℕ) (ps : List Piece) (p : Piece) → tokens_from at (ps ++ p ∷ []) ≡ tokens_from at ps ++ token_at p.kind (at + length (pieces_text ps)) (length p.bytes)
tokens_push at [] p = append-nil (token_at p.kind at (length p.bytes)) ∙ ap (λ (n : ℕ). token_at p.kind n (length p.bytes)) (omega arith)
tokens_push at (q ∷ ps) p =
    let n : (at + length q.bytes) + length (pieces_text ps) ≡ at + length (q.bytes ++ pieces_text ps) = omega (arith, length-append q.bytes (pieces_text ps)) in
    ap (λ (t : List Token). token_at q.kind at (length q.bytes) ++ t) (tokens_push (at + length q.bytes) ps p)
    ∙ sym (append_assoc (token_at q.kind at (length q.bytes)) (tokens_from (at + length q.bytes) ps) (token_at p.kind ((at + length q.bytes) + length (pieces_text ps)) (length p.bytes)))
    ∙ ap (λ (n : ℕ). (token_at q.kind at (length q.bytes) ++ tokens_from (at + length q.bytes) ps) ++ token_at p.kind n (length p.bytes)) n

-- ---- one list of pieces

-- no piece begins that the profile has
abbrev pub IsStuck : Profile → List ℕ → Type 0
IsStuck p rest = (kind : PieceKind) (piece more : List ℕ) → rest ≡ piece ++ more → IsLexeme kind piece → EndsBefore kind more → may_begin p piece ≡ true → ⊥

abbrev ok : PieceKind × ℕ → PieceFound
ok x = Ok x

ok_is : (x y : PieceKind × ℕ) → ok x ≡ ok y → x ≡ y
ok_is x y e = cc

ok_not_err : (x : PieceKind × ℕ) (f : LexFault) → ok x ≡ Err f → ⊥
ok_not_err x f e = cc

first_is : (p : Piece) (ps : List Piece) (rest : List ℕ) → ArePieces (p ∷ ps) rest → piece_at (pieces_text (p ∷ ps) ++ rest) ≡ Ok (p.kind, length p.bytes)
first_is p ps rest h = ap piece_at (append_assoc p.bytes (pieces_text ps) rest) ∙ piece_again p.kind p.bytes (pieces_text ps ++ rest) (raw_is p.kind p.bytes h.0) h.1

abbrev make : PieceKind → List ℕ → Piece
make kind bytes = record { kind = kind; bytes = bytes }

piece_is : (p q : Piece) → p.kind ≡ q.kind → p.bytes ≡ q.bytes → p ≡ q
piece_is p q k b = ap (λ (x : PieceKind). make x p.bytes) k ∙ ap (make q.kind) b

not_stuck : (profile : Profile) (p : Piece) (ps : List Piece) (rest stuck : List ℕ) → ArePieces (p ∷ ps) rest → may_begin profile p.bytes ≡ true → pieces_text (p ∷ ps) ++ rest ≡ stuck → IsStuck profile stuck → ⊥
not_stuck profile p ps rest stuck h has e s = s p.kind p.bytes (pieces_text ps ++ rest) (sym e ∙ append_assoc p.bytes (pieces_text ps) rest) h.0 h.1 has

pub same_front : (profile : Profile) (ps qs : List Piece) (r s : List ℕ) → ArePieces ps r → ArePieces qs s → AreAllowed profile ps → AreAllowed profile qs → pieces_text ps ++ r ≡ pieces_text qs ++ s → IsStuck profile r → IsStuck profile s → (ps ≡ qs) × (r ≡ s)
same_front profile [] [] r s a b f g e x y = (refl, e)
same_front profile [] (q ∷ qs) r s a b f g e x y = absurd (not_stuck profile q qs s r b g.0 (sym e) x)
same_front profile (p ∷ ps) [] r s a b f g e x y = absurd (not_stuck profile p ps r s a f.0 e y)
same_front profile (p ∷ ps) (q ∷ qs) r s a b f g e x y =
    let one = ok_is (p.kind, length p.bytes) (q.kind, length q.bytes) (sym (first_is p ps r a) ∙ ap piece_at e ∙ first_is q qs s b) in
    let kind : p.kind ≡ q.kind = ap (λ (x : PieceKind × ℕ). x.0) one in
    let len : length p.bytes ≡ length q.bytes = ap (λ (x : PieceKind × ℕ). x.1) one in
    let whole : p.bytes ++ (pieces_text ps ++ r) ≡ q.bytes ++ (pieces_text qs ++ s) = sym (append_assoc p.bytes (pieces_text ps) r) ∙ e ∙ append_assoc q.bytes (pieces_text qs) s in
    let bytes : p.bytes ≡ q.bytes = sym (take_at p.bytes (pieces_text ps ++ r) (length q.bytes) len) ∙ ap (take (length q.bytes)) whole ∙ take_at q.bytes (pieces_text qs ++ s) (length q.bytes) refl in
    let more : pieces_text ps ++ r ≡ pieces_text qs ++ s = append_cancel_left q.bytes (pieces_text ps ++ r) (pieces_text qs ++ s) (ap (λ (t : List ℕ). t ++ (pieces_text ps ++ r)) (sym bytes) ∙ whole) in
    let others = same_front profile ps qs r s a.2 b.2 f.1 g.1 more x y in
    (let head = piece_is p q kind bytes in let tail = others.0 in cc, others.1)

no_piece_at_end : (x : PieceKind × ℕ) → piece_at [] ≡ ok x → ⊥
unfolding piece_at
no_piece_at_end x e = cc

pub end_is_stuck : (profile : Profile) → IsStuck profile []
end_is_stuck profile kind piece more e is ends has = no_piece_at_end (kind, length piece) (ap piece_at e ∙ piece_again kind piece more (raw_is kind piece is) ends)

-- the body of a string is determined by the string
same_body : (text : List ℕ) (q r : ℕ) (b c : List ℕ) → IsQuoted text q b → IsQuoted text r c → b ≡ c
same_body text q r b c x y =
    let e : q ∷ (b ++ q ∷ []) ≡ r ∷ (c ++ r ∷ []) = sym x.1 ∙ y.1 in
    let tail : b ++ q ∷ [] ≡ c ++ r ∷ [] = ap (drop 1) e in
    (same_from_push b c q r tail).0

same_front_of : (a x b y : List ℕ) → a ++ x ≡ b ++ y → length a ≡ length b → a ≡ b
same_front_of a x b y e len = sym (take_at a x (length b) len) ∙ ap (take (length b)) e ∙ take_at b y (length b) refl

-- what is refused is no string
refused : (kind : PieceKind) (piece text : List ℕ) (c : ℕ) (body : List ℕ) → kind ≡ Solid Text → piece ≡ text → IsQuoted text c body → (IsAllowed body → ⊥) → IsLexeme kind piece → ⊥
refused kind piece text c body k p quoted bad is =
    let string : IsLexeme (Solid Text) text = subst (λ (k : PieceKind). IsLexeme k text) k (subst (IsLexeme kind) p is) in
    bad (subst IsAllowed (same_body text string.0 c string.1 body string.2 quoted) string.3)

pub fault_is_stuck : (profile : Profile) (fault : LexFault) (rest : List ℕ) → IsFault fault rest → IsStuck profile rest
fault_is_stuck profile fault rest f kind piece more e is ends has = by fault f (fault_again fault rest f)
  where
    found : piece_at rest ≡ ok (kind, length piece)
    found = ap piece_at e ∙ piece_again kind piece more (raw_is kind piece is) ends

    by : (fault : LexFault) → IsFault fault rest → ((text : List ℕ) × (piece_at rest ≡ found_at fault text)) → ⊥
    by BadChar f again = ok_not_err (kind, length piece) BadChar (sym found ∙ again.1)
    by OpenComment f again = ok_not_err (kind, length piece) OpenComment (sym found ∙ again.1)
    by OpenString f again = ok_not_err (kind, length piece) OpenString (sym found ∙ again.1)
    by BadNumber f again = ok_not_err (kind, length piece) BadNumber (sym found ∙ again.1)
    by BadEscape f again =
        let same = ok_is (kind, length piece) (Solid Text, length f.0) (sym found ∙ ap piece_at f.4 ∙ piece_again (Solid Text) f.0 f.1 (f.2, f.3, f.5) tt) in
        refused kind piece f.0 f.2 f.3 (ap (λ (x : PieceKind × ℕ). x.0) same) (same_front_of piece more f.0 f.1 (sym e ∙ f.4) (ap (λ (x : PieceKind × ℕ). x.1) same)) f.5 f.6 is

-- the fault that a scan shows
abbrev shown : PieceFound → LexFault
shown (Ok x) = BadEscape
shown (Err f) = f

shows : (f : LexFault) (text : List ℕ) → shown (found_at f text) ≡ f
shows BadChar text = refl
shows OpenComment text = refl
shows OpenString text = refl
shows BadEscape text = refl
shows BadNumber text = refl

same_fault : (f g : LexFault) {r s : PieceFound} (a : (text : List ℕ) × (r ≡ found_at f text)) (b : (text : List ℕ) × (s ≡ found_at g text)) → r ≡ s → f ≡ g
same_fault f g a b e = sym (shows f a.0) ∙ ap shown (sym a.1 ∙ e ∙ b.1) ∙ shows g b.0

-- a fault has a byte to stand at
not_at_end : (fault : LexFault) → IsFault fault [] → ⊥
not_at_end BadChar f = let e = f.2 in absurd cc
not_at_end OpenComment f = let e = f.1 in absurd cc
not_at_end OpenString f = let e = f.2 in absurd cc
not_at_end BadEscape f = no_string f.0 f.1 f.2 f.3 f.4 f.5
  where
    no_string : (text more : List ℕ) (c : ℕ) (body : List ℕ) → [] ≡ text ++ more → IsQuoted text c body → ⊥
    no_string text more c body e q = let l = ap length e in let t = ap length q.1 in omega (arith, length-append text more)
not_at_end BadNumber f = no_run f.0 f.1 f.2 f.3
  where
    no_run : (run more : List ℕ) → [] ≡ run ++ more → IsRun Digit run → ⊥
    no_run [] more e r = r
    no_run (b ∷ run) more e r = absurd cc

-- what the first piece begins with, the text begins with
begins_alike : (profile : Profile) (kind : PieceKind) (piece more rest : List ℕ) → rest ≡ piece ++ more → IsLexeme kind piece → may_begin profile piece ≡ may_begin profile rest
begins_alike profile kind [] more rest e is = absurd (not_empty kind is)
begins_alike profile.AsWritten kind (b ∷ piece) more rest e is = refl
begins_alike profile.Core kind (b ∷ piece) more rest e is = ap (may_begin profile.Core) (sym e)

left_out_is_stuck : (profile : Profile) (rest : List ℕ) → may_begin profile rest ≡ false → IsStuck profile rest
left_out_is_stuck profile rest out kind piece more e is ends has =
    let a = begins_alike profile kind piece more rest e is in
    true_not_false (sym has ∙ a ∙ out)
  where
    true_not_false : true ≡ false → ⊥
    true_not_false z = cc

stuck_in : (profile : Profile) (fault : LexFault) (rest : List ℕ) → NothingBegins profile fault rest → IsStuck profile rest
stuck_in profile fault rest (inl f) = fault_is_stuck profile fault rest f
stuck_in profile fault rest (inr f) = left_out_is_stuck profile rest f.1

-- a piece that is left out is one in the other profile
mark_begins : (profile : Profile) (rest : List ℕ) (fault : LexFault) → may_begin profile rest ≡ false → IsFault fault rest → ⊥
unfolding piece_at class_of
mark_begins profile.AsWritten rest fault out f = cc
mark_begins profile.Core [] fault out f = cc
mark_begins profile.Core (b ∷ rest) fault out f =
    let colon : b ≡ 58 = is_colon (b == 58) refl out in
    let again = fault_again fault (b ∷ rest) f in
    not_so fault again.0 (ap (λ (c : ℕ). piece_at (c ∷ rest)) (sym colon) ∙ again.1)
  where
    is_colon : (t : Bool) → (b == 58) ≡ t → not t ≡ false → b ≡ 58
    is_colon true e o = eqb-true b 58 e
    is_colon false e o = absurd cc

    apart : Solid Punctuation ≡ Solid Text → ⊥
    apart z = cc

    not_so : (fault : LexFault) (text : List ℕ) → piece_at (58 ∷ rest) ≡ found_at fault text → ⊥
    not_so BadChar text e = cc
    not_so OpenComment text e = cc
    not_so OpenString text e = cc
    not_so BadEscape text e = apart (ap (λ (x : PieceKind × ℕ). x.0) (ok_is (Solid Punctuation, 1) (Solid Text, length text) e))
    not_so BadNumber text e = cc

same_in : (profile : Profile) (f g : LexFault) (r s : List ℕ) → r ≡ s → NothingBegins profile f r → NothingBegins profile g s → f ≡ g
same_in profile f g r s e (inl a) (inl b) = same_fault f g (fault_again f r a) (fault_again g s b) (ap piece_at e)
same_in profile f g r s e (inr a) (inr b) = a.0 ∙ sym b.0
same_in profile f g r s e (inl a) (inr b) = absurd (mark_begins profile s f b.1 (subst (IsFault f) e a))
same_in profile f g r s e (inr a) (inl b) = absurd (mark_begins profile r g a.1 (subst (IsFault g) (sym e) b))

no_end_in : (profile : Profile) (fault : LexFault) → NothingBegins profile fault [] → ⊥
no_end_in profile fault (inl f) = not_at_end fault f
no_end_in profile.AsWritten fault (inr f) = let e = f.1 in absurd cc
no_end_in profile.Core fault (inr f) = let e = f.1 in absurd cc

allowed_push : (profile : Profile) (ps : List Piece) (p : Piece) → AreAllowed profile ps → may_begin profile p.bytes ≡ true → AreAllowed profile (ps ++ p ∷ [])
allowed_push profile [] p h e = (e, tt)
allowed_push profile (q ∷ ps) p h e = (h.0, allowed_push profile ps p h.1 e)

-- the language as written has each piece
pub all_allowed : (ps : List Piece) → AreAllowed profile.AsWritten ps
all_allowed [] = tt
all_allowed (p ∷ ps) = (refl, all_allowed ps)

-- ---- the loop over the text

-- these tokens were found in the text before rest
pub record IsLexedUpTo (profile : Profile) (text rest : List ℕ) (at : ℕ) (tokens : List Token) : Type 0 where
  pub pieces : List Piece
  pub front : IsFront text pieces rest
  pub allowed : AreAllowed profile pieces
  pub place : at ≡ length (pieces_text pieces)
  pub found : tokens ≡ tokens_from 0 pieces
  pub room : at + length rest ≤ text_limit

pub lexed_none : (profile : Profile) (text : List ℕ) → length text ≤ text_limit → IsLexedUpTo profile text text 0 []
lexed_none profile text short = record { pieces = []; front = (tt, refl); allowed = tt; place = refl; found = refl; room = omega arith }

-- the piece at the front of rest is found
pub lexed_more : (profile : Profile) (text rest : List ℕ) (at : ℕ) (tokens : List Token) (kind : PieceKind) (n : ℕ) → IsLexedUpTo profile text rest at tokens → may_begin profile rest ≡ true → BeginsWith kind rest n
    → IsLexedUpTo profile text (drop n rest) (at + n) (tokens ++ token_at kind at n)
lexed_more profile text rest at tokens kind n so_far has b =
    let p : Piece = record { kind = kind; bytes = b.piece } in
    let rest-is : drop n rest ≡ b.rest = ap (drop n) b.parts ∙ drop_at b.piece b.rest n (sym b.len) in
    let front = front_push text so_far.pieces p b.rest (subst (IsFront text so_far.pieces) b.parts so_far.front) b.is b.ends in
    record {
      pieces = so_far.pieces ++ p ∷ [];
      front = rw rest-is front;
      allowed = allowed_push profile so_far.pieces p so_far.allowed (begins_alike profile kind b.piece b.rest rest b.parts b.is ∙ has);
      place = omega (arith, length_push so_far.pieces p, so_far.place, b.len);
      found = ap (λ (t : List Token). t ++ token_at kind at n) so_far.found ∙ ap (λ (k : ℕ). tokens_from 0 so_far.pieces ++ token_at kind k n) so_far.place
          ∙ ap (λ (k : ℕ). tokens_from 0 so_far.pieces ++ token_at kind (length (pieces_text so_far.pieces)) k) b.len ∙ sym (moved so_far.pieces p);
      room = omega (arith, so_far.room, ap length b.parts, length-append b.piece b.rest, b.len, ap length rest-is);
    }
  where
    moved : (ps : List Piece) (p : Piece) → tokens_from 0 (ps ++ p ∷ []) ≡ tokens_from 0 ps ++ token_at p.kind (length (pieces_text ps)) (length p.bytes)
    moved ps p = tokens_push 0 ps p ∙ ap (λ (n : ℕ). tokens_from 0 ps ++ token_at p.kind n (length p.bytes)) (zero-add (length (pieces_text ps)))

pub lexed_all : (profile : Profile) (text rest : List ℕ) (at : ℕ) (tokens : List Token) → IsLexedUpTo profile text rest at tokens → length rest ≡ 0 → AreTokensIn profile text tokens
lexed_all profile text rest at tokens so_far none = (so_far.pieces, (subst (λ (r : List ℕ). IsFront text so_far.pieces r) (nil_from_length rest none) so_far.front, so_far.allowed), so_far.found)

pub lexed_fault : (profile : Profile) (text rest : List ℕ) (at : ℕ) (tokens : List Token) (fault : LexFault) → IsLexedUpTo profile text rest at tokens → NothingBegins profile fault rest → IsFaultIn profile text at fault
lexed_fault profile text rest at tokens fault so_far e = (so_far.pieces, rest, so_far.front, so_far.allowed, so_far.place, e)

-- why the loop stops
pub lexed_stop : (profile : Profile) (text rest : List ℕ) (at : ℕ) (tokens : List Token) (stop : OrNoMemory LexFault) → IsLexedUpTo profile text rest at tokens → IsFirstPiece rest (Err stop) → IsLexErrorIn profile text (text_fault_of at stop)
lexed_stop profile text rest at tokens (or.Fault fault) so_far f = lexed_fault profile text rest at tokens fault so_far (inl f)
lexed_stop profile text rest at tokens or.NoMemory so_far f = tt

pub lexed_out : (profile : Profile) (text rest : List ℕ) (at : ℕ) (tokens : List Token) → IsLexedUpTo profile text rest at tokens → may_begin profile rest ≡ false → IsLexErrorIn profile text (text_fault_of at (or.Fault BadChar))
lexed_out profile text rest at tokens so_far out = lexed_fault profile text rest at tokens BadChar so_far (inr (refl, out))

-- the answer is the only one
pub only_tokens : (profile : Profile) (text : List ℕ) (tokens : List Token) (ps : List Piece) → AreTokensIn profile text tokens → IsPiecesIn profile text ps → tokens ≡ tokens_from 0 ps
only_tokens profile text tokens ps are is =
    let same = same_front profile are.0 ps [] [] are.1.0.0 is.0.0 are.1.1 is.1 (sym are.1.0.1 ∙ is.0.1) (end_is_stuck profile) (end_is_stuck profile) in
    are.2 ∙ ap (tokens_from 0) same.0

pub no_fault : (profile : Profile) (text : List ℕ) (ps : List Piece) (offset : ℕ) (fault : LexFault) → IsPiecesIn profile text ps → IsFaultIn profile text offset fault → ⊥
no_fault profile text ps offset fault is at =
    let same = same_front profile ps at.0 [] at.1 is.0.0 at.2.0 is.1 at.3 (sym is.0.1 ∙ at.2.1) (end_is_stuck profile) (stuck_in profile fault at.1 at.5) in
    no_end_in profile fault (subst (NothingBegins profile fault) (sym same.1) at.5)

pub only_fault : (profile : Profile) (text : List ℕ) (o q : ℕ) (f g : LexFault) → IsFaultIn profile text o f → IsFaultIn profile text q g → (o ≡ q) × (f ≡ g)
only_fault profile text o q f g a b =
    let same = same_front profile a.0 b.0 a.1 b.1 a.2.0 b.2.0 a.3 b.3 (sym a.2.1 ∙ b.2.1) (stuck_in profile f a.1 a.5) (stuck_in profile g b.1 b.5) in
    (a.4 ∙ ap (λ (ps : List Piece). length (pieces_text ps)) same.0 ∙ sym b.4, same_in profile f g a.1 b.1 same.1 a.5 b.5)

pub is_only : (profile : Profile) (text : List ℕ) (result : Result (Vec Token) TextFault) (ps : List Piece) → IsLexed profile text result → IsPiecesIn profile text ps → MatchResult result (λ tokens. tokens.items ≡ tokens_from 0 ps) (λ e. e ≡ NoMemory)
is_only profile text (Ok tokens) ps h is = only_tokens profile text tokens.items ps h is
is_only profile text (Err (At offset fault)) ps h is = absurd (no_fault profile text ps offset fault is h)
is_only profile text (Err NoMemory) ps h is = refl
is_only profile text (Err TooLarge) ps h is = absurd h
is_only profile text (Err NotUtf8) ps h is = absurd h

pub is_only_fault : (profile : Profile) (text : List ℕ) (result : Result (Vec Token) TextFault) (offset : ℕ) (fault : LexFault) → IsLexed profile text result → IsFaultIn profile text offset fault → IsErrAnd result (λ e. (e ≡ At offset fault) ⊎ (e ≡ NoMemory))
is_only_fault profile text (Ok tokens) offset fault h at = absurd (no_fault profile text h.0 offset fault h.1 at)
is_only_fault profile text (Err (At o f)) offset fault h at = inl (let same = only_fault profile text o offset f fault h at in let a = same.0 in let b = same.1 in cc)
is_only_fault profile text (Err NoMemory) offset fault h at = inr refl
is_only_fault profile text (Err TooLarge) offset fault h at = absurd h
is_only_fault profile text (Err NotUtf8) offset fault h at = absurd h

-- tokens of a language are the tokens of the text
pub ok_of_text : (profile : Profile) (text : List ℕ) (result : Result (Vec Token) TextFault) → IsLexed profile text result → IfOk result (λ tokens. AreTokens text tokens.items)
ok_of_text profile text (Ok tokens) h = (h.0, h.1.0, h.2)
ok_of_text profile text (Err e) h = tt
