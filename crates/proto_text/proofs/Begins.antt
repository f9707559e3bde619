-- The first piece that is scanned is one that the text begins with, and no other is (for the crates above).
use Rattle.std.proofs.Common.{◌≡◌, ℕ, ◌+◌, ◌-◌, suc, ◌<◌, ◌≤◌, Bool, true, false, cond, eqb, ◌||◌, List, [], ◌∷◌, ◌++◌, length, take, drop, Option, Some, None, Ok, Err, refl, sym, ap, subst, ◌∙◌, arith, ◌⊎◌, inl, inr, append_assoc, IfOk, IsTrue, ◌↔◌, eqb-true, take-append-drop, take_at, length-append}
use Rattle.proto_base.proofs.Common.{prefix_len, length-prefix_len}
use Rattle.proto_text.specs.Common.{Class, Space, Letter, Digit, Quote, Mark, Slash, Other, Word, Number, Text, Punctuation, PieceKind, Blank, LineComment, BlockComment, Solid, LexFault, BadChar, OpenComment, OpenString, BadEscape, BadNumber, class_of, is_identifier, IsOne, IsRun, is_number, is_in_line, opens_comment, HasNoClose, IsLexeme, EndsBefore, IsFault, IsQuoted, IsAllowed, is_body, end_len, BeginsWith, EachByte, Stops, PieceFound, block_found, close_len, comment_at, scanned_number, scanned_string, string_found, piece_of, piece_at}
use Rattle.proto_text.proofs.Ends.{quote_ends, end_found, end_sound, end_misses, end_none}
use Rattle.proto_text.proofs.Runs.{run_len, run_passes, run_stops, close_found, close_sound, close_none, close_misses}

-- the bytes are a piece of the kind, but for what a string stands for
abbrev pub IsRaw : PieceKind → List ℕ → Type 0
IsRaw Blank bytes = IsLexeme Blank bytes
IsRaw LineComment bytes = IsLexeme LineComment bytes
IsRaw BlockComment bytes = IsLexeme BlockComment bytes
IsRaw (Solid Word) bytes = IsLexeme (Solid Word) bytes
IsRaw (Solid Number) bytes = IsLexeme (Solid Number) bytes
IsRaw (Solid Text) bytes = (quote : ℕ) × (body : List ℕ) × IsQuoted bytes quote body
IsRaw (Solid Punctuation) bytes = IsLexeme (Solid Punctuation) bytes

pub raw_is : (kind : PieceKind) (bytes : List ℕ) → IsLexeme kind bytes → IsRaw kind bytes
raw_is Blank bytes is = is
raw_is LineComment bytes is = is
raw_is BlockComment bytes is = is
raw_is (Solid Word) bytes is = is
raw_is (Solid Number) bytes is = is
raw_is (Solid Text) bytes is = (is.0, is.1, is.2)
raw_is (Solid Punctuation) bytes is = is

-- the bytes begin with a piece of the kind, n bytes long
pub record Begins (kind : PieceKind) (bytes : List ℕ) (n : ℕ) : Type 0 where
  pub piece : List ℕ
  pub rest : List ℕ
  pub parts : bytes ≡ piece ++ rest
  pub len : n ≡ length piece
  pub is : IsRaw kind piece
  pub ends : EndsBefore kind rest
  pub some : 0 < n

abbrev ok : PieceKind × ℕ → PieceFound
ok x = Ok x

ok_is : (x y : PieceKind × ℕ) → ok x ≡ ok y → x ≡ y
ok_is x y e = cc

begins_as : (bytes : List ℕ) (x : PieceKind × ℕ) (kind : PieceKind) (n : ℕ) → ok x ≡ Ok (kind, n) → Begins x.0 bytes x.1 → Begins kind bytes n
begins_as bytes x kind n e b = subst (λ (y : PieceKind × ℕ). Begins y.0 bytes y.1) (ok_is x (kind, n) e) b

begins_one : (kind : PieceKind) (b : ℕ) (bytes : List ℕ) → IsRaw kind (b ∷ []) → EndsBefore kind bytes → Begins kind (b ∷ bytes) 1
begins_one kind b bytes is ends = record { piece = b ∷ []; rest = bytes; parts = refl; len = refl; is = is; ends = ends; some = omega arith }

peel : (t : Bool) (x y z : Class) → cond t x y ≡ z → (x ≡ z → ⊥) → y ≡ z
peel true x y z e ne = absurd (ne e)
peel false x y z e ne = e

space≢slash : Space ≡ Slash → ⊥
space≢slash q = cc

letter≢slash : Letter ≡ Slash → ⊥
letter≢slash q = cc

digit≢slash : Digit ≡ Slash → ⊥
digit≢slash q = cc

quote≢slash : Quote ≡ Slash → ⊥
quote≢slash q = cc

mark≢slash : Mark ≡ Slash → ⊥
mark≢slash q = cc

slash_test : (b : ℕ) (t : Bool) → eqb b 47 ≡ t → cond t Slash Other ≡ Slash → b ≡ 47
slash_test b true same e = eqb-true b 47 same
slash_test b false same e = absurd cc

slash_is : (b : ℕ) → class_of b ≡ Slash → b ≡ 47
unfolding class_of
slash_is b e =
    let e1 = peel _ _ _ _ e space≢slash in
    let e2 = peel _ _ _ _ e1 letter≢slash in
    let e3 = peel _ _ _ _ e2 digit≢slash in
    let e4 = peel _ _ _ _ e3 quote≢slash in
    let e5 = peel _ _ _ _ e4 mark≢slash in
    slash_test b (eqb b 47) refl e5

-- ---- runs

run_len_is : (b : ℕ) (bytes : List ℕ) → 1 + prefix_len is_identifier bytes ≡ length (b ∷ take (prefix_len is_identifier bytes) bytes)
run_len_is b bytes = omega (arith, length-prefix_len is_identifier bytes)

word_begins : (b : ℕ) (bytes : List ℕ) → class_of b ≡ Letter → Begins (Solid Word) (b ∷ bytes) (1 + prefix_len is_identifier bytes)
word_begins b bytes class = record {
  piece = b ∷ take (prefix_len is_identifier bytes) bytes;
  rest = drop (prefix_len is_identifier bytes) bytes;
  parts = ap (λ (t : List ℕ). b ∷ t) (sym (take-append-drop (prefix_len is_identifier bytes) bytes));
  len = run_len_is b bytes;
  is = (class, run_passes is_identifier bytes);
  ends = run_stops is_identifier bytes;
  some = omega arith;
}

-- the run that a digit begins
front_is : (b : ℕ) (bytes : List ℕ) (n : ℕ) → take (1 + n) (b ∷ bytes) ≡ b ∷ take n bytes
front_is b bytes n = let e : 1 + n ≡ suc n = omega arith in rw e refl

number_begins : (b : ℕ) (bytes : List ℕ) → class_of b ≡ Digit → is_number (b ∷ take (prefix_len is_identifier bytes) bytes) ≡ true → Begins (Solid Number) (b ∷ bytes) (1 + prefix_len is_identifier bytes)
number_begins b bytes class good = record {
  piece = b ∷ take (prefix_len is_identifier bytes) bytes;
  rest = drop (prefix_len is_identifier bytes) bytes;
  parts = ap (λ (t : List ℕ). b ∷ t) (sym (take-append-drop (prefix_len is_identifier bytes) bytes));
  len = run_len_is b bytes;
  is = ((class, run_passes is_identifier bytes), good);
  ends = run_stops is_identifier bytes;
  some = omega arith;
}

number_is : (b : ℕ) (bytes : List ℕ) (t : Bool) → is_number (b ∷ take (prefix_len is_identifier bytes) bytes) ≡ t → scanned_number (1 + prefix_len is_identifier bytes) (b ∷ bytes) ≡ cond t (Ok (Solid Number, 1 + prefix_len is_identifier bytes)) (Err BadNumber)
unfolding scanned_number
number_is b bytes t e = rw (front_is b bytes (prefix_len is_identifier bytes), e) refl

-- ---- comments

line_begins : (bytes : List ℕ) → Begins LineComment (47 ∷ 47 ∷ bytes) (2 + prefix_len is_in_line bytes)
line_begins bytes = record {
  piece = 47 ∷ 47 ∷ take (prefix_len is_in_line bytes) bytes;
  rest = drop (prefix_len is_in_line bytes) bytes;
  parts = ap (λ (t : List ℕ). 47 ∷ 47 ∷ t) (sym (take-append-drop (prefix_len is_in_line bytes) bytes));
  len = omega (arith, length-prefix_len is_in_line bytes);
  is = (take (prefix_len is_in_line bytes) bytes, refl, run_passes is_in_line bytes);
  ends = run_stops is_in_line bytes;
  some = omega arith;
}

block_begins : (bytes : List ℕ) (n : ℕ) → close_len false bytes ≡ Some n → Begins BlockComment (47 ∷ 42 ∷ bytes) (2 + n)
block_begins bytes n e =
    let c = close_sound false bytes n e in
    record {
      piece = 47 ∷ 42 ∷ (c.body ++ 42 ∷ 47 ∷ []);
      rest = c.rest;
      parts = ap (λ (t : List ℕ). 47 ∷ 42 ∷ t) (c.parts ∙ sym (append_assoc c.body (42 ∷ 47 ∷ []) c.rest));
      len = omega (arith, c.len, length-append c.body (42 ∷ 47 ∷ []));
      is = (c.body, refl, c.clean);
      ends = tt;
      some = omega arith;
    }

-- ---- the first piece

block_sound : (bytes : List ℕ) (o : Option ℕ) (kind : PieceKind) (n : ℕ) → close_len false bytes ≡ o → block_found o ≡ Ok (kind, n) → Begins kind (47 ∷ 42 ∷ bytes) n
block_sound bytes None kind n e f = absurd cc
block_sound bytes (Some m) kind n e f = begins_as (47 ∷ 42 ∷ bytes) (BlockComment, 2 + m) kind n f (block_begins bytes m e)

comment_sound : (b : ℕ) (bytes : List ℕ) (kind : PieceKind) (n : ℕ) (line block : Bool) → eqb b 47 ≡ line → eqb b 42 ≡ block
    → cond line (Ok (LineComment, 2 + prefix_len is_in_line bytes)) (cond block (block_found (close_len false bytes)) (Err BadChar)) ≡ Ok (kind, n) → Begins kind (47 ∷ b ∷ bytes) n
comment_sound b bytes kind n true block l s e = rw (eqb-true b 47 l) (begins_as (47 ∷ 47 ∷ bytes) (LineComment, 2 + prefix_len is_in_line bytes) kind n e (line_begins bytes))
comment_sound b bytes kind n false true l s e = rw (eqb-true b 42 s) (block_sound bytes (close_len false bytes) kind n refl e)
comment_sound b bytes kind n false false l s e = absurd cc

slash_sound : (bytes : List ℕ) (kind : PieceKind) (n : ℕ) → comment_at bytes ≡ Ok (kind, n) → Begins kind (47 ∷ bytes) n
unfolding comment_at
slash_sound [] kind n e = absurd cc
slash_sound (b ∷ bytes) kind n e = comment_sound b bytes kind n (eqb b 47) (eqb b 42) refl refl e

number_sound : (b : ℕ) (bytes : List ℕ) (kind : PieceKind) (n : ℕ) (t : Bool) → class_of b ≡ Digit → is_number (b ∷ take (prefix_len is_identifier bytes) bytes) ≡ t
    → cond {A = PieceFound} t (Ok (Solid Number, 1 + prefix_len is_identifier bytes)) (Err BadNumber) ≡ Ok (kind, n) → Begins kind (b ∷ bytes) n
number_sound b bytes kind n true class good e = begins_as (b ∷ bytes) (Solid Number, 1 + prefix_len is_identifier bytes) kind n e (number_begins b bytes class good)
number_sound b bytes kind n false class good e = absurd cc

string_sound_by : (b : ℕ) (bytes : List ℕ) (o : Option ℕ) (kind : PieceKind) (n : ℕ) → class_of b ≡ Quote → end_len false b bytes ≡ o → string_found o ≡ Ok (kind, n) → Begins kind (b ∷ bytes) n
string_sound_by b bytes None kind n class found e = absurd cc
string_sound_by b bytes (Some m) kind n class found e =
    let c = end_sound false b bytes m found in
    begins_as (b ∷ bytes) (Solid Text, 1 + m) kind n e (record {
      piece = b ∷ (c.body ++ b ∷ []);
      rest = c.rest;
      parts = ap (λ (t : List ℕ). b ∷ t) (c.parts ∙ sym (append_assoc c.body (b ∷ []) c.rest));
      len = omega (arith, c.len, length-append c.body (b ∷ []));
      is = (b, c.body, (class, refl, c.is));
      ends = tt;
      some = omega arith;
    })

string_sound : (b : ℕ) (bytes : List ℕ) (kind : PieceKind) (n : ℕ) → class_of b ≡ Quote → scanned_string b bytes ≡ Ok (kind, n) → Begins kind (b ∷ bytes) n
unfolding scanned_string
string_sound b bytes kind n class e = string_sound_by b bytes (end_len false b bytes) kind n class refl e

class_sound : (class : Class) (b : ℕ) (bytes : List ℕ) (kind : PieceKind) (n : ℕ) → class_of b ≡ class → piece_of class b bytes ≡ Ok (kind, n) → Begins kind (b ∷ bytes) n
class_sound Space b bytes kind n c e = begins_as (b ∷ bytes) (Blank, 1) kind n e (begins_one Blank b bytes (b, refl, c) tt)
class_sound Letter b bytes kind n c e = begins_as (b ∷ bytes) (Solid Word, 1 + prefix_len is_identifier bytes) kind n e (word_begins b bytes c)
class_sound Digit b bytes kind n c e =
    number_sound b bytes kind n (is_number (b ∷ take (prefix_len is_identifier bytes) bytes)) c refl (sym (number_is b bytes (is_number (b ∷ take (prefix_len is_identifier bytes) bytes)) refl) ∙ e)
class_sound Quote b bytes kind n c e = string_sound b bytes kind n c e
class_sound Mark b bytes kind n c e = begins_as (b ∷ bytes) (Solid Punctuation, 1) kind n e (begins_one (Solid Punctuation) b bytes (b, refl, c) tt)
class_sound Slash b bytes kind n c e = rw (slash_is b c) (slash_sound bytes kind n e)
class_sound Other b bytes kind n c e = absurd cc

-- what is found is there
pub piece_sound : (bytes : List ℕ) (kind : PieceKind) (n : ℕ) → piece_at bytes ≡ Ok (kind, n) → Begins kind bytes n
unfolding piece_at
piece_sound [] kind n e = absurd cc
piece_sound (b ∷ bytes) kind n e = class_sound (class_of b) b bytes kind n refl e

-- what is there is found
one_again : (class : Class) (kind : PieceKind) (piece rest : List ℕ) → IsOne class piece → ((b : ℕ) (more : List ℕ) → piece_of class b more ≡ Ok (kind, 1)) → piece_at (piece ++ rest) ≡ Ok (kind, length piece)
unfolding piece_at
one_again class kind piece rest one gives = rw (one.1, one.2) (gives one.0 rest)

run_again : (b : ℕ) (bytes rest : List ℕ) → EachByte is_identifier bytes → Stops is_identifier rest → 1 + prefix_len is_identifier (bytes ++ rest) ≡ suc (length bytes)
run_again b bytes rest each stops = let e = run_len is_identifier bytes rest each stops in omega arith

word_again : (piece rest : List ℕ) → IsRun Letter piece → Stops is_identifier rest → piece_at (piece ++ rest) ≡ Ok (Solid Word, length piece)
unfolding piece_at
word_again [] rest run stops = absurd run
word_again (b ∷ bytes) rest run stops = rw run.0 (ap (λ (n : ℕ). ok (Solid Word, n)) (run_again b bytes rest run.1 stops))

number_again : (piece rest : List ℕ) (t : Bool) → IsRun Digit piece → Stops is_identifier rest → is_number piece ≡ t → piece_at (piece ++ rest) ≡ cond {A = PieceFound} t (Ok (Solid Number, length piece)) (Err BadNumber)
unfolding piece_at scanned_number
number_again [] rest t run stops good = absurd run
number_again (b ∷ bytes) rest t run stops good =
    let len = run_again b bytes rest run.1 stops in
    let front = take_at (b ∷ bytes) rest (suc (length bytes)) refl in
    let test : is_number (take (suc (length bytes)) (b ∷ (bytes ++ rest))) ≡ t = ap is_number front ∙ good in
    rw (run.0, len) (ap (λ (u : Bool). cond {A = PieceFound} u (Ok (Solid Number, suc (length bytes))) (Err BadNumber)) test)

line_again : (piece rest : List ℕ) → IsLexeme LineComment piece → EndsBefore LineComment rest → piece_at (piece ++ rest) ≡ Ok (LineComment, length piece)
unfolding piece_at class_of comment_at
line_again piece rest is ends =
    let len = run_len is_in_line is.0 rest is.2 ends in
    let n : 2 + prefix_len is_in_line (is.0 ++ rest) ≡ suc (suc (length is.0)) = omega arith in
    rw is.1 (ap (λ (n : ℕ). ok (LineComment, n)) n)

block_again : (piece rest : List ℕ) → IsLexeme BlockComment piece → piece_at (piece ++ rest) ≡ Ok (BlockComment, length piece)
unfolding piece_at class_of comment_at
block_again piece rest is =
    let found = close_found false is.0 rest is.2 in
    let whole : piece ++ rest ≡ 47 ∷ 42 ∷ (is.0 ++ 42 ∷ 47 ∷ rest) = ap (λ (t : List ℕ). t ++ rest) is.1 ∙ ap (λ (t : List ℕ). 47 ∷ 42 ∷ t) (append_assoc is.0 (42 ∷ 47 ∷ []) rest) in
    let n : 2 + (length is.0 + 2) ≡ length piece = omega (arith, ap length is.1, length-append is.0 (42 ∷ 47 ∷ [])) in
    ap piece_at whole ∙ ap block_found found ∙ ap (λ (n : ℕ). ok (BlockComment, n)) n

string_again : (piece rest : List ℕ) (quote : ℕ) (body : List ℕ) → IsQuoted piece quote body → piece_at (piece ++ rest) ≡ Ok (Solid Text, length piece)
unfolding piece_at scanned_string
string_again piece rest quote body is =
    let found = end_found false quote body rest (quote_ends quote is.0) is.2 in
    let whole : piece ++ rest ≡ quote ∷ (body ++ quote ∷ rest) = ap (λ (t : List ℕ). t ++ rest) is.1 ∙ ap (λ (t : List ℕ). quote ∷ t) (append_assoc body (quote ∷ []) rest) in
    let n : 1 + (length body + 1) ≡ length piece = omega (arith, ap length is.1, length-append body (quote ∷ [])) in
    let class : piece_at (quote ∷ (body ++ quote ∷ rest)) ≡ scanned_string quote (body ++ quote ∷ rest) = rw is.0 refl in
    ap piece_at whole ∙ class ∙ ap string_found found ∙ ap (λ (n : ℕ). ok (Solid Text, n)) n

pub piece_again : (kind : PieceKind) (piece rest : List ℕ) → IsRaw kind piece → EndsBefore kind rest → piece_at (piece ++ rest) ≡ Ok (kind, length piece)
piece_again Blank piece rest is ends = one_again Space Blank piece rest is (λ b more. refl)
piece_again LineComment piece rest is ends = line_again piece rest is ends
piece_again BlockComment piece rest is ends = block_again piece rest is
piece_again (Solid Word) piece rest is ends = word_again piece rest is ends
piece_again (Solid Number) piece rest is ends = number_again piece rest true is.0 ends is.1
piece_again (Solid Text) piece rest is ends = string_again piece rest is.0 is.1 is.2
piece_again (Solid Punctuation) piece rest is ends = one_again Mark (Solid Punctuation) piece rest is (λ b more. refl)

-- ---- faults

abbrev fault_as : LexFault → PieceFound
fault_as f = Err f

err_is : (a b : LexFault) → fault_as a ≡ fault_as b → a ≡ b
err_is a b e = cc

fault_from : (bytes : List ℕ) (a b : LexFault) → fault_as a ≡ Err b → IsFault a bytes → IsFault b bytes
fault_from bytes a b e f = subst (λ (x : LexFault). IsFault x bytes) (err_is a b e) f

open_fault : (bytes : List ℕ) (o : Option ℕ) (fault : LexFault) → close_len false bytes ≡ o → block_found o ≡ Err fault → IsFault fault (47 ∷ 42 ∷ bytes)
open_fault bytes None fault e f = fault_from (47 ∷ 42 ∷ bytes) OpenComment fault f (bytes, refl, close_none false bytes e)
open_fault bytes (Some n) fault e f = absurd cc

comment_fault : (b : ℕ) (bytes : List ℕ) (fault : LexFault) (line block : Bool) → eqb b 47 ≡ line → eqb b 42 ≡ block
    → cond {A = PieceFound} line (Ok (LineComment, 2 + prefix_len is_in_line bytes)) (cond block (block_found (close_len false bytes)) (Err BadChar)) ≡ Err fault → IsFault fault (47 ∷ b ∷ bytes)
unfolding class_of
comment_fault b bytes fault true block l s e = absurd cc
comment_fault b bytes fault false true l s e = rw (eqb-true b 42 s) (open_fault bytes (close_len false bytes) fault refl e)
comment_fault b bytes fault false false l s e =
    let other : (eqb b 47 || eqb b 42) ≡ false = rw (l, s) refl in
    fault_from (47 ∷ b ∷ bytes) BadChar fault e (47, b ∷ bytes, refl, inr (refl, other))

slash_fault : (bytes : List ℕ) (fault : LexFault) → comment_at bytes ≡ Err fault → IsFault fault (47 ∷ bytes)
unfolding comment_at class_of
slash_fault [] fault e = fault_from (47 ∷ []) BadChar fault e (47, [], refl, inr (refl, tt))
slash_fault (b ∷ bytes) fault e = comment_fault b bytes fault (eqb b 47) (eqb b 42) refl refl e

number_fault : (b : ℕ) (bytes : List ℕ) (fault : LexFault) (t : Bool) → class_of b ≡ Digit → is_number (b ∷ take (prefix_len is_identifier bytes) bytes) ≡ t
    → cond {A = PieceFound} t (Ok (Solid Number, 1 + prefix_len is_identifier bytes)) (Err BadNumber) ≡ Err fault → IsFault fault (b ∷ bytes)
number_fault b bytes fault true class good e = absurd cc
number_fault b bytes fault false class good e =
    fault_from (b ∷ bytes) BadNumber fault e
    (b ∷ take (prefix_len is_identifier bytes) bytes, drop (prefix_len is_identifier bytes) bytes, ap (λ (t : List ℕ). b ∷ t) (sym (take-append-drop (prefix_len is_identifier bytes) bytes)), (class, run_passes is_identifier bytes), run_stops is_identifier bytes, good)

string_fault_by : (b : ℕ) (bytes : List ℕ) (o : Option ℕ) (fault : LexFault) → class_of b ≡ Quote → end_len false b bytes ≡ o → string_found o ≡ Err fault → IsFault fault (b ∷ bytes)
string_fault_by b bytes None fault class found e = fault_from (b ∷ bytes) OpenString fault e (b, bytes, refl, class, end_misses b bytes (quote_ends b class) found)
string_fault_by b bytes (Some n) fault class found e = absurd cc

string_fault : (b : ℕ) (bytes : List ℕ) (fault : LexFault) → class_of b ≡ Quote → scanned_string b bytes ≡ Err fault → IsFault fault (b ∷ bytes)
unfolding scanned_string
string_fault b bytes fault class e = string_fault_by b bytes (end_len false b bytes) fault class refl e

class_fault : (class : Class) (b : ℕ) (bytes : List ℕ) (fault : LexFault) → class_of b ≡ class → piece_of class b bytes ≡ Err fault → IsFault fault (b ∷ bytes)
class_fault Space b bytes fault c e = absurd cc
class_fault Letter b bytes fault c e = absurd cc
class_fault Digit b bytes fault c e =
    number_fault b bytes fault (is_number (b ∷ take (prefix_len is_identifier bytes) bytes)) c refl (sym (number_is b bytes (is_number (b ∷ take (prefix_len is_identifier bytes) bytes)) refl) ∙ e)
class_fault Quote b bytes fault c e = string_fault b bytes fault c e
class_fault Mark b bytes fault c e = absurd cc
class_fault Slash b bytes fault c e = rw (slash_is b c) (slash_fault bytes fault e)
class_fault Other b bytes fault c e = fault_from (b ∷ bytes) BadChar fault e (b, bytes, refl, inl c)

neither : (a b : Bool) (x y : PieceFound) → (a || b) ≡ false → cond a x (cond b y (Err BadChar)) ≡ Err BadChar
neither true b x y e = absurd cc
neither false true x y e = absurd cc
neither false false x y e = refl

bad_slash : (more : List ℕ) → Stops opens_comment more → comment_at more ≡ Err BadChar
unfolding comment_at
bad_slash [] stops = refl
bad_slash (b ∷ more) stops = neither (eqb b 47) (eqb b 42) (Ok (LineComment, 2 + prefix_len is_in_line more)) (block_found (close_len false more)) stops

bad_char : (c : ℕ) (more : List ℕ) → (class_of c ≡ Other) ⊎ ((class_of c ≡ Slash) × Stops opens_comment more) → piece_of (class_of c) c more ≡ Err BadChar
bad_char c more (inl other) = rw other refl
bad_char c more (inr slash) = rw slash.0 (bad_slash more slash.1)

open_again : (more : List ℕ) → HasNoClose more → piece_at (47 ∷ 42 ∷ more) ≡ Err OpenComment
unfolding piece_at class_of comment_at
open_again more clean = ap block_found (close_misses more clean)

open_string : (c : ℕ) (more : List ℕ) → ((body back : List ℕ) → more ≡ body ++ c ∷ back → is_body false c body ≡ true → ⊥) → scanned_string c more ≡ Err OpenString
unfolding scanned_string
open_string c more h = ap string_found (end_none c more h)

pub fault_sound : (bytes : List ℕ) (fault : LexFault) → 0 < length bytes → piece_at bytes ≡ Err fault → IsFault fault bytes
unfolding piece_at
fault_sound [] fault some e = absurd (omega arith)
fault_sound (b ∷ bytes) fault some e = class_fault (class_of b) b bytes fault refl e

-- what the scan finds at a fault: the fault, or a string
abbrev pub found_at : LexFault → List ℕ → PieceFound
found_at BadEscape text = Ok (Solid Text, length text)
found_at BadChar text = Err BadChar
found_at OpenComment text = Err OpenComment
found_at OpenString text = Err OpenString
found_at BadNumber text = Err BadNumber

pub fault_again : (fault : LexFault) (bytes : List ℕ) → IsFault fault bytes → (text : List ℕ) × (piece_at bytes ≡ found_at fault text)
unfolding piece_at
fault_again BadChar bytes f = ([], rw f.2 (bad_char f.0 f.1 f.3))
fault_again OpenComment bytes f = ([], rw f.1 (open_again f.0 f.2))
fault_again OpenString bytes f = ([], rw (f.2, f.3) (open_string f.0 f.1 f.4))
fault_again BadEscape bytes f = (f.0, rw f.4 (string_again f.0 f.1 f.2 f.3 f.5))
fault_again BadNumber bytes f = ([], rw f.2 (number_again f.0 f.1 false f.3 f.4 f.5))

pub found_some : (bytes : List ℕ) (result : PieceFound) → result ≡ piece_at bytes → IfOk result (λ found. 0 < found.1)
found_some bytes (Ok found) e = (piece_sound bytes found.0 found.1 (sym e)).some
found_some bytes (Err fault) e = tt

pub found_fits : (bytes : List ℕ) (result : PieceFound) → result ≡ piece_at bytes → IfOk result (λ found. found.1 ≤ length bytes)
found_fits bytes (Ok found) e =
    let b = piece_sound bytes found.0 found.1 (sym e) in
    omega (arith, b.len, ap length b.parts, length-append b.piece b.rest)
found_fits bytes (Err fault) e = tt

pub found_quoted : (bytes : List ℕ) (result : PieceFound) → result ≡ piece_at bytes → IfOk result (λ found. found.0 ≡ Solid Text → 2 ≤ found.1)
found_quoted bytes (Ok found) e = λ text. long text (piece_sound bytes found.0 found.1 (sym e))
  where
    long : found.0 ≡ Solid Text → Begins found.0 bytes found.1 → 2 ≤ found.1
    long text b = let q = subst (λ (k : PieceKind). IsRaw k b.piece) text b.is in omega (arith, b.len, ap length q.2.1, length-append q.1 (q.0 ∷ []))
found_quoted bytes (Err fault) e = tt

-- ---- with what a string stands for

-- between the quotes
abbrev pub between_quotes : ℕ → List ℕ → List ℕ
between_quotes n bytes = take (n - 2) (drop 1 bytes)

inside_is : (bytes : List ℕ) (n : ℕ) (piece rest : List ℕ) (quote : ℕ) (body : List ℕ) → bytes ≡ piece ++ rest → n ≡ length piece → IsQuoted piece quote body → between_quotes n bytes ≡ body
inside_is bytes n piece rest quote body parts len q =
    let whole : bytes ≡ quote ∷ (body ++ quote ∷ rest) = parts ∙ ap (λ (t : List ℕ). t ++ rest) q.1 ∙ ap (λ (t : List ℕ). quote ∷ t) (append_assoc body (quote ∷ []) rest) in
    ap (between_quotes n) whole ∙ take_at body (quote ∷ rest) (n - 2) (omega (arith, len, ap length q.1, length-append body (quote ∷ [])))

pub accept_text : (bytes : List ℕ) (n : ℕ) → piece_at bytes ≡ Ok (Solid Text, n) → IsAllowed (between_quotes n bytes) → BeginsWith (Solid Text) bytes n
accept_text bytes n found allowed =
    let b = piece_sound bytes (Solid Text) n found in
    let body = inside_is bytes n b.piece b.rest b.is.0 b.is.1 b.parts b.len b.is.2 in
    record { piece = b.piece; rest = b.rest; parts = b.parts; len = b.len; is = (b.is.0, b.is.1, b.is.2, subst IsAllowed body allowed); ends = tt }

pub refuse_text : (bytes : List ℕ) (n : ℕ) → piece_at bytes ≡ Ok (Solid Text, n) → (IsAllowed (between_quotes n bytes) → ⊥) → IsFault BadEscape bytes
refuse_text bytes n found refused =
    let b = piece_sound bytes (Solid Text) n found in
    let body = inside_is bytes n b.piece b.rest b.is.0 b.is.1 b.parts b.len b.is.2 in
    (b.piece, b.rest, b.is.0, b.is.1, b.parts, b.is.2, λ allowed. refused (subst IsAllowed (sym body) allowed))

lexeme_of : (kind : PieceKind) (piece : List ℕ) → (kind ≡ Solid Text → ⊥) → IsRaw kind piece → IsLexeme kind piece
lexeme_of Blank piece other is = is
lexeme_of LineComment piece other is = is
lexeme_of BlockComment piece other is = is
lexeme_of (Solid Word) piece other is = is
lexeme_of (Solid Number) piece other is = is
lexeme_of (Solid Text) piece other is = absurd (other refl)
lexeme_of (Solid Punctuation) piece other is = is

pub accept_other : (kind : PieceKind) (bytes : List ℕ) (n : ℕ) → (kind ≡ Solid Text → ⊥) → piece_at bytes ≡ Ok (kind, n) → BeginsWith kind bytes n
accept_other kind bytes n other found =
    let b = piece_sound bytes kind n found in
    record { piece = b.piece; rest = b.rest; parts = b.parts; len = b.len; is = lexeme_of kind b.piece other b.is; ends = b.ends }

-- the pieces whose strings are looked into
pub accept_as : (kind : PieceKind) (bytes : List ℕ) (n : ℕ) (text : Bool) → (IsTrue text ↔ (kind ≡ Solid Text)) → text ≡ false → piece_at bytes ≡ Ok (kind, n) → BeginsWith kind bytes n
accept_as kind bytes n text tests no-text found = accept_other kind bytes n (λ is. not_true text no-text (tests.1 is)) found
  where
    not_true : (b : Bool) → b ≡ false → IsTrue b → ⊥
    not_true true e h = cc
    not_true false e h = let t = h in cc

text_found : (kind : PieceKind) (bytes : List ℕ) (n : ℕ) → kind ≡ Solid Text → piece_at bytes ≡ Ok (kind, n) → piece_at bytes ≡ Ok (Solid Text, n)
text_found kind bytes n is found = found ∙ ap (λ (k : PieceKind). ok (k, n)) is

pub accept_string : (kind : PieceKind) (bytes : List ℕ) (n : ℕ) → kind ≡ Solid Text → piece_at bytes ≡ Ok (kind, n) → IsAllowed (between_quotes n bytes) → BeginsWith kind bytes n
accept_string kind bytes n is found allowed = subst (λ (k : PieceKind). BeginsWith k bytes n) (sym is) (accept_text bytes n (text_found kind bytes n is found) allowed)

pub refuse_string : (kind : PieceKind) (bytes : List ℕ) (n : ℕ) → kind ≡ Solid Text → piece_at bytes ≡ Ok (kind, n) → (IsAllowed (between_quotes n bytes) → ⊥) → IsFault BadEscape bytes
refuse_string kind bytes n is found refused = refuse_text bytes n (text_found kind bytes n is found) refused

is_true : (b : Bool) → b ≡ true → IsTrue b
is_true b e = e

not_true : (b : Bool) → b ≡ false → IsTrue b → ⊥
not_true b e t = cc

pub true_text : (kind : PieceKind) (b : Bool) → (IsTrue b ↔ (kind ≡ Solid Text)) → b ≡ true → kind ≡ Solid Text
true_text kind b tests e = tests.0 (is_true b e)

pub allowed_in : (x y : List ℕ) (b : Bool) → x ≡ y → (IsTrue b ↔ IsAllowed x) → b ≡ true → IsAllowed y
allowed_in x y b same tests e = subst IsAllowed same (tests.0 (is_true b e))

pub refused_in : (x y : List ℕ) (b : Bool) → x ≡ y → (IsTrue b ↔ IsAllowed x) → b ≡ false → IsAllowed y → ⊥
refused_in x y b same tests e allowed = not_true b e (tests.1 (subst IsAllowed (sym same) allowed))
