-- What is read is a frame, and each frame is read.
use Rattle.std.proofs.Common.{◌≡◌, ◌≢◌, ℕ, zero, suc, ◌+◌, ◌-◌, ◌*◌, ◌<◌, ◌≤◌, Bool, true, false, cond, ◌==◌, ◌&&◌, nat_lt, List, [], ◌∷◌, ◌++◌, length, take, drop, flat_map, filter, Option, Some, None, Result, Ok, Err, refl, sym, ap, subst, ◌∙◌, append_assoc, take_at, drop_at, arith, length-append, codes, inl, inr}
use Rattle.std.specs.List.{AllByRecursion}
use Rattle.std.specs.Prelude.{◌⊎◌}
use Rattle.std.specs.Fmt.{decimal}
use Rattle.std.specs.Char.{digit_value, is_ascii_digit}
use Rattle.std.specs.Str.Parse.{AllDigits, digits_value_after}
use Rattle.std.proofs.lemmas.Fmt.{decimal_is_IsNumeral, length-decimal-le}
use Rattle.std.proofs.lemmas.Str.Parse.{digit_from_value}
use Rattle.std.proofs.lemmas.List.{append-nil, take-append-drop, length-take-le}
use Rattle.std.proofs.lemmas.Bool.Decides.{nat_tests}
use Rattle.proto_base.specs.Ascii as ascii
use Rattle.proto_base.specs.Texts.{Text}
use Rattle.proto_frames.specs.Frames.{◌>>=◌, content_at, field, first_length, frame_at, header_at, is_length, is_no_byte, line_at, line_end, line_ended, line_limit, lines_limit, number, number_from, or_malformed, length_found, with_prefix}
use Rattle.proto_frames.specs.Grammar.{WrittenIsFrame, FrameIsRead, HasNoEnd, IsField, ReadIsFrame, field_text, header_text}
use Rattle.proto_frames.specs.declared.fault.FrameFault.{FrameFault}
use Rattle.proto_frames.specs.declared.fault.FrameFault.TheVariants.{Malformed, TooLong, Cut}
use Rattle.proto_frames.proofs.Lines.{Line, cond_true, cond_false}
use Rattle.proto_frames.proofs.Headers.{Header, bind_goes, some_left}
use Rattle.proto_frames.proofs.Names.{field_named, named_of, named_some}

-- ---- tools

pub bind_ok : {A B : Type 0} (r : Result A FrameFault) (f : A → Result B FrameFault) (y : B) → (r >>= f) ≡ Ok y → (x : A) × (r ≡ Ok x) × (f x ≡ Ok y)
bind_ok (Ok x) f y e = (x, refl, e)
bind_ok (Err d) f y e = absurd cc

pub chosen : {A : Type 0} (b : Bool) (x y z : A) → cond b x y ≡ z → ((b ≡ true) × (x ≡ z)) ⊎ ((b ≡ false) × (y ≡ z))
chosen true x y z e = inl (refl, e)
chosen false x y z e = inr (refl, e)

-- ---- a line

pub line_read : (room : ℕ) (line rest : Text) → HasNoEnd line → length line < room → line_at room (line ++ (line_end ++ rest)) ≡ Ok (line, rest)
unfolding line_at
line_read zero line rest one short = absurd (omega arith)
line_read (suc room) [] rest one short = refl
line_read (suc room) (b ∷ line) rest one short =
    let no_return : (b == ascii.carriage_return) ≡ false = grind (arith, nat_tests, one.0.0) in
    let no_feed : (b == ascii.line_feed) ≡ false = grind (arith, nat_tests, one.0.1) in
    let more = line_read room line rest one.1 (omega arith) in
    cond_false (b == ascii.carriage_return) (line_ended (line ++ (line_end ++ rest))) (cond (b == ascii.line_feed) (Err Malformed) (with_prefix (b ∷ []) (line_at room (line ++ (line_end ++ rest))))) no_return
    ∙ cond_false (b == ascii.line_feed) (Err Malformed) (with_prefix (b ∷ []) (line_at room (line ++ (line_end ++ rest)))) no_feed
    ∙ ap (with_prefix (b ∷ [])) more

-- what a line is that was read
pub record IsLineOf (room : ℕ) (bytes line rest : Text) : Type 0 where
  pub one_line : HasNoEnd line
  pub short : length line < room
  pub text : bytes ≡ line ++ (line_end ++ rest)

abbrev ok : Text → Text → Line
ok a b = Ok (a, b)

parts : (a b c d : Text) → ok a b ≡ ok c d → (a ≡ c) × (b ≡ d)
parts a b c d e = let p : pair a b ≡ pair c d = cc in (ap (λ (x : Text × Text). x.0) p, ap (λ (x : Text × Text). x.1) p)
  where
    pair : Text → Text → Text × Text
    pair x y = (x, y)

ended_is : (bytes line rest : Text) → line_ended bytes ≡ Ok (line, rest) → (line ≡ []) × (bytes ≡ ascii.line_feed ∷ rest)
ended_is [] line rest e = absurd cc
ended_is (b ∷ bytes) line rest e =
    elim (chosen (b == ascii.line_feed) (ok [] bytes) (Err Malformed) (ok line rest) e) [
      | inl w ↦
          let p = parts [] bytes line rest w.1 in
          let feed : b ≡ ascii.line_feed = grind (arith, nat_tests, w.0) in
          (sym p.0, cc)
      | inr w ↦ absurd cc
    ]

pub line_is : (room : ℕ) (bytes line rest : Text) → line_at room bytes ≡ Ok (line, rest) → IsLineOf room bytes line rest
unfolding line_at
line_is zero bytes line rest e = absurd cc
line_is (suc room) [] line rest e = absurd cc
line_is (suc room) (b ∷ bytes) line rest e =
    elim (chosen (b == ascii.carriage_return) (line_ended bytes) (cond (b == ascii.line_feed) (Err Malformed) (with_prefix (b ∷ []) (line_at room bytes))) (ok line rest) e) [
      | inl w ↦
          let p = ended_is bytes line rest w.1 in
          let return : b ≡ ascii.carriage_return = grind (arith, nat_tests, w.0) in
          subst (λ (t : Text). IsLineOf (suc room) (b ∷ bytes) t rest) (sym p.0) (record { one_line = tt; short = omega arith; text = cc })
      | inr w ↦
          elim (chosen (b == ascii.line_feed) (Err Malformed) (with_prefix (b ∷ []) (line_at room bytes)) (ok line rest) w.1) [
            | inl v ↦ absurd cc
            | inr v ↦
                let q = bind_ok (line_at room bytes) (λ x. ok ((b ∷ []) ++ x.0) x.1) (line, rest) v.1 in
                let more = line_is room bytes q.0.0 q.0.1 q.1 in
                let p = parts (b ∷ q.0.0) q.0.1 line rest q.2 in
                let no_return : b ≢ ascii.carriage_return = λ is. grind (arith, nat_tests, w.0, is) in
                let no_feed : b ≢ ascii.line_feed = λ is. grind (arith, nat_tests, v.0, is) in
                subst (λ (t : Text). IsLineOf (suc room) (b ∷ bytes) t rest) p.0
                (record {
                  one_line = ((no_return, no_feed), more.one_line);
                  short = omega (arith, more.short);
                  text = ap (λ (t : Text). b ∷ t) (more.text ∙ ap (λ (t : Text). q.0.0 ++ (line_end ++ t)) p.1);
                })
          ]
    ]

-- ---- a header

-- what the fields say after those that said len
abbrev pub says : Option ℕ → List Text → ℕ → Type 0
says len [] n = len ≡ Some n
says len (f ∷ fs) n = (now : Option ℕ) × (field len f ≡ Ok now) × says now fs n

field_joins : (f : Text) (fs : List Text) (rest : Text) → header_text (f ∷ fs) ++ rest ≡ f ++ (line_end ++ (header_text fs ++ rest))
field_joins f fs rest =
    let all : Text = flat_map field_text fs in
    ap (λ (t : Text). t ++ rest) (append_assoc (f ++ line_end) all line_end)
    ∙ append_assoc (f ++ line_end) (all ++ line_end) rest
    ∙ append_assoc f line_end ((all ++ line_end) ++ rest)

pub header_read : (lines : ℕ) (fields : List Text) (len : Option ℕ) (n : ℕ) (rest : Text) → AllByRecursion IsField fields → length fields < lines → says len fields n
    → header_at lines len (header_text fields ++ rest) ≡ Ok (n, rest)
unfolding header_at
header_read zero fields len n rest each few is = absurd (omega arith)
header_read (suc lines) [] len n rest each few is =
    bind_goes (line_at line_limit (line_end ++ rest)) ([], rest) (λ x. cond (is_no_byte x.0) (length_found len x.1) (field len x.0 >>= λ l. header_at lines l x.1)) (line_read line_limit [] rest tt (omega arith))
    ∙ ap (λ o. length_found o rest) is
header_read (suc lines) (f ∷ fs) len n rest each few is =
    let more = header_read lines fs is.0 n rest each.1 (omega arith) is.2 in
    let line : line_at line_limit (header_text (f ∷ fs) ++ rest) ≡ Ok (f, header_text fs ++ rest) =
    ap (line_at line_limit) (field_joins f fs rest) ∙ line_read line_limit f (header_text fs ++ rest) each.0.one_line each.0.short in
    bind_goes (line_at line_limit (header_text (f ∷ fs) ++ rest)) (f, header_text fs ++ rest) (λ x. cond (is_no_byte x.0) (length_found len x.1) (field len x.0 >>= λ l. header_at lines l x.1)) line
    ∙ cond_false (is_no_byte f) (length_found len (header_text fs ++ rest)) (field len f >>= λ l. header_at lines l (header_text fs ++ rest)) (some_left f (λ none. omega (arith, named_some f each.0.named, none)))
    ∙ bind_goes (field len f) is.0 (λ l. header_at lines l (header_text fs ++ rest)) is.1
    ∙ more

-- what a header is that was read
pub record IsHeaderOf (lines : ℕ) (len : Option ℕ) (bytes : Text) (n : ℕ) (rest : Text) : Type 0 where
  pub fields : List Text
  pub each : AllByRecursion IsField fields
  pub few : length fields < lines
  pub length_found : says len fields n
  pub whole : bytes ≡ header_text fields ++ rest

abbrev numbered : ℕ → Text → Header
numbered n t = Ok (n, t)

number_parts : (n m : ℕ) (a b : Text) → numbered n a ≡ numbered m b → (n ≡ m) × (a ≡ b)
number_parts n m a b e = let p : pair n a ≡ pair m b = cc in (ap (λ (x : ℕ × Text). x.0) p, ap (λ (x : ℕ × Text). x.1) p)
  where
    pair : ℕ → Text → ℕ × Text
    pair x y = (x, y)

found_is : (len : Option ℕ) (more : Text) (n : ℕ) (rest : Text) → length_found len more ≡ Ok (n, rest) → (len ≡ Some n) × (more ≡ rest)
found_is None more n rest e = absurd cc
found_is (Some m) more n rest e = let p = number_parts m n more rest e in (ap some p.0, p.1)
  where
    some : ℕ → Option ℕ
    some x = Some x

empty_line : (line : Text) → is_no_byte line ≡ true → line ≡ []
empty_line [] is = refl
empty_line (b ∷ bs) is = absurd cc

pub header_is : (lines : ℕ) (len : Option ℕ) (bytes : Text) (n : ℕ) (rest : Text) → header_at lines len bytes ≡ Ok (n, rest) → IsHeaderOf lines len bytes n rest
unfolding header_at
header_is zero len bytes n rest e = absurd cc
header_is (suc lines) len bytes n rest e =
    let q = bind_ok (line_at line_limit bytes) (λ x. cond (is_no_byte x.0) (length_found len x.1) (field len x.0 >>= λ l. header_at lines l x.1)) (n, rest) e in
    let line = line_is line_limit bytes q.0.0 q.0.1 q.1 in
    elim (chosen (is_no_byte q.0.0) (length_found len q.0.1) (field len q.0.0 >>= λ l. header_at lines l q.0.1) (numbered n rest) q.2) [
      | inl w ↦
          let s = found_is len q.0.1 n rest w.1 in
          record {
            fields = [];
            each = tt;
            few = omega arith;
            length_found = s.0;
            whole = line.text ∙ ap (λ (t : Text). t ++ (line_end ++ q.0.1)) (empty_line q.0.0 w.0) ∙ ap (λ (t : Text). line_end ++ t) s.1;
          }
      | inr w ↦
          let f = bind_ok (field len q.0.0) (λ l. header_at lines l q.0.1) (n, rest) w.1 in
          let more = header_is lines f.0 q.0.1 n rest f.2 in
          record {
            fields = q.0.0 ∷ more.fields;
            each = (record { named = (named_of len f.0 q.0.0 f.1).0; short = line.short; one_line = line.one_line }, more.each);
            few = omega (arith, more.few);
            length_found = (f.0, f.1, more.length_found);
            whole = line.text ∙ ap (λ (t : Text). q.0.0 ++ (line_end ++ t)) more.whole ∙ sym (field_joins q.0.0 more.fields rest);
          }
    ]

-- ---- one field says the length

none_says : (fs : List Text) (m : ℕ) → AllByRecursion IsField fs → filter is_length fs ≡ [] → says (Some m) fs m
none_says [] m each none = refl
none_says (f ∷ fs) m each none =
    elim (chosen (is_length f) (f ∷ filter is_length fs) (filter is_length fs) [] none) [
      | inl w ↦ absurd cc
      | inr w ↦ (Some m, field_named (Some m) f each.0.named ∙ cond_false (is_length f) (first_length (Some m) f) (Ok (Some m)) w.0, none_says fs m each.1 w.1)
    ]

pub one_says : (fs : List Text) (f : Text) (n : ℕ) → AllByRecursion IsField fs → filter is_length fs ≡ f ∷ [] → number (drop 16 f) ≡ Some n → says None fs n
one_says [] f n each one is = absurd cc
one_says (x ∷ fs) f n each one is =
    elim (chosen (is_length x) (x ∷ filter is_length fs) (filter is_length fs) (f ∷ []) one) [
      | inl w ↦
          let same : x ≡ f = cc in
          let none : filter is_length fs ≡ [] = cc in
          let length_is : first_length None x ≡ Ok (Some n) = ap or_malformed (ap (λ (t : Text). number (drop 16 t)) same ∙ is) in
          (Some n, field_named None x each.0.named ∙ cond_true (is_length x) (first_length None x) (Ok None) w.0 ∙ length_is, none_says fs n each.1 none)
      | inr w ↦ (None, field_named None x each.0.named ∙ cond_false (is_length x) (first_length None x) (Ok None) w.0, one_says fs f n each.1 w.1 is)
    ]

abbrev lengthed : Option ℕ → Result (Option ℕ) FrameFault
lengthed o = Ok o

same_length : (a b : Option ℕ) → lengthed a ≡ lengthed b → a ≡ b
same_length a b e = cc

none_said : (fs : List Text) (m n : ℕ) → says (Some m) fs n → (filter is_length fs ≡ []) × (m ≡ n)
none_said [] m n is = (refl, cc)
none_said (f ∷ fs) m n is =
    elim (chosen (is_length f) (first_length (Some m) f) (lengthed (Some m)) (lengthed is.0) (named_of (Some m) is.0 f is.1).1) [
      | inl w ↦ absurd cc
      | inr w ↦
          let same : Some m ≡ is.0 = same_length (Some m) is.0 w.1 in
          let more = none_said fs m n (subst (λ (o : Option ℕ). says o fs n) (sym same) is.2) in
          (cond_false (is_length f) (f ∷ filter is_length fs) (filter is_length fs) w.0 ∙ more.0, more.1)
    ]

malformed_or : (o now : Option ℕ) → or_malformed o ≡ lengthed now → (m : ℕ) × (o ≡ Some m) × (now ≡ Some m)
malformed_or None now e = absurd cc
malformed_or (Some m) now e = (m, refl, sym (same_length (Some m) now e))

pub one_said : (fs : List Text) (n : ℕ) → says None fs n → (f : Text) × (filter is_length fs ≡ f ∷ []) × (number (drop 16 f) ≡ Some n)
one_said [] n is = absurd cc
one_said (x ∷ fs) n is =
    elim (chosen (is_length x) (first_length None x) (lengthed None) (lengthed is.0) (named_of None is.0 x is.1).1) [
      | inl w ↦
          let m = malformed_or (number (drop 16 x)) is.0 w.1 in
          let more = none_said fs m.0 n (subst (λ (o : Option ℕ). says o fs n) m.2 is.2) in
          (x, cond_true (is_length x) (x ∷ filter is_length fs) (filter is_length fs) w.0 ∙ ap (λ (l : List Text). x ∷ l) more.0, m.1 ∙ ap some more.1)
      | inr w ↦
          let same : None ≡ is.0 = same_length None is.0 w.1 in
          let more = one_said fs n (subst (λ (o : Option ℕ). says o fs n) (sym same) is.2) in
          (more.0, cond_false (is_length x) (x ∷ filter is_length fs) (filter is_length fs) w.0 ∙ more.1, more.2)
    ]
  where
    some : ℕ → Option ℕ
    some y = Some y

-- ---- a content, and the laws

content_is : (cap len : ℕ) (bytes content rest : Text) → content_at cap len bytes ≡ Ok (content, rest) → (len ≤ cap) × (length content ≡ len) × (bytes ≡ content ++ rest)
content_is cap len bytes content rest e =
    elim (chosen (nat_lt cap len) (Err TooLong) (cond (nat_lt (length bytes) len) (Err Cut) (ok (take len bytes) (drop len bytes))) (ok content rest) e) [
      | inl w ↦ absurd cc
      | inr w ↦
          elim (chosen (nat_lt (length bytes) len) (Err Cut) (ok (take len bytes) (drop len bytes)) (ok content rest) w.1) [
            | inl v ↦ absurd cc
            | inr v ↦
                let p = parts (take len bytes) (drop len bytes) content rest v.1 in
                let small : len ≤ cap = grind (arith, nat_tests, w.0) in
                let within : len ≤ length bytes = grind (arith, nat_tests, v.0) in
                (small, sym (ap length p.0) ∙ length-take-le len bytes within, sym (take-append-drop len bytes) ∙ ap (λ (t : Text). t ++ drop len bytes) p.0 ∙ ap (λ (t : Text). content ++ t) p.1)
          ]
    ]

content_there : (cap : ℕ) (content rest : Text) → length content ≤ cap → content_at cap (length content) (content ++ rest) ≡ Ok (content, rest)
content_there cap content rest small =
    let fits : nat_lt cap (length content) ≡ false = grind (arith, nat_tests) in
    let sum : length (content ++ rest) ≡ length content + length rest = length-append content rest in
    let whole : nat_lt (length (content ++ rest)) (length content) ≡ false = grind (arith, nat_tests, sum) in
    cond_false (nat_lt cap (length content)) (Err TooLong) (cond (nat_lt (length (content ++ rest)) (length content)) (Err Cut) (ok (take (length content) (content ++ rest)) (drop (length content) (content ++ rest)))) fits
    ∙ cond_false (nat_lt (length (content ++ rest)) (length content)) (Err Cut) (ok (take (length content) (content ++ rest)) (drop (length content) (content ++ rest))) whole
    ∙ ap (λ (t : Text). ok t (drop (length content) (content ++ rest))) (take_at content rest (length content) refl)
    ∙ ap (ok content) (drop_at content rest (length content) refl)

pub frame_is_read : FrameIsRead
frame_is_read cap text content rest is small =
    let header : header_at lines_limit None (header_text is.lines ++ (content ++ rest)) ≡ Ok (length content, content ++ rest) =
    header_read lines_limit is.lines None (length content) (content ++ rest) is.header.fields is.header.few (one_says is.lines is.header.one.0 (length content) is.header.fields is.header.one.1 is.header.one.2) in
    ap (frame_at cap) (ap (λ (t : Text). t ++ rest) is.whole ∙ append_assoc (header_text is.lines) content rest)
    ∙ bind_goes (header_at lines_limit None (header_text is.lines ++ (content ++ rest))) (length content, content ++ rest) (λ x. content_at cap x.0 x.1) header
    ∙ content_there cap content rest small

pub read_is_frame : ReadIsFrame
read_is_frame cap bytes content rest e =
    let q = bind_ok (header_at lines_limit None bytes) (λ x. content_at cap x.0 x.1) (content, rest) e in
    let h = header_is lines_limit None bytes q.0.0 q.0.1 q.1 in
    let there = content_is cap q.0.0 q.0.1 content rest q.2 in
    let one = one_said h.fields q.0.0 h.length_found in
    let right : number (drop 16 one.0) ≡ Some (length content) = one.2 ∙ ap some (sym there.1) in (
      header_text h.fields ++ content,
      record { lines = h.fields; header = record { few = h.few; fields = h.each; one = (one.0, one.1, right) }; whole = refl },
      h.whole ∙ ap (λ (t : Text). header_text h.fields ++ t) there.2 ∙ sym (append_assoc (header_text h.fields) content rest),
      omega (arith, there.0, there.1),
    )
  where
    some : ℕ → Option ℕ
    some x = Some x

-- ---- what is written

pub digit_is : (c : ℕ) → digit_value c < 10 → (is_ascii_digit c ≡ true) × (c - 48 ≡ digit_value c) × (48 ≤ c)
digit_is c small = let at = digit_from_value c small in (grind (arith, nat_tests, at), grind (arith, nat_tests, at), grind (arith, nat_tests, at))

number_is : (n : ℕ) (ds : Text) → AllDigits 10 ds → number_from n ds ≡ Some (digits_value_after 10 n ds)
number_is n [] all = refl
number_is n (c ∷ cs) all =
    let d = digit_is c all.0 in
    let more = number_is (n * 10 + digit_value c) cs all.1 in
    if_digit (is_ascii_digit c) (number_from (n * 10 + (c - 48)) cs) None d.0 ∙ ap (λ m. number_from (n * 10 + m) cs) d.1 ∙ more
  where
    if_digit : (b : Bool) (x y : Option ℕ) → b ≡ true → cond b x y ≡ x
    if_digit b x y is = cond_true b x y is

no_end_in_digits : (ds : Text) → AllDigits 10 ds → HasNoEnd ds
no_end_in_digits [] all = tt
no_end_in_digits (c ∷ cs) all =
    let d = digit_is c all.0 in
    (((λ is. omega (arith, d.2, is)), (λ is. omega (arith, d.2, is))), no_end_in_digits cs all.1)

no_end_joined : (a b : Text) → HasNoEnd a → HasNoEnd b → HasNoEnd (a ++ b)
no_end_joined [] b x y = y
no_end_joined (c ∷ a) b x y = (x.0, no_end_joined a b x.1 y)

abbrev all_printable : Text → Bool
all_printable [] = true
all_printable (c ∷ cs) = nat_lt 31 c && all_printable cs

both : (a b : Bool) → (a && b) ≡ true → (a ≡ true) × (b ≡ true)
both true b is = (refl, is)
both false b is = absurd cc

printable : (a : Text) → all_printable a ≡ true → HasNoEnd a
printable [] is = tt
printable (c ∷ cs) is =
    let p = both (nat_lt 31 c) (all_printable cs) is in
    let high : 31 < c = grind (arith, nat_tests, p.0) in
    (((λ e. omega (arith, high, e)), (λ e. omega (arith, high, e))), printable cs p.1)

regroup : (a b c : Text) → (a ++ (b ++ b)) ++ c ≡ (((a ++ b) ++ []) ++ b) ++ c
regroup a b c = ap (λ (t : Text). t ++ c) (sym (append_assoc a b b) ∙ ap (λ (t : Text). t ++ b) (sym (append-nil (a ++ b))))

pub written_is_frame : WrittenIsFrame
written_is_frame content small =
    let n : ℕ = length content in
    let numeral = decimal_is_IsNumeral n (omega (arith, small)) in
    let short : length (decimal n) ≤ 10 = length-decimal-le 10 n (omega arith) small (omega (arith, small)) in
    let line : Text = codes "Content-Length: " ++ decimal n in
    let is_number : number (decimal n) ≡ Some n =
    cond_true (nat_lt 0 (length (decimal n)) && nat_lt (length (decimal n)) 11) (number_from 0 (decimal n)) None (grind (arith, nat_tests, short, numeral.0.0))
    ∙ number_is 0 (decimal n) numeral.0.1 ∙ ap some numeral.1 in
    record {
      lines = line ∷ [];
      header = record {
        few = omega arith;
        fields = (record { named = (codes "Content-Length", decimal n, omega arith, refl); short = omega (arith, short); one_line = no_end numeral.0.1 }, tt);
        one = (line, refl, is_number);
      };
      whole = regroup line line_end content;
    }
  where
    some : ℕ → Option ℕ
    some x = Some x

    no_end : AllDigits 10 (decimal (length content)) → HasNoEnd (codes "Content-Length: " ++ decimal (length content))
    no_end digits = no_end_joined (codes "Content-Length: ") (decimal (length content)) (printable (codes "Content-Length: ") refl) (no_end_in_digits (decimal (length content)) digits)
