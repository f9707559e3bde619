-- Frames on a stream, by the base protocol of the Language Server Protocol: header fields, each
-- with CR LF at its end, an empty line, and a content of as many bytes as Content-Length says.
use Rattle.std.specs.Prelude.{◌≡◌, ℕ, zero, suc, ◌+◌, ◌-◌, ◌*◌, Bool, true, false, ◌&&◌, ◌||◌, ◌==◌, [], ◌∷◌, ◌++◌, length, take, drop, map, codes, decimal, nat_lt, if◌then◌else◌, Option, Some, None, Result, Ok, Err}
use Rattle.std.specs.Char.{is_ascii_digit, to_ascii_lowercase}
use Rattle.std.specs.Str.{bytes_eq}
use Rattle.std.specs.Global.{Vec}
use Rattle.proto_base.specs.Ascii as ascii
use Rattle.proto_base.specs.Texts.{Text}
use Rattle.proto_frames.specs.declared.fault.FrameFault.{FrameFault}
use Rattle.proto_frames.specs.declared.fault.FrameFault.TheVariants.{Malformed, TooLong, Cut, Input, NoMemory}

-- ---- what is written

-- the end of a header field, and of the header
abbrev pub line_end : Text
line_end = ascii.carriage_return ∷ ascii.line_feed ∷ []

-- the header of a content
abbrev pub header : Text → Text
header content = (codes "Content-Length: " ++ decimal (length content)) ++ (line_end ++ line_end)

-- a content as it is written
abbrev pub frame : Text → Text
frame content = header content ++ content

-- ---- what is read: functions that answer a value and what follows it, or the fault

-- the next step, unless the one before failed
infixl 10 ◌>>=◌
abbrev pub ◌>>=◌ :
    {A B : Type 0} → Result A FrameFault → (A → Result B FrameFault) → Result B FrameFault
(Ok x) >>= f = f x
(Err e) >>= f = Err e

-- what was read, with a prefix
abbrev pub with_prefix : Text → Result (Text × Text) FrameFault → Result (Text × Text) FrameFault
with_prefix prefix read = read >>= λ x. Ok (prefix ++ x.0, x.1)

-- after a carriage return: no more of the line, where a line feed follows
abbrev pub line_ended : Text → Result (Text × Text) FrameFault
line_ended [] = Err Cut
line_ended (b ∷ bs) = if b == ascii.line_feed then Ok ([], bs) else Err Malformed

-- A line of fewer than so many bytes, without its end, which is CR LF. Neither byte stands alone.
unfoldable pub line_at : ℕ → Text → Result (Text × Text) FrameFault
line_at zero bytes = Err Malformed
line_at (suc room) [] = Err Cut
line_at (suc room) (b ∷ bs) =
    if b == ascii.carriage_return then line_ended bs
    else (if b == ascii.line_feed then Err Malformed
    else with_prefix (b ∷ []) (line_at room bs))

-- a line of a header has fewer bytes, without its end
abbrev pub line_limit : ℕ
line_limit = 1024

-- a header has fewer fields
abbrev pub lines_limit : ℕ
lines_limit = 32

-- whether a colon with a space after it stands in the text, or a space where a colon came before
abbrev pub has_separator : Bool → Text → Bool
has_separator follows_colon [] = false
has_separator follows_colon (b ∷ bs) =
    (follows_colon && b == ascii.space) || has_separator (b == ascii.colon) bs

-- whether a line has a name, a colon and a space
abbrev pub is_named : Text → Bool
is_named [] = false
is_named (b ∷ bs) = has_separator false bs

-- how the field of the length begins, whatever the case of its letters
abbrev pub length_name : Text
length_name = codes "content-length: "

-- whether a line is the field of the length
abbrev pub is_length : Text → Bool
is_length line = bytes_eq (map to_ascii_lowercase (take 16 line)) length_name

-- the number that these digits write after those of n
abbrev pub number_from : ℕ → Text → Option ℕ
number_from n [] = Some n
number_from n (c ∷ cs) =
    if is_ascii_digit c then number_from (n * 10 + (c - ascii.zero)) cs else None

-- the number of one to ten digits
abbrev pub number : Text → Option ℕ
number ds = if nat_lt 0 (length ds) && nat_lt (length ds) 11 then number_from 0 ds else None

-- a length that has to be there
abbrev pub or_malformed : Option ℕ → Result (Option ℕ) FrameFault
or_malformed None = Err Malformed
or_malformed (Some n) = Ok (Some n)

-- the length after the field of the length, which may come once
abbrev pub first_length : Option ℕ → Text → Result (Option ℕ) FrameFault
first_length None line = or_malformed (number (drop 16 line))
first_length (Some n) line = Err Malformed

-- the length after a field that has a name
abbrev pub named_field : Option ℕ → Text → Result (Option ℕ) FrameFault
named_field len line = if is_length line then first_length len line else Ok len

-- the length after a field, from the length before it
abbrev pub field : Option ℕ → Text → Result (Option ℕ) FrameFault
field len line = if is_named line then named_field len line else Err Malformed

-- at the end of the header: the length, which has to be there, and what follows
abbrev pub length_found : Option ℕ → Text → Result (ℕ × Text) FrameFault
length_found None rest = Err Malformed
length_found (Some n) rest = Ok (n, rest)

-- whether a text is empty
abbrev pub is_no_byte : Text → Bool
is_no_byte [] = true
is_no_byte (b ∷ bs) = false

-- The length that a header of fewer than so many fields says, and what follows the header; the
-- fields before said the length that is given, or none.
unfoldable pub header_at : ℕ → Option ℕ → Text → Result (ℕ × Text) FrameFault
header_at zero len bytes = Err Malformed
header_at (suc lines) len bytes =
    line_at line_limit bytes
    >>= λ x. if is_no_byte x.0 then length_found len x.1
    else (field len x.0 >>= λ more. header_at lines more x.1)

-- so many bytes, at most cap
abbrev pub content_at : ℕ → ℕ → Text → Result (Text × Text) FrameFault
content_at cap len bytes =
    if nat_lt cap len then Err TooLong
    else (if nat_lt (length bytes) len then Err Cut else Ok (take len bytes, drop len bytes))

-- the first content of a stream, and what follows it
abbrev pub frame_at : ℕ → Text → Result (Text × Text) FrameFault
frame_at cap bytes = header_at lines_limit None bytes >>= λ x. content_at cap x.0 x.1

-- a content that is there, and what follows it
abbrev pub some_of : Text × Text → Option (Text × Text)
some_of x = Some x

-- the first content of a stream, and what follows it; none where the stream is at its end
abbrev pub frame_or_end : ℕ → Text → Result (Option (Text × Text)) FrameFault
frame_or_end cap [] = Ok None
frame_or_end cap (b ∷ bs) = frame_at cap (b ∷ bs) >>= λ x. Ok (some_of x)

-- ---- what a call gives, of a reader whose bytes are known

-- The fault is the one that the bytes have. A failed read and out of memory say nothing of them.
abbrev pub Fails : {Y : Type 0} → FrameFault → Result Y FrameFault → Type 0
Fails Input read = Unit {0}
Fails NoMemory read = Unit {0}
Fails Malformed read = read ≡ Err Malformed
Fails TooLong read = read ≡ Err TooLong
Fails Cut read = read ≡ Err Cut

-- what was answered, seen by a view, and what the reader has left, are what the bytes have
abbrev pub Gives :
    {X Y : Type 0} → (X → Y) → Option Text → Result X FrameFault → Result (Y × Text) FrameFault
    → Type 0
Gives view new (Ok x) read = (rest : Text) × (new ≡ Some rest) × (read ≡ Ok (view x, rest))
Gives view new (Err e) read = Fails e read

-- the same of a content, where the stream may be at its end
abbrev pub GivesFrame :
    Option Text → Result (Option (Vec ℕ)) FrameFault → Result (Option (Text × Text)) FrameFault
    → Type 0
GivesFrame new (Ok None) read = (new ≡ Some []) × (read ≡ Ok None)
GivesFrame new (Ok (Some content)) read =
    (rest : Text) × (new ≡ Some rest) × (read ≡ Ok (Some (content.items, rest)))
GivesFrame new (Err e) read = Fails e read

-- what one read of one byte gives, where bytes are known
abbrev pub GivesByte : Option Text → Option Text → Option ℕ → Type 0
GivesByte old new None = (xs : Text) → old ≡ Some xs → (xs ≡ []) × (new ≡ Some [])
GivesByte old new (Some b) =
    (xs : Text) → old ≡ Some xs → (rest : Text) × (xs ≡ b ∷ rest) × (new ≡ Some rest)
