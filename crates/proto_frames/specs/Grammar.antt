-- Which texts are frames, apart from how they are read.
use Rattle.std.specs.Prelude.{◌≡◌, ◌≢◌, ℕ, ◌<◌, ◌≤◌, ◌^◌, List, [], ◌∷◌, ◌++◌, length, drop, flat_map, filter, codes, Some, Ok}
use Rattle.std.specs.List.{AllByRecursion}
use Rattle.proto_base.specs.Ascii as ascii
use Rattle.proto_base.specs.Texts.{Text}
use Rattle.proto_frames.specs.Frames.{frame, frame_at, is_length, line_end, line_limit, lines_limit, number}

-- no byte of a line end
abbrev pub HasNoEnd : Text → Type 0
HasNoEnd line = AllByRecursion (λ b. (b ≢ ascii.carriage_return) × (b ≢ ascii.line_feed)) line

-- a name and a value, with a colon and a space between them
abbrev pub IsNamed : Text → Type 0
IsNamed line = (name value : Text) × (0 < length name) × (line ≡ name ++ (codes ": " ++ value))

-- a header field, without its end
pub record IsField (line : Text) : Type 0 where
  pub named : IsNamed line
  pub short : length line < line_limit
  pub one_line : HasNoEnd line

-- a header field with its end
abbrev pub field_text : Text → Text
field_text line = line ++ line_end

-- the text of a header
abbrev pub header_text : List Text → Text
header_text lines = flat_map field_text lines ++ line_end

-- the fields of a header that says n: one is of the length, and its value is n
pub record IsHeader (lines : List Text) (n : ℕ) : Type 0 where
  pub few : length lines < lines_limit
  pub fields : AllByRecursion IsField lines
  pub one : (line : Text) × (filter is_length lines ≡ line ∷ []) × (number (drop 16 line) ≡ Some n)

-- a content after a header that says its length
pub record IsFrame (text content : Text) : Type 0 where
  pub lines : List Text
  pub header : IsHeader lines (length content)
  pub whole : text ≡ header_text lines ++ content

-- What is read is a frame whose content has at most `cap` bytes, and what follows it.
abbrev pub ReadIsFrame : Type 0
ReadIsFrame =
    (cap : ℕ) (bytes content rest : Text) → frame_at cap bytes ≡ Ok (content, rest)
    → (text : Text) × IsFrame text content × (bytes ≡ text ++ rest) × (length content ≤ cap)

-- Each frame whose content has at most `cap` bytes is read, whatever follows it.
abbrev pub FrameIsRead : Type 0
FrameIsRead =
    (cap : ℕ) (text content rest : Text) → IsFrame text content → length content ≤ cap
    → frame_at cap (text ++ rest) ≡ Ok (content, rest)

-- What is written is a frame.
abbrev pub WrittenIsFrame : Type 0
WrittenIsFrame = (content : Text) → length content < 10 ^ 10 → IsFrame (frame content) content
