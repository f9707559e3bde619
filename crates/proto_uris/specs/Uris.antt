-- File URIs, and the paths of files below a root (RFC 3986, RFC 8089). A URI with an authority, as
-- `file://host/a.proto`, names no file here.
use Rattle.std.specs.Prelude.{◌≡◌, ℕ, Bool, false, not, ◌&&◌, ◌==◌, [], ◌∷◌, ◌++◌, length, map, take, drop, codes, if◌then◌else◌, Option, Some, None, option_and_then, option_map}
use Rattle.std.specs.Char.{to_ascii_lowercase}
use Rattle.std.specs.List.{list_all, slice_split}
use Rattle.std.specs.Str.{bytes_eq}
use Rattle.percent_encoding.specs.Percent.{percent_decode, percent_encode}
use Rattle.proto_base.specs.Ascii as ascii
use Rattle.proto_base.specs.Texts.{Path, Text}
use Rattle.proto_uris.specs.declared.TheConstants.{ESCAPED}

-- what follows a prefix, where the text has it
abbrev pub after : Text → Text → Option Text
after prefix text =
    if bytes_eq (take (length prefix) text) prefix then Some (drop (length prefix) text) else None

-- how a file URI begins, whatever the case of its letters
abbrev pub scheme : Text
scheme = codes "file://"

-- what follows the scheme
abbrev pub after_scheme : Text → Option Text
after_scheme uri =
    if bytes_eq (map to_ascii_lowercase (take 7 uri)) scheme then Some (drop 7 uri) else None

-- `#`
abbrev pub number_sign : ℕ
number_sign = 35

-- whether a byte belongs to the path of a URI: it begins neither the query nor the fragment
abbrev pub is_of_path : ℕ → Bool
is_of_path b = not (b == ascii.question_mark) && not (b == number_sign)

-- whether this is the path of a URI and no more: it begins with `/`, so no authority comes before
-- it, and neither a query nor a fragment follows
abbrev pub is_coded_path : Text → Bool
is_coded_path [] = false
is_coded_path (b ∷ bs) = b == ascii.slash && list_all is_of_path bs

-- a text that is the path of a URI and no more
abbrev pub only_path : Text → Option Text
only_path coded = if is_coded_path coded then Some coded else None

-- the path of the file that a URI names; none where it names no file
abbrev pub file_of : Text → Option Path
file_of uri = option_map percent_decode (option_and_then only_path (after_scheme uri))

-- whether a part of a path leads one step down: it is not empty, and neither `.` nor `..`
abbrev pub is_part : Text → Bool
is_part part =
    not (length part == 0) && not (bytes_eq part (codes ".")) && not (bytes_eq part (codes ".."))

-- whether each part of a path leads one step down
abbrev pub leads_down : Path → Bool
leads_down path = list_all is_part (slice_split (λ b. b == ascii.slash) path)

-- a path of which each part leads one step down
abbrev pub only_down : Path → Option Path
only_down path = if leads_down path then Some path else None

-- the path below a root of a file
abbrev pub below : Path → Path → Option Path
below root file = option_and_then only_down (option_and_then (after (codes "/")) (after root file))

-- The path below a root, which has no `/` at its end, of the file that a URI names; none where it
-- names no file below the root.
abbrev pub path_below : Path → Text → Option Path
path_below root uri = option_and_then (below root) (file_of uri)

-- the URI of the file at a path below a root
abbrev pub uri_below : Path → Path → Text
uri_below root path = scheme ++ percent_encode ESCAPED (root ++ (codes "/" ++ path))

-- a root: empty, for the folder that has all others, or a path that begins with `/`
abbrev pub IsRoot : Path → Type 0
IsRoot [] = Unit {0}
IsRoot (b ∷ bs) = b ≡ ascii.slash
