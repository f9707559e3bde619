-- Where the schemas lie: the folder that is read, and the root of the client's URIs.
use Rattle.std.specs.Prelude.{◌==◌, ◌&&◌, Bool, false, nat_eq, not, List, [], ◌∷◌, ◌++◌, codes, flat_map, length, if◌then◌else◌, Option, Some, None, option_and_then, option_map}
use Rattle.std.specs.List.{ends_with, list_all, slice_split}
use Rattle.std.specs.Str.{bytes_eq, is_utf8}
use Rattle.proto_base.specs.Ascii as ascii
use Rattle.proto_base.specs.Texts.{Path, Text}
use Rattle.proto_uris.specs.Uris.{file_of, path_below}

-- the parts of a path, between its slashes
abbrev pub parts : Path → List Text
parts path = slice_split (λ b. b == ascii.slash) path

-- whether a part of a path leads to another place: it is neither empty nor `.`
abbrev pub leads_on : Text → Bool
leads_on part = not (length part == 0) && not (bytes_eq part (codes "."))

-- a part with `/` before it; nothing, where it leads nowhere
abbrev pub rooted_part : Text → Path
rooted_part part = if leads_on part then codes "/" ++ part else []

-- a path with `/` before each of its parts and none at its end, without the parts that lead nowhere
abbrev pub rooted : Path → Path
rooted path = flat_map rooted_part (parts path)

-- whether a path begins at the root of all folders
abbrev pub is_absolute : Path → Bool
is_absolute [] = false
is_absolute (b ∷ bs) = b == ascii.slash

-- the folder that is read, and the root below which the client has its files
pub record HomeOf : Type 0 where
  pub folder : Path
  pub root : Path

-- the home of a ROOT that is given below the path of the client's root
abbrev pub home_below : Path → Path → HomeOf
home_below word path =
    record { folder = word; root = rooted (path ++ (codes "/" ++ word)) }

-- the home at a path that begins with `/`: the folder as it is written, since it may be `/` alone
abbrev pub home_of_absolute : Path → HomeOf
home_of_absolute path = record { folder = path; root = rooted path }

-- The home for the ROOT of the command line and the URI of the client's root: ROOT, below the
-- client's root where it does not begin with `/`; where no ROOT is given, the client's root. None
-- where neither leads anywhere.
abbrev pub home_of : Option Path → Option Text → Option HomeOf
home_of None uri = option_map home_of_absolute (option_and_then file_of uri)
home_of (Some word) uri =
    if is_absolute word then Some (home_of_absolute word)
    else option_map (home_below word) (option_and_then file_of uri)

-- whether a part of a path does not begin with a dot
abbrev pub is_plain_part : Text → Bool
is_plain_part [] = false
is_plain_part (b ∷ bs) = not (b == ascii.dot)

-- whether a folder that has a file at the path lists it as a schema
abbrev pub is_schema_path : Path → Bool
is_schema_path path =
    is_utf8 path && ends_with nat_eq path (codes ".proto") && list_all is_plain_part (parts path)

-- a path that is that of a schema
abbrev pub only_schema : Path → Option Path
only_schema path = if is_schema_path path then Some path else None

-- the path below the root of the schema that a URI names; none where it names no schema there
abbrev pub schema_of : Option HomeOf → Text → Option Path
schema_of None uri = None
schema_of (Some home) uri = option_and_then only_schema (path_below home.root uri)

-- the root of a home; of no home there is no file below it
abbrev pub root_path : Option HomeOf → Path
root_path None = []
root_path (Some home) = home.root
