-- Which texts are the paths of a workspace, and their order: choices of this profile.
use Rattle.std.specs.Prelude.{◌≡◌, ℕ, ◌<◌, ◌≤◌, Bool, not, ◌&&◌, ◌||◌, ◌==◌, nat_le, List, [], ◌∷◌, ◌++◌, length, codes}
use Rattle.std.specs.List.{All, AllPass, list_all, join_with_byte, slice_split, ends_with}
use Rattle.std.specs.Str.{bytes_eq}
use Rattle.std.specs.Ordering.{nat_cmp}
use Rattle.std.specs.Cmp.Lexicographic.{slice_cmp}
use Rattle.std.specs.Prelude.{nat_eq}
use Rattle.std.specs.declared.cmp.Ordering.{Ordering}
use Rattle.std.specs.declared.cmp.Ordering.TheVariants.{Less}
use Rattle.proto_base.specs.Ascii as ascii
use Rattle.proto_base.specs.Texts.{Text, Path}

-- whether a byte is one of those from the lowest to the highest
abbrev pub is_between : ℕ → ℕ → ℕ → Bool
is_between low high b = nat_le low b && nat_le b high

-- an ASCII letter, a digit, `_`, `-` or `.`
abbrev pub is_path_byte : ℕ → Bool
is_path_byte b =
    is_between ascii.upper_a ascii.upper_z b || is_between ascii.lower_a ascii.lower_z b
    || is_between ascii.zero ascii.nine b
    || b == ascii.underscore || b == ascii.hyphen || b == ascii.dot

-- what stands between the slashes of a path: of these characters, not empty, neither `.` nor `..`
abbrev pub is_path_part : Text → Bool
is_path_part part =
    not (length part == 0) && not (bytes_eq part (codes ".")) && not (bytes_eq part (codes ".."))
    && list_all is_path_byte part

-- the path of a file of a workspace
pub record IsWorkspacePath (path : Path) : Type 0 where
  pub not_empty : 0 < length path
  pub short : length path ≤ 255
  pub ending : (front : Text) × (path ≡ front ++ codes ".proto")
  pub parted :
      (parts : List Text) × (path ≡ join_with_byte ascii.slash parts) × AllPass is_path_part parts

-- whether a text is the path of a file of a workspace
abbrev pub is_workspace_path : Path → Bool
is_workspace_path path =
    nat_le (length path) 255 && ends_with nat_eq path (codes ".proto")
    && list_all is_path_part (slice_split (λ b. b == ascii.slash) path)

-- the order of paths, by their bytes
abbrev pub path_cmp : Path → Path → Ordering
path_cmp = slice_cmp nat_cmp

-- the first path comes before the second
abbrev pub IsBefore : Path → Path → Type 0
IsBefore p q = path_cmp p q ≡ Less

-- no path is before one that it stands behind
abbrev pub IsInPathOrder : List Path → Type 0
IsInPathOrder [] = Unit {0}
IsInPathOrder (p ∷ ps) = All (λ q. IsBefore q p → ⊥) ps × IsInPathOrder ps
