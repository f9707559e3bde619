-- How what is shown is parted by files.
use Rattle.std.specs.Prelude.{ℕ, Bool, List, [], ◌∷◌}
use Rattle.std.specs.List.{prefix_len}
use Rattle.std.specs.Str.{bytes_eq}
use Rattle.proto_base.specs.Texts.{Path}
use Rattle.proto_session_told.specs.Shown.{ShownOf}

-- whether this is shown of the file at the path
abbrev pub is_of_path : Path → ShownOf → Bool
is_of_path path x = bytes_eq x.path path

-- how many from the first on have its path
abbrev pub run_len : List ShownOf → ℕ
run_len [] = 0
run_len (x ∷ xs) = prefix_len (is_of_path x.path) (x ∷ xs)
