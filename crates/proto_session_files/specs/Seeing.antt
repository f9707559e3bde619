-- How open texts are laid over files.
use Rattle.std.specs.Prelude.{ℕ, suc, Bool, false, List, [], ◌∷◌, slice_get}
use Rattle.std.specs.Cmp.Lexicographic.{slice_cmp}
use Rattle.std.specs.Option.{option_map_or}
use Rattle.std.specs.Ordering.{match_ordering, nat_cmp}
use Rattle.std.specs.Str.{bytes_eq}
use Rattle.proto_base.specs.GivenFiles.{FileOf}
use Rattle.proto_base.specs.Texts.{Path}

-- how many files from the first on come before the path
abbrev pub place_for : Path → List FileOf → ℕ
place_for path [] = 0
place_for path (f ∷ fs) =
    match_ordering (slice_cmp nat_cmp path f.path) 0 0 (suc (place_for path fs))

-- whether the file at a place has the path
abbrev pub is_there : Path → ℕ → List FileOf → Bool
is_there path place files =
    option_map_or (λ f. bytes_eq f.path path) (slice_get files place) false
