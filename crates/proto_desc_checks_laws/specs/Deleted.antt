-- What the deletion of a field leaves of the flaws of its message: where there were none, there are
-- none with its number and its name reserved in its place. The other sentences are asked of each
-- field, range and option by itself.
use Rattle.std.specs.Prelude.{◌≡◌, ℕ, ℤ, false, List, [], ◌∷◌, ◌++◌, map}
use Rattle.std.specs.List.{All}
use Rattle.std.specs.Str.{bytes_eq}
use Rattle.proto_ast.specs.Options.{is_one_of}
use Rattle.proto_ast.specs.Parts.{FieldOf}
use Rattle.proto_ast.specs.Scenes.{Scene, text, value}
use Rattle.proto_desc_numbers.specs.declared.numbers.NumberAt.{NumberAt}
use Rattle.proto_ast.specs.declared.ranges.RangeAt.{RangeAt}
use Rattle.proto_desc_numbers.specs.NumberFlaws.{field_number_flaws}
use Rattle.proto_desc_checks.specs.FileFlaws.{json_clashes, name_flaws}

-- the range of one number
abbrev pub range_of_one : ℕ → ℤ → RangeAt
range_of_one token n = record { token = token; first = n; last = n }

-- Where nothing is wrong with the numbers of a message, nothing is with those of the fields that
-- stay when one is deleted, and its number reserved at any place among the ranges.
abbrev pub DeletionsKeepNumbers : Type 0
DeletionsKeepNumbers = (rs qs : List RangeAt) (ms ns : List NumberAt)
    → (deleted : NumberAt) (token : ℕ)
    → field_number_flaws (rs ++ qs) (ms ++ deleted ∷ ns) ≡ []
    → field_number_flaws (rs ++ range_of_one token deleted.number ∷ qs) (ms ++ ns) ≡ []

-- Where nothing is wrong with some names, nothing is with one more name reserved that is not
-- reserved yet, and that none of them is.
abbrev pub DeletionsKeepNames : Type 0
DeletionsKeepNames = (scene : Scene) (rs qs names : List ℕ) (name : ℕ)
    → name_flaws scene (rs ++ qs) names ≡ []
    → is_one_of (map (value scene) (rs ++ qs)) (value scene name) ≡ false
    → All (λ t. bytes_eq (value scene name) (text scene t) ≡ false) names
    → name_flaws scene (rs ++ name ∷ qs) names ≡ []

-- Where no JSON names clash, none do of the fields that stay when one is deleted.
abbrev pub DeletionsKeepJsonNames : Type 0
DeletionsKeepJsonNames = (scene : Scene) (fs gs : List FieldOf) (deleted : FieldOf)
    → json_clashes scene (fs ++ deleted ∷ gs) ≡ [] → json_clashes scene (fs ++ gs) ≡ []
