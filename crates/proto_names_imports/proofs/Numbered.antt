-- The imports of files that are walked by their numbers.
use Rattle.std.proofs.Common.{◌≡◌, ℕ, suc, List, [], ◌∷◌, ◌++◌, map, refl}
use Rattle.proto_files.specs.FilesRead.{ReadOf}
use Rattle.proto_names_outline.specs.FromTree.{imports_in}
use Rattle.proto_names_rules.specs.Grown.{At}
use Rattle.proto_names_imports.specs.Links.{all_wanted, asked_as}

none_wanted : (text : At → List ℕ) (n : ℕ) → all_wanted text n [] ≡ []
none_wanted text n = refl

wanted_by_first : (text : At → List ℕ) (n : ℕ) (r : ReadOf) (rs : List ReadOf)
    → all_wanted text n (r ∷ rs) ≡ map (asked_as text n) (imports_in r.tree) ++ all_wanted text (suc n) rs
wanted_by_first text n r rs = refl
