-- The tokens that a rename changes: the declaring one, those of references that
-- stand for the target, and defaults.
use Rattle.std.specs.Prelude.{◌≡◌, ◌⊎◌, List, [], ◌∷◌, ◌++◌}
use Rattle.std.specs.List.{Contains}
use Rattle.proto_names_rules.specs.Grown.{At}
use Rattle.proto_names_rules.specs.Skeleton.{Source, Token, EntryOf, Declared, Used, Skeleton}

-- the token names a declaration, or the map field of an entry
abbrev pub Names : Skeleton At → At → Type 0
Names k i = (s : Declared At)
    × Contains k.declared s
    × ((a : List (Source At)) × ((s.path ≡ a ++ Token i ∷ []) ⊎ (s.path ≡ a ++ EntryOf i ∷ [])))

-- the token is a word of a reference
abbrev pub Uses : Skeleton At → At → Type 0
Uses k i = (u : Used At) × Contains k.used u × Contains u.tokens i
