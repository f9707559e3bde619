-- A full name as text.
use Rattle.std.specs.Prelude.{◌≡◌, ◌≢◌, false, ◌==◌, [], ◌∷◌, ◌++◌}
use Rattle.std.specs.List.{list_any}
use Rattle.proto_base.specs.Ascii as ascii
use Rattle.proto_base.specs.Texts.{Text}
use Rattle.proto_names_rules.specs.Names.{Word, Name}

-- the text of a name: its words, with a dot between two of them
abbrev pub joined : Name → Text
joined [] = []
joined (w ∷ []) = w
joined (w ∷ v ∷ rest) = w ++ ascii.dot ∷ joined (v ∷ rest)

-- a word right below a scope, as text: behind it and a dot
abbrev pub below : Text → Text → Text
below scope word = scope ++ ascii.dot ∷ word

-- a word that is not empty and has no dot
abbrev pub IsPlain : Word → Type 0
IsPlain word = (list_any (λ b. b == ascii.dot) word ≡ false) × (word ≢ [])

-- each word of a name is plain
abbrev pub ArePlain : Name → Type 0
ArePlain [] = Unit {0}
ArePlain (w ∷ rest) = IsPlain w × ArePlain rest
