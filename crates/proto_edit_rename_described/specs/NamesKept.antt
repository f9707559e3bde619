-- Where a renamed word is not reserved, and makes no JSON name that another field has, a
-- block has no flaw of names afterwards.
use Rattle.std.specs.Prelude.{◌≡◌, ◌≢◌, ◌⊎◌, ℕ, true, List, [], map, None, Option, codes}
use Rattle.std.specs.List.{AllPairs, Contains}
use Rattle.proto_base.specs.Texts.{Text}
use Rattle.proto_ast.specs.Options.{text_option}
use Rattle.proto_ast.specs.Parts.{FieldOf}
use Rattle.proto_ast.specs.Scenes.{Scene, text, value}
use Rattle.proto_ast.specs.JsonNames.{json_name_of}
use Rattle.proto_case.specs.Camel.{json_word}
use Rattle.proto_desc_checks.specs.FileFlaws.{json_clashes, name_flaws}

-- this token has the word afterwards, and the others of the list their own
abbrev pub AreKept : Scene → Scene → ℕ → Text → List ℕ → Type 0
AreKept a b token to ts = (t : ℕ)
    → Contains ts t
    → ((t ≡ token) × (text b t ≡ to)) ⊎ ((t ≢ token) × (text b t ≡ text a t))

-- no name is a reserved one, where the new word is not reserved
abbrev pub ReservedNamesStay : Type 0
ReservedNamesStay = (a b : Scene) (token : ℕ) (to : Text) (reserved names : List ℕ)
    → ((t : ℕ) → value a t ≡ value b t)
    → AreKept a b token to names
    → (Contains names token → Contains (map (value a) reserved) to → ⊥)
    → name_flaws a reserved names ≡ []
    → name_flaws b reserved names ≡ []

-- the written JSON name of a field
abbrev pub written : Scene → FieldOf → Option Text
written s f = text_option (text s) (value s) (codes "json_name") f.options

-- no two fields get one JSON name, where the renamed one gets none of another's
abbrev pub JsonNamesStay : Type 0
JsonNamesStay = (a b : Scene) (token : ℕ) (to : Text) (fs : List FieldOf)
    → a.is_proto3 ≡ b.is_proto3
    → ((f : FieldOf) → Contains fs f → written a f ≡ written b f)
    → AreKept a b token to (map (λ f. f.name) fs)
    → AllPairs (λ f g. f.name ≢ g.name) fs
    → ((f other : FieldOf)
    → Contains fs f → f.name ≡ token → Contains fs other → other.name ≢ f.name
    → a.is_proto3 ≡ true → written a f ≡ None → json_word to ≡ json_name_of a other → ⊥)
    → json_clashes a fs ≡ []
    → json_clashes b fs ≡ []
