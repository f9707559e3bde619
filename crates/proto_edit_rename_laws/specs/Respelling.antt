-- The texts with the places changed spell the names as the name map wants them.
use Rattle.std.specs.Prelude.{◌≡◌, ◌⊎◌, Bool, List}
use Rattle.proto_base.specs.Texts.{Text}
use Rattle.proto_case.specs.Camel.{entry_name}
use Rattle.proto_text.specs.Texts.{or_word}
use Rattle.proto_names_rules.specs.Grown.{At}
use Rattle.proto_names_rules.specs.Skeleton.{Source, Declared, Skeleton, IsAim, renaming_of, IsRespelled}
use Rattle.proto_edit_rename_laws.specs.Roles.{RolesAreApart}
use Rattle.proto_edit_rename_laws.specs.Places.{Names, Uses}
use Rattle.proto_edit_rules.specs.Rename.{change_at, renamed_places}

-- The declaring token has the new word, every other declaration its
-- own, and each reference is rewritten.
abbrev pub PlacesRespell : Type 0
PlacesRespell =
    (text now : At → Text) (k : Skeleton At) (token : At) (above : List (Source At))
    (aim : Declared At) (is_map : Bool) (to : Text) (defaults : List At)
    → IsAim k token above aim
    → RolesAreApart k defaults
    → ((i : At) → (Names k i ⊎ Uses k i) → now i ≡ or_word
    (change_at
    (renamed_places text k (renaming_of text entry_name token above is_map to) token defaults) to i)
    (text i))
    → IsRespelled text now entry_name k token (renaming_of text entry_name token above is_map to)
