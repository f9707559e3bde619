-- The tokens that stand for a name.
use Rattle.std.specs.Prelude.{◌≡◌, ◌↔◌, ◌<◌, ℕ, Bool, true, false, not, List, flat_map, length, map, Option, Some, None}
use Rattle.std.specs.Global.{Vec}
use Rattle.std.specs.List.{AllPairs, Contains, filter}
use Rattle.proto_base.specs.Texts.{Text}
use Rattle.proto_edit_rename.specs.declared.file_occurrences.FileOccurrences.{FileOccurrences}
use Rattle.proto_edit_rules.specs.Rename.{StandsBefore, same_at}
use Rattle.proto_files.specs.FilesRead.{AreRead, ReadOf}
use Rattle.proto_files.specs.GivenFiles.{FileOf}
use Rattle.proto_names_at.specs.NamesAt.{DeclaresName, StandsFor}
use Rattle.proto_names_rules.specs.Grown.{At, at}
use Rattle.proto_positions.specs.declared.encoding.Encoding.{Encoding}
use Rattle.proto_answers.specs.Declaring.{IsDeclaring, at_token}
use Rattle.proto_answers.specs.Ranges.{location_of}
use Rattle.proto_answers.specs.Standing.{NothingStandsAt, OnlyStandsAt}
use Rattle.proto_answers.specs.declared.declaring.FileToken.{FileToken}
use Rattle.proto_answers.specs.declared.ranges.Location.{Location}
use Rattle.proto_answers.specs.declared.standing.FileOffset.{FileOffset}

-- the token stands for the name, and where the declaration is left out does not declare it
pub record IsReference
    (files : List FileOf) (reads : List ReadOf) (name : Text) (with_declaration : Bool) (a : At)
    : Type 0 where
  pub within : a.file < length files
  pub stands : StandsFor files reads a name
  pub listed : with_declaration ≡ false → DeclaresName files reads a name → ⊥

-- the tokens that are references to the name, in the order of files and tokens, each once
pub record AreReferences
    (files : List FileOf) (reads : List ReadOf) (name : Text) (with_declaration : Bool)
    (tokens : List At) : Type 0 where
  pub in_order : AllPairs StandsBefore tokens
  pub same : (a : At) → Contains tokens a ↔ IsReference files reads name with_declaration a

-- Where the tokens stand that are references to the name that stands at an offset; none where no
-- name stands there.
abbrev pub AreReferencesAt : List FileOf → Encoding → FileOffset → Bool → Option (Vec Location)
    → Type 0
AreReferencesAt files e spot with_declaration (Some found) = (reads : List ReadOf)
    × AreRead files reads
    × (token : ℕ) × (name : Text) × (tokens : List At)
    × OnlyStandsAt files reads spot token name
    × AreReferences files reads name with_declaration tokens
    × (found.items ≡ map (location_of e files reads) tokens)
AreReferencesAt files e spot with_declaration None = NothingStandsAt files spot

-- ---- as they are found

-- all tokens that were found, file by file
abbrev pub all_tokens : List FileOccurrences → List At
all_tokens found = flat_map (λ o. map (at o.file) o.tokens.items) found

-- the token is not the one that is left out
abbrev pub is_listed : Option FileToken → At → Bool
is_listed None a = true
is_listed (Some t) a = not (same_at a (at_token t))

-- the tokens that were found, without the one that is left out
abbrev pub listed_tokens : Option FileToken → List FileOccurrences → List At
listed_tokens left_out found = filter (is_listed left_out) (all_tokens found)

-- the token that is left out is the declaring one, where the declaration is not asked for
abbrev pub IsLeftOut : List FileOf → Text → Bool → Option FileToken → Type 0
IsLeftOut files name with_declaration None = with_declaration ≡ true
IsLeftOut files name with_declaration (Some t) =
    (with_declaration ≡ false) × IsDeclaring files name t
