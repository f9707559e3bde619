-- The word at an offset of a file, and the name that it stands for.
use Rattle.std.specs.Prelude.{◌≡◌, ℕ, List, Option, Some, None}
use Rattle.std.specs.String.{string_bytes}
use Rattle.proto_base.specs.Texts.{Text}
use Rattle.proto_files.specs.FilesRead.{AreRead, ReadOf, read_at}
use Rattle.proto_files.specs.GivenFiles.{FileOf}
use Rattle.proto_names_rules.specs.Grown.{at}
use Rattle.proto_names_at.specs.NamesAt.{StandsFor}
use Rattle.proto_names_at.specs.Tokens.{IsWordAt}
use Rattle.proto_answers.specs.declared.standing.FileOffset.{FileOffset}
use Rattle.proto_answers.specs.declared.standing.NamedToken.{NamedToken}

-- the token with this index is the word at the offset, and stands for the name
pub record StandsAt
    (files : List FileOf) (reads : List ReadOf) (spot : FileOffset) (token : ℕ) (name : Text)
    : Type 0 where
  pub there : IsWordAt (read_at reads spot.file).tokens spot.offset token
  pub stands : StandsFor files reads (at spot.file token) name

-- no other word is there, or stands for another name
pub record OnlyStandsAt
    (files : List FileOf) (reads : List ReadOf) (spot : FileOffset) (token : ℕ) (name : Text)
    : Type 0 where
  pub this : StandsAt files reads spot token name
  pub only : (other : ℕ) (word : Text) → StandsAt files reads spot other word
      → (other ≡ token) × (word ≡ name)

-- no word at the offset stands for a name
abbrev pub NothingStandsAt : List FileOf → FileOffset → Type 0
NothingStandsAt files spot = (reads : List ReadOf)
    → AreRead files reads
    → (token : ℕ) (name : Text)
    → StandsAt files reads spot token name
    → ⊥

-- the word at the offset with the name that it stands for, or none where it stands for none
abbrev pub IsNamedTokenAt : List FileOf → FileOffset → Option NamedToken → Type 0
IsNamedTokenAt files spot (Some t) = (reads : List ReadOf) × AreRead files reads
    × OnlyStandsAt files reads spot t.token (string_bytes t.name)
IsNamedTokenAt files spot None = NothingStandsAt files spot
