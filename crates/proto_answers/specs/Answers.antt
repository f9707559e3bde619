-- What is answered at an offset of a file of a workspace, where a name stands there.
use Rattle.std.specs.Prelude.{◌≡◌, ℕ, List, Option, Some, None}
use Rattle.std.specs.String.{string_bytes}
use Rattle.proto_base.specs.Texts.{Text}
use Rattle.proto_edit.specs.Workspaces.{rename}
use Rattle.proto_files.specs.FilesRead.{AreRead, ReadOf}
use Rattle.proto_files.specs.GivenFiles.{FileOf}
use Rattle.proto_names_at.specs.NamesAt.{DeclaresName}
use Rattle.proto_names_imports.specs.Links.{text_of}
use Rattle.proto_names_rules.specs.Grown.{At, at}
use Rattle.proto_positions.specs.declared.encoding.Encoding.{Encoding}
use Rattle.proto_answers.specs.EditAnswers.{IsAnswerTo}
use Rattle.proto_answers.specs.Ranges.{location_of}
use Rattle.proto_answers.specs.Standing.{NothingStandsAt, OnlyStandsAt}
use Rattle.proto_answers.specs.declared.answers.Answer.{Answer}
use Rattle.proto_answers.specs.declared.preparing.Prepared.{Prepared}
use Rattle.proto_answers.specs.declared.ranges.Location.{Location}
use Rattle.proto_answers.specs.declared.standing.FileOffset.{FileOffset}

-- The answer to a rename of what stands at an offset: that to a rename of the name that stands
-- there, or none where no name does.
abbrev pub IsRenamingAt : List FileOf → Encoding → FileOffset → Text → Option Answer → Type 0
IsRenamingAt files e spot to (Some answer) = (reads : List ReadOf) × AreRead files reads
    × (token : ℕ) × (name : Text)
    × OnlyStandsAt files reads spot token name
    × IsAnswerTo files e (rename name to) answer
IsRenamingAt files e spot to None = NothingStandsAt files spot

-- What a rename at an offset would replace: where the token stands that stands for a name, and its
-- word; none where no name stands there.
abbrev pub IsPreparedAt : List FileOf → Encoding → FileOffset → Option Prepared → Type 0
IsPreparedAt files e spot (Some p) = (reads : List ReadOf) × AreRead files reads
    × (token : ℕ) × (name : Text)
    × OnlyStandsAt files reads spot token name
    × (p.location ≡ location_of e files reads (at spot.file token))
    × (string_bytes p.word ≡ text_of files reads (at spot.file token))
IsPreparedAt files e spot None = NothingStandsAt files spot

-- Where the token stands that declares what has the name that stands at an offset; none where no
-- name stands there.
abbrev pub IsDefinitionAt : List FileOf → Encoding → FileOffset → Option Location → Type 0
IsDefinitionAt files e spot (Some l) = (reads : List ReadOf) × AreRead files reads
    × (token : ℕ) × (name : Text) × (declaring : At)
    × OnlyStandsAt files reads spot token name
    × DeclaresName files reads declaring name
    × (l ≡ location_of e files reads declaring)
IsDefinitionAt files e spot None = NothingStandsAt files spot
