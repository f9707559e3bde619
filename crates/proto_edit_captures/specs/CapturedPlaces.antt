-- The place of a captured reference: the path of its file, and where its first token begins.
use Rattle.std.specs.Prelude.{◌≡◌, ℕ, List, string_bytes}
use Rattle.proto_base.specs.Texts.{Path}
use Rattle.proto_text.specs.declared.lexer.Token.{Token}
use Rattle.proto_text.specs.Texts.{offset_at}
use Rattle.proto_text.specs.Tokens.{AreTokens}
use Rattle.proto_files.specs.GivenFiles.{FileOf, file_at}
use Rattle.proto_edit_entries.specs.declared.refusal.Refusal.{Refusal}
use Rattle.proto_edit_entries.specs.declared.refusal.Refusal.TheVariants.{Captured}

-- the place of the refusal: the path of the file, and where the token begins
abbrev pub RefusalStandsAtToken : List FileOf → ℕ → ℕ → Path → ℕ → Type 0
RefusalStandsAtToken files file token path offset = (path ≡ (file_at files file).path)
    × ((tokens : List Token) → AreTokens (file_at files file).bytes tokens
    → offset ≡ offset_at tokens token)

-- the refusal is of a captured reference, and has the place of this token
abbrev pub IsCapturedPlace : List FileOf → ℕ → ℕ → Refusal → Type 0
IsCapturedPlace files file token (Captured path offset) =
    RefusalStandsAtToken files file token (string_bytes path) offset
IsCapturedPlace files file token _ = ⊥
