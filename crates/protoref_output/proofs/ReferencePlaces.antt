-- Where the tokens of references stand, in whatever is read of the files.
use Rattle.std.proofs.Common.{◌≡◌, ◌<◌, ℕ, List, ap, length}
use Rattle.proto_files.proofs.Common.{AreRead, FileOf, ReadOf, file_at, read_at, tokens_at}
use Rattle.proto_text.proofs.Common.{AreTokens, offset_at}
use Rattle.proto_text.specs.declared.lexer.Token.{Token}

-- in a file that is there
pub offset_is : (files : List FileOf) (reads : List ReadOf) → AreRead files reads → (file token : ℕ) → file < length files → (tokens : List Token) → AreTokens (file_at files file).bytes tokens
    → offset_at tokens token ≡ offset_at (read_at reads file).tokens token
offset_is files reads are file token within tokens these = ap (λ (ts : List Token). offset_at ts token) (tokens_at files reads are file tokens within these)
