use Rattle.std.proofs.Common.{List, sym, ap, ◌∙◌, is_some}
use Rattle.proto_text.specs.Tokens.{Lexeme}
use Rattle.proto_files.specs.Common.{file_at, string_text}
use Rattle.proto_files.proofs.StringsAt.{has_string_there, no_string_past}
use Rattle.proto_files.proofs.words.Words.has_string.Goals as goal

pub returns-in-Some : goal.returns-in-Some
returns-in-Some c =
    let bytes = (file_at c.self.inside.files.now c.self.inside.file).bytes in
    let h = c.in-Some.ensures.lookup in
    c.is_string.ensures
    ∙ sym (has_string_there bytes c.self.inside.tokens.now c.args.index c.in-Some.token.now h.3.0 h.1)
    ∙ ap (λ (ls : List Lexeme). is_some (string_text ls c.args.index)) c.self.view_is

pub returns-in-None : goal.returns-in-None
returns-in-None c =
    let bytes = (file_at c.self.inside.files.now c.self.inside.file).bytes in
    sym (no_string_past bytes c.self.inside.tokens.now c.args.index c.in-None.ensures.lookup.3) ∙ ap (λ (ls : List Lexeme). is_some (string_text ls c.args.index)) c.self.view_is
