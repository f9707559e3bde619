use Rattle.std.proofs.Common.{List, map, sym, ap, ◌∙◌, is_some}
use Rattle.proto_text.specs.Tokens.{Lexeme, lexeme_at}
use Rattle.proto_files.specs.Common.{file_at, string_at, string_text}
use Rattle.proto_files.proofs.StringsAt.{no_value, string_token, value_there}
use Rattle.proto_files.proofs.words.Words.string.Goals as goal

pub string_value-requires-clause-token : goal.string_value-requires-clause-token
string_value-requires-clause-token c =
    let bytes = (file_at c.self.inside.files.now c.self.inside.file).bytes in
    let tokens = c.self.inside.tokens.now in
    let has = ap (λ (ls : List Lexeme). is_some (string_text ls c.args.index)) c.self.view_is ∙ sym c.has_string.ensures ∙ c.if-has_string.true in
    (tokens, c.self.invariant.1, string_token bytes tokens c.args.index has)

pub returns-in_ok-value : goal.returns-in_ok-value
returns-in_ok-value c =
    let bytes = (file_at c.self.inside.files.now c.self.inside.file).bytes in
    let tokens = c.self.inside.tokens.now in
    let has = ap (λ (ls : List Lexeme). is_some (string_text ls c.args.index)) c.self.view_is ∙ sym c.has_string.ensures ∙ c.if-has_string.true in
    sym (c.in_ok-value.ensures.value tokens c.self.invariant.1)
    ∙ sym (value_there (map (lexeme_at bytes) tokens) c.args.index has)
    ∙ ap (λ (ls : List Lexeme). string_at ls c.args.index) c.self.view_is

pub returns-else-has_string : goal.returns-else-has_string
returns-else-has_string c = sym (no_value c.args.self.now c.args.index (sym c.has_string.ensures ∙ c.if-has_string.false))
