use Rattle.std.proofs.Common.{ap, sym, ◌∙◌}
use Rattle.proto_text.specs.declared.lexer.Token.{Token}
use Rattle.proto_text.proofs.OneEdit.{offset_at_token}
use Rattle.proto_files.proofs.OwnTokens.{offset_past}
use Rattle.proto_files.proofs.tokens.offset_of.Goals as goal

pub returns-in-Some : goal.returns-in-Some
returns-in-Some c =
    let h = c.in-Some.ensures.lookup in
    ap (λ (t : Token). t.span.start) h.1 ∙ sym (offset_at_token c.args.tokens.now c.args.token c.in-Some.there.now h.3.0)

pub returns-in-None : goal.returns-in-None
returns-in-None c = sym (offset_past c.args.tokens.now c.args.token c.in-None.ensures.lookup.3)
