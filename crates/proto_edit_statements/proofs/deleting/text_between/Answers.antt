use Rattle.std.proofs.Common.{◌≡◌, ℕ, suc, ◌<◌, List, length, get_or, refl, sym, ap, ap₂, subst, ◌∙◌, arith}
use Rattle.proto_text.specs.declared.kind.TokenKind.TheVariants.{Word}
use Rattle.proto_text.specs.declared.lexer.Token.{Token}
use Rattle.proto_text.proofs.Common.{bytes_between, end_before, IsSpan, one_token_list}
use Rattle.proto_files.specs.GivenFiles.{file_at}
use Rattle.proto_edit_statements.proofs.TokenSpans.{end_is, spans_between}
use Rattle.proto_edit_statements.proofs.deleting.text_between.Goals as goal

pub text-requires : goal.text-requires
text-requires c =
    let bytes = (file_at c.args.files.now c.args.file).bytes in
    let ts = c.tokens-tokens.result.now in
    let d : Token = record { kind = Word; span = record { start = 0; end = 0 } } in
    let l = c.requires.within ts c.tokens-tokens.ensures.tokens in
    subst (λ (z : List ℕ). IsSpan z (record { start = (get_or ts c.args.after d).span.end; end = (get_or ts c.args.last d).span.end })) (sym c.source.ensures)
    (spans_between bytes ts c.tokens-tokens.ensures.tokens c.args.after c.args.last d c.requires.order l (record { start = (get_or ts c.args.after d).span.end; end = (get_or ts c.args.last d).span.end }) refl refl)

pub returns : goal.returns
returns c = λ tokens are. (
    let bytes = (file_at c.args.files.now c.args.file).bytes in
    let ts = c.tokens-tokens.result.now in
    let d : Token = record { kind = Word; span = record { start = 0; end = 0 } } in
    let l = c.requires.within ts c.tokens-tokens.ensures.tokens in
    let le = c.requires.order in
    let k : c.args.after < length ts = omega (arith, l, le) in
    let same = one_token_list bytes ts tokens c.tokens-tokens.ensures.tokens are in
    let from : (get_or ts c.args.after d).span.end ≡ end_before tokens (suc c.args.after) = sym (end_is ts c.args.after d k) ∙ ap (λ (z : List Token). end_before z (suc c.args.after)) same in
    let to : (get_or ts c.args.last d).span.end ≡ end_before tokens (suc c.args.last) = sym (end_is ts c.args.last d l) ∙ ap (λ (z : List Token). end_before z (suc c.args.last)) same in
    c.text.ensures
    ∙ ap (λ (z : List ℕ). bytes_between z (get_or ts c.args.after d).span.end (get_or ts c.args.last d).span.end) c.source.ensures
    ∙ ap₂ (λ (x y : ℕ). bytes_between bytes x y) from to)
