use Rattle.std.proofs.Common.{◌≡◌, ℕ, suc, ◌<◌, List, Option, Some, None, length, get_or, refl, sym, ap, ◌∙◌, arith, unwrap_or}
use Rattle.proto_text.specs.declared.kind.TokenKind.TheVariants.{Word}
use Rattle.proto_text.specs.declared.lexer.Token.{Token}
use Rattle.proto_text.proofs.Common.{end_before, offset_at, one_token_list}
use Rattle.proto_files.specs.GivenFiles.{file_at}
use Rattle.proto_edit_statements.specs.Fields.{last_by, last_replaced}
use Rattle.proto_edit_statements.proofs.TokenSpans.{end_is, offset_is}
use Rattle.proto_edit_statements.proofs.deleting.span_of.Goals as goal

last_is : (o : Option ℕ) (semicolon : ℕ) → unwrap_or o semicolon ≡ last_by o semicolon
last_is None semicolon = refl
last_is (Some close) semicolon = refl

pub returns : goal.returns
returns c = λ tokens are. (
    let bytes = (file_at c.args.files.now c.args.file).bytes in
    let ts = c.tokens-tokens.result.now in
    let d : Token = record { kind = Word; span = record { start = 0; end = 0 } } in
    let same = one_token_list bytes ts tokens c.tokens-tokens.ensures.tokens are in
    let p = c.args.place in
    let l = c.requires.within.2 ts c.tokens-tokens.ensures.tokens in
    let a = c.requires.within.0 in
    let b = c.requires.within.1 in
    let k : p.first < length ts = omega (arith, l, a, b) in
    let last : c.unwrap_or-last.result ≡ last_replaced p = c.unwrap_or-last.ensures ∙ last_is p.oneof p.semicolon in (
      sym (offset_is ts p.first d k) ∙ ap (λ (z : List Token). offset_at z p.first) same,
      ap (λ (i : ℕ). (get_or ts i d).span.end) last ∙ sym (end_is ts (last_replaced p) d l) ∙ ap (λ (z : List Token). end_before z (suc (last_replaced p))) same,
    ))
