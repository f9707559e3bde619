use Rattle.std.proofs.Common.{List, [], ◌∷◌, ◌++◌, take, get_or, sym, ap, ◌∙◌}
use Rattle.proto_text.specs.declared.kind.TokenKind.TheVariants as kind
use Rattle.proto_text.specs.declared.lexer.Token.{Token}
use Rattle.proto_tree.specs.Common.{Lexeme, class_by, classed_in, class_as}
use Rattle.proto_tree.proofs.ClassLemmas.{next_class}
use Rattle.proto_tree.proofs.classing.lexemes.Goals as goal

abbrev none : Token
none = record { kind = kind.Word; span = record { start = 0; end = 0 } }

pub loop-i-preserved : goal.loop-i-preserved
loop-i-preserved c =
    let text = c.args.source.now in
    let tokens = c.args.tokens.now in
    let i = c.loop-i.i in
    let p = c.args.profile in
    let class = c.class_as-class.ensures ∙ ap (class_as p) (c.token_class.ensures ∙ ap (class_by (get_or tokens i none).kind) c.text.ensures) in
    c.in_ok-push.ensures.items
    ∙ ap (λ (ls : List Lexeme). ls ++ record { class = c.class_as-class.result; at = i } ∷ []) c.loop-i.invariant
    ∙ ap (λ k. classed_in p text (take i tokens) ++ record { class = k; at = i } ∷ []) class
    ∙ sym (next_class p text i tokens none c.loop-i-test.true)
