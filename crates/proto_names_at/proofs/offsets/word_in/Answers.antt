use Rattle.std.proofs.Common.{◌-◌, get_or, sym, ◌∙◌, arith, true≢false}
use Rattle.std.proofs.lemmas.Option.{slice_get-get_or}
use Rattle.proto_text.specs.declared.kind.TokenKind.TheVariants as kind
use Rattle.proto_text.specs.declared.lexer.Token.{Token}
use Rattle.proto_names_at.proofs.WordsAt.{last_one, neither, none_before, none_begun, one_before}
use Rattle.proto_names_at.proofs.offsets.word_in.Goals as goal

abbrev none : Token
none = record { kind = kind.Word; span = record { start = 0; end = 0 } }

pub returns-then-count-eq0 : goal.returns-then-count-eq0
returns-then-count-eq0 c = none_begun c.args.tokens.now c.requires.apart c.args.offset c.begun-count.result c.begun-count.ensures c.if-count-eq0.true

pub returns-then-is_word_up_to : goal.returns-then-is_word_up_to
returns-then-is_word_up_to c =
    let tokens = c.args.tokens.now in
    let last = c.begun-count.result - 1 in
    let w = c.begun-count.ensures.within in
    let some = c.if-count-eq0.false in
    last_one tokens c.requires.apart c.args.offset c.begun-count.result c.begun-count.ensures last (get_or tokens last none) (omega (arith, some)) (slice_get-get_or tokens last none (omega (arith, w, some))) (c.is_word_up_to.ensures.0 c.if-is_word_up_to.true)

pub returns-then-last-eq0 : goal.returns-then-last-eq0
returns-then-last-eq0 c =
    let tokens = c.args.tokens.now in
    let last = c.begun-count.result - 1 in
    let w = c.begun-count.ensures.within in
    let some = c.if-count-eq0.false in
    none_before tokens c.requires.apart c.args.offset c.begun-count.result c.begun-count.ensures last (get_or tokens last none) (omega (arith, some)) (slice_get-get_or tokens last none (omega (arith, w, some))) (λ h. true≢false (sym (c.is_word_up_to.ensures.1 h) ∙ c.if-is_word_up_to.false)) c.if-last-eq0.true

pub returns-then-is_word_up_to-2 : goal.returns-then-is_word_up_to-2
returns-then-is_word_up_to-2 c =
    let tokens = c.args.tokens.now in
    let last = c.begun-count.result - 1 in
    let w = c.begun-count.ensures.within in
    let some = c.if-count-eq0.false in
    let more = c.if-last-eq0.false in
    one_before tokens c.requires.apart c.args.offset c.begun-count.result c.begun-count.ensures last (get_or tokens last none) (omega (arith, some)) (slice_get-get_or tokens last none (omega (arith, w, some))) (λ h. true≢false (sym (c.is_word_up_to.ensures.1 h) ∙ c.if-is_word_up_to.false))
    (last - 1) (get_or tokens (last - 1) none) (omega (arith, more)) (slice_get-get_or tokens (last - 1) none (omega (arith, w, some, more))) (c.is_word_up_to-2.ensures.0 c.if-is_word_up_to-2.true)

pub returns : goal.returns
returns c =
    let tokens = c.args.tokens.now in
    let last = c.begun-count.result - 1 in
    let w = c.begun-count.ensures.within in
    let some = c.if-count-eq0.false in
    let more = c.if-last-eq0.false in
    neither tokens c.requires.apart c.args.offset c.begun-count.result c.begun-count.ensures last (get_or tokens last none) (omega (arith, some)) (slice_get-get_or tokens last none (omega (arith, w, some))) (λ h. true≢false (sym (c.is_word_up_to.ensures.1 h) ∙ c.if-is_word_up_to.false))
    (last - 1) (get_or tokens (last - 1) none) (omega (arith, more)) (slice_get-get_or tokens (last - 1) none (omega (arith, w, some, more))) (λ h. true≢false (sym (c.is_word_up_to-2.ensures.1 h) ∙ c.if-is_word_up_to-2.false))
