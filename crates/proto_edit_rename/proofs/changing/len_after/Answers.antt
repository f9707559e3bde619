use Rattle.std.proofs.Common.{ℕ, zero, suc, ◌*◌, ◌<◌, ◌≤◌, length, ap, arith, suc-mul}
use Rattle.std.proofs.lemmas.Nat.{mul-le}
use Rattle.proto_base.specs.Texts.{text_limit}
use Rattle.proto_edit_rename.proofs.TokensInOrder.{bytes_fit, few_tokens, in_any_text}
use Rattle.proto_edit_rename.proofs.changing.len_after.Goals as goal

once : (n w : ℕ) → 0 < n → w ≤ n * w
once zero w l = absurd (omega (arith, l))
once (suc n) w l = let e = suc-mul n w in omega (arith, e)

pub returns-then-to-gt-MAX_LEN : goal.returns-then-to-gt-MAX_LEN
returns-then-to-gt-MAX_LEN c =
    let fit = bytes_fit 0 (length c.args.source.now) c.args.tokens.now c.requires.order in
    let more = once (length c.args.tokens.now) (length c.args.to.now) c.requires.some in
    let long = c.if-to-gt-MAX_LEN.true in
    omega (arith, fit, more, long)

pub total_len-requires : goal.total_len-requires
total_len-requires c =
    let short = c.as_bytes.ensures.short in
    let same = ap length c.as_bytes.ensures.value in
    in_any_text 0 (length c.args.source.now) c.args.tokens.now (omega (arith, short, same)) c.requires.order

pub overflow_sub-kept : goal.overflow_sub-kept
overflow_sub-kept c =
    let same = ap length c.as_bytes.ensures.value in
    let fit = bytes_fit 0 (length c.args.source.now) c.args.tokens.now c.requires.order in
    let total = c.total_len.ensures in
    omega (arith, same, fit, total)

pub overflow_mul-after : goal.overflow_mul-after
overflow_mul-after c =
    let short = c.as_bytes.ensures.short in
    let same = ap length c.as_bytes.ensures.value in
    let fit = bytes_fit 0 (length c.args.source.now) c.args.tokens.now c.requires.order in
    let few = few_tokens 0 (length c.args.source.now) c.args.tokens.now c.requires.order in
    let word = c.if-to-gt-MAX_LEN.false in
    let most : length c.args.tokens.now * length c.args.to.now ≤ text_limit * text_limit = mul-le (length c.args.tokens.now) (length c.args.to.now) text_limit text_limit (omega (arith, short, same, fit, few)) (omega (arith, word)) in
    omega (arith, most)

pub overflow_add-after : goal.overflow_add-after
overflow_add-after c =
    let short = c.as_bytes.ensures.short in
    let same = ap length c.as_bytes.ensures.value in
    let fit = bytes_fit 0 (length c.args.source.now) c.args.tokens.now c.requires.order in
    let few = few_tokens 0 (length c.args.source.now) c.args.tokens.now c.requires.order in
    let word = c.if-to-gt-MAX_LEN.false in
    let most : length c.args.tokens.now * length c.args.to.now ≤ text_limit * text_limit = mul-le (length c.args.tokens.now) (length c.args.to.now) text_limit text_limit (omega (arith, short, same, fit, few)) (omega (arith, word)) in
    omega (arith, most, short)

pub returns-then-after-gt-MAX_LEN : goal.returns-then-after-gt-MAX_LEN
returns-then-after-gt-MAX_LEN c =
    let same = ap length c.as_bytes.ensures.value in
    let fit = bytes_fit 0 (length c.args.source.now) c.args.tokens.now c.requires.order in
    let total = c.total_len.ensures in
    let long = c.if-after-gt-MAX_LEN.true in
    omega (arith, same, fit, total, long)

pub returns-else-after-gt-MAX_LEN : goal.returns-else-after-gt-MAX_LEN
returns-else-after-gt-MAX_LEN c =
    let same = ap length c.as_bytes.ensures.value in
    let fit = bytes_fit 0 (length c.args.source.now) c.args.tokens.now c.requires.order in
    let total = c.total_len.ensures in
    let short = c.if-after-gt-MAX_LEN.false in
    (omega (arith, same, fit, total), omega (arith, same, fit, total, short))
