use Rattle.std.proofs.Common.{◌≡◌, ◌≤◌, ◌+◌, ◌*◌, take, get_or, refl, arith}
use Rattle.std.proofs.Math.Nat.{mul-le-mul_left}
use Rattle.proto_text.specs.Strings.{number_in, digit_value}
use Rattle.proto_ast.specs.Numbers.{past}
use Rattle.proto_ast.proofs.Digits.{min_bound, number_more, stopped_is}
use Rattle.proto_ast.proofs.numbers.number_in.Goals as goal

pub overflow_mul-number : goal.overflow_mul-number
overflow_mul-number c =
    let high : c.from.result ≤ 16 = omega (arith, c.from.ensures, c.requires.high) in
    let most : c.loop-digit.number * c.from.result ≤ c.loop-digit.number * 16 = mul-le-mul_left c.loop-digit.number high in
    let bound : c.loop-digit.number ≤ past = min_bound _ _ _ c.loop-digit.invariant in
    omega (arith, most, bound)

pub overflow_add-number : goal.overflow_add-number
overflow_add-number c =
    let high : c.from.result ≤ 16 = omega (arith, c.from.ensures, c.requires.high) in
    let most : c.loop-digit.number * c.from.result ≤ c.loop-digit.number * 16 = mul-le-mul_left c.loop-digit.number high in
    let bound : c.loop-digit.number ≤ past = min_bound _ _ _ c.loop-digit.invariant in
    omega (arith, most, bound, c.from-in-loop-digit.ensures, c.digit_value.ensures.small)

pub loop-digit-preserved : goal.loop-digit-preserved
loop-digit-preserved c =
    let value : c.from-in-loop-digit.result ≡ digit_value (get_or c.args.digits.now c.loop-digit.digit-index 0) = cc (c.from-in-loop-digit.ensures, c.digit_value.ensures.value) in
    stopped_is past c.args.base (number_in c.args.base 0 (take c.loop-digit.digit-index c.args.digits.now)) (digit_value (get_or c.args.digits.now c.loop-digit.digit-index 0))
    c.from.result c.from-in-loop-digit.result past c.loop-digit.number c.min-number.result (number_in c.args.base 0 (take (c.loop-digit.digit-index + 1) c.args.digits.now))
    c.requires.low c.loop-digit.invariant c.min-number.ensures c.from.ensures value refl
    (number_more c.args.base c.args.digits.now c.loop-digit.digit-index c.loop-digit-test.true)
