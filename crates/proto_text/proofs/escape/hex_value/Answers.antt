use Rattle.std.proofs.Common.{arith}
use Rattle.proto_text.specs.Strings.{number_in}
use Rattle.proto_text.proofs.Prefixes.{digit_turn}
use Rattle.proto_text.proofs.escape.hex_value.Goals as goal

pub loop-digit-preserved : goal.loop-digit-preserved
loop-digit-preserved c =
    let digits = c.args.digits.now in
    let so_far = c.loop-digit.invariant in
    let bound = c.value_of_digit.ensures.bound in
    record {
      value = digit_turn 16 c.loop-digit.value c.value_of_digit.result digits c.loop-digit.digit-index (number_in 16 0 digits) c.loop-digit-test.true c.value_of_digit.ensures.value so_far.value;
      zero = λ lt. omega (arith, lt);
      one = λ lt. (let before = so_far.zero (omega (arith, lt)) in omega (arith, before, bound));
      two = λ lt. (let before = so_far.one (omega (arith, lt)) in omega (arith, before, bound));
      three = (let before = so_far.two (omega (arith, c.loop-digit-test.true, c.requires)) in omega (arith, before, bound));
    }
