use Rattle.std.proofs.Common.{◌≡◌, ◌∙◌, ℕ, Bool, true, false, ◌&&◌, ◌||◌, get_or, refl, sym, arith, nat_le}
use Rattle.std.specs.Char.{is_ascii_hexdigit}
use Rattle.proto_text.specs.Common.{is_digit, is_hex}
use Rattle.proto_text.proofs.Prefixes.{goes_on, stops, runs_out}
use Rattle.proto_text.proofs.escape.hex_len.Goals as goal

-- which case of letters is tried first makes no difference
either : (a x y : Bool) → (a || x || y) ≡ (a || y || x)
either true x y = refl
either false true true = refl
either false true false = refl
either false false y = either_none y
  where
    either_none : (y : Bool) → y ≡ (y || false)
    either_none true = refl
    either_none false = refl

same : (b : ℕ) → is_hex b ≡ is_ascii_hexdigit b
same b = either (is_digit b) (nat_le 97 b && nat_le b 102) (nat_le 65 b && nat_le b 70)

pub loop-i-preserved : goal.loop-i-preserved
loop-i-preserved c = goes_on is_hex c.args.bytes.now c.loop-i.i c.loop-i.invariant c.loop-i-test.true (same (get_or c.args.bytes.now c.loop-i.i 0) ∙ sym c.is_ascii_hexdigit.ensures.value ∙ c.if-not-is_ascii_hexdigit.false)

pub returns-then-not-is_ascii_hexdigit : goal.returns-then-not-is_ascii_hexdigit
returns-then-not-is_ascii_hexdigit c = record {
  value = stops is_hex c.args.bytes.now c.loop-i.i c.loop-i.invariant c.loop-i-test.true (same (get_or c.args.bytes.now c.loop-i.i 0) ∙ sym c.is_ascii_hexdigit.ensures.value ∙ c.if-not-is_ascii_hexdigit.true);
  bound = omega (arith, c.loop-i-test.true);
}

pub returns : goal.returns
returns c = record {
  value = runs_out is_hex c.args.bytes.now c.loop-i.i c.loop-i.invariant c.loop-i-test.false c.loop-i.auto.i-end;
  bound = omega arith;
}
