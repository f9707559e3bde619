use Rattle.std.proofs.Common.{◌∙◌, sym, arith}
use Rattle.proto_text.specs.Classes.{is_identifier}
use Rattle.proto_text.proofs.Prefixes.{goes_on, stops, runs_out}
use Rattle.proto_text.proofs.scan.identifier_len.Goals as goal

pub loop-i-preserved : goal.loop-i-preserved
loop-i-preserved c = goes_on is_identifier c.args.bytes.now c.loop-i.i c.loop-i.invariant c.loop-i-test.true (sym c.is_identifier_byte.ensures ∙ c.if-not-is_identifier_byte.false)

pub returns-then-not-is_identifier_byte : goal.returns-then-not-is_identifier_byte
returns-then-not-is_identifier_byte c = record {
  value = stops is_identifier c.args.bytes.now c.loop-i.i c.loop-i.invariant c.loop-i-test.true (sym c.is_identifier_byte.ensures ∙ c.if-not-is_identifier_byte.true);
  bound = omega (arith, c.loop-i-test.true);
}

pub returns : goal.returns
returns c = record {
  value = runs_out is_identifier c.args.bytes.now c.loop-i.i c.loop-i.invariant c.loop-i-test.false c.loop-i.auto.i-end;
  bound = omega arith;
}
