use Rattle.std.proofs.Common.{ap, arith, not, eq-eqb, ne_eqb}
use Rattle.proto_text.specs.Pieces.{is_in_line}
use Rattle.proto_text.proofs.Prefixes.{goes_on, stops, runs_out}
use Rattle.proto_text.proofs.scan.line_len.Goals as goal

pub loop-i-preserved : goal.loop-i-preserved
loop-i-preserved c = goes_on is_in_line c.args.bytes.now c.loop-i.i c.loop-i.invariant c.loop-i-test.true (ap not (ne_eqb _ 10 c.if-byte-eq10.false))

pub returns-then-byte-eq10 : goal.returns-then-byte-eq10
returns-then-byte-eq10 c = record {
  value = stops is_in_line c.args.bytes.now c.loop-i.i c.loop-i.invariant c.loop-i-test.true (ap not (eq-eqb _ 10 c.if-byte-eq10.true));
  bound = omega (arith, c.loop-i-test.true);
}

pub returns : goal.returns
returns c = record {
  value = runs_out is_in_line c.args.bytes.now c.loop-i.i c.loop-i.invariant c.loop-i-test.false c.loop-i.auto.i-end;
  bound = omega arith;
}
