use Rattle.std.proofs.Common.{sym, arith}
use Rattle.proto_schema_tests.proofs.FewPlaces.{three_within, two_within}
use Rattle.proto_schema_tests.proofs.names.replacing.expect_replaced.Goals as goal

pub replace-requires-clause-link : goal.replace-requires-clause-link
replace-requires-clause-link g c = (
  c.args.files.now,
  record {
    link = c.in_ok-link.ensures.link;
    clean = c.in_ok-link.ensures.clean;
    reads = c.in_ok-link.ensures.read.0;
    read = c.in_ok-link.ensures.read.1;
  },
  record {
    paths = c.set_second-source.ensures.paths;
    others = λ file l other. c.set_second-source.ensures.others file (λ e. other (0, omega (arith), sym e));
  },
)

pub expect_at-requires : goal.expect_at-requires
expect_at-requires g c = two_within 1 1 _ (omega (arith, c.set_second-source.ensures.len)) (omega (arith, c.set_second-source.ensures.len))

pub expect_at-requires-2 : goal.expect_at-requires-2
expect_at-requires-2 g c = three_within 1 0 1 _ (omega (arith, c.set_second-source.ensures.len)) (omega (arith, c.set_second-source.ensures.len)) (omega (arith, c.set_second-source.ensures.len))

pub expect_at-requires-3 : goal.expect_at-requires-3
expect_at-requires-3 g c = two_within 0 1 _ (omega (arith, c.set_second-source.ensures.len)) (omega (arith, c.set_second-source.ensures.len))
