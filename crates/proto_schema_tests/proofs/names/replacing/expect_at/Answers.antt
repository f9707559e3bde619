use Rattle.std.proofs.Common.{refl}
use Rattle.proto_schema_tests.proofs.names.replacing.expect_at.Goals as goal

pub replace-requires-clause-link : goal.replace-requires-clause-link
replace-requires-clause-link g c = (
  c.args.files.now,
  record {
    link = c.in_ok-link.ensures.link;
    clean = c.in_ok-link.ensures.clean;
    reads = c.in_ok-link.ensures.read.0;
    read = c.in_ok-link.ensures.read.1;
  },
  record { paths = refl; others = λ file l other. refl },
)
