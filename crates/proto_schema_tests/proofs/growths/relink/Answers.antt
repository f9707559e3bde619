use Rattle.std.proofs.Common.{sym, arith}
use Rattle.proto_schema_tests.proofs.FewPlaces.{one_within}
use Rattle.proto_schema_tests.proofs.growths.relink.Goals as goal

pub replace-answer-requires-clause-link : goal.replace-answer-requires-clause-link
replace-answer-requires-clause-link g c = (
  c.args.files.now,
  record {
    link = c.requires.link;
    clean = c.requires.clean;
    reads = c.requires.read.0;
    read = c.requires.read.1;
  },
  record {
    paths = c.in_ok-edit.ensures.paths;
    others = λ file l other. c.in_ok-edit.ensures.others file (λ e. other (0, omega (arith), sym e));
  },
)

pub replace-answer-requires-clause-places : goal.replace-answer-requires-clause-places
replace-answer-requires-clause-places g c = one_within 128 _ (omega (arith, c.in_ok-edit.ensures.len, c.requires.place))
