use Rattle.std.proofs.Common.{sym, arith}
use Rattle.proto_schema_tests.proofs.FewPlaces.{one_within}
use Rattle.proto_schema_tests.proofs.growths.follow_edit.Goals as goal

pub replace-requires-clause-link : goal.replace-requires-clause-link
replace-requires-clause-link g c = (
  c.args.files.now,
  record {
    link = c.requires.link;
    clean = c.requires.clean;
    reads = c.requires.read.0;
    read = c.requires.read.1;
  },
  record {
    paths = c.in_ok-edit.ensures.paths;
    others = λ file l other. c.in_ok-edit.ensures.others file (λ e. other (0, omega (arith), sym e));
  },
)

pub replace-answer-requires-clause-were : goal.replace-answer-requires-clause-were
replace-answer-requires-clause-were g c = (
  c.args.files.now,
  c.requires.descriptors,
  record {
    paths = c.in_ok-edit.ensures.paths;
    others = λ file l other. c.in_ok-edit.ensures.others file (λ e. other (0, omega (arith), sym e));
  },
)

pub replace-requires-clause-places : goal.replace-requires-clause-places
replace-requires-clause-places g c = one_within 128 _ (omega (arith, c.in_ok-edit.ensures.len, c.requires.place))

pub replace-answer-requires-clause-places : goal.replace-answer-requires-clause-places
replace-answer-requires-clause-places g c = one_within 128 _ (omega (arith, c.in_ok-edit.ensures.len, c.requires.place))
