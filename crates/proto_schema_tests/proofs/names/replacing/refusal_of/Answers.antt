use Rattle.std.proofs.Common.{sym, subst, arith}
use Rattle.proto_base.specs.declared.profile.Profile.{Profile}
use Rattle.proto_tree.specs.File.{tree_of_file}
use Rattle.proto_tree.specs.Reads.{ReadsIn}
use Rattle.proto_schema_tests.proofs.names.replacing.refusal_of.Goals as goal

pub replace-answer-requires-clause-link : goal.replace-answer-requires-clause-link
replace-answer-requires-clause-link g c = (
  c.args.files.now,
  record {
    link = c.in_ok-link.ensures.link;
    clean = c.in_ok-link.ensures.clean;
    reads = c.in_ok-link.ensures.read.0;
    read = c.in_ok-link.ensures.read.1;
  },
  record {
    paths = c.set_second-source.ensures.paths;
    others = λ file l other. c.set_second-source.ensures.others file (λ e. other (0, omega (arith), sym e));
  },
)

pub set-source-requires-clause-read : goal.set-source-requires-clause-read
set-source-requires-clause-read g c =
    subst (λ (p : Profile). ReadsIn p c.set_second-source.result.0 c.set_second-source.result.1.items (tree_of_file c.set_second-source.result.2)) (sym c.set_second-source.ensures.profile) c.set_second-source.ensures.read
