use Rattle.proto_schema_tests.proofs.NoFaults.{no_fault}
use Rattle.proto_schema_tests.proofs.growths.redescribe.Goals as goal

pub follow_edit-requires-clause-descriptors : goal.follow_edit-requires-clause-descriptors
follow_edit-requires-clause-descriptors g c = record {
  descriptors = record { described = c.in_ok-descriptors.ensures.descriptors; kept = c.in_ok-descriptors.ensures.kept };
  clean = no_fault c.args.files.now c.len.ensures.clean c.requires.clean c.in_ok-descriptors.ensures.clean;
  reads = c.requires.read.0;
  read = c.requires.read.1;
}
