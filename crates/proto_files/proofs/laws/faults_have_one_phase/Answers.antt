use Rattle.proto_files.proofs.OneOrder.{paths_are_phase_0, texts_are_phase_1, grammar_is_phase_2}
use Rattle.proto_files.proofs.laws.faults_have_one_phase.Goals as goal

pub returns : goal.returns
returns c = record { paths = paths_are_phase_0; texts = texts_are_phase_1; grammar = grammar_is_phase_2 }
