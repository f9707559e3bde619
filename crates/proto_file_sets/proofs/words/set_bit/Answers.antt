use Rattle.proto_file_sets.proofs.FilesInWords.{has_its_bit, others_as_before}
use Rattle.proto_file_sets.proofs.words.set_bit.Goals as goal

pub returns-clause-set : goal.returns-clause-set
returns-clause-set c = has_its_bit c.args.words.now c.args.file c.requires

pub returns-clause-others : goal.returns-clause-others
returns-clause-others c = others_as_before c.args.words.now c.args.file c.requires
