use Rattle.proto_files.proofs.LeastOfFiles.{read_is_clean}
use Rattle.proto_files.proofs.files.Files.len.Goals as goal

pub returns-clause-clean : goal.returns-clause-clean
returns-clause-clean c = read_is_clean c.self.inside.files.items c.args.self.now c.self.view_is c.self.invariant.read
