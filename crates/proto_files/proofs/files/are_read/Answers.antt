use Rattle.proto_files.proofs.OwnTokens.{files_are_read}
use Rattle.proto_files.proofs.files.are_read.Goals as goal

pub returns : goal.returns
returns c = files_are_read c.files.inside.files.items c.args.files.now c.files.view_is c.files.invariant.read
